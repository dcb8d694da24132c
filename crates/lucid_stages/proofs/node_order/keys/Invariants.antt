use Rattle.std.proofs.Common.{◌≡◌, map, drop, IsTrue}
use Rattle.lucid_code.specs.Uses.{key_of}
use Rattle.lucid_tables.specs.Numbers.{with_numbers, rising, rises}
use Rattle.lucid_stages.proofs.node_order.keys.Given as goal

-- the rest gives, with the items so far, the result of the whole
abbrev pub invariant-loop-op : goal.invariant-loop-op
invariant-loop-op l = IsTrue (rises l.keys.items) × (with_numbers l.keys.items (map key_of (drop l.op-index l.ops)) ≡ rising (map key_of l.ops))
