use Rattle.std.proofs.Common.{◌≡◌, ◌-◌, drop}
use Rattle.lucid_lex.specs.Front.{end_of_block}
use Rattle.lucid_lex.proofs.front.block_len.Given as goal

-- the first end is the first from the byte before this one on
abbrev pub invariant-loop-at : goal.invariant-loop-at
invariant-loop-at l = end_of_block (l.at - 1) (drop (l.at - 1) l.text) ≡ end_of_block 0 l.text
