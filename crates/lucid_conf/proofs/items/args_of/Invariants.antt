use Rattle.std.proofs.Common.{◌≡◌, drop}
use Rattle.serde_json.specs.View.{view, items_view}
use Rattle.lucid_conf.specs.Fields.{args_from, args_of}
use Rattle.lucid_conf.proofs.items.args_of.Given as goal

abbrev pub invariant-loop-item : goal.invariant-loop-item
invariant-loop-item l = args_from l.args (items_view (drop l.item-index l.item-items)) ≡ args_of (view l.value)
