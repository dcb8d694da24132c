use Rattle.std.proofs.Common.{◌≡◌, [], length}
use Rattle.std.specs.Vec.Iter.{into_iter_items, into_iter_len}
use Rattle.serde_json.specs.View.{items_view}
use Rattle.lucid_conf.specs.declared.key.Key.TheVariants.{Steps}
use Rattle.lucid_conf.specs.Reading.{each}
use Rattle.lucid_conf.specs.Items.{step}
use Rattle.lucid_conf.proofs.steps.each_step.Given as goal

abbrev pub invariant-loop-value : goal.invariant-loop-value
invariant-loop-value l =
    let read = each Steps (step l.core) in
    (read l.steps (items_view (into_iter_items l.value-iterator)) ≡ read [] (items_view (into_iter_items l.initial.value-iterator)))
    × (into_iter_len l.value-iterator ≡ length (into_iter_items l.value-iterator))
