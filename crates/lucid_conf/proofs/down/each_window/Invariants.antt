use Rattle.std.proofs.Common.{◌≡◌, drop, []}
use Rattle.serde_json.specs.View.{items_view}
use Rattle.lucid_conf.specs.declared.key.Key.TheVariants as key
use Rattle.lucid_conf.specs.Items.{window}
use Rattle.lucid_conf.specs.Reading.{each}
use Rattle.lucid_conf.proofs.down.each_window.Given as goal

abbrev pub invariant-loop-value : goal.invariant-loop-value
invariant-loop-value l =
    let read = each key.Down (window l.links) in
    read l.down (items_view (drop l.value-index l.values)) ≡ read [] (items_view l.values)
