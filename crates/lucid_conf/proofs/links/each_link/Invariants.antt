use Rattle.std.proofs.Common.{◌≡◌, drop, []}
use Rattle.serde_json.specs.View.{items_view}
use Rattle.lucid_conf.specs.declared.key.Key.TheVariants.{Links}
use Rattle.lucid_conf.specs.Items.{link}
use Rattle.lucid_conf.specs.Reading.{each}
use Rattle.lucid_conf.proofs.links.each_link.Given as goal

abbrev pub invariant-loop-value : goal.invariant-loop-value
invariant-loop-value l =
    let read = each Links (link l.switches) in
    read l.links (items_view (drop l.value-index l.values)) ≡ read [] (items_view l.values)
