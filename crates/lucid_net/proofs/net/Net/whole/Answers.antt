use Rattle.std.proofs.Common.{◌≡◌, List, [], rules, refl, ap, ◌∙◌, arith}
use Rattle.std.proofs.lemmas.Grind.{elements}
use Rattle.lucid_conf.specs.declared.scene.FileEvent.{FileEvent}
use Rattle.lucid_net_spec.specs.Log.{file_events, put_all, whole}
use Rattle.lucid_net.proofs.Standing.{whole_start}
use Rattle.lucid_net.proofs.net.Net.whole.Goals as goal

pub invariant_of-result-2 : goal.invariant_of-result-2
invariant_of-result-2 c =
    let same : c.as_slice.result.now ≡ c.args.scene.now.events = search rules in
    record {
      scene = c.requires;
      within = omega arith;
      is = λ _. whole_start (whole c.args.core.now c.args.scene.now c.args.limits.now) c.in_ok-cells.cells.items c.in_ok-queue.queue c.in_ok-cells.ensures
          (c.in_ok-queue.ensures.waits ∙ ap (λ (l : List FileEvent). put_all (file_events 0 l) []) same) c.in_ok-queue.ensures.kept;
    }

pub returns : goal.returns
returns c = record { parts = refl; scene = refl; limits = refl; placed = refl; at = refl; failed = refl }

pub all_events-requires : goal.all_events-requires
all_events-requires c = grind (arith, elements)
