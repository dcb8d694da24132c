use Rattle.std.proofs.Common.{◌≡◌, ◌≤◌, ◌^◌, length, List, [], rules, refl, ap, ◌∙◌, arith}
use Rattle.std.proofs.lemmas.Grind.{elements}
use Rattle.lucid_conf.specs.declared.scene.FileEvent.{FileEvent}
use Rattle.lucid_core.specs.declared.defs.EventDef.{EventDef}
use Rattle.lucid_net_spec.specs.Log.{file_events, put_all, whole}
use Rattle.lucid_net.proofs.Ended.{piped_start}
use Rattle.lucid_net.proofs.Ready.{ready_placed}
use Rattle.lucid_net.proofs.net.Net.piped.Goals as goal

pub invariant_of-result-2 : goal.invariant_of-result-2
invariant_of-result-2 c =
    let same : c.as_slice-2.result.now ≡ c.args.scene.now.events = search rules in
    let first : length c.as_slice.result.now ≡ length c.args.scene.now.events = ap (λ (l : List FileEvent). length l) (search rules) in
    let few : length c.args.scene.now.events ≤ 2 ^ 32 = omega (arith, c.if-as_slice.false, first) in
    let all : length c.events.result.now ≡ length c.args.core.now.events = ap (λ (l : List EventDef). length l) (search rules) in
    let many : length c.args.core.now.events ≤ 2 ^ 32 = omega (arith, c.if-events.false, all) in
    record {
      scene = c.requires.scene;
      within = omega arith;
      is = λ _. record {
        ready = ready_placed c.args.core.now c.args.scene.now c.args.limits.now c.args.placed.now c.requires.scene c.requires.limits c.requires.stages c.outs_fit.ensures few many c.requires.stands c.requires.arrays c.pass_does_as.ensures.does c.pass_does_as.ensures.takes;
        piped = piped_start (whole c.args.core.now c.args.scene.now c.args.limits.now) c.args.placed.now c.in_ok-pipes.pipes.items c.in_ok-queue.queue c.in_ok-pipes.ensures (c.in_ok-queue.ensures.waits ∙ ap (λ (l : List FileEvent). put_all (file_events 0 l) []) same) c.in_ok-queue.ensures.kept;
      };
    }

pub returns : goal.returns
returns c = record { parts = refl; scene = refl; limits = refl; placed = refl; at = refl; failed = refl }

pub all_events-requires : goal.all_events-requires
all_events-requires c = grind (arith, elements)
