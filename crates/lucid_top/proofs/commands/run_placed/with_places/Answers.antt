use Rattle.std.proofs.Common.{◌≡◌, Ok, Result, subst, sym}
use Rattle.lucid_conf.specs.Kept.{IsScene}
use Rattle.lucid_top_words.specs.declared.refusal.Refusal.{Refusal}
use Rattle.lucid_top_words.proofs.Parts.{Declines-first, Prepares-ok, one-text}
use Rattle.lucid_top.specs.declared.commands.setup.Ready.{Ready}
use Rattle.lucid_top.specs.declared.commands.setup.Target.{Target}
use Rattle.lucid_top.specs.Held.{measured_view, pipes_view, ready_view}
use Rattle.lucid_top.specs.Pipes as seen
use Rattle.lucid_top.specs.Placed.{IsAuditedIn}
use Rattle.lucid_top.proofs.commands.run_placed.with_places.Goals as goal

pub returns-in-Ok-clause-ready : goal.returns-in-Ok-clause-ready
returns-in-Ok-clause-ready c =
    let p = pipes_view c.in-Ok.pipes in
    Prepares-ok {Q = Ready} (IsAuditedIn c.args.placement.now (measured_view c.args.measured)) (λ pipes (r : Result seen.Ready Refusal). r ≡ Ok (seen.ready pipes c.args.scene)) ready_view
    p (Ok (record { pipes = c.in-Ok.pipes; scene = c.args.scene })) c.in-Ok.ensures.pipes (one-text (seen.ready p c.args.scene))

pub returns-in-Ok-clause-keeps : goal.returns-in-Ok-clause-keeps
returns-in-Ok-clause-keeps c = record {
  pipes = c.in-Ok.ensures.keeps;
  scene = subst (λ (t : Target). IsScene t.core c.args.scene) (sym c.in-Ok.ensures.target) c.requires.scene;
}

pub returns-in-Err-clause-ready : goal.returns-in-Err-clause-ready
returns-in-Err-clause-ready c =
    Declines-first (IsAuditedIn c.args.placement.now (measured_view c.args.measured)) (λ pipes (r : Result seen.Ready Refusal). r ≡ Ok (seen.ready pipes c.args.scene)) c.in-Err.refusal c.in-Err.ensures.pipes
