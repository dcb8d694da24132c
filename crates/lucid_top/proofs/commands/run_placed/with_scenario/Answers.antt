use Rattle.lucid_top_program.specs.Settings.{IsScenario}
use Rattle.lucid_top_words.proofs.Parts.{Declines-first, Prepares-ok}
use Rattle.lucid_top.specs.Held.{measured_view, ready_view}
use Rattle.lucid_top.specs.Placed.{IsPlacedOn}
use Rattle.lucid_top.proofs.commands.run_placed.with_scenario.Goals as goal

pub returns-in-Ok-clause-ready : goal.returns-in-Ok-clause-ready
returns-in-Ok-clause-ready c =
    Prepares-ok (IsScenario c.args.measured.target.core c.args.text.now) (λ scene. IsPlacedOn scene c.args.placement.now (measured_view c.args.measured)) ready_view
    c.in-Ok.scene c.with_places.result c.in-Ok.ensures.scene c.with_places.ensures.ready

pub returns-in-Err-clause-ready : goal.returns-in-Err-clause-ready
returns-in-Err-clause-ready c =
    Declines-first (IsScenario c.args.measured.target.core c.args.text.now) (λ scene. IsPlacedOn scene c.args.placement.now (measured_view c.args.measured)) c.in-Err.refusal c.in-Err.ensures.scene
