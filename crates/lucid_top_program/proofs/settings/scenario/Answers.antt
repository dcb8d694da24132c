use Rattle.std.proofs.Common.{sym, subst}
use Rattle.lucid_top_words.specs.Outcome.{Declines}
use Rattle.lucid_top_program.specs.Settings.{IsScenario}
use Rattle.lucid_top_program.proofs.JsonFiles.{scenario-read, not-scenario}
use Rattle.lucid_top_program.proofs.settings.scenario.Goals as goal

pub returns-in-Ok-clause-scene : goal.returns-in-Ok-clause-scene
returns-in-Ok-clause-scene c = scenario-read c.args.core.now c.args.text.now _ c.in-Ok.ensures.answers

pub returns-in-Err-clause-scene : goal.returns-in-Err-clause-scene
returns-in-Err-clause-scene c =
    subst (Declines (IsScenario c.args.core.now c.args.text.now)) (sym c.of_scene.ensures)
    (not-scenario c.args.core.now c.args.text.now c.in-Err.error c.in-Err.ensures.answers)
