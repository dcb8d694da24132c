use Rattle.serde_json.specs.View.{view}
use Rattle.lucid_conf.specs.Tables.{scene_read}
use Rattle.lucid_conf.proofs.Answered.{answered}
use Rattle.lucid_conf.proofs.ScenarioLemmas.{scene_kept}
use Rattle.lucid_conf.proofs.scenario.scene_of.Goals as goal

pub returns-clause-answers : goal.returns-clause-answers
returns-clause-answers c =
    let value = view c.in_ok-value.value in
    answered (scene_read c.args.core.now) c.args.bytes.now value c.read_scene-read.result c.in_ok-value.ensures.ok c.read_scene-read.ensures

pub returns-clause-keeps : goal.returns-clause-keeps
returns-clause-keeps c = scene_kept c.args.core.now (view c.in_ok-value.value) c.read_scene-read.result c.read_scene-read.ensures
