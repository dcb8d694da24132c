use Rattle.serde_json.specs.View.{view}
use Rattle.lucid_conf.specs.Tables.{limits_read}
use Rattle.lucid_conf.proofs.Answered.{answered}
use Rattle.lucid_conf.proofs.LimitsLemmas.{limits_kept}
use Rattle.lucid_conf.proofs.limits.limits_of.Goals as goal

pub returns-clause-answers : goal.returns-clause-answers
returns-clause-answers c =
    let value = view c.in_ok-value.value in
    answered limits_read c.args.bytes.now value c.read_limits-read.result c.in_ok-value.ensures.ok c.read_limits-read.ensures

pub returns-clause-ranges : goal.returns-clause-ranges
returns-clause-ranges c = limits_kept (view c.in_ok-value.value) c.read_limits-read.result c.read_limits-read.ensures
