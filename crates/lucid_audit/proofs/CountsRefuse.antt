-- A refusal by the counts is a refusal.
use Rattle.std.specs.Prelude.{List}
use Rattle.lucid_code.specs.Parts.{CodeParts}
use Rattle.lucid_conf.specs.declared.limits.Limits.{Limits}
use Rattle.lucid_stages.specs.declared.count_error.CountError.{CountError}
use Rattle.lucid_stages.specs.declared.count_error.CountError.TheVariants.{Ops, Fields, Arms, Memory}
use Rattle.lucid_stages.specs.declared.stage.Pair.{Pair}
use Rattle.lucid_stages.specs.Counts.{CountsFail}
use Rattle.lucid_audit.specs.Refused.{IsRefused, audit_error}

pub counts_refuse : (code : CodeParts) (limits : Limits) (pairs : List Pair) (e : CountError) → CountsFail code limits e → IsRefused code limits pairs (audit_error e)
counts_refuse code limits pairs (Ops n) f = f
counts_refuse code limits pairs (Fields n) f = f
counts_refuse code limits pairs (Arms array) f = f
counts_refuse code limits pairs Memory f = f
