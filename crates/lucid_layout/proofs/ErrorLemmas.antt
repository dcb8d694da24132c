-- A refusal by the counts is a refusal.
use Rattle.lucid_code.specs.Parts.{CodeParts}
use Rattle.lucid_conf.specs.declared.limits.Limits.{Limits}
use Rattle.lucid_stages.specs.declared.count_error.CountError.{CountError}
use Rattle.lucid_stages.specs.declared.count_error.CountError.TheVariants.{Ops, Fields, Arms, Memory}
use Rattle.lucid_stages.specs.Counts.{CountsFail}
use Rattle.lucid_layout.specs.Layout.{IsRefused, fit_error}

pub counts_refuse : (code : CodeParts) (limits : Limits) (e : CountError) → CountsFail code limits e → IsRefused code limits (fit_error e)
counts_refuse code limits (Ops n) f = f
counts_refuse code limits (Fields n) f = f
counts_refuse code limits (Arms array) f = f
counts_refuse code limits Memory f = f
