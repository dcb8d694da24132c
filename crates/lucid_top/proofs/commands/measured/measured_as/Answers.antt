use Rattle.std.proofs.Common.{◌≡◌, Ok, Result}
use Rattle.lucid_top_fit.specs.Fit.{made_view}
use Rattle.lucid_top_fit.specs.Placing.{IsCounted}
use Rattle.lucid_top_words.specs.declared.refusal.Refusal.{Refusal}
use Rattle.lucid_top_words.proofs.Parts.{Declines-first, Prepares-ok, one-text}
use Rattle.lucid_top.specs.declared.commands.setup.Measured.{Measured}
use Rattle.lucid_top.specs.Held.{measured_view, target_view}
use Rattle.lucid_top.specs.Placed as placed
use Rattle.lucid_top.proofs.commands.measured.measured_as.Goals as goal

pub returns-in-Ok-clause-measured : goal.returns-in-Ok-clause-measured
returns-in-Ok-clause-measured c =
    let m = placed.measured (target_view c.args.target) (made_view c.args.made) in
    Prepares-ok {Q = Measured} (IsCounted c.args.target.core c.args.target.limits c.args.made.code) (λ code (p : Result placed.Measured Refusal). p ≡ Ok m) measured_view
    c.args.made.code (Ok (record { target = c.args.target; made = c.args.made })) c.in-Ok.ensures.counted (one-text m)

pub returns-in-Err-clause-measured : goal.returns-in-Err-clause-measured
returns-in-Err-clause-measured c = Declines-first (IsCounted c.args.target.core c.args.target.limits c.args.made.code) _ c.in-Err.refusal c.in-Err.ensures.counted
