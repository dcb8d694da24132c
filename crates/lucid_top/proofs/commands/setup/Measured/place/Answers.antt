use Rattle.std.proofs.Common.{◌≡◌, Ok, Err, Result, length}
use Rattle.lucid_code.specs.Nodes.{nodes}
use Rattle.lucid_top_fit.specs.Fit.{fit_of}
use Rattle.lucid_top_fit.specs.Placing.{IsAudited, IsPlan}
use Rattle.lucid_top_words.specs.declared.refusal.Refusal.{Refusal}
use Rattle.lucid_top_words.specs.Outcome.{FollowedBy}
use Rattle.lucid_top_words.proofs.Parts.{Declines-first, Prepares-ok, one-text}
use Rattle.lucid_top.specs.declared.commands.setup.Pipes.{Pipes}
use Rattle.lucid_top.specs.Held.{measured_view, pipes_view}
use Rattle.lucid_top.specs.Pipes as seen
use Rattle.lucid_top.proofs.commands.setup.Measured.place.Goals as goal

pub returns-in-Ok-audited-clause-pipes : goal.returns-in-Ok-audited-clause-pipes
returns-in-Ok-audited-clause-pipes c =
    let m = measured_view c.args.self in
    Prepares-ok {Q = Pipes} (IsPlan c.args.text.now (length (nodes m.made.code.ops)))
    (λ plan. FollowedBy (IsAudited m.under.limits m.made.code plan) (λ placed (p : Result seen.Piped Refusal). p ≡ Ok (seen.piped m.under (fit_of m.made.gone placed)))) pipes_view
    c.in-Ok.plan (Ok (record { target = c.args.self.target; fitted = record { placed = c.in-Ok-audited.placed; gone = c.args.self.made.gone } })) c.in-Ok.ensures.plan
    (Prepares-ok {Q = Pipes} (IsAudited m.under.limits m.made.code c.in-Ok.plan) (λ placed (p : Result seen.Piped Refusal). p ≡ Ok (seen.piped m.under (fit_of m.made.gone placed))) pipes_view
    c.in-Ok-audited.placed (Ok (record { target = c.args.self.target; fitted = record { placed = c.in-Ok-audited.placed; gone = c.args.self.made.gone } })) c.in-Ok-audited.ensures.audited
    (one-text (seen.piped m.under (fit_of m.made.gone c.in-Ok-audited.placed))))

pub returns-in-Err-audited-clause-pipes : goal.returns-in-Err-audited-clause-pipes
returns-in-Err-audited-clause-pipes c =
    let m = measured_view c.args.self in
    Prepares-ok {Q = Pipes} (IsPlan c.args.text.now (length (nodes m.made.code.ops)))
    (λ plan. FollowedBy (IsAudited m.under.limits m.made.code plan) (λ placed (p : Result seen.Piped Refusal). p ≡ Ok (seen.piped m.under (fit_of m.made.gone placed)))) pipes_view
    c.in-Ok.plan (Err c.in-Err-audited.refusal) c.in-Ok.ensures.plan
    (Declines-first (IsAudited m.under.limits m.made.code c.in-Ok.plan) (λ placed (p : Result seen.Piped Refusal). p ≡ Ok (seen.piped m.under (fit_of m.made.gone placed)))
    c.in-Err-audited.refusal c.in-Err-audited.ensures.audited)

pub returns-in-Err-clause-pipes : goal.returns-in-Err-clause-pipes
returns-in-Err-clause-pipes c = Declines-first (IsPlan c.args.text.now (length (nodes c.args.self.made.code.ops))) _ c.in-Err.refusal c.in-Err.ensures.plan
