use Rattle.std.proofs.Common.{◌≡◌, List, ℕ, Ok, Err, Result, rules, subst}
use Rattle.lucid_top_program.specs.Program.{IsProgram}
use Rattle.lucid_top_program.specs.Settings.{IsLimits}
use Rattle.lucid_top_words.specs.declared.refusal.Refusal.{Refusal}
use Rattle.lucid_top_words.specs.Files.{texts_in}
use Rattle.lucid_top_words.specs.Outcome.{Declines, IsTheAnswer}
use Rattle.lucid_top_words.specs.Words.{word_at}
use Rattle.lucid_top_words.proofs.Parts.{Declines-first, Prepares-err, Prepares-ok, one-text}
use Rattle.lucid_top.specs.declared.commands.setup.Target.{Target}
use Rattle.lucid_top.specs.Held.{target_view}
use Rattle.lucid_top.specs.Pipes as seen
use Rattle.lucid_top.proofs.commands.setup.Target.read.Goals as goal

pub returns-in_err-core-clause-target : goal.returns-in_err-core-clause-target
returns-in_err-core-clause-target c =
    let text = word_at (texts_in c.args.texts.now) in
    Prepares-err (IsProgram (text 0)) _ _ c.in_err-core.field-0.0 c.from_residual.result (search rules)
    (subst (λ (t : List ℕ). Declines (IsProgram t) c.in_err-core.field-0.0) c.text_at.ensures c.in_err-core.ensures.program)

pub returns-in-Ok-clause-target : goal.returns-in-Ok-clause-target
returns-in-Ok-clause-target c =
    let text = word_at (texts_in c.args.texts.now) in
    let target = seen.target c.in_ok-core.core c.in-Ok.limits in
    Prepares-ok {Q = Target} (IsProgram (text 0)) (λ core. seen.IsUnder core (text 1)) target_view c.in_ok-core.core (Ok (record { core = c.in_ok-core.core; limits = c.in-Ok.limits }))
    (subst (λ (t : List ℕ). IsTheAnswer (IsProgram t) (Ok c.in_ok-core.core)) c.text_at.ensures c.in_ok-core.ensures.program)
    (Prepares-ok {Q = Target} (IsLimits (text 1)) (λ l (p : Result seen.Target Refusal). p ≡ Ok (seen.target c.in_ok-core.core l)) target_view
    c.in-Ok.limits (Ok (record { core = c.in_ok-core.core; limits = c.in-Ok.limits }))
    (subst (λ (t : List ℕ). IsTheAnswer (IsLimits t) (Ok c.in-Ok.limits)) c.text_at-2.ensures c.in-Ok.ensures.limits) (one-text target))

pub returns-in-Err-clause-target : goal.returns-in-Err-clause-target
returns-in-Err-clause-target c =
    let text = word_at (texts_in c.args.texts.now) in
    Prepares-ok {Q = Target} (IsProgram (text 0)) (λ core. seen.IsUnder core (text 1)) target_view c.in_ok-core.core (Err c.in-Err.refusal)
    (subst (λ (t : List ℕ). IsTheAnswer (IsProgram t) (Ok c.in_ok-core.core)) c.text_at.ensures c.in_ok-core.ensures.program)
    (Declines-first (IsLimits (text 1)) (λ l (p : Result seen.Target Refusal). p ≡ Ok (seen.target c.in_ok-core.core l)) c.in-Err.refusal
    (subst (λ (t : List ℕ). Declines (IsLimits t) c.in-Err.refusal) c.text_at-2.ensures c.in-Err.ensures.limits))
