use Rattle.std.proofs.Common.{◌≡◌, List, ℕ, Ok, Err, rules, subst}
use Rattle.lucid_net_spec.specs.Log.{log, whole}
use Rattle.lucid_top_program.specs.Settings.{IsScenario}
use Rattle.lucid_top_words.specs.Files.{texts_in}
use Rattle.lucid_top_words.specs.Outcome.{Declines, IsTheAnswer, Outcome}
use Rattle.lucid_top_words.specs.Words.{word_at}
use Rattle.lucid_top_words.proofs.Parts.{Declines-first, Prepares-err, Prepares-ok, one-text}
use Rattle.lucid_top.specs.declared.commands.setup.Network.{Network}
use Rattle.lucid_top.specs.Held.{target_view}
use Rattle.lucid_top.specs.Pipes.{IsTarget}
use Rattle.lucid_top.specs.RunWhole.{RunsUnder}
use Rattle.lucid_top.proofs.commands.run_whole.prepare.Goals as goal

pub returns-in_err-target-clause-log : goal.returns-in_err-target-clause-log
returns-in_err-target-clause-log c =
    let text = word_at (texts_in c.args.texts.now) in
    Prepares-err (IsTarget (text 0) (text 1)) _ _ c.in_err-target.field-0.0 c.from_residual.result (search rules) c.in_err-target.ensures.target

pub returns-in-Ok-clause-log : goal.returns-in-Ok-clause-log
returns-in-Ok-clause-log c =
    let text = word_at (texts_in c.args.texts.now) in
    let under = target_view c.in_ok-target.target in
    let written = λ (n : Network). log (whole n.target.core n.scene n.target.limits) in
    Prepares-ok {Q = Network} {Y = List ℕ} (IsTarget (text 0) (text 1)) (RunsUnder (text 2)) written under (Ok (record { target = c.in_ok-target.target; scene = c.in-Ok.scene })) c.in_ok-target.ensures.target
    (Prepares-ok {Q = Network} {Y = List ℕ} (IsScenario under.core (text 2)) (λ scene (p : Outcome). p ≡ Ok (log (whole under.core scene under.limits))) written
    c.in-Ok.scene (Ok (record { target = c.in_ok-target.target; scene = c.in-Ok.scene }))
    (subst (λ (t : List ℕ). IsTheAnswer (IsScenario under.core t) (Ok c.in-Ok.scene)) c.text_at.ensures c.in-Ok.ensures.scene) (one-text (log (whole under.core c.in-Ok.scene under.limits))))

pub returns-in-Err-clause-log : goal.returns-in-Err-clause-log
returns-in-Err-clause-log c =
    let text = word_at (texts_in c.args.texts.now) in
    let under = target_view c.in_ok-target.target in
    let written = λ (n : Network). log (whole n.target.core n.scene n.target.limits) in
    Prepares-ok {Q = Network} {Y = List ℕ} (IsTarget (text 0) (text 1)) (RunsUnder (text 2)) written under (Err c.in-Err.refusal) c.in_ok-target.ensures.target
    (Declines-first (IsScenario under.core (text 2)) (λ scene (p : Outcome). p ≡ Ok (log (whole under.core scene under.limits))) c.in-Err.refusal
    (subst (λ (t : List ℕ). Declines (IsScenario under.core t) c.in-Err.refusal) c.text_at.ensures c.in-Err.ensures.scene))
