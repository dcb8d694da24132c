use Rattle.std.proofs.Common.{List, ℕ, Ok, rules, subst}
use Rattle.lucid_top_words.specs.Files.{texts_in}
use Rattle.lucid_top_words.specs.Outcome.{Declines, IsTheAnswer}
use Rattle.lucid_top_words.specs.Words.{word_at}
use Rattle.lucid_top_words.specs.Writing.{nowhere}
use Rattle.lucid_top_words.proofs.Seen.{untouched}
use Rattle.lucid_top.specs.Check.{CheckAnswers, counts_line}
use Rattle.lucid_top.proofs.Runs.{answer-cut, refused}
use Rattle.lucid_top.proofs.commands.check.check.Goals as goal

pub returns-in_err-core : goal.returns-in_err-core
returns-in_err-core g c =
    let text = word_at (texts_in c.args.texts.now) 0 in
    refused g.W.Sink.written g.W.Sink.faults c.args.out.now c.args.out.now nowhere (CheckAnswers text) c.in_err-core.field-0.0 c.from_residual.result
    (subst (λ (t : List ℕ). Declines (CheckAnswers t) c.in_err-core.field-0.0) c.text_at.ensures c.in_err-core.ensures) (search rules) untouched

pub returns-in_err-ended : goal.returns-in_err-ended
returns-in_err-ended g c =
    let text = word_at (texts_in c.args.texts.now) 0 in
    answer-cut g.W.Sink.written g.W.Sink.faults c.args.out.now c.put-ended.new.out nowhere (CheckAnswers text) (counts_line c.in_ok-core.core) c.from_residual-in_err-ended.result
    (subst (λ (t : List ℕ). IsTheAnswer (CheckAnswers t) (Ok (counts_line c.in_ok-core.core))) c.text_at.ensures c.in_ok-core.ensures) c.in_err-ended.ensures.part (search rules)

pub returns : goal.returns
returns g c =
    let text = word_at (texts_in c.args.texts.now) 0 in
    (counts_line c.in_ok-core.core, subst (λ (t : List ℕ). IsTheAnswer (CheckAnswers t) (Ok (counts_line c.in_ok-core.core))) c.text_at.ensures c.in_ok-core.ensures, c.in_ok-ended.ensures.all)
