use Rattle.std.proofs.Common.{inl, inr, ap, ◌∙◌}
use Rattle.lucid_top_words.specs.Status.{code_of}
use Rattle.lucid_top_words.proofs.Seen as seen
use Rattle.lucid_main.proofs.RunningLemmas.{if_err_then, if_ok_then, piped}
use Rattle.lucid_main.proofs.running.program.Goals as goal

pub returns-clause-words : goal.returns-clause-words
returns-clause-words g c = if_ok_then c.args.given c.run.ensures.words (λ args called. (c.run.result, c.exit_code.ensures, called))

pub returns-clause-none : goal.returns-clause-none
returns-clause-none g c = if_err_then c.args.given c.run.ensures.none (λ e none. (c.run.result, c.exit_code.ensures, none))

pub returns-clause-pipe : goal.returns-clause-pipe
returns-clause-pipe g c =
    if_ok_then c.args.given c.run.ensures.words
    (λ args called. λ names texts is heard a f unmet.
    elim (piped called names texts is heard a f unmet) [
      | inl ok ↦ inl (c.exit_code.ensures ∙ ap code_of ok.0, seen.all-of g.W.Sink.written g.W.Sink.faults c.args.out.now c.run.new.out _ ok.1)
      | inr out ↦ inr (c.exit_code.ensures ∙ ap code_of out.0, seen.some-of g.W.Sink.written g.W.Sink.faults c.args.out.now c.run.new.out _ out.1)
    ])
