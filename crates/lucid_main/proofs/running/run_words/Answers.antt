use Rattle.std.proofs.Common.{[], inr, refl, subst, ap, ◌∙◌}
use Rattle.lucid_top_words.specs.declared.refusal.Refusal.{Refusal}
use Rattle.lucid_top_words.specs.Refusal.{line_of, status_of}
use Rattle.lucid_top_words.specs.Writing.{Said}
use Rattle.lucid_main.proofs.AnsweredLemmas.{line_in}
use Rattle.lucid_main.proofs.running.run_words.Goals as goal

pub returns-in-Err : goal.returns-in-Err
returns-in-Err g c = inr (record {
  status = c.refuse.ensures.status ∙ ap status_of c.in-Err.ensures.memory;
  files_stay = refl;
  out_stays = refl;
  line =
      line_in g.E.Sink.written g.E.Sink.faults c.args.err.now c.args.err.now c.refuse.new.err _ refl
      (subst (λ (r : Refusal). Said g.E.Sink.written g.E.Sink.faults c.args.err.now c.refuse.new.err (line_of [] r)) c.in-Err.ensures.memory c.refuse.ensures.said);
})
