use Rattle.std.proofs.Common.{inl, inr, ap}
use Rattle.lucid_top_words.specs.Views.{files_view, sink_view}
use Rattle.lucid_main.proofs.AnsweredLemmas.{line_in}
use Rattle.lucid_main.proofs.answered.answered.Goals as goal

pub returns-in-Ok : goal.returns-in-Ok
returns-in-Ok g c = inl c.in-Ok.ensures.ended

pub returns-in-Err : goal.returns-in-Err
returns-in-Err g c = inr (record {
  status = c.refuse.ensures.status;
  files_stay = ap (files_view g.F.Files.held g.F.Files.given g.F.Files.heard g.F.Files.faults) c.in-Err.ensures.files_stay;
  out_stays = ap (sink_view g.W.Sink.written g.W.Sink.faults) c.in-Err.ensures.out_stays;
  line = line_in g.E.Sink.written g.E.Sink.faults c.args.err.now c.called.new.err c.refuse.new.err _ c.in-Err.ensures.err_stays c.refuse.ensures.said;
})
