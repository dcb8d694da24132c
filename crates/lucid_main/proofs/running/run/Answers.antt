use Rattle.std.proofs.Common.{drop, refl, sym, ◌∙◌}
use Rattle.std.specs.IoError.{error_kind}
use Rattle.std.specs.Vec.Iter.{into_iter_items}
use Rattle.lucid_top.specs.Call.{bytes_of}
use Rattle.lucid_top_words.specs.Views.{files_view, sink_view}
use Rattle.lucid_main.specs.Answered.{Called, NoWords}
use Rattle.lucid_main.proofs.RunningLemmas.{if_err_at, if_ok_at}
use Rattle.lucid_main.proofs.running.run.Goals as goal

pub returns-in-Ok-clause-words : goal.returns-in-Ok-clause-words
returns-in-Ok-clause-words g c =
    let files' = files_view g.F.Files.held g.F.Files.given g.F.Files.heard g.F.Files.faults in
    let out' = sink_view g.W.Sink.written g.W.Sink.faults in
    let err' = sink_view g.E.Sink.written g.E.Sink.faults in
    if_ok_at c.args.given
    (λ args. Called (bytes_of (drop 1 (into_iter_items args))) (files' c.args.files.now) (files' c.run_words.new.files) (out' c.args.out.now) (out' c.run_words.new.out) (err' c.args.err.now) (err' c.run_words.new.err) c.run_words.result)
    c.in-Ok.given c.in-Ok.is c.run_words.ensures

pub returns-in-Err-clause-none : goal.returns-in-Err-clause-none
returns-in-Err-clause-none g c =
    if_err_at c.args.given
    (λ e. NoWords g.E.Sink.written g.E.Sink.faults (error_kind e) c.args.files.now c.args.files.now c.args.out.now c.args.out.now c.args.err.now c.refuse.new.err c.refuse.result) c.in-Err.error c.in-Err.is
    (record {
      why = c.classify.result;
      status = c.refuse.ensures.status;
      usage = λ is. c.classify.ensures.usage (c.kind.ensures ∙ is);
      memory = λ not. c.classify.ensures.memory (λ is. not (sym c.kind.ensures ∙ is));
      files_stay = refl;
      out_stays = refl;
      line = c.refuse.ensures.said;
    })
