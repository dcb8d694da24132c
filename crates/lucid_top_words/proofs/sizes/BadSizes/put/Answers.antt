use Rattle.std.proofs.Common.{OnErr, OnOk, sym, subst}
use Rattle.lucid_io.specs.Puts.{PutsAll, PutsPart}
use Rattle.lucid_top_words.specs.declared.sizes.BadSizes.{BadSizes}
use Rattle.lucid_top_words.specs.Sizes.{sizes_line}
use Rattle.lucid_top_words.proofs.sizes.BadSizes.put.Goals as goal

pub returns-in-Broken-clause-all : goal.returns-in-Broken-clause-all
returns-in-Broken-clause-all g c =
    subst (λ (r : BadSizes). OnOk c.put_count.result (PutsAll g.E.Sink.written g.E.Sink.faults c.args.err.now c.put_count.new.err (sizes_line r))) (sym c.in-Broken.is)
    c.put_count.ensures.all

pub returns-in-Broken-clause-part : goal.returns-in-Broken-clause-part
returns-in-Broken-clause-part g c =
    subst (λ (r : BadSizes). OnErr c.put_count.result (PutsPart g.E.Sink.written g.E.Sink.faults c.args.err.now c.put_count.new.err (sizes_line r))) (sym c.in-Broken.is)
    c.put_count.ensures.part
