use Rattle.std.proofs.Common.{OnErr, OnOk, List, ℕ, ◌++◌, codes, sym, subst}
use Rattle.lucid_io.specs.Puts.{PutsAll, PutsPart}
use Rattle.lucid_top_words.specs.declared.no_fit.NoFit.{NoFit}
use Rattle.lucid_top_words.specs.NoFit.{fit_line}
use Rattle.lucid_top_words.proofs.no_fit.NoFit.put.Goals as goal

pub returns-in-Ops-clause-all : goal.returns-in-Ops-clause-all
returns-in-Ops-clause-all g c =
    subst (λ (r : NoFit). OnOk c.put_count.result (PutsAll g.E.Sink.written g.E.Sink.faults c.args.err.now c.put_count.new.err (fit_line r))) (sym c.in-Ops.is)
    c.put_count.ensures.all

pub returns-in-Ops-clause-part : goal.returns-in-Ops-clause-part
returns-in-Ops-clause-part g c =
    subst (λ (r : NoFit). OnErr c.put_count.result (PutsPart g.E.Sink.written g.E.Sink.faults c.args.err.now c.put_count.new.err (fit_line r))) (sym c.in-Ops.is)
    c.put_count.ensures.part

pub returns-in-Size-clause-all : goal.returns-in-Size-clause-all
returns-in-Size-clause-all g c =
    subst (λ (r : NoFit). OnOk c.put_count-in-Size.result (PutsAll g.E.Sink.written g.E.Sink.faults c.args.err.now c.put_count-in-Size.new.err (fit_line r))) (sym c.in-Size.is)
    c.put_count-in-Size.ensures.all

pub returns-in-Size-clause-part : goal.returns-in-Size-clause-part
returns-in-Size-clause-part g c =
    subst (λ (r : NoFit). OnErr c.put_count-in-Size.result (PutsPart g.E.Sink.written g.E.Sink.faults c.args.err.now c.put_count-in-Size.new.err (fit_line r))) (sym c.in-Size.is)
    c.put_count-in-Size.ensures.part

pub returns-in-Bits-clause-all : goal.returns-in-Bits-clause-all
returns-in-Bits-clause-all g c =
    subst (λ (r : NoFit). OnOk c.put_count-in-Bits.result (PutsAll g.E.Sink.written g.E.Sink.faults c.args.err.now c.put_count-in-Bits.new.err (fit_line r))) (sym c.in-Bits.is)
    c.put_count-in-Bits.ensures.all

pub returns-in-Bits-clause-part : goal.returns-in-Bits-clause-part
returns-in-Bits-clause-part g c =
    subst (λ (r : NoFit). OnErr c.put_count-in-Bits.result (PutsPart g.E.Sink.written g.E.Sink.faults c.args.err.now c.put_count-in-Bits.new.err (fit_line r))) (sym c.in-Bits.is)
    c.put_count-in-Bits.ensures.part

pub returns-in-Arms-clause-all : goal.returns-in-Arms-clause-all
returns-in-Arms-clause-all g c =
    subst (λ (r : NoFit). OnOk c.put_name.result (PutsAll g.E.Sink.written g.E.Sink.faults c.args.err.now c.put_name.new.err (fit_line r))) (sym c.in-Arms.is)
    (subst (λ (name : List ℕ). OnOk c.put_name.result (PutsAll g.E.Sink.written g.E.Sink.faults c.args.err.now c.put_name.new.err (codes "nofit: arms " ++ name ++ codes "\n"))) c.bytes.ensures.value c.put_name.ensures.all)

pub returns-in-Arms-clause-part : goal.returns-in-Arms-clause-part
returns-in-Arms-clause-part g c =
    subst (λ (r : NoFit). OnErr c.put_name.result (PutsPart g.E.Sink.written g.E.Sink.faults c.args.err.now c.put_name.new.err (fit_line r))) (sym c.in-Arms.is)
    (subst (λ (name : List ℕ). OnErr c.put_name.result (PutsPart g.E.Sink.written g.E.Sink.faults c.args.err.now c.put_name.new.err (codes "nofit: arms " ++ name ++ codes "\n"))) c.bytes.ensures.value c.put_name.ensures.part)

pub returns-in-Node-clause-all : goal.returns-in-Node-clause-all
returns-in-Node-clause-all g c =
    subst (λ (r : NoFit). OnOk c.put_count-in-Node.result (PutsAll g.E.Sink.written g.E.Sink.faults c.args.err.now c.put_count-in-Node.new.err (fit_line r))) (sym c.in-Node.is)
    c.put_count-in-Node.ensures.all

pub returns-in-Node-clause-part : goal.returns-in-Node-clause-part
returns-in-Node-clause-part g c =
    subst (λ (r : NoFit). OnErr c.put_count-in-Node.result (PutsPart g.E.Sink.written g.E.Sink.faults c.args.err.now c.put_count-in-Node.new.err (fit_line r))) (sym c.in-Node.is)
    c.put_count-in-Node.ensures.part
