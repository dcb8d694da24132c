use Rattle.std.proofs.lemmas.Grind.{elements}
use Rattle.std.proofs.Common.{map, string_bytes, OnErr, OnOk, sym, subst, arith}
use Rattle.lucid_io.specs.Puts.{PutsAll, PutsPart}
use Rattle.lucid_top_words.specs.Refusal.{line_of}
use Rattle.lucid_top_words.specs.declared.refusal.Refusal.{Refusal}
use Rattle.lucid_top_words.proofs.line.put_line.Goals as goal

pub returns-in-ReadFault-clause-part : goal.returns-in-ReadFault-clause-part
returns-in-ReadFault-clause-part g c =
    subst (λ (r : Refusal). OnErr c.put_file.result (PutsPart g.E.Sink.written g.E.Sink.faults c.args.err.now c.put_file.new.err (line_of (map string_bytes c.args.words.now) r))) (sym c.in-ReadFault.is)
    c.put_file.ensures.part

pub returns-in-TooDeep-clause-part : goal.returns-in-TooDeep-clause-part
returns-in-TooDeep-clause-part g c =
    subst (λ (r : Refusal). OnErr c.put_count-in-TooDeep.result (PutsPart g.E.Sink.written g.E.Sink.faults c.args.err.now c.put_count-in-TooDeep.new.err (line_of (map string_bytes c.args.words.now) r))) (sym c.in-TooDeep.is)
    c.put_count-in-TooDeep.ensures.part

pub returns-in-NoTree-clause-all : goal.returns-in-NoTree-clause-all
returns-in-NoTree-clause-all g c =
    subst (λ (r : Refusal). OnOk c.put_count-in-NoTree.result (PutsAll g.E.Sink.written g.E.Sink.faults c.args.err.now c.put_count-in-NoTree.new.err (line_of (map string_bytes c.args.words.now) r))) (sym c.in-NoTree.is)
    c.put_count-in-NoTree.ensures.all

pub returns-in-NoTree-clause-part : goal.returns-in-NoTree-clause-part
returns-in-NoTree-clause-part g c =
    subst (λ (r : Refusal). OnErr c.put_count-in-NoTree.result (PutsPart g.E.Sink.written g.E.Sink.faults c.args.err.now c.put_count-in-NoTree.new.err (line_of (map string_bytes c.args.words.now) r))) (sym c.in-NoTree.is)
    c.put_count-in-NoTree.ensures.part

pub returns-in-ReadFault-clause-all : goal.returns-in-ReadFault-clause-all
returns-in-ReadFault-clause-all g c = grind (arith, elements)

pub returns-in-TooDeep-clause-all : goal.returns-in-TooDeep-clause-all
returns-in-TooDeep-clause-all g c = grind (arith, elements)
