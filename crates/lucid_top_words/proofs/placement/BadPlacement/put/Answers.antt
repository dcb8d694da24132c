use Rattle.std.proofs.Common.{OnErr, OnOk, sym, subst}
use Rattle.lucid_io.specs.Puts.{PutsAll, PutsPart}
use Rattle.lucid_top_words.specs.declared.placement.BadPlacement.{BadPlacement}
use Rattle.lucid_top_words.specs.Placement.{placement_line}
use Rattle.lucid_top_words.proofs.placement.BadPlacement.put.Goals as goal

pub returns-in-NotJson-clause-all : goal.returns-in-NotJson-clause-all
returns-in-NotJson-clause-all g c =
    subst (λ (r : BadPlacement). OnOk c.put_all.result (PutsAll g.E.Sink.written g.E.Sink.faults c.args.err.now c.put_all.new.sink (placement_line r))) (sym c.in-NotJson.is)
    c.put_all.ensures.all

pub returns-in-NotJson-clause-part : goal.returns-in-NotJson-clause-part
returns-in-NotJson-clause-part g c =
    subst (λ (r : BadPlacement). OnErr c.put_all.result (PutsPart g.E.Sink.written g.E.Sink.faults c.args.err.now c.put_all.new.sink (placement_line r))) (sym c.in-NotJson.is)
    c.put_all.ensures.part

pub returns-in-File-clause-all : goal.returns-in-File-clause-all
returns-in-File-clause-all g c =
    subst (λ (r : BadPlacement). OnOk c.put_all-in-File.result (PutsAll g.E.Sink.written g.E.Sink.faults c.args.err.now c.put_all-in-File.new.sink (placement_line r))) (sym c.in-File.is)
    c.put_all-in-File.ensures.all

pub returns-in-File-clause-part : goal.returns-in-File-clause-part
returns-in-File-clause-part g c =
    subst (λ (r : BadPlacement). OnErr c.put_all-in-File.result (PutsPart g.E.Sink.written g.E.Sink.faults c.args.err.now c.put_all-in-File.new.sink (placement_line r))) (sym c.in-File.is)
    c.put_all-in-File.ensures.part

pub returns-in-Other-clause-all : goal.returns-in-Other-clause-all
returns-in-Other-clause-all g c =
    subst (λ (r : BadPlacement). OnOk c.put_all-in-Other.result (PutsAll g.E.Sink.written g.E.Sink.faults c.args.err.now c.put_all-in-Other.new.sink (placement_line r))) (sym c.in-Other.is)
    c.put_all-in-Other.ensures.all

pub returns-in-Other-clause-part : goal.returns-in-Other-clause-part
returns-in-Other-clause-part g c =
    subst (λ (r : BadPlacement). OnErr c.put_all-in-Other.result (PutsPart g.E.Sink.written g.E.Sink.faults c.args.err.now c.put_all-in-Other.new.sink (placement_line r))) (sym c.in-Other.is)
    c.put_all-in-Other.ensures.part

pub returns-in-Nodes-clause-all : goal.returns-in-Nodes-clause-all
returns-in-Nodes-clause-all g c =
    subst (λ (r : BadPlacement). OnOk c.put_all-in-Nodes.result (PutsAll g.E.Sink.written g.E.Sink.faults c.args.err.now c.put_all-in-Nodes.new.sink (placement_line r))) (sym c.in-Nodes.is)
    c.put_all-in-Nodes.ensures.all

pub returns-in-Nodes-clause-part : goal.returns-in-Nodes-clause-part
returns-in-Nodes-clause-part g c =
    subst (λ (r : BadPlacement). OnErr c.put_all-in-Nodes.result (PutsPart g.E.Sink.written g.E.Sink.faults c.args.err.now c.put_all-in-Nodes.new.sink (placement_line r))) (sym c.in-Nodes.is)
    c.put_all-in-Nodes.ensures.part

pub returns-in-Item-clause-all : goal.returns-in-Item-clause-all
returns-in-Item-clause-all g c =
    subst (λ (r : BadPlacement). OnOk c.put_count.result (PutsAll g.E.Sink.written g.E.Sink.faults c.args.err.now c.put_count.new.err (placement_line r))) (sym c.in-Item.is)
    c.put_count.ensures.all

pub returns-in-Item-clause-part : goal.returns-in-Item-clause-part
returns-in-Item-clause-part g c =
    subst (λ (r : BadPlacement). OnErr c.put_count.result (PutsPart g.E.Sink.written g.E.Sink.faults c.args.err.now c.put_count.new.err (placement_line r))) (sym c.in-Item.is)
    c.put_count.ensures.part

pub returns-in-Range-clause-all : goal.returns-in-Range-clause-all
returns-in-Range-clause-all g c =
    subst (λ (r : BadPlacement). OnOk c.put_place.result (PutsAll g.E.Sink.written g.E.Sink.faults c.args.err.now c.put_place.new.err (placement_line r))) (sym c.in-Range.is)
    c.put_place.ensures.all

pub returns-in-Range-clause-part : goal.returns-in-Range-clause-part
returns-in-Range-clause-part g c =
    subst (λ (r : BadPlacement). OnErr c.put_place.result (PutsPart g.E.Sink.written g.E.Sink.faults c.args.err.now c.put_place.new.err (placement_line r))) (sym c.in-Range.is)
    c.put_place.ensures.part

pub returns-in-Early-clause-all : goal.returns-in-Early-clause-all
returns-in-Early-clause-all g c =
    subst (λ (r : BadPlacement). OnOk c.put_place-in-Early.result (PutsAll g.E.Sink.written g.E.Sink.faults c.args.err.now c.put_place-in-Early.new.err (placement_line r))) (sym c.in-Early.is)
    c.put_place-in-Early.ensures.all

pub returns-in-Early-clause-part : goal.returns-in-Early-clause-part
returns-in-Early-clause-part g c =
    subst (λ (r : BadPlacement). OnErr c.put_place-in-Early.result (PutsPart g.E.Sink.written g.E.Sink.faults c.args.err.now c.put_place-in-Early.new.err (placement_line r))) (sym c.in-Early.is)
    c.put_place-in-Early.ensures.part

pub returns-in-Arrays-clause-all : goal.returns-in-Arrays-clause-all
returns-in-Arrays-clause-all g c =
    subst (λ (r : BadPlacement). OnOk c.put_place-in-Arrays.result (PutsAll g.E.Sink.written g.E.Sink.faults c.args.err.now c.put_place-in-Arrays.new.err (placement_line r))) (sym c.in-Arrays.is)
    c.put_place-in-Arrays.ensures.all

pub returns-in-Arrays-clause-part : goal.returns-in-Arrays-clause-part
returns-in-Arrays-clause-part g c =
    subst (λ (r : BadPlacement). OnErr c.put_place-in-Arrays.result (PutsPart g.E.Sink.written g.E.Sink.faults c.args.err.now c.put_place-in-Arrays.new.err (placement_line r))) (sym c.in-Arrays.is)
    c.put_place-in-Arrays.ensures.part

pub returns-in-Rows-clause-all : goal.returns-in-Rows-clause-all
returns-in-Rows-clause-all g c =
    subst (λ (r : BadPlacement). OnOk c.put_pieces.result (PutsAll g.E.Sink.written g.E.Sink.faults c.args.err.now c.put_pieces.new.sink (placement_line r))) (sym c.in-Rows.is)
    c.put_pieces.ensures.all

pub returns-in-Rows-clause-part : goal.returns-in-Rows-clause-part
returns-in-Rows-clause-part g c =
    subst (λ (r : BadPlacement). OnErr c.put_pieces.result (PutsPart g.E.Sink.written g.E.Sink.faults c.args.err.now c.put_pieces.new.sink (placement_line r))) (sym c.in-Rows.is)
    c.put_pieces.ensures.part
