use Rattle.std.proofs.Common.{List, ap, drop_of_length-le}
use Rattle.lucid_io.proofs.Leaves.{Leaves-held, Leaves-held_all, PutsPart-held, on_err}
use Rattle.lucid_log.specs.Pieces.{text_of}
use Rattle.lucid_log.specs.declared.pieces.Piece.{Piece}
use Rattle.lucid_log.proofs.Numbers.{text_of-drop}
use Rattle.lucid_log.proofs.pieces.hold_pieces.Goals as goal

pub returns-in_err-hold_piece-clause-part : goal.returns-in_err-hold_piece-clause-part
returns-in_err-hold_piece-clause-part g c =
    on_err _ (PutsPart-held c.loop-piece.room _ _ c.loop-piece.invariant c.in_err-hold_piece.ensures.part
    (text_of-drop c.args.pieces.now c.loop-piece.piece-index _ c.loop-piece-test.true))

pub loop-piece-preserved : goal.loop-piece-preserved
loop-piece-preserved g c =
    Leaves-held c.loop-piece.room _ _ _ c.loop-piece.invariant c.in_ok-hold_piece.ensures.all
    (text_of-drop c.args.pieces.now c.loop-piece.piece-index _ c.loop-piece-test.true)

pub returns-clause-all : goal.returns-clause-all
returns-clause-all g c =
    Leaves-held_all c.loop-piece.room c.loop-piece.invariant (ap (λ (ps : List Piece). text_of ps) (drop_of_length-le c.args.pieces.now c.loop-piece-test.false))
