use Rattle.std.proofs.Common.{List, ℕ, ◌++◌, codes, refl, sym, ap}
use Rattle.std.proofs.lemmas.Result.{on_ok_weaker, on_err_weaker}
use Rattle.lucid_io.proofs.Leaves.{Leaves-whole, Leaves-after, PutsAll-last, PutsPart-at, PutsPart-last, on_err}
use Rattle.lucid_layout_text.specs.Lines.{arrays_text}
use Rattle.lucid_layout_text.proofs.put.put_line.Goals as goal

pub returns-in_err-put_head-clause-part : goal.returns-in_err-put_head-clause-part
returns-in_err-put_head-clause-part g c = on_err _ (PutsPart-at _ Leaves-whole c.in_err-put_head.ensures.part refl)

pub returns-in_err-put_arrays-clause-part : goal.returns-in_err-put_arrays-clause-part
returns-in_err-put_arrays-clause-part g c =
    on_err _ (PutsPart-at _ (Leaves-after Leaves-whole c.in_ok-put_head.ensures.all refl) c.in_err-put_arrays.ensures.part
    (ap (λ (gs : List ℕ). arrays_text c.args.arrays.now gs ++ codes "\n") (sym c.as_slice.ensures)))

pub returns-clause-all : goal.returns-clause-all
returns-clause-all g c =
    on_ok_weaker c.put_pieces.result
    (λ puts. PutsAll-last
    (Leaves-after (Leaves-after Leaves-whole c.in_ok-put_head.ensures.all refl) c.in_ok-put_arrays.ensures.all (ap (λ (gs : List ℕ). arrays_text c.args.arrays.now gs ++ codes "\n") (sym c.as_slice.ensures)))
    puts refl)
    c.put_pieces.ensures.all

pub returns-clause-part : goal.returns-clause-part
returns-clause-part g c =
    on_err_weaker c.put_pieces.result
    (λ cut. PutsPart-last
    (Leaves-after (Leaves-after Leaves-whole c.in_ok-put_head.ensures.all refl) c.in_ok-put_arrays.ensures.all (ap (λ (gs : List ℕ). arrays_text c.args.arrays.now gs ++ codes "\n") (sym c.as_slice.ensures)))
    cut refl)
    c.put_pieces.ensures.part
