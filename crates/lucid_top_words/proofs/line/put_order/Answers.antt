use Rattle.std.proofs.Common.{◌++◌, codes, refl}
use Rattle.std.proofs.lemmas.Result.{on_ok_weaker, on_err_weaker}
use Rattle.lucid_io.proofs.Leaves.{Leaves-whole, Leaves-after, PutsAll-last, PutsPart-at, PutsPart-last, on_err}
use Rattle.lucid_top_words.specs.Refusal.{names_text}
use Rattle.lucid_top_words.proofs.line.put_order.Goals as goal

pub returns-in_err-put_pieces-clause-part : goal.returns-in_err-put_pieces-clause-part
returns-in_err-put_pieces-clause-part g c =
    on_err _ (PutsPart-at (names_text c.args.cycle.now ++ codes "\n") Leaves-whole c.in_err-put_pieces.ensures.part refl)

pub returns-in_err-put_names-clause-part : goal.returns-in_err-put_names-clause-part
returns-in_err-put_names-clause-part g c =
    on_err _ (PutsPart-at (codes "\n") (Leaves-after Leaves-whole c.in_ok-put_pieces.ensures.all refl) c.in_err-put_names.ensures.part refl)

pub returns-clause-all : goal.returns-clause-all
returns-clause-all g c =
    on_ok_weaker c.put_all.result
    (λ puts. PutsAll-last (Leaves-after (Leaves-after Leaves-whole c.in_ok-put_pieces.ensures.all refl) c.in_ok-put_names.ensures.all refl) puts refl)
    c.put_all.ensures.all

pub returns-clause-part : goal.returns-clause-part
returns-clause-part g c =
    on_err_weaker c.put_all.result
    (λ cut. PutsPart-last (Leaves-after (Leaves-after Leaves-whole c.in_ok-put_pieces.ensures.all refl) c.in_ok-put_names.ensures.all refl) cut refl)
    c.put_all.ensures.part
