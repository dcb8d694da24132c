use Rattle.std.proofs.Common.{refl}
use Rattle.std.proofs.lemmas.Result.{on_ok_weaker, on_err_weaker}
use Rattle.lucid_io.proofs.Leaves.{Leaves-whole, Leaves-after, PutsAll-last, PutsPart-at, PutsPart-last, on_err}
use Rattle.lucid_top.proofs.commands.layout.put.Goals as goal

pub returns-in_err-put_passes-clause-part : goal.returns-in_err-put_passes-clause-part
returns-in_err-put_passes-clause-part g c = on_err _ (PutsPart-at c.args.text.now Leaves-whole c.in_err-put_passes.ensures.part refl)

pub returns-clause-all : goal.returns-clause-all
returns-clause-all g c =
    on_ok_weaker c.put.result (λ puts. PutsAll-last (Leaves-after Leaves-whole c.in_ok-put_passes.ensures.all refl) puts refl) c.put.ensures.all

pub returns-clause-part : goal.returns-clause-part
returns-clause-part g c =
    on_err_weaker c.put.result (λ cut. PutsPart-last (Leaves-after Leaves-whole c.in_ok-put_passes.ensures.all refl) cut refl) c.put.ensures.part
