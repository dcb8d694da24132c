use Rattle.std.proofs.Common.{IsTrue, List, ℕ, subst, sym}
use Rattle.std.proofs.lemmas.Result.{IfOk-weaker}
use Rattle.lucid_base.specs.Cells.{zero_cells}
use Rattle.lucid_core.specs.Fits.{cells_fit}
use Rattle.lucid_core.proofs.program.Core.cells.Goals as goal

pub returns-clause-fit : goal.returns-clause-fit
returns-clause-fit c =
    IfOk-weaker c.zeros.result _ (λ (cells : List (List ℕ)). IsTrue (cells_fit c.args.self.now cells))
    (λ cells e. subst (λ (cs : List (List ℕ)). IsTrue (cells_fit c.args.self.now cs)) (sym e) (subst (λ as_. IsTrue (cells_fit c.args.self.now (zero_cells as_))) (sym c.arrays.ensures.value) c.cells_stay_fit.ensures.zero))
    c.zeros.ensures
