-- The found memop keeps the laws of a memop.
use Rattle.std.proofs.Common.{◌≡◌, ℕ, List, Option, None, Some, IfSome, IsTrue, sym}
use Rattle.lucid_base.specs.Memop.{memop_fits}
use Rattle.lucid_base.specs.declared.memory_alu.MemAlu.{MemAlu}
use Rattle.lucid_core.specs.declared.body.Stmt.{Stmt}
use Rattle.lucid_memop.specs.Found.{shape_found}
use Rattle.lucid_memop.specs.Laws.{MeansItsBody}
use Rattle.lucid_memop.proofs.Finding.{is_shape}
use Rattle.lucid_memop.proofs.Fits.{shaped_fits}
use Rattle.lucid_memop.proofs.Meaning.{means}

pub found_fits : (w : ℕ) (body : List Stmt) (found : Option MemAlu) → found ≡ shape_found w body → IfSome found (λ m. IsTrue (memop_fits m))
found_fits w body None is = tt
found_fits w body (Some m) is = shaped_fits (is_shape w body m (sym is))

pub found_means : (w : ℕ) (body : List Stmt) (found : Option MemAlu) → found ≡ shape_found w body → IfSome found (λ m. MeansItsBody w body m)
found_means w body None is = tt
found_means w body (Some m) is = means w body m (is_shape w body m (sym is))
