-- What a block returns is less deep than what holds the block.
use Rattle.std.proofs.Common.{ap, arith, ◌<◌, ◌≡◌, ℕ, List, Option, Some}
use Rattle.lucid_core.specs.declared.body.Expr.{Expr}
use Rattle.lucid_core.specs.declared.body.Stmt.{Stmt}
use Rattle.lucid_core.specs.declared.body.Expr.TheVariants as e
use Rattle.lucid_core.specs.declared.body.Stmt.TheVariants as s
use Rattle.lucid_core.specs.declared.body.Expr.TheViews as v
use Rattle.lucid_core.specs.declared.body.Expr.TheViews.{size-Expr, size-Stmt}
use Rattle.lucid_inline.specs.Widths.{block_size, returned_size}

pub in_first : (n : ℕ) (whole : Stmt) (x : Expr) (ss ts block : List Stmt) → whole ≡ s.If x ss ts → block ≡ ss → n < block_size block → n < size-Stmt whole
in_first n whole x ss ts block is same less =
    let size = v.sized-If x ss ts in
    let all = ap (λ (t : Stmt). size-Stmt t) is in
    let part = ap (λ (b : List Stmt). block_size b) same in
    omega (arith, size, all, part, less)

pub in_second : (n : ℕ) (whole : Stmt) (x : Expr) (ss ts block : List Stmt) → whole ≡ s.If x ss ts → block ≡ ts → n < block_size block → n < size-Stmt whole
in_second n whole x ss ts block is same less =
    let size = v.sized-If x ss ts in
    let all = ap (λ (t : Stmt). size-Stmt t) is in
    let part = ap (λ (b : List Stmt). block_size b) same in
    omega (arith, size, all, part, less)

pub in_call : (whole x : Expr) (given : List (ℕ × Expr)) (ss block : List Stmt) (o : Option Expr) → whole ≡ e.Inlined given ss → block ≡ ss → o ≡ Some x →
    returned_size o < block_size block → size-Expr x < size-Expr whole
in_call whole x given ss block o is same some less =
    let size = v.sized-Inlined given ss in
    let all = ap (λ (t : Expr). size-Expr t) is in
    let part = ap (λ (b : List Stmt). block_size b) same in
    let one = ap (λ (y : Option Expr). returned_size y) some in
    omega (arith, size, all, part, one, less)
