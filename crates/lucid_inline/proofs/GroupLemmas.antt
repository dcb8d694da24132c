-- Lists of a group, one item longer.
use Rattle.std.proofs.Common.{◌≡◌, ℕ, zero, suc, ◌+◌, List, [], ◌∷◌, ◌++◌, length, map, ap, ◌∙◌, arith}
use Rattle.std.specs.List.{enumerate_from}
use Rattle.std.proofs.lemmas.List.{map-append}
use Rattle.lucid_core.specs.declared.body.Expr.{Expr}
use Rattle.lucid_core.specs.declared.body.Expr.TheVariants as e
use Rattle.lucid_core.specs.declared.body.Expr.TheOpen.{Stmt-F}
use Rattle.lucid_core.specs.declared.body.Expr.TheViews.{roll-Stmt}
use Rattle.lucid_core.specs.declared.body.Stmt.{Stmt}
use Rattle.lucid_core.specs.declared.body.Stmt.TheVariants as s
use Rattle.lucid_core.specs.ExamplePrograms.{local}
use Rattle.lucid_inline.specs.Sites.{assigned}
use Rattle.lucid_inline_spec.specs.Flat.{locals_from}

-- One more argument.
pub one_more : {A : Type 0} (b : ℕ) (xs : List A) (x : A) → enumerate_from b (xs ++ x ∷ []) ≡ enumerate_from b xs ++ (b + length xs, x) ∷ []
one_more {A = A} b [] x = let z : b ≡ b + 0 = omega arith in ap (λ (i : ℕ). (i, x) ∷ []) z
one_more {A = A} b (y ∷ xs) x = let z : b + 1 + length xs ≡ b + suc (length xs) = omega arith in ap (λ (q : List (ℕ × A)). (b, y) ∷ q) (one_more (b + 1) xs x ∙ ap (λ (i : ℕ). enumerate_from (b + 1) xs ++ (i, x) ∷ []) z)

-- One more local, and one more that is held.
pub locals_more : (b n : ℕ) → locals_from b (n + 1) ≡ locals_from b n ++ e.Local (b + n) ∷ []
locals_more b n = more n b ∙ ap (λ (x : Expr). locals_from b n ++ x ∷ []) (e.rolls-Local (b + n))
  where
    more : (m a : ℕ) → locals_from a (m + 1) ≡ locals_from a m ++ local (a + m) ∷ []
    more zero a = let z : a ≡ a + 0 = omega arith in ap (λ (i : ℕ). local i ∷ []) z
    more (suc m) a =
        let e1 : suc m + 1 ≡ suc (m + 1) = omega arith in
        let e2 : a + 1 + m ≡ a + suc m = omega arith in
        ap (locals_from a) e1 ∙ ap (λ (q : List Expr). local a ∷ q) (more m (a + 1) ∙ ap (λ (i : ℕ). locals_from (a + 1) m ++ local i ∷ []) e2)

pub assigned_more : (b : ℕ) (xs : List Expr) (x : Expr) → assigned b (xs ++ x ∷ []) ≡ assigned b xs ++ s.Assign (b + length xs) x ∷ []
assigned_more b xs x = ap (map (λ (g : ℕ × Expr). roll-Stmt (Stmt-F.Assign g.0 g.1))) (one_more b xs x)
    ∙ map-append (λ (g : ℕ × Expr). roll-Stmt (Stmt-F.Assign g.0 g.1)) (enumerate_from b xs) ((b + length xs, x) ∷ [])
    ∙ ap (λ (q : Stmt). assigned b xs ++ q ∷ []) (s.rolls-Assign (b + length xs) x)
