-- Choices are put together from the back.
use Rattle.std.proofs.Common.{◌≡◌, ℕ, List, [], ◌∷◌, ◌++◌, refl, ap}
use Rattle.lucid_core.specs.declared.body.Stmt.TheVariants.{If}
use Rattle.lucid_core.specs.Endings.{of_either}
use Rattle.lucid_types_spec.specs.declared.body.Body.{Body}
use Rattle.lucid_types_spec.specs.Block.{is_number, one}
use Rattle.lucid_types_statements.specs.declared.arms.Arm.{Arm}
use Rattle.lucid_types_statements.specs.Assembly.{chained}

pub chained_last : (i w : ℕ) (xs : List Arm) (x : Arm) (b : Body) → chained i w (xs ++ x ∷ []) b ≡ chained i w xs (chained i w (x ∷ []) b)
chained_last i w [] x b = refl
chained_last i w (y ∷ ys) x b =
    ap (λ (d : Body). one (If (is_number i w y.number) y.body.steps d.steps) (of_either y.body.ending d.ending)) (chained_last i w ys x b)
