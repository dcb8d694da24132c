-- Arguments, each with the local that is to hold it, as the fold over a body has them.
use Rattle.std.specs.Prelude.{ℕ, List, map}
use Rattle.lucid_core.specs.declared.body.Expr.{Expr}
use Rattle.lucid_normal_spec.specs.Translate.{Expressed, expr_code}

abbrev pub given_codes : List (ℕ × Expr) → List (ℕ × Expressed)
given_codes gs = map (λ g. (g.0, expr_code g.1)) gs
