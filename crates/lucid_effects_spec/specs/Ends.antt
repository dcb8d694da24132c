-- Where a body ends under a numbering of arrays, if it has a derivation: a walk over its parts in the order of evaluation.
use Rattle.std.specs.Prelude.{◌≡◌, ℕ, ◌+◌, max, List, [], ◌∷◌, ◌++◌, Option, None, Some, if◌then◌else◌, nat_le, fold, slice_get}
use Rattle.std.specs.Option.{option_and_then, option_map_or}
use Rattle.lucid_base.specs.Arrays.{name_at}
use Rattle.lucid_base.specs.declared.array.ArrayName.{ArrayName}
use Rattle.lucid_core.specs.declared.body.Expr.{Expr}
use Rattle.lucid_core.specs.declared.body.Stmt.{Stmt}
use Rattle.lucid_core.specs.declared.body.Touch.{Touch}
use Rattle.lucid_core.specs.declared.defs.FunDef.{FunDef}
use Rattle.lucid_effects_spec.specs.Evaluation.{Walk, body_walk, expr_walk, stmt_walk, touch_walk}

-- A number for each declared array and each array parameter.
abbrev pub Numbering : Type 0
Numbering = ArrayName → ℕ

-- Where a function's body ends, from a numbering of its own names and the place where it begins.
abbrev pub FunEnd : Type 0
FunEnd = Numbering → ℕ → Option ℕ

-- The end of a part of a body, from the ends of the functions before it, the numbering and the place where it begins.
abbrev pub End : Type 0
End = List FunEnd → Numbering → ℕ → Option ℕ

abbrev pub stay : End
stay = λ fs N c. Some c

-- The second begins where the first ends.
infixr 20 ◌⨾◌
abbrev pub ◌⨾◌ : End → End → End
f ⨾ g = λ fs N c. option_and_then (g fs N) (f fs N c)

-- Both begin at one place, and the larger of their ends counts.
abbrev pub larger : End → End → End
larger f g = λ fs N c. option_and_then (λ d. option_and_then (λ e. Some (max d e)) (g fs N c)) (f fs N c)

-- A call of an array needs a place that isn't beyond the array's number, and ends behind it.
abbrev pub passes : ArrayName → End
passes a = λ fs N c. if nat_le c (N a) then Some (N a + 1) else None

-- A call of function k derives its body from the present place, with each array parameter numbered as its argument.
abbrev pub goes_through : ℕ → List ArrayName → End
goes_through k names = λ fs N c. option_map_or (λ f. f (λ y. N (name_at names y)) c) (slice_get fs k) (Some c)

abbrev pub ends : Walk End
ends = record { nothing = stay; in_turn = ◌⨾◌; branches = larger; array = passes; function = goes_through; node = λ f. f }

abbrev pub expr_end : Expr → End
expr_end = expr_walk ends

abbrev pub touch_end : Touch → End
touch_end = touch_walk ends

abbrev pub stmt_end : Stmt → End
stmt_end = stmt_walk ends

abbrev pub body_end : List Stmt → End
body_end = body_walk ends

-- Of functions, in the order of their declarations. Each call derives the callee's body afresh.
abbrev pub ends_of : List FunDef → List FunEnd
ends_of fs = fold (λ before f. before ++ body_end f.body before ∷ []) [] fs

-- Behind these functions, under this numbering, the body has a derivation from place `c`, and ends at place `d`.
abbrev pub Derives : List FunDef → Numbering → ℕ → List Stmt → ℕ → Type 0
Derives funs N c body d = body_end body (ends_of funs) N c ≡ Some d
