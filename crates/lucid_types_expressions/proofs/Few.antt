-- Fewer arguments than parameters.
use Rattle.std.proofs.Common.{◌≡◌, ℕ, ◌≤◌, ◌<◌, ◌⊎◌, inl, inr, List, [], ◌∷◌, None, length, drop, map, refl, ap, ◌∙◌, arith}
use Rattle.std.proofs.Math.ListN.{drop_of_length-le}
use Rattle.std.proofs.Math.Nat.{eq-or-lt_of_le}
use Rattle.std.proofs.lemmas.List.{length-drop}
use Rattle.lucid_parse_tree.specs.declared.tree.E.{E}
use Rattle.lucid_types_spec.specs.declared.scope.Param.{Param}
use Rattle.lucid_types_spec.specs.declared.scope.Param.TheVariants as param
use Rattle.lucid_types_spec.specs.Names.{Names}
use Rattle.lucid_types_laws.specs.declared.arguments.Arguments.{Arguments}
use Rattle.lucid_types_laws.specs.Reading.{given_all, reading}
use Rattle.lucid_types_expressions.specs.Forms.{behind}

none_more : (ps : List Param) (s : Names) → 0 < length ps → given_all ps [] s ≡ None
none_more [] s h = absurd (omega (arith, h))
none_more (param.Value t ∷ ps) s h = refl
none_more (param.Array w ∷ ps) s h = refl

some_left : (ps : List Param) (i : ℕ) → (i ≡ length ps) ⊎ (i < length ps) → (i ≡ length ps → ⊥) → 0 < length (drop i ps)
some_left ps i (inl e) ne = absurd (ne e)
some_left ps i (inr l) ne = let rest = length-drop i ps in omega (arith, l, rest)

pub too_few : (front : Arguments) (ps : List Param) (xs : List E) (i k : ℕ) (s : Names) → i ≤ length ps → (i ≡ length ps → ⊥) → length xs ≤ k →
    behind front (given_all (drop i ps) (map reading (drop k xs)) s) ≡ None
too_few front ps xs i k s within ne end =
    ap (λ (ys : List E). behind front (given_all (drop i ps) (map reading ys) s)) (drop_of_length-le xs end) ∙ ap (behind front) (none_more (drop i ps) s (some_left ps i (eq-or-lt_of_le within) ne))
