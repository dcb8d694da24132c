-- What a body passes is told from its tally, and its outs are exact where they are few.
use Rattle.std.proofs.Common.{◌≡◌, ℕ, ◌-◌, ◌^◌, ◌≤◌, List, [], ◌∷◌, ◌++◌, Bool, true, false, None, min, nat_le, refl, sym, ap, ap₂, ◌∙◌, arith}
use Rattle.std.specs.List.{list_all}
use Rattle.std.proofs.lemmas.Bool.Decides.{nat_tests}
use Rattle.std.proofs.lemmas.Bool.{leb-true}
use Rattle.lucid_core.specs.declared.body.Stmt.{Stmt}
use Rattle.lucid_core.specs.declared.defs.FunDef.{FunDef}
use Rattle.lucid_core.specs.OutCount.{body_outs, funs_outs, stmt_outs}
use Rattle.lucid_core.specs.Few.{arguments_are_few, stmt_few}
use Rattle.lucid_parse_tree.specs.declared.tree.S.{S}
use Rattle.lucid_types_spec.specs.declared.limit.What.TheVariants as what
use Rattle.lucid_types_spec.specs.Limits.{cases_are_few, first_passed}
use Rattle.lucid_types_limits.specs.declared.tally.Tally.{Tally}
use Rattle.lucid_types_limits.specs.NewPart.{body_limits, tally_limits}
use Rattle.lucid_types_limits.specs.Tally.{in_turn, tally}

capped : (n : ℕ) → nat_le (min n (2 ^ 64 - 1)) 8 ≡ nat_le n 8
capped n = grind (arith, nat_tests)

pub body_limits_are : (outs : List ℕ) (core : List Stmt) (body : List S) → first_passed (tally_limits (in_turn stmt_outs stmt_few outs core) body) ≡ first_passed (body_limits outs core body)
unfolding tally
body_limits_are outs core body =
    ap (λ (b : Bool). first_passed ((what.Arguments, arguments_are_few core) ∷ (what.Outs, b) ∷ (what.Cases, list_all cases_are_few body) ∷ [])) (capped (body_outs core outs))

pub funs_outs-last : (counted : List ℕ) (fs : List FunDef) (f : FunDef) → funs_outs counted (fs ++ f ∷ []) ≡ funs_outs counted fs ++ body_outs f.body (funs_outs counted fs) ∷ []
funs_outs-last counted [] f = refl
funs_outs-last counted (g ∷ fs) f = funs_outs-last (counted ++ body_outs g.body counted ∷ []) fs f

few_if_none : (a b c : Bool) → first_passed ((what.Arguments, a) ∷ (what.Outs, b) ∷ (what.Cases, c) ∷ []) ≡ None → b ≡ true
few_if_none true true c none = refl
few_if_none true false c none = absurd (cc)
few_if_none false b c none = absurd (cc)

outs_are : (n : ℕ) (few : Bool) → nat_le (tally n few).outs 8 ≡ true → (tally n few).outs ≡ n
unfolding tally
outs_are n few is = let low : min n (2 ^ 64 - 1) ≤ 8 = leb-true _ _ is in omega (arith, low)

-- The outs of a function that passes none are exact.
pub one_more : (before : List ℕ) (funs : List FunDef) (f : FunDef) (found : Tally) (body : List S) → before ≡ funs_outs [] funs → found ≡ in_turn stmt_outs stmt_few before f.body →
    first_passed (tally_limits found body) ≡ None → before ++ found.outs ∷ [] ≡ funs_outs [] (funs ++ f ∷ [])
one_more before funs f found body known is none =
    ap₂ (λ (xs : List ℕ) (n : ℕ). xs ++ n ∷ []) known exact ∙ sym (funs_outs-last [] funs f)
  where
    few : nat_le found.outs 8 ≡ true
    few = few_if_none found.few (nat_le found.outs 8) (list_all cases_are_few body) none

    exact : found.outs ≡ body_outs f.body (funs_outs [] funs)
    exact =
        ap (λ (t : Tally). t.outs) is ∙ outs_are (body_outs f.body before) (arguments_are_few f.body) (ap (λ (t : Tally). nat_le t.outs 8) (sym is) ∙ few)
        ∙ ap (body_outs f.body) known
