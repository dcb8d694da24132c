-- What the order check answered is whether a program is in order, and if not, which declaration is the first that isn't.
use Rattle.std.proofs.Common.{◌≡◌, ℕ, ◌<◌, inl, inr, List, [], ◌∷◌, Result, Ok, Err, length, map, sym, ap, ◌∙◌, subst}
use Rattle.std.specs.Global.{Vec}
use Rattle.std.proofs.lemmas.Bool.{cases_order}
use Rattle.std.proofs.lemmas.List.Elements.{All-contains}
use Rattle.lucid_base.specs.declared.array.ArrayName.{ArrayName}
use Rattle.lucid_core.specs.Parts.{CoreParts}
use Rattle.lucid_effects_spec.specs.Order.{Body, InOrder, IsAccepted, bodies}
use Rattle.lucid_effects_spec.specs.Refused.{IsFirstRefused}
use Rattle.lucid_effects.specs.First.{IsRefusedFirst}
use Rattle.lucid_parse_tree.specs.declared.tree.Tree.{Tree}
use Rattle.lucid_top_words.specs.declared.refusal.Refusal.{Refusal}
use Rattle.lucid_top_words.specs.declared.refusal.Refusal.TheVariants as refusal
use Rattle.lucid_top_words.specs.Outcome.{Alike, IsTheAnswer}
use Rattle.lucid_top_program.specs.Program.{IsOrdered, array_name, declared_line}
use Rattle.lucid_top_words.specs.Words.{Bytes}

-- a program that is accepted has no declaration that is refused
accepted-none : (core : CoreParts) (decl : ℕ) (first : ArrayName) (others : List ArrayName) → IsAccepted core → IsFirstRefused core decl first others → ⊥
accepted-none core decl first others accepted r =
    r.isnt (All-contains (λ (b : Body). InOrder (length core.arrays) b.funs b.body) (bodies core) r.refused accepted r.there)

-- no declaration before the first that is refused is
not-before : (core : CoreParts) (n m : ℕ) (x y : ArrayName) (xs ys : List ArrayName) → IsFirstRefused core n x xs → IsFirstRefused core m y ys → n < m → ⊥
not-before core n m x y xs ys early late before =
    early.isnt (All-contains (λ (b : Body). b.decl < m → InOrder (length core.arrays) b.funs b.body) (bodies core) early.refused late.none_before early.there (subst (λ (d : ℕ). d < m) (sym early.number) before))

one-first : (core : CoreParts) (n m : ℕ) (x y : ArrayName) (xs ys : List ArrayName) → IsFirstRefused core n x xs → IsFirstRefused core m y ys → n ≡ m
one-first core n m x y xs ys a b = elim (cases_order n m) [
  | inl same ↦ same
  | inr apart ↦ elim apart [
    | inl less ↦ absurd (not-before core n m x y xs ys a b less)
    | inr more ↦ absurd (not-before core m n y x ys xs b a more)
  ]
]

pub refused : (tree : Tree) (core : CoreParts) (decl line : ℕ) (cycle : List ArrayName) (names : Vec Bytes) →
    IsRefusedFirst (length core.arrays) (bodies core) decl cycle → line ≡ declared_line core decl → names.items ≡ map (array_name tree core decl) cycle →
    IsTheAnswer (IsOrdered tree core) (Err (refusal.NoOrder decl line names))
refused tree core decl line [] names none at named = absurd none
refused tree core decl line (first ∷ others) names is at named = record { is = (first, others, is, at, named); only = only }
  where
    only : (p : Result CoreParts Refusal) → IsOrdered tree core p → Alike p (Err (refusal.NoOrder decl line names))
    only (Ok c) o = absurd (accepted-none core decl first others o.0 is)
    only (Err (refusal.NoOrder d l ns)) o =
        let same : d ≡ decl = one-first core d decl o.0 first o.1 others o.2 is in
        (same, o.3 ∙ ap (declared_line core) same ∙ sym at)
    only (Err r) o = absurd o
