-- A typed program is in order, or one declaration is the first that is not, and its cycle has few names.
use denote.RawPtr.{null_ptr}
use Rattle.std.proofs.Common.{ℕ, zero, suc, ◌<◌, ◌≤◌, ◌⊎◌, inl, inr, ◌^◌, List, [], ◌∷◌, Ok, Err, length, map, refl, sym, subst, arith}
use Rattle.std.proofs.lemmas.Bool.{cases_lt}
use Rattle.std.proofs.lemmas.List.{length-map}
use Rattle.std.proofs.lemmas.List.Elements.{All-cons, All-nil}
use Rattle.std.specs.Global.{Vec}
use Rattle.std.specs.Prelude.{All}
use Rattle.lucid_base.specs.declared.array.ArrayName.{ArrayName}
use Rattle.lucid_core.specs.Parts.{CoreParts}
use Rattle.lucid_effects_laws.specs.Laws.{BodiesAreDecided}
use Rattle.lucid_effects_spec.specs.Cycle.{IsCycle}
use Rattle.lucid_effects_spec.specs.Laws.{CyclesRefuse}
use Rattle.lucid_effects_spec.specs.Order.{Body, InOrder, bodies}
use Rattle.lucid_effects_spec.specs.Paths.{paths}
use Rattle.lucid_effects_spec.specs.Refused.{IsFirstOf, IsFirstRefused}
use Rattle.lucid_parse_tree.specs.declared.tree.Tree.{Tree}
use Rattle.lucid_top_program.specs.Program.{IsOrdered, array_name, declared_line}
use Rattle.lucid_top_words.specs.declared.refusal.Refusal.TheVariants as refusal
use Rattle.lucid_top_words.specs.Words.{Bytes}
use Rattle.lucid_types_spec.specs.Makes.{IsTyped}
use Rattle.lucid_top_laws.proofs.ThereLemmas.{There}

-- ---- the first body that is not in order

module _ (decided : BodiesAreDecided) (refuse : CyclesRefuse) (arrays : ℕ) where
  abbrev Good : Body → Type 0
  Good b = InOrder arrays b.funs b.body

  abbrev HasCycle : Body → Type 0
  HasCycle b = (first : ArrayName) × (others : List ArrayName) × IsCycle arrays (paths b.funs b.body) first others

  abbrev HasFirst : List Body → Type 0
  HasFirst bs = (decl : ℕ) × (first : ArrayName) × (others : List ArrayName) × IsFirstOf arrays bs decl first others

  -- The body in front is the first.
  here : (b : Body) (bs : List Body) → HasCycle b → All (λ (c : Body). c.decl < b.decl → Good c) bs → HasFirst (b ∷ bs)
  here b bs cycle before = (
    b.decl,
    cycle.0,
    cycle.1,
    record {
      refused = b;
      there = (zero, omega arith, refl);
      number = refl;
      isnt = refuse arrays b.funs b.body cycle.0 cycle.1 cycle.2;
      cycle = cycle.2;
      none_before = All-cons (λ (c : Body). c.decl < b.decl → Good c) b bs (λ less. absurd (omega (arith, less))) before;
    },
  )

  -- The first of the others is the first, too.
  later : (b : Body) (bs : List Body) (f : HasFirst bs) → (b.decl < f.0 → Good b) → HasFirst (b ∷ bs)
  later b bs f good =
      let is = f.3 in
      let at = is.there in
      let within = at.1 in (
        f.0,
        f.1,
        f.2,
        record {
          refused = is.refused;
          there = (suc at.0, omega (arith, within), at.2);
          number = is.number;
          isnt = is.isnt;
          cycle = is.cycle;
          none_before = All-cons (λ (c : Body). c.decl < f.0 → Good c) b bs good is.none_before;
        },
      )

  pub first_of : (bs : List Body) → All Good bs ⊎ HasFirst bs
  first_of [] = inl (All-nil Good)
  first_of (b ∷ bs) = of (decided arrays b.funs b.body) (first_of bs)
    where
      either : HasCycle b → (f : HasFirst bs) → (b.decl < f.0) ⊎ (f.0 ≤ b.decl) → HasFirst (b ∷ bs)
      either cycle f (inl less) = here b bs cycle (λ k d lt below. f.3.none_before k d lt (omega (arith, below, less)))
      either cycle f (inr more) = later b bs f (λ below. absurd (omega (arith, below, more)))

      of : Good b ⊎ HasCycle b → All Good bs ⊎ HasFirst bs → All Good (b ∷ bs) ⊎ HasFirst (b ∷ bs)
      of (inl good) (inl all) = inl (All-cons Good b bs good all)
      of (inl good) (inr f) = inr (later b bs f (λ below. good))
      of (inr cycle) (inl all) = inr (here b bs cycle (λ k d lt below. all k d lt))
      of (inr cycle) (inr f) = inr (either cycle f (cases_lt b.decl f.0))

-- ---- the order of a program

-- The cycle of a refused declaration is short enough for a vector of its names.
abbrev pub CyclesFit : Type 0
CyclesFit = (tree : Tree) (core : CoreParts) → IsTyped tree core → (decl : ℕ) (first : ArrayName) (others : List ArrayName) →
    IsFirstRefused core decl first others → length (first ∷ others) < 2 ^ 63

-- A vector of these names.
abbrev holding : (names : List Bytes) → length names < 2 ^ 63 → Vec Bytes
holding names few =
    record { ptr = null_ptr; len = length names; cap = length names; alloc = record { memory = record { seal = tt } }; items = names; ok = (refl, omega arith); small = few }

module _ (decided : BodiesAreDecided) (refuse : CyclesRefuse) (fits : CyclesFit) (tree : Tree) (core : CoreParts) where
  pub ordered_there : IsTyped tree core → There (IsOrdered tree core)
  ordered_there typed = of (first_of decided refuse (length core.arrays) (bodies core))
    where
      of : All (λ b. InOrder (length core.arrays) b.funs b.body) (bodies core)
          ⊎ ((decl : ℕ) × (first : ArrayName) × (others : List ArrayName) × IsFirstOf (length core.arrays) (bodies core) decl first others) →
          There (IsOrdered tree core)
      of (inl good) = (Ok core, (good, refl))
      of (inr f) =
          let names : List Bytes = map (array_name tree core f.0) (f.1 ∷ f.2) in
          let short : length (f.1 ∷ f.2) < 2 ^ 63 = fits tree core typed f.0 f.1 f.2 f.3 in
          let few : length names < 2 ^ 63 = subst (λ (n : ℕ). n < 2 ^ 63) (sym (length-map (f.1 ∷ f.2) (array_name tree core f.0))) short in
          (Err (refusal.NoOrder f.0 (declared_line core f.0) (holding names few)), (f.1, f.2, f.3, refl, refl))
