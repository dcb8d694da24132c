-- At most one list of places is a first fit, and none is where a node is stuck.
use Rattle.std.proofs.Common.{◌≡◌, ◌≢◌, ℕ, zero, suc, ◌<◌, ◌⊎◌, inl, inr, List, [], ◌∷◌, ◌++◌, refl, sym, ap, ap₂, subst, ◌∙◌, arith}
use Rattle.std.proofs.lemmas.Bool.{cases_order}
use Rattle.lucid_code.specs.declared.op.Op.{Op}
use Rattle.lucid_code.specs.Parts.{CodeParts}
use Rattle.lucid_tables.specs.declared.stage.StageCode.{StageCode}
use Rattle.lucid_tables.specs.Placed.{PlacedParts}
use Rattle.lucid_conf.specs.declared.limits.Limits.{Limits}
use Rattle.lucid_stages.specs.declared.stage.Seat.{Seat}
use Rattle.lucid_layout.specs.declared.error.FitError.{FitError}
use Rattle.lucid_layout.specs.declared.error.FitError.TheVariants.{Ops, Fields, Arms, Node as NoPlace, Memory}
use Rattle.lucid_stages.specs.declared.node.Work.{Work}
use Rattle.lucid_stages.specs.declared.stage.Pair.{Pair}
use Rattle.lucid_stages.specs.Counts.{FirstCrowded}
use Rattle.lucid_layout.specs.Fit.{Admissible, Least, NotBefore, IsFirstFit, IsStuck}
use Rattle.lucid_layout_laws.specs.Laws.{LayoutsAreOne}
use Rattle.lucid_layout.specs.Layout.{IsLayout, IsRefused, stages_of}
use Rattle.lucid_stages.specs.NodeWorks.{works}

-- at most one place is least
least_one : (P : Pair → Type 0) (p q : Pair) → Least P p → Least P q → p ≡ q
least_one P p q a b =
    let x = a.least q b.holds in
    let y = b.least p a.holds in
    ap₂ (λ (k t : ℕ). record { stage = k; table = t }) (stages x y) (tables x y)
  where
    stages : NotBefore q p → NotBefore p q → p.stage ≡ q.stage
    stages (inl x) (inl y) = omega (arith, x, y)
    stages (inl x) (inr y) = sym y.0
    stages (inr x) y = x.0

    tables : NotBefore q p → NotBefore p q → p.table ≡ q.table
    tables (inl x) (inl y) = absurd (omega (arith, x, y))
    tables (inl x) (inr y) = absurd (omega (arith, x, y.0))
    tables (inr x) (inl y) = absurd (omega (arith, x.0, y))
    tables (inr x) (inr y) = omega (arith, x.1, y.1)

not_both : (ops : List Op) (limits : Limits) (done : List Seat) (ns : List Work) (ps : List Pair) (i : ℕ) → IsFirstFit ops limits done ns ps → IsStuck ops limits done ns i → ⊥
not_both ops limits done [] ps i f s = s
not_both ops limits done (n ∷ ns) [] i f s = f
not_both ops limits done (n ∷ ns) (p ∷ ps) zero f s = s p f.0.holds
not_both ops limits done (n ∷ ns) (p ∷ ps) (suc i) f s =
    let same : s.0 ≡ p = least_one (Admissible ops limits done n ns) s.0 p s.1 f.0 in
    not_both ops limits (done ++ record { node = n; at = p } ∷ []) ns ps i f.1 (subst (λ q. IsStuck ops limits (done ++ record { node = n; at = q } ∷ []) ns i) same s.2)

one_fit : (ops : List Op) (limits : Limits) (done : List Seat) (ns : List Work) (ps qs : List Pair) → IsFirstFit ops limits done ns ps → IsFirstFit ops limits done ns qs → ps ≡ qs
one_fit ops limits done [] [] [] f g = refl
one_fit ops limits done [] [] (q ∷ qs) f g = absurd g
one_fit ops limits done [] (p ∷ ps) qs f g = absurd f
one_fit ops limits done (n ∷ ns) [] qs f g = absurd f
one_fit ops limits done (n ∷ ns) (p ∷ ps) [] f g = absurd g
one_fit ops limits done (n ∷ ns) (p ∷ ps) (q ∷ qs) f g =
    let same : q ≡ p = least_one (Admissible ops limits done n ns) q p g.0 f.0 in
    ap₂ (λ (x : Pair) (xs : List Pair). x ∷ xs) (sym same) (one_fit ops limits (done ++ record { node = n; at = p } ∷ []) ns ps qs f.1 (subst (λ x. IsFirstFit ops limits (done ++ record { node = n; at = x } ∷ []) ns qs) same g.1))

one_stuck : (ops : List Op) (limits : Limits) (done : List Seat) (ns : List Work) (i j : ℕ) → IsStuck ops limits done ns i → IsStuck ops limits done ns j → i ≡ j
one_stuck ops limits done [] i j f g = absurd f
one_stuck ops limits done (n ∷ ns) zero zero f g = refl
one_stuck ops limits done (n ∷ ns) zero (suc j) f g = absurd (f g.0 g.1.holds)
one_stuck ops limits done (n ∷ ns) (suc i) zero f g = absurd (g f.0 f.1.holds)
one_stuck ops limits done (n ∷ ns) (suc i) (suc j) f g =
    let same : g.0 ≡ f.0 = least_one (Admissible ops limits done n ns) g.0 f.0 g.1 f.1 in
    ap suc (one_stuck ops limits (done ++ record { node = n; at = f.0 } ∷ []) ns i j f.2 (subst (λ q. IsStuck ops limits (done ++ record { node = n; at = q } ∷ []) ns j) same g.2))

one_array : (code : CodeParts) (most g h : ℕ) → FirstCrowded code most g → FirstCrowded code most h → g ≡ h
one_array code most g h a b = by (cases_order g h)
  where
    by : (g ≡ h) ⊎ ((g < h) ⊎ (h < g)) → g ≡ h
    by (inl e) = e
    by (inr (inl l)) = absurd (omega (arith, b.first g l, a.crowded))
    by (inr (inr l)) = absurd (omega (arith, a.first h l, b.crowded))

same_layout : (code : CodeParts) (limits : Limits) (p q : PlacedParts) → IsLayout code limits p → IsLayout code limits q → p ≡ q
same_layout code limits p q a b =
    let pairs = one_fit code.ops limits [] (works code.ops) a.fit.0 b.fit.0 a.fit.1 b.fit.1 in
    ap₂ (λ (c : CodeParts) (s : List StageCode). record { code = c; stages = s }) (a.code_is ∙ sym b.code_is) (a.fit.2 ∙ ap (stages_of code limits) pairs ∙ sym b.fit.2)

only_memory : (code : CodeParts) (limits : Limits) (p : PlacedParts) (e : FitError) → IsLayout code limits p → IsRefused code limits e → e ≡ Memory
only_memory code limits p (Ops n) a r = absurd (omega (arith, a.counts.ops, r.1))
only_memory code limits p (Fields n) a r = absurd (omega (arith, a.counts.bits, r.1, r.2))
only_memory code limits p (Arms g) a r = absurd (omega (arith, a.counts.arms g r.2.there, r.2.crowded))
only_memory code limits p (NoPlace i) a r = absurd (not_both code.ops limits [] (works code.ops) a.fit.0 i a.fit.1 r.1)
only_memory code limits p Memory a r = refl

one_cause : (code : CodeParts) (limits : Limits) (e f : FitError) → IsRefused code limits e → IsRefused code limits f → e ≢ Memory → f ≢ Memory → e ≡ f
one_cause code limits Memory f a b m n = absurd (m refl)
one_cause code limits (Ops x) (Ops y) a b m n = ap Ops (a.0 ∙ sym b.0)
one_cause code limits (Ops x) (Fields y) a b m n = absurd (omega (arith, a.0, a.1, b.0))
one_cause code limits (Ops x) (Arms y) a b m n = absurd (omega (arith, a.0, a.1, b.0))
one_cause code limits (Ops x) (NoPlace y) a b m n = absurd (omega (arith, a.0, a.1, b.0.ops))
one_cause code limits (Ops x) Memory a b m n = absurd (n refl)
one_cause code limits (Fields x) (Ops y) a b m n = absurd (omega (arith, b.0, b.1, a.0))
one_cause code limits (Fields x) (Fields y) a b m n = ap Fields (a.1 ∙ sym b.1)
one_cause code limits (Fields x) (Arms y) a b m n = absurd (omega (arith, a.1, a.2, b.1))
one_cause code limits (Fields x) (NoPlace y) a b m n = absurd (omega (arith, a.1, a.2, b.0.bits))
one_cause code limits (Fields x) Memory a b m n = absurd (n refl)
one_cause code limits (Arms x) (Ops y) a b m n = absurd (omega (arith, b.0, b.1, a.0))
one_cause code limits (Arms x) (Fields y) a b m n = absurd (omega (arith, b.1, b.2, a.1))
one_cause code limits (Arms x) (Arms y) a b m n = ap Arms (one_array code limits.arms x y a.2 b.2)
one_cause code limits (Arms x) (NoPlace y) a b m n = absurd (omega (arith, a.2.crowded, b.0.arms x a.2.there))
one_cause code limits (Arms x) Memory a b m n = absurd (n refl)
one_cause code limits (NoPlace x) (Ops y) a b m n = absurd (omega (arith, b.0, b.1, a.0.ops))
one_cause code limits (NoPlace x) (Fields y) a b m n = absurd (omega (arith, b.1, b.2, a.0.bits))
one_cause code limits (NoPlace x) (Arms y) a b m n = absurd (omega (arith, b.2.crowded, a.0.arms y b.2.there))
one_cause code limits (NoPlace x) (NoPlace y) a b m n = ap NoPlace (one_stuck code.ops limits [] (works code.ops) x y a.1 b.1)
one_cause code limits (NoPlace x) Memory a b m n = absurd (n refl)

pub layouts_are_one : LayoutsAreOne
layouts_are_one = record { one = same_layout; never_both = only_memory; one_cause = one_cause }
