-- The table of links: it is filled from the last link to the first, and no link joins a switch that isn't there.
use Rattle.std.proofs.Common.{◌≡◌, ℕ, suc, ◌+◌, ◌-◌, ◌*◌, ◌<◌, ◌≤◌, List, [], ◌∷◌, Option, None, Some, Bool, true, false, ◌&&◌, ◌⊎◌, All, IfSome, cond, length, drop, replicate, slice_index_or, slice_set, slice_get, sym, ap, refl, subst, ◌∙◌, ⊎_elim, arith, nat_eq}
use Rattle.std.specs.List.{find}
use Rattle.std.proofs.Math.Seq.{drop-cons, drop-length}
use Rattle.std.proofs.lemmas.Bool.{and_from, and_left, and_parts, and_right, cases_eq, eq-eqb, eqb-true, false_from_ne_true, ne_eqb, or_from, or_left, or_right}
use Rattle.std.proofs.lemmas.List.{get_or-replicate, get_or-set_other, get_or-set_same, length-set, length-replicate}
use Rattle.std.proofs.lemmas.List.Elements.{All-head, All-tail}
use Rattle.std.proofs.lemmas.Nat.{mul-add-lt, same_from_place}
use Rattle.std.proofs.lemmas.Option.{slice_get-get_or, slice_get_past}
use Rattle.lucid_conf.specs.Items.{joins}
use Rattle.lucid_conf.specs.Kept.{IsLink}
use Rattle.lucid_conf.specs.declared.scene.Link.{Link}
use Rattle.lucid_net.specs.Pairs.{Finds, IsTable, with_link}

-- ---- a switch that isn't there

joins_none : (switches a b : ℕ) (l : Link) → IsLink switches l → (switches ≤ a) ⊎ (switches ≤ b) → joins a b l ≡ false
joins_none switches a b l is past = ⊎_elim first second past
  where
    first : switches ≤ a → joins a b l ≡ false
    first h = or_from _ _ (and_left _ _ (ne_eqb l.a a (λ e. omega (arith, e, h, is.a)))) (and_right _ _ (ne_eqb l.b a (λ e. omega (arith, e, h, is.b))))

    second : switches ≤ b → joins a b l ≡ false
    second h = or_from _ _ (and_right _ _ (ne_eqb l.b b (λ e. omega (arith, e, h, is.b)))) (and_left _ _ (ne_eqb l.a b (λ e. omega (arith, e, h, is.a))))

none_found : (switches a b : ℕ) (links : List Link) → All (IsLink switches) links → (switches ≤ a) ⊎ (switches ≤ b) → find (joins a b) links ≡ None
none_found switches a b [] all past = refl
none_found switches a b (l ∷ links) all past =
    ap (λ (t : Bool). cond t (Some l) (find (joins a b) links)) (joins_none switches a b l (All-head (IsLink switches) l links all) past)
    ∙ none_found switches a b links (All-tail (IsLink switches) l links all) past

pub found_joins : (a b : ℕ) (links : List Link) → IfSome (find (joins a b) links) (λ l. joins a b l ≡ true)
found_joins a b [] = tt
found_joins a b (l ∷ links) = by (joins a b l) refl (found_joins a b links)
  where
    by : (t : Bool) → joins a b l ≡ t → IfSome (find (joins a b) links) (λ l. joins a b l ≡ true) → IfSome (cond t (Some l) (find (joins a b) links)) (λ l. joins a b l ≡ true)
    by true is later = is
    by false is later = later

-- ---- one link more

within : (switches a b : ℕ) → a < switches → b < switches → a * switches + b < switches * switches
within switches a b in_a in_b = mul-add-lt a switches b switches in_a in_b

joined : (a b : ℕ) (l : Link) (these : List Link) → joins a b l ≡ true → Some l ≡ find (joins a b) (l ∷ these)
joined a b l these is = sym (ap (λ (t : Bool). cond t (Some l) (find (joins a b) these)) is)

passed : (a b : ℕ) (l : Link) (these : List Link) → joins a b l ≡ false → find (joins a b) these ≡ find (joins a b) (l ∷ these)
passed a b l these is = sym (ap (λ (t : Bool). cond t (Some l) (find (joins a b) these)) is)

module _ (links these : List Link) (switches place : ℕ) (places : List ℕ) (l : Link) (at : slice_get links place ≡ Some l)
    (is : IsLink switches l) (finds : Finds links these switches places) where
  abbrev there : ℕ
  there = l.a * switches + l.b

  abbrev back : ℕ
  back = l.b * switches + l.a

  abbrev once : List ℕ
  once = slice_set places there place

  there_within : there < length places
  there_within = omega (arith, finds.long, within switches l.a l.b is.a is.b)

  back_within : back < length once
  back_within = omega (arith, finds.long, length-set places there place, within switches l.b l.a is.b is.a)

  cell : (a b none : ℕ) → a < switches → b < switches → slice_get links (slice_index_or (slice_set once back place) (a * switches + b) none) ≡ find (joins a b) (l ∷ these)
  cell a b none in_a in_b = ⊎_elim turned straight (cases_eq (a * switches + b) back)
    where
      turned : a * switches + b ≡ back → slice_get links (slice_index_or (slice_set once back place) (a * switches + b) none) ≡ find (joins a b) (l ∷ these)
      turned same =
          let ends : (a ≡ l.b) × (b ≡ l.a) = same_from_place a b l.b l.a switches in_b is.a same in
          ap (λ (n : ℕ). slice_get links (slice_index_or (slice_set once back place) n none)) same
          ∙ ap (slice_get links) (get_or-set_same once back place none back_within)
          ∙ at
          ∙ joined a b l these (or_right _ _ (and_from _ _ (eq-eqb l.a b (sym ends.1)) (eq-eqb l.b a (sym ends.0))))

      straight : (a * switches + b ≡ back → ⊥) → slice_get links (slice_index_or (slice_set once back place) (a * switches + b) none) ≡ find (joins a b) (l ∷ these)
      straight not_back = ap (slice_get links) (get_or-set_other once back (a * switches + b) place none not_back) ∙ ⊎_elim same other (cases_eq (a * switches + b) there)
        where
          same : a * switches + b ≡ there → slice_get links (slice_index_or once (a * switches + b) none) ≡ find (joins a b) (l ∷ these)
          same e =
              let ends : (a ≡ l.a) × (b ≡ l.b) = same_from_place a b l.a l.b switches in_b is.b e in
              ap (λ (n : ℕ). slice_get links (slice_index_or once n none)) e
              ∙ ap (slice_get links) (get_or-set_same places there place none there_within)
              ∙ at
              ∙ joined a b l these (or_left _ _ (and_from _ _ (eq-eqb l.a a (sym ends.0)) (eq-eqb l.b b (sym ends.1))))

          other : (a * switches + b ≡ there → ⊥) → slice_get links (slice_index_or once (a * switches + b) none) ≡ find (joins a b) (l ∷ these)
          other not_there =
              ap (slice_get links) (get_or-set_other places there (a * switches + b) place none not_there)
              ∙ finds.first a b none in_a in_b
              ∙ passed a b l these (or_from _ _ (false_from_ne_true _ way) (false_from_ne_true _ way_back))
            where
              way : (nat_eq l.a a && nat_eq l.b b) ≡ true → ⊥
              way t =
                  let both : (nat_eq l.a a ≡ true) × (nat_eq l.b b ≡ true) = and_parts _ _ t in
                  not_there (sym (ap (λ (n : ℕ). n * switches + b) (eqb-true l.a a both.0)) ∙ sym (ap (λ (n : ℕ). l.a * switches + n) (eqb-true l.b b both.1)))

              way_back : (nat_eq l.a b && nat_eq l.b a) ≡ true → ⊥
              way_back t =
                  let both : (nat_eq l.a b ≡ true) × (nat_eq l.b a ≡ true) = and_parts _ _ t in
                  not_back (sym (ap (λ (n : ℕ). n * switches + b) (eqb-true l.b a both.1)) ∙ sym (ap (λ (n : ℕ). l.b * switches + n) (eqb-true l.a b both.0)))

  pub finds_more : Finds links (l ∷ these) switches (with_link switches l place places)
  finds_more = record { long = length-set once back place ∙ length-set places there place ∙ finds.long; first = cell }

-- ---- before the last link, and at each place

pub finds_none : (links : List Link) (switches : ℕ) → Finds links (drop (length links) links) switches (replicate (switches * switches) (length links))
finds_none links switches = record {
  long = length-replicate (switches * switches) (length links);
  first = λ a b none in_a in_b.
      ap (slice_get links) (get_or-replicate (switches * switches) (a * switches + b) (length links) none (within switches a b in_a in_b))
      ∙ slice_get_past links (length links) (omega arith)
      ∙ sym (ap (find (joins a b)) (drop-length links));
}

-- the same, where the links are walked from the last to the first
pub finds_next : (links : List Link) (switches place : ℕ) (places new : List ℕ) (none : Link) → 0 < place → place ≤ length links →
    All (IsLink switches) links → Finds links (drop place links) switches places → new ≡ with_link switches (slice_index_or links (place - 1) none) (place - 1) places →
    Finds links (drop (place - 1) links) switches new
finds_next links switches place places new none some le all finds put =
    let l : Link = slice_index_or links (place - 1) none in
    let lt : place - 1 < length links = omega (arith, some, le) in
    let next : suc (place - 1) ≡ place = omega (arith, some) in
    let cut : drop (place - 1) links ≡ slice_index_or links (place - 1) none ∷ drop place links =
    drop-cons links (place - 1) none lt ∙ ap (λ (n : ℕ). slice_index_or links (place - 1) none ∷ drop n links) next in
    subst (Finds links (drop (place - 1) links) switches) (sym put)
    (subst (λ (these : List Link). Finds links these switches (with_link switches l (place - 1) places)) (sym cut)
    (finds_more links (drop place links) switches (place - 1) places l (slice_get-get_or links (place - 1) none lt) (all (place - 1) none lt) finds))

pub finds_all : (links : List Link) (switches place : ℕ) (places : List ℕ) → All (IsLink switches) links → place ≤ 0 → Finds links (drop place links) switches places →
    IsTable links switches places
finds_all links switches place places all le finds = record { within = all; finds = subst (λ (n : ℕ). Finds links (drop n links) switches places) none finds }
  where
    none : place ≡ 0
    none = omega (arith, le)

-- ---- a look

pub outside : (links seen : List Link) (switches : ℕ) (places : List ℕ) (a b : ℕ) → IsTable links switches places → seen ≡ links →
    (switches ≤ a) ⊎ (switches ≤ b) → None ≡ find (joins a b) seen
outside links seen switches places a b is same past = sym (ap (find (joins a b)) same ∙ none_found switches a b links is.within past)

pub found_is : (links seen : List Link) (switches : ℕ) (places : List ℕ) (a b none : ℕ) (found : Option Link) → IsTable links switches places → seen ≡ links →
    a < switches → b < switches → found ≡ slice_get links (slice_index_or places (a * switches + b) none) → found ≡ find (joins a b) seen
found_is links seen switches places a b none found is same in_a in_b at = at ∙ is.finds.first a b none in_a in_b ∙ sym (ap (find (joins a b)) same)
