-- Lists of names, as far as locals are held.
use Rattle.std.proofs.Common.{◌≡◌, ◌⊎◌, inl, inr, ℕ, nat_eq, List, [], ◌∷◌, ◌++◌, Bool, true, false, ◌&&◌, ◌||◌, ◌<◌, Option, None, Some, drop, fold, length, take, refl, sym, ap, ap₂, subst, ◌∙◌, append-nil, append_assoc, slice_index_or, slice_set}
use Rattle.std.proofs.lemmas.Bool.{cases_eq, eq-eqb, ne_eqb}
use Rattle.std.proofs.lemmas.Grind.{get_or-set_at}
use Rattle.std.proofs.lemmas.List.{get_or-set_other, take-append-drop}
use Rattle.lucid_base.specs.Numbers.{is_in}
use Rattle.lucid_base.proofs.NumbersLemmas.{is_in_append}
use Rattle.lucid_inline_count.specs.declared.counts.Counts.{Counts}
use Rattle.lucid_inline_count.specs.Branches.{held_behind}
use Rattle.lucid_inline_count.specs.Found.{Round, Running, Tally, held_with, joined, one_more}
use Rattle.lucid_inline_count.specs.Held.{AreHeld, Assigns, IsAlike, Keeps}
use Rattle.lucid_inline_count.proofs.Joining.{count_alike, there}

-- ---- held locals stay held

pub themselves : (held : List Bool) → AreHeld held held
themselves held = record { at = λ i h. h }

pub held_more : (held : List Bool) (i : ℕ) → AreHeld held (slice_set held i true)
held_more held i = record { at = λ j h. of j h (cases_eq j i) }
  where
    of : (j : ℕ) → slice_index_or held j false ≡ true → (j ≡ i) ⊎ (j ≡ i → ⊥) → slice_index_or (slice_set held i true) j false ≡ true
    of j h (inl e) = let l = there held j h in get_or-set_at held i j true false e (subst (λ (k : ℕ). k < length held) e l)
    of j h (inr ne) = get_or-set_other held i j true false ne ∙ h

pub held_with_more : (held : List Bool) (sets : Option ℕ) → AreHeld held (held_with held sets)
held_with_more held None = themselves held
held_with_more held (Some i) = held_more held i

held_along : (funs : List Counts) (ts : List Tally) (run : Running) → AreHeld run.held (fold (one_more funs) run ts).held
held_along funs [] run = themselves run.held
held_along funs (t ∷ ts) run =
    let step = held_with_more run.held t.sets in
    let rest = held_along funs ts (one_more funs run t) in
    record { at = λ i h. rest.at i (step.at i h) }

pub all_behind : (ts : List Tally) (r : Round) → AreHeld r.held (held_behind ts r)
all_behind ts r = held_along r.funs ts _

-- ---- alike lists

pub same_names : (held : List Bool) (xs : List ℕ) → IsAlike held xs xs
same_names held xs = record { at = λ i. refl }

pub through : (held : List Bool) (xs ys zs : List ℕ) → IsAlike held xs ys → IsAlike held ys zs → IsAlike held xs zs
through held xs ys zs p q = record { at = λ i. p.at i ∙ q.at i }

pub in_fewer : (held more : List Bool) (xs ys : List ℕ) → AreHeld held more → IsAlike more xs ys → IsAlike held xs ys
in_fewer held more xs ys are same = record { at = λ i. of (slice_index_or held i false) (slice_index_or more i false) (is_in i xs) (is_in i ys) (are.at i) (same.at i) }
  where
    of : (a b p q : Bool) → (a ≡ true → b ≡ true) → (b && p) ≡ (b && q) → (a && p) ≡ (a && q)
    of false b p q f e = refl
    of true true p q f e = e
    of true false p q f e = let wrong = f refl in absurd (cc)

pub one_behind : (held : List Bool) (xs ys us vs : List ℕ) → IsAlike held xs ys → IsAlike held us vs → IsAlike held (xs ++ us) (ys ++ vs)
one_behind held xs ys us vs p q = record {
  at = λ i.
      ap (λ (b : Bool). slice_index_or held i false && b) (is_in_append i xs us)
      ∙ of (slice_index_or held i false) (is_in i xs) (is_in i ys) (is_in i us) (is_in i vs) (p.at i) (q.at i)
      ∙ sym (ap (λ (b : Bool). slice_index_or held i false && b) (is_in_append i ys vs));
}
  where
    of : (a p q r s : Bool) → (a && p) ≡ (a && q) → (a && r) ≡ (a && s) → (a && (p || r)) ≡ (a && (q || s))
    of false p q r s e f = refl
    of true p q r s e f = ap₂ (λ (x y : Bool). x || y) e f

pub joined_alike : (held : List Bool) (xs ys : List ℕ) → IsAlike held xs ys → joined held xs ≡ joined held ys
joined_alike held xs ys same = count_alike (length held) (λ i. slice_index_or held i false && is_in i xs) (λ i. slice_index_or held i false && is_in i ys) (λ k l. same.at k)

-- ---- names that are added

pub drop_front : (xs ys : List ℕ) → drop (length xs) (xs ++ ys) ≡ ys
drop_front [] ys = refl
drop_front (x ∷ xs) ys = drop_front xs ys

take_front : (xs ys : List ℕ) → take (length xs) (xs ++ ys) ≡ xs
take_front [] ys = refl
take_front (x ∷ xs) ys = ap (λ (zs : List ℕ). x ∷ zs) (take_front xs ys)

pub assigns_none : (held : List Bool) (names : List ℕ) → Assigns held names names []
assigns_none held names = record { added = []; is = sym (append-nil names); alike = same_names held [] }

pub assigns_one : (held : List Bool) (names : List ℕ) (i : ℕ) → Assigns held names (names ++ i ∷ []) (i ∷ [])
assigns_one held names i = record { added = i ∷ []; is = refl; alike = same_names held (i ∷ []) }

-- Some names and then others, once more locals may be held.
pub assigns_more : (held more : List Bool) (earlier between later xs ys : List ℕ) → AreHeld held more → Assigns held earlier between xs → Assigns more between later ys → Assigns held earlier later (xs ++ ys)
assigns_more held more earlier between later xs ys are one two = record {
  added = one.added ++ two.added;
  is = two.is ∙ ap (λ (ns : List ℕ). ns ++ two.added) one.is ∙ append_assoc earlier one.added two.added;
  alike = one_behind held one.added xs two.added ys one.alike (in_fewer held more two.added ys are two.alike);
}

pub added_alike : (held : List Bool) (earlier later names : List ℕ) (n : ℕ) → n ≡ length earlier → Assigns held earlier later names → IsAlike held (drop n later) names
added_alike held earlier later names n long is = subst (λ (ns : List ℕ). IsAlike held ns names) (sym (ap₂ drop long is.is ∙ drop_front earlier is.added)) is.alike

-- Names of which each that is held stays once are as good.
pub kept_assigns : (held : List Bool) (earlier later kept names : List ℕ) (n : ℕ) → n ≡ length earlier → Keeps held n later kept → Assigns held earlier later names → Assigns held earlier kept names
kept_assigns held earlier later kept names n long k is = record {
  added = k.found;
  is = k.is ∙ ap (λ (ns : List ℕ). ns ++ k.found) (ap₂ take long is.is ∙ take_front earlier is.added);
  alike = through held k.found (drop n later) names k.alike (added_alike held earlier later names n long is);
}

-- A list that stays.
pub keeps_all : (held : List Bool) (n : ℕ) (names : List ℕ) → Keeps held n names names
keeps_all held n names = record { found = drop n names; is = sym (take-append-drop n names); alike = same_names held (drop n names) }

-- ---- the distinct names

this_one : (f n h k r : Bool) → n ≡ true → h ≡ true → ((f || (n || false)) || (k && r)) ≡ (f || (h && (n || r)))
this_one true n h k r a b = refl
this_one false true true k r a b = refl
this_one false false h k r a b = absurd (cc)
this_one false true false k r a b = absurd (cc)

another_one : (f n h k r : Bool) → n ≡ false → k ≡ h → ((f || (n || false)) || (k && r)) ≡ (f || (h && (n || r)))
another_one true n h k r a b = refl
another_one false false h k r a b = ap (λ (c : Bool). c && r) b
another_one false true h k r a b = absurd (cc)

not_held : (f n h r : Bool) → h ≡ false → (f || (h && r)) ≡ (f || (h && (n || r)))
not_held f n false r a = refl
not_held f n true r a = absurd (cc)

not_named : (f n h r : Bool) → n ≡ false → (f || (h && r)) ≡ (f || (h && (n || r)))
not_named f false h r a = refl
not_named f true h r a = absurd (cc)

-- One name more: it is held, and counts from now on as found.
pub found_more : (first held : List Bool) (found : List ℕ) (x : ℕ) (rest names : List ℕ) → slice_index_or held x false ≡ true →
    ((i : ℕ) → (slice_index_or first i false && (is_in i found || (slice_index_or held i false && is_in i (x ∷ rest)))) ≡ (slice_index_or first i false && is_in i names)) →
    (i : ℕ) → (slice_index_or first i false && (is_in i (found ++ x ∷ []) || (slice_index_or (slice_set held x false) i false && is_in i rest))) ≡ (slice_index_or first i false && is_in i names)
found_more first held found x rest names on same i =
    ap (λ (b : Bool). slice_index_or first i false && b) (ap (λ (b : Bool). b || (slice_index_or (slice_set held x false) i false && is_in i rest)) (is_in_append i found (x ∷ [])) ∙ here (cases_eq i x)) ∙ same i
  where
    here : (i ≡ x) ⊎ (i ≡ x → ⊥) → ((is_in i found || is_in i (x ∷ [])) || (slice_index_or (slice_set held x false) i false && is_in i rest)) ≡ (is_in i found || (slice_index_or held i false && is_in i (x ∷ rest)))
    here (inl e) = this_one (is_in i found) (nat_eq x i) (slice_index_or held i false) (slice_index_or (slice_set held x false) i false) (is_in i rest) (eq-eqb x i (sym e)) (ap (λ (j : ℕ). slice_index_or held j false) e ∙ on)
    here (inr ne) = another_one (is_in i found) (nat_eq x i) (slice_index_or held i false) (slice_index_or (slice_set held x false) i false) (is_in i rest) (ne_eqb x i (λ q. ne (sym q))) (get_or-set_other held x i false false ne)

-- A name that is not held is passed over.
pub found_less : (first held : List Bool) (found : List ℕ) (x : ℕ) (rest names : List ℕ) → slice_index_or held x false ≡ false →
    ((i : ℕ) → (slice_index_or first i false && (is_in i found || (slice_index_or held i false && is_in i (x ∷ rest)))) ≡ (slice_index_or first i false && is_in i names)) →
    (i : ℕ) → (slice_index_or first i false && (is_in i found || (slice_index_or held i false && is_in i rest))) ≡ (slice_index_or first i false && is_in i names)
found_less first held found x rest names off same i = ap (λ (b : Bool). slice_index_or first i false && b) (here (cases_eq i x)) ∙ same i
  where
    here : (i ≡ x) ⊎ (i ≡ x → ⊥) → (is_in i found || (slice_index_or held i false && is_in i rest)) ≡ (is_in i found || (slice_index_or held i false && is_in i (x ∷ rest)))
    here (inl e) = not_held (is_in i found) (nat_eq x i) (slice_index_or held i false) (is_in i rest) (ap (λ (j : ℕ). slice_index_or held j false) e ∙ off)
    here (inr ne) = not_named (is_in i found) (nat_eq x i) (slice_index_or held i false) (is_in i rest) (ne_eqb x i (λ q. ne (sym q)))

pub found_all : (first held : List Bool) (found names : List ℕ) →
    ((i : ℕ) → (slice_index_or first i false && (is_in i found || (slice_index_or held i false && is_in i []))) ≡ (slice_index_or first i false && is_in i names)) → IsAlike first found names
found_all first held found names same = record { at = λ i. ap (λ (b : Bool). slice_index_or first i false && b) (none (is_in i found) (slice_index_or held i false)) ∙ same i }
  where
    none : (f h : Bool) → f ≡ (f || (h && false))
    none true h = refl
    none false true = refl
    none false false = refl

pub found_none : (held : List Bool) (names : List ℕ) (i : ℕ) → (slice_index_or held i false && (is_in i [] || (slice_index_or held i false && is_in i names))) ≡ (slice_index_or held i false && is_in i names)
found_none held names i = of (slice_index_or held i false)
  where
    of : (h : Bool) → (h && (h && is_in i names)) ≡ (h && is_in i names)
    of true = refl
    of false = refl
