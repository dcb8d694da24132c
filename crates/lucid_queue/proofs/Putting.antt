-- An event that is inserted at its place at its switch is at its place among all.
use Rattle.std.proofs.Common.{◌≡◌, ℕ, zero, suc, ◌+◌, ◌<◌, ◌≤◌, ◌⊎◌, inl, inr, List, [], ◌∷◌, ◌++◌, map, length, slice_index_or, slice_set, Bool, true, false, ◌||◌, if◌then◌else◌, is_eq, refl, sym, ◌∙◌, ap, subst, arith}
use Rattle.std.specs.BTreeMap.{insert_entry}
use Rattle.std.specs.List.{list_any}
use Rattle.std.specs.Ordering.{is_lt, match_ordering, nat_cmp, ordering_then}
use Rattle.std.specs.declared.cmp.Ordering.{Ordering}
use Rattle.std.specs.declared.cmp.Ordering.TheVariants.{Less, Equal, Greater}
use Rattle.std.proofs.lemmas.Bool.Decides.{nat_tests}
use Rattle.lucid_queue.specs.Kept.{Entries, all_from, has_key, pending_at}
use Rattle.lucid_queue.specs.Order.{key_cmp, is_before, has_place}
use Rattle.lucid_queue.specs.Waiting.{put_in}
use Rattle.lucid_queue.specs.declared.pending.Pending.{Pending}
use Rattle.lucid_queue.proofs.Lists.{any_behind, none_within}

differs : (s k : ℕ) (o : Ordering) → s < k ⊎ k < s → is_eq (ordering_then (nat_cmp s k) o) ≡ false
differs s k o is = grind (arith, nat_tests)

lower : (s k : ℕ) (o : Ordering) → s < k → is_lt (ordering_then (nat_cmp s k) o) ≡ true
lower s k o is = grind (arith, nat_tests)

higher : (s k : ℕ) (o : Ordering) → k < s → is_lt (ordering_then (nat_cmp s k) o) ≡ false
higher s k o is = grind (arith, nat_tests)

alike : (s : ℕ) → nat_cmp s s ≡ Equal
alike s = grind (arith, nat_tests)

elsewhere : (p : Pending) (k : ℕ) (es : Entries) → p.switch < k ⊎ k < p.switch → list_any (has_place p) (map (pending_at k) es) ≡ false
elsewhere p k [] off = refl
elsewhere p k (e ∷ es) off = ap (λ (b : Bool). b || list_any (has_place p) (map (pending_at k) es)) (differs p.switch k (key_cmp p.key e.0) off) ∙ elsewhere p k es off

none_above : (p : Pending) (k : ℕ) (all : List Entries) → p.switch < k → list_any (has_place p) (all_from k all) ≡ false
none_above p k [] is = refl
none_above p k (es ∷ all) is = any_behind (has_place p) (map (pending_at k) es) (all_from (suc k) all) (elsewhere p k es (inl is)) ∙ none_above p (suc k) all (omega arith)

has_here : (p : Pending) (es : Entries) (rest : List Pending) → list_any (has_place p) rest ≡ false →
    list_any (has_place p) (map (pending_at p.switch) es ++ rest) ≡ list_any (has_key p.key) es
has_here p [] rest none = none
has_here p (e ∷ es) rest none =
    ap (λ (o : Ordering). is_eq (ordering_then o (key_cmp p.key e.0)) || list_any (has_place p) (map (pending_at p.switch) es ++ rest)) (alike p.switch)
    ∙ ap (λ (b : Bool). has_key p.key e || b) (has_here p es rest none)

-- es waits at the switch of p, the i-th from k on
pub has_at : (p : Pending) (k i : ℕ) (all : List Entries) (es : Entries) → p.switch ≡ k + i → i < length all → es ≡ slice_index_or all i es →
    list_any (has_place p) (all_from k all) ≡ list_any (has_key p.key) es
has_at p k i [] es is within stands = absurd (none_within i within)
has_at p k zero (x ∷ all) es is within stands =
    let here : p.switch ≡ k = omega arith in
    subst (λ (n : ℕ). list_any (has_place p) (map (pending_at n) x ++ all_from (suc k) all) ≡ list_any (has_key p.key) es) here (
    has_here p x (all_from (suc k) all) (none_above p (suc k) all (omega arith)) ∙ ap (λ (l : Entries). list_any (has_key p.key) l) (sym stands)
    )
has_at p k (suc i) (x ∷ all) es is within stands =
    any_behind (has_place p) (map (pending_at k) x) (all_from (suc k) all) (elsewhere p k x (inr (omega arith)))
    ∙ has_at p (suc k) i all es (omega arith) (omega arith) stands

pub none_at : (p : Pending) (k i : ℕ) (all : List Entries) → p.switch ≡ k + i → length all ≤ i → list_any (has_place p) (all_from k all) ≡ false
none_at p k i [] is past = refl
none_at p k zero (x ∷ all) is past = absurd (none_within (length all) past)
none_at p k (suc i) (x ∷ all) is past =
    any_behind (has_place p) (map (pending_at k) x) (all_from (suc k) all) (elsewhere p k x (inr (omega arith)))
    ∙ none_at p (suc k) i all (omega arith) (omega arith)

first_of : (p : Pending) (k : ℕ) (all : List Entries) → p.switch < k → put_in is_before p (all_from k all) ≡ p ∷ all_from k all
first_of p k [] is = refl
first_of p k ([] ∷ all) is = first_of p (suc k) all (omega arith)
first_of p k ((e ∷ es) ∷ all) is =
    let rest = map (pending_at k) es ++ all_from (suc k) all in
    ap (λ (b : Bool). if b then p ∷ pending_at k e ∷ rest else pending_at k e ∷ put_in is_before p rest) (lower p.switch k (key_cmp p.key e.0) is)

put_behind : (p : Pending) (k : ℕ) (es : Entries) (rest : List Pending) → k < p.switch →
    put_in is_before p (map (pending_at k) es ++ rest) ≡ map (pending_at k) es ++ put_in is_before p rest
put_behind p k [] rest is = refl
put_behind p k (e ∷ es) rest is =
    let others = map (pending_at k) es ++ rest in
    ap (λ (b : Bool). if b then p ∷ pending_at k e ∷ others else pending_at k e ∷ put_in is_before p others) (higher p.switch k (key_cmp p.key e.0) is)
    ∙ ap (λ (l : List Pending). pending_at k e ∷ l) (put_behind p k es rest is)

put_here : (p : Pending) (es : Entries) (rest : List Pending) → put_in is_before p rest ≡ p ∷ rest → list_any (has_key p.key) es ≡ false →
    put_in is_before p (map (pending_at p.switch) es ++ rest) ≡ map (pending_at p.switch) (insert_entry key_cmp es p.key p.event) ++ rest
put_here p [] rest first absent = first
put_here p (e ∷ es) rest first absent =
    ap (λ (o : Ordering). if is_lt (ordering_then o (key_cmp p.key e.0)) then p ∷ here ∷ others else here ∷ put_in is_before p others) (alike p.switch)
    ∙ at (key_cmp p.key e.0) absent (put_here p es rest first)
  where
    here : Pending
    here = pending_at p.switch e

    others : List Pending
    others = map (pending_at p.switch) es ++ rest

    inserted : Entries
    inserted = insert_entry key_cmp es p.key p.event

    at : (o : Ordering) → (is_eq o || list_any (has_key p.key) es) ≡ false →
        (list_any (has_key p.key) es ≡ false → put_in is_before p others ≡ map (pending_at p.switch) inserted ++ rest) →
        (if is_lt o then p ∷ here ∷ others else here ∷ put_in is_before p others)
        ≡ map (pending_at p.switch) (match_ordering o ((p.key, p.event) ∷ e ∷ es) ((e.0, p.event) ∷ es) (e ∷ inserted)) ++ rest
    at Less absent tail = refl
    at Equal absent tail = cc
    at Greater absent tail = ap (λ (l : List Pending). here ∷ l) (tail absent)

pub put_at : (p : Pending) (k i : ℕ) (all : List Entries) (es : Entries) → p.switch ≡ k + i → i < length all → es ≡ slice_index_or all i es → list_any (has_key p.key) es ≡ false →
    put_in is_before p (all_from k all) ≡ all_from k (slice_set all i (insert_entry key_cmp es p.key p.event))
put_at p k i [] es is within stands absent = absurd (none_within i within)
put_at p k zero (x ∷ all) es is within stands absent =
    let here : p.switch ≡ k = omega arith in
    let rest = all_from (suc k) all in
    ap (λ (l : Entries). put_in is_before p (map (pending_at k) l ++ all_from (suc k) all)) (sym stands)
    ∙ subst (λ (n : ℕ). put_in is_before p (map (pending_at n) es ++ rest) ≡ map (pending_at n) (insert_entry key_cmp es p.key p.event) ++ rest) here (
    put_here p es (all_from (suc k) all) (first_of p (suc k) all (omega arith)) absent
    )
put_at p k (suc i) (x ∷ all) es is within stands absent =
    put_behind p k x (all_from (suc k) all) (omega arith)
    ∙ ap (λ (l : List Pending). map (pending_at k) x ++ l) (put_at p (suc k) i all es (omega arith) (omega arith) stands absent)
