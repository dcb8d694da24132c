-- The first ready event of a switch is at the front of its queue.
use Rattle.std.proofs.Common.{◌≡◌, ℕ, zero, suc, ◌+◌, ◌<◌, ◌≤◌, List, [], ◌∷◌, ◌++◌, map, length, slice_index_or, slice_set, Option, None, Some, Bool, true, false, if◌then◌else◌, cond, not, ◌&&◌, nat_eq, nat_lt, option_map, refl, sym, ◌∙◌, ap, subst, arith}
use Rattle.std.specs.List.{find, AllByRecursion}
use Rattle.std.specs.List.Sorted.{IsStrictlySortedBy}
use Rattle.std.specs.Map.{keys_of}
use Rattle.std.specs.Ordering.{nat_cmp, ordering_then}
use Rattle.std.specs.declared.cmp.Ordering.{Ordering}
use Rattle.std.specs.declared.cmp.Ordering.TheVariants.{Less}
use Rattle.std.proofs.lemmas.Bool.Decides.{nat_tests}
use Rattle.lucid_queue.specs.Kept.{Entries, IsByKey, all_from, behind_front, front, pending_at}
use Rattle.lucid_queue.specs.Order.{key_cmp}
use Rattle.lucid_queue.specs.Waiting.{without_first, is_ready}
use Rattle.lucid_queue.specs.declared.pending.PendKey.{PendKey}
use Rattle.lucid_queue.specs.declared.pending.Pending.{Pending}
use Rattle.lucid_queue.proofs.Lists.{find_behind, none_within, unfound, without_behind}

same : (k : ℕ) → nat_eq k k ≡ true
same k = grind (arith, nat_tests)

below : (s k : ℕ) → s < k → nat_eq k s ≡ false
below s k is = grind (arith, nat_tests)

passed : (s k i : ℕ) → s ≡ k + suc i → nat_eq k s ≡ false
passed s k i is = grind (arith, nat_tests)

-- at another switch none is found
elsewhere : (s t k : ℕ) (es : Entries) → nat_eq k s ≡ false → find (is_ready s t) (map (pending_at k) es) ≡ None
elsewhere s t k [] off = refl
elsewhere s t k (e ∷ es) off =
    ap (λ (b : Bool). cond (b && not (nat_lt t e.0.ready)) (Some (pending_at k e)) (find (is_ready s t) (map (pending_at k) es))) off
    ∙ elsewhere s t k es off

none_above : (s t k : ℕ) (all : List Entries) → s < k → find (is_ready s t) (all_from k all) ≡ None
none_above s t k [] is = refl
none_above s t k (es ∷ all) is =
    find_behind (is_ready s t) (map (pending_at k) es) (all_from (suc k) all) (elsewhere s t k es (below s k is))
    ∙ none_above s t (suc k) all (omega arith)

later : (t a b : ℕ) (o : Ordering) → nat_lt t a ≡ true → ordering_then (nat_cmp a b) o ≡ Less → nat_lt t b ≡ true
later t a b o is after = grind (arith, nat_tests)

not_yet : (k t : ℕ) (first : PendKey) (es : Entries) → nat_lt t first.ready ≡ true → AllByRecursion (λ q. key_cmp first q ≡ Less) (keys_of es) →
    find (is_ready k t) (map (pending_at k) es) ≡ None
not_yet k t first [] is after = refl
not_yet k t first (e ∷ es) is after =
    ap (λ (b : Bool). cond (nat_eq k k && not b) (Some (pending_at k e)) (find (is_ready k t) (map (pending_at k) es))) (later t first.ready e.0.ready _ is after.0)
    ∙ ap (λ (b : Bool). cond (b && false) (Some (pending_at k e)) (find (is_ready k t) (map (pending_at k) es))) (same k)
    ∙ not_yet k t first es is after.1

found_here : (k t : ℕ) (es : Entries) (rest : List Pending) → IsByKey es → find (is_ready k t) rest ≡ None →
    find (is_ready k t) (map (pending_at k) es ++ rest) ≡ option_map (pending_at k) (front t es)
unfolding IsStrictlySortedBy
found_here k t [] rest sorted none = none
found_here k t (e ∷ es) rest sorted none = at (nat_lt t e.0.ready) refl
  where
    behind : Option Pending
    behind = find (is_ready k t) (map (pending_at k) es ++ rest)

    at : (b : Bool) → nat_lt t e.0.ready ≡ b → cond (nat_eq k k && not b) (Some (pending_at k e)) behind ≡ option_map (pending_at k) (if not b then Some e else None)
    at false is = ap (λ (b : Bool). cond (b && true) (Some (pending_at k e)) behind) (same k)
    at true is =
        ap (λ (b : Bool). cond (b && false) (Some (pending_at k e)) behind) (same k)
        ∙ find_behind (is_ready k t) (map (pending_at k) es) rest (not_yet k t e.0 es is sorted.0)
        ∙ none

left_here : (k t : ℕ) (es : Entries) (rest : List Pending) → IsByKey es → find (is_ready k t) rest ≡ None →
    without_first (is_ready k t) (map (pending_at k) es ++ rest) ≡ map (pending_at k) (behind_front t es) ++ rest
unfolding IsStrictlySortedBy
left_here k t [] rest sorted none = unfound (is_ready k t) rest none
left_here k t (e ∷ es) rest sorted none = at (nat_lt t e.0.ready) refl
  where
    behind : List Pending
    behind = map (pending_at k) es ++ rest

    at : (b : Bool) → nat_lt t e.0.ready ≡ b →
        (if nat_eq k k && not b then behind else pending_at k e ∷ without_first (is_ready k t) behind) ≡ map (pending_at k) (if not b then es else e ∷ es) ++ rest
    at false is = ap (λ (b : Bool). if b && true then behind else pending_at k e ∷ without_first (is_ready k t) behind) (same k)
    at true is =
        ap (λ (b : Bool). if b && false then behind else pending_at k e ∷ without_first (is_ready k t) behind) (same k)
        ∙ ap (λ (l : List Pending). pending_at k e ∷ l)
        (unfound (is_ready k t) behind (find_behind (is_ready k t) (map (pending_at k) es) rest (not_yet k t e.0 es is sorted.0) ∙ none))

-- es waits at the switch s, the i-th from k on
pub found : (s t k i : ℕ) (all : List Entries) (es : Entries) → s ≡ k + i → i < length all → es ≡ slice_index_or all i es → AllByRecursion IsByKey all →
    find (is_ready s t) (all_from k all) ≡ option_map (pending_at s) (front t es)
found s t k i [] es is within stands sorted = absurd (none_within i within)
found s t k zero (x ∷ all) es is within stands sorted =
    let here : k ≡ s = omega arith in
    subst (λ (n : ℕ). find (is_ready n t) (all_from k (x ∷ all)) ≡ option_map (pending_at n) (front t es)) here (
    found_here k t x (all_from (suc k) all) sorted.0 (none_above k t (suc k) all (omega arith))
    ∙ ap (λ (l : Entries). option_map (pending_at k) (front t l)) (sym stands)
    )
found s t k (suc i) (x ∷ all) es is within stands sorted =
    find_behind (is_ready s t) (map (pending_at k) x) (all_from (suc k) all) (elsewhere s t k x (passed s k i is))
    ∙ found s t (suc k) i all es (omega arith) (omega arith) stands sorted.1

pub left : (s t k i : ℕ) (all : List Entries) (es : Entries) → s ≡ k + i → i < length all → es ≡ slice_index_or all i es → AllByRecursion IsByKey all →
    without_first (is_ready s t) (all_from k all) ≡ all_from k (slice_set all i (behind_front t es))
left s t k i [] es is within stands sorted = absurd (none_within i within)
left s t k zero (x ∷ all) es is within stands sorted =
    let here : k ≡ s = omega arith in
    subst (λ (n : ℕ). without_first (is_ready n t) (all_from k (x ∷ all)) ≡ all_from k (behind_front t es ∷ all)) here (
    left_here k t x (all_from (suc k) all) sorted.0 (none_above k t (suc k) all (omega arith))
    ∙ ap (λ (l : Entries). map (pending_at k) (behind_front t l) ++ all_from (suc k) all) (sym stands)
    )
left s t k (suc i) (x ∷ all) es is within stands sorted =
    without_behind (is_ready s t) (map (pending_at k) x) (all_from (suc k) all) (elsewhere s t k x (passed s k i is))
    ∙ ap (λ (l : List Pending). map (pending_at k) x ++ l) (left s t (suc k) i all es (omega arith) (omega arith) stands sorted.1)

-- at a switch behind the last none is found
pub none_at : (s t k i : ℕ) (all : List Entries) → s ≡ k + i → length all ≤ i → find (is_ready s t) (all_from k all) ≡ None
none_at s t k i [] is past = refl
none_at s t k zero (x ∷ all) is past = absurd (none_within (length all) past)
none_at s t k (suc i) (x ∷ all) is past =
    find_behind (is_ready s t) (map (pending_at k) x) (all_from (suc k) all) (elsewhere s t k x (passed s k i is))
    ∙ none_at s t (suc k) i all (omega arith) (omega arith)
