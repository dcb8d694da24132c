-- The queue of each switch stays in the order of keys.
use Rattle.std.proofs.Common.{◌≡◌, ℕ, zero, suc, ◌<◌, List, [], ◌∷◌, ◌++◌, length, slice_index_or, slice_set, Bool, true, false, if◌then◌else◌, not, nat_lt, sym, subst, arith}
use Rattle.std.specs.List.{AllByRecursion}
use Rattle.std.specs.List.Sorted.{IsStrictlySortedBy}
use Rattle.lucid_queue.specs.Kept.{Entries, IsByKey, behind_front}
use Rattle.lucid_queue.proofs.Lists.{none_within}

pub by_key_with : (all : List Entries) (i : ℕ) (es : Entries) → IsByKey es → AllByRecursion IsByKey all → AllByRecursion IsByKey (slice_set all i es)
by_key_with [] i es here sorted = tt
by_key_with (x ∷ all) zero es here sorted = (here, sorted.1)
by_key_with (x ∷ all) (suc i) es here sorted = (sorted.0, by_key_with all i es here sorted.1)

pub by_key_at : (all : List Entries) (i : ℕ) (es : Entries) → i < length all → es ≡ slice_index_or all i es → AllByRecursion IsByKey all → IsByKey es
by_key_at [] i es within stands sorted = absurd (none_within i within)
by_key_at (x ∷ all) zero es within stands sorted = subst IsByKey (sym stands) sorted.0
by_key_at (x ∷ all) (suc i) es within stands sorted = by_key_at all i es (omega arith) stands sorted.1

by_key_behind : (t : ℕ) (es : Entries) → IsByKey es → IsByKey (behind_front t es)
unfolding IsStrictlySortedBy
by_key_behind t [] sorted = tt
by_key_behind t (e ∷ es) sorted = at (not (nat_lt t e.0.ready))
  where
    at : (b : Bool) → IsByKey (if b then es else e ∷ es)
    at true = sorted.1
    at false = sorted

-- the first of those at i left
pub by_key_popped : (t : ℕ) (all : List Entries) (i : ℕ) (es others : Entries) → i < length all → es ≡ slice_index_or all i es → others ≡ behind_front t es →
    AllByRecursion IsByKey all → AllByRecursion IsByKey (slice_set all i others)
by_key_popped t all i es others within stands gone sorted =
    by_key_with all i others (subst IsByKey (sym gone) (by_key_behind t es (by_key_at all i es within stands sorted))) sorted

pub by_key_further : (all : List Entries) → AllByRecursion IsByKey all → AllByRecursion IsByKey (all ++ [] ∷ [])
unfolding IsStrictlySortedBy
by_key_further [] sorted = (tt, tt)
by_key_further (es ∷ all) sorted = (sorted.0, by_key_further all sorted.1)
