-- The queue is in order, so the first ready event has the least key.
use Rattle.std.proofs.Common.{◌≡◌, ℕ, suc, ◌<◌, List, [], ◌∷◌, ◌++◌, map, Option, None, Some, IfSome, Bool, true, false, cond, not, ◌&&◌, nat_eq, nat_lt, refl, sym, ◌∙◌, ap, subst, arith}
use Rattle.std.specs.List.{All, AllByRecursion, find}
use Rattle.std.specs.List.Sorted.{IsStrictlySortedBy}
use Rattle.std.specs.Map.{keys_of}
use Rattle.std.specs.Ordering.{is_lt, nat_cmp, ordering_then, ordering_reverse}
use Rattle.std.specs.declared.cmp.Ordering.{Ordering}
use Rattle.std.specs.declared.cmp.Ordering.TheVariants.{Less}
use Rattle.std.proofs.lemmas.Bool.Decides.{nat_tests}
use Rattle.std.proofs.lemmas.Cmp.{tied_itself}
use Rattle.std.proofs.lemmas.List.Elements.{All-from_recursion}
use Rattle.lucid_base.specs.declared.event.Event.{Event}
use Rattle.lucid_queue.specs.Kept.{Entries, IsByKey, all_from, pending_at}
use Rattle.lucid_queue.specs.Order.{key_cmp, key_total, pending_cmp}
use Rattle.lucid_queue.specs.Waiting.{is_ready}
use Rattle.lucid_queue.specs.declared.pending.PendKey.{PendKey}
use Rattle.lucid_queue.specs.declared.pending.Pending.{Pending}

lower : (j k : ℕ) (o : Ordering) → j < k → ordering_then (nat_cmp j k) o ≡ Less
lower j k o is = grind (arith, nat_tests)

same : (k : ℕ) (o : Ordering) → o ≡ Less → ordering_then (nat_cmp k k) o ≡ Less
same k o is = grind (arith, nat_tests)

behind_switch : (j k : ℕ) (es : Entries) (rest : List Pending) → j < k → AllByRecursion (λ q. j < q.switch) rest →
    AllByRecursion (λ q. j < q.switch) (map (pending_at k) es ++ rest)
behind_switch j k [] rest is above = above
behind_switch j k (e ∷ es) rest is above = (is, behind_switch j k es rest is above)

all_above : (j k : ℕ) (all : List Entries) → j < k → AllByRecursion (λ q. j < q.switch) (all_from k all)
all_above j k [] is = tt
all_above j k (es ∷ all) is = behind_switch j k es (all_from (suc k) all) is (all_above j (suc k) all (omega arith))

at_higher : (k : ℕ) (key : PendKey) (v : Event) (rest : List Pending) → AllByRecursion (λ q. k < q.switch) rest →
    AllByRecursion (λ q. pending_cmp (pending_at k (key, v)) q ≡ Less) rest
at_higher k key v [] above = tt
at_higher k key v (q ∷ rest) above = (lower k q.switch (key_cmp key q.key) above.0, at_higher k key v rest above.1)

all_after : (k : ℕ) (e : PendKey × Event) (es : Entries) (rest : List Pending) → AllByRecursion (λ q. key_cmp e.0 q ≡ Less) (keys_of es) → AllByRecursion (λ q. k < q.switch) rest →
    AllByRecursion (λ q. pending_cmp (pending_at k e) q ≡ Less) (map (pending_at k) es ++ rest)
all_after k e [] rest after above = at_higher k e.0 e.1 rest above
all_after k e (x ∷ es) rest after above = (same k (key_cmp e.0 x.0) after.0, all_after k e es rest after.1 above)

at_switch : (k : ℕ) (es : Entries) (rest : List Pending) → IsByKey es → AllByRecursion (λ q. k < q.switch) rest → IsStrictlySortedBy pending_cmp rest →
    IsStrictlySortedBy pending_cmp (map (pending_at k) es ++ rest)
unfolding IsStrictlySortedBy
at_switch k [] rest sorted above behind = behind
at_switch k (e ∷ es) rest sorted above behind = (all_after k e es rest sorted.0 above, at_switch k es rest sorted.1 above behind)

pub in_order : (k : ℕ) (all : List Entries) → AllByRecursion IsByKey all → IsStrictlySortedBy pending_cmp (all_from k all)
unfolding IsStrictlySortedBy
in_order k [] sorted = tt
in_order k (es ∷ all) sorted = at_switch k es (all_from (suc k) all) sorted.0 (all_above k (suc k) all (omega arith)) (in_order (suc k) all sorted.1)

-- q goes before p in its turn only if it is not ready
abbrev NotBefore : ℕ → ℕ → Pending → Pending → Type 0
NotBefore s t p q = is_ready s t q ≡ true → is_lt (key_cmp q.key p.key) ≡ false

turned : (o u : Ordering) → o ≡ Less → u ≡ ordering_reverse o → is_lt u ≡ false
turned o u less is = ap is_lt (is ∙ ap ordering_reverse less)

same_switch : (s t a b c d : ℕ) (o : Ordering) → (nat_eq a s && not (nat_lt t b)) ≡ true → (nat_eq c s && not (nat_lt t d)) ≡ true → ordering_then (nat_cmp a c) o ≡ Less → o ≡ Less
same_switch s t a b c d o one two less = grind (arith, nat_tests)

none_before : (s t : ℕ) (p : Pending) (ps : List Pending) → is_ready s t p ≡ true → AllByRecursion (λ q. pending_cmp p q ≡ Less) ps → AllByRecursion (NotBefore s t p) ps
none_before s t p [] passes after = tt
none_before s t p (q ∷ qs) passes after = (
  λ ready. turned (key_cmp p.key q.key) (key_cmp q.key p.key) (same_switch s t p.switch p.key.ready q.switch q.key.ready (key_cmp p.key q.key) passes ready after.0) (key_total.antisymm q.key p.key),
  none_before s t p qs passes after.1,
)

inside : (p q : Pending) → Some p ≡ Some q → p ≡ q
inside p q e = cc

true_false : true ≡ false → ⊥
true_false e = cc

first_least : (s t : ℕ) (ps : List Pending) (p : Pending) → IsStrictlySortedBy pending_cmp ps → find (is_ready s t) ps ≡ Some p → AllByRecursion (NotBefore s t p) ps
unfolding IsStrictlySortedBy
first_least s t [] p sorted is = tt
first_least s t (q ∷ qs) p sorted is = at (is_ready s t q) refl is (first_least s t qs p sorted.1)
  where
    at : (b : Bool) → is_ready s t q ≡ b → cond b (Some q) (find (is_ready s t) qs) ≡ Some p → (find (is_ready s t) qs ≡ Some p → AllByRecursion (NotBefore s t p) qs) →
        AllByRecursion (NotBefore s t p) (q ∷ qs)
    at true here is tail = subst (λ (x : Pending). AllByRecursion (NotBefore s t x) (q ∷ qs)) (inside q p is) (λ _. ap is_lt (tied_itself key_total q.key), none_before s t q qs here sorted.0)
    at false here is tail = (λ ready. absurd (true_false (sym ready ∙ here)), tail is)

-- the first that is ready has the least key of them
pub least : (s t : ℕ) (ps : List Pending) (o : Option Pending) → IsStrictlySortedBy pending_cmp ps → o ≡ find (is_ready s t) ps → IfSome o (λ p. All (NotBefore s t p) ps)
least s t ps None sorted is = tt
least s t ps (Some p) sorted is = All-from_recursion (NotBefore s t p) ps (first_least s t ps p sorted (sym is))
