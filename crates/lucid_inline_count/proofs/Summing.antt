-- Sums over handlers: one handler more, and sums of capped numbers.
use Rattle.std.proofs.Common.{◌≡◌, ℕ, zero, suc, ◌+◌, ◌<◌, ◌≤◌, List, [], ◌∷◌, ◌++◌, true, Option, None, Some, IsTrue, drop, fold, get_or, length, map, take, refl, sym, ap, subst, ◌∙◌, arith}
use Rattle.std.specs.Prelude.{sum}
use Rattle.std.proofs.lemmas.Bool.{and_from, and_parts, le-leb, leb-true}
use Rattle.std.proofs.lemmas.List.{drop_more, length-map, length-take-le, map-append, take_more}
use Rattle.lucid_core.specs.declared.defs.HandlerDef.{HandlerDef}
use Rattle.lucid_core.specs.Numbered.{rising}
use Rattle.lucid_inline_count.specs.declared.counts.Counts.{Counts}
use Rattle.lucid_inline_count.specs.declared.sums.Sum.{Sum}
use Rattle.lucid_inline_count.specs.Counts.{capped}
use Rattle.lucid_inline_count.specs.Sums.{FirstPast, IsSum, sum_of_first}

rising_from_less : (m n : ℕ) (ds : List ℕ) → n ≤ m → rising m ds ≡ true → rising n ds ≡ true
rising_from_less m n [] below h = refl
rising_from_less m n (d ∷ ds) below h =
    let parts = and_parts _ _ h in
    let at_least = leb-true m d parts.0 in
    and_from _ _ (le-leb n d (omega arith)) parts.1

-- Behind a declaration the next number is above the next handler's.
pub rising_after : (k : ℕ) (hs : List HandlerDef) (i : ℕ) (h : HandlerDef) → i < length hs → get_or hs i h ≡ h →
    IsTrue (rising k (map (λ (g : HandlerDef). g.decl) (drop i hs))) → IsTrue (rising (k + 1) (map (λ (g : HandlerDef). g.decl) (drop (i + 1) hs)))
rising_after k hs i h within is all =
    let next = drop_more hs i h within ∙ ap (λ (g : HandlerDef). g ∷ drop (i + 1) hs) is in
    let parts = and_parts _ _ (rw next at all) in
    let at_least = leb-true k h.decl parts.0 in
    rising_from_less (h.decl + 1) (k + 1) _ (omega arith) parts.1

-- A sum with the counts of one more handler.
pub one_handler_more : (count : Counts → ℕ) (f : HandlerDef → Counts) (hs : List HandlerDef) (i number : ℕ) (h : HandlerDef) (bound : ℕ) (s t : Sum) (c : Counts) → i < length hs → get_or hs i h ≡ h →
    number ≡ i → s.bound ≡ bound → c ≡ f h → ((ns : List ℕ) → length ns ≡ number → IsSum s.bound ns s → IsSum s.bound (ns ++ count c ∷ []) t) →
    IsSum bound (map count (map f (take i hs))) s → IsSum bound (map count (map f (take (i + 1) hs))) t
one_handler_more count f hs i number h bound s t c within is at bound_is c_is adds so_far =
    let long : length (map count (map f (take i hs))) ≡ number = length-map (map f (take i hs)) count ∙ length-map (take i hs) f ∙ length-take-le i hs (omega arith) ∙ sym at in
    let more = adds (map count (map f (take i hs))) long (subst (λ (b : ℕ). IsSum b (map count (map f (take i hs))) s) (sym bound_is) so_far) in
    let list : map count (map f (take (i + 1) hs)) ≡ map count (map f (take i hs)) ++ count c ∷ [] =
    ap (λ (gs : List HandlerDef). map count (map f gs)) (take_more hs i h within ∙ ap (λ (g : HandlerDef). take i hs ++ g ∷ []) is)
    ∙ ap (map count) (map-append f (take i hs) (h ∷ []))
    ∙ map-append count (map f (take i hs)) (f h ∷ [])
    ∙ ap (λ (d : Counts). map count (map f (take i hs)) ++ count d ∷ []) (sym c_is) in
    subst (λ (ns : List ℕ). IsSum bound ns t) (sym list) (subst (λ (b : ℕ). IsSum b (map count (map f (take i hs)) ++ count c ∷ []) t) bound_is more)

fold_capped : (ns : List ℕ) (a b : ℕ) → capped a ≡ capped b → capped (fold ◌+◌ a (map capped ns)) ≡ capped (fold ◌+◌ b ns)
fold_capped [] a b e = e
fold_capped (n ∷ ns) a b e = fold_capped ns (a + capped n) (b + n) (omega (arith, e))

sum_capped : (ns : List ℕ) → capped (sum (map capped ns)) ≡ capped (sum ns)
sum_capped ns = fold_capped ns 0 0 refl

take_map : (k : ℕ) (ns : List ℕ) → take k (map capped ns) ≡ map capped (take k ns)
take_map zero ns = refl
take_map (suc k) [] = refl
take_map (suc k) (n ∷ ns) = ap (λ (ms : List ℕ). capped n ∷ ms) (take_map k ns)

first_capped : (k : ℕ) (ns : List ℕ) → sum_of_first k (map capped ns) ≡ sum_of_first k ns
first_capped k ns = ap (λ (ms : List ℕ). capped (sum ms)) (take_map k ns) ∙ sum_capped (take k ns)

first_past_capped : (bound : ℕ) (ns : List ℕ) (k : Option ℕ) → FirstPast bound (map capped ns) k → FirstPast bound ns k
first_past_capped bound ns None is = subst (λ (n : ℕ). n ≤ bound) (sum_capped ns) is
first_past_capped bound ns (Some k) is =
    (subst (λ (n : ℕ). k < n) (length-map ns capped) is.0, subst (λ (n : ℕ). n ≤ bound) (first_capped k ns) is.1, subst (λ (n : ℕ). bound < n) (first_capped (k + 1) ns) is.2)

-- A sum of numbers that were capped is the sum of the numbers.
pub sum_of_capped : (bound : ℕ) (found ns : List ℕ) (s : Sum) → found ≡ map capped ns → IsSum bound found s → IsSum bound ns s
sum_of_capped bound found ns s e is =
    let here = subst (λ (ms : List ℕ). IsSum bound ms s) e is in
    record { total = here.total ∙ sum_capped ns; passed = first_past_capped bound ns s.passed here.passed }

fold_rises : (ns : List ℕ) (a : ℕ) → a ≤ fold ◌+◌ a ns
fold_rises [] a = omega arith
fold_rises (n ∷ ns) a = let rest = fold_rises ns (a + n) in omega arith

fold_of_first : (k : ℕ) (ns : List ℕ) (a : ℕ) → fold ◌+◌ a (take k ns) ≤ fold ◌+◌ a ns
fold_of_first zero ns a = fold_rises ns a
fold_of_first (suc k) [] a = omega arith
fold_of_first (suc k) (n ∷ ns) a = fold_of_first k ns (a + n)

-- Where a running sum passes the bound, the whole sum does.
pub all_pass : (bound k : ℕ) (ns : List ℕ) → FirstPast bound ns (Some k) → bound < capped (sum ns)
all_pass bound k ns is = let part = fold_of_first (k + 1) ns 0 in let past = is.2 in omega (arith, part, past)
