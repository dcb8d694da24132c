-- The oldest packets, as packets move.
use Rattle.std.proofs.Common.{◌≡◌, ℕ, zero, suc, ◌-◌, ◌<◌, ◌≤◌, List, [], ◌∷◌, Option, None, Some, Bool, true, false, if◌then◌else◌, length, nat_lt, slice_get, slice_set, refl, sym, ◌∙◌, ap, ap₂, subst, ⊎_elim, arith}
use Rattle.std.proofs.lemmas.Bool.{cases_lt, le-ltb, lt-ltb}
use Rattle.std.proofs.lemmas.Bool.Decides.{nat_tests}
use Rattle.lucid_pipe.specs.Packets.{Packet}
use Rattle.lucid_snap.specs.Snap.{many, oldest, free_first}

abbrev pub Slots : Type 0
Slots = List (Option Packet)

abbrev choose : Bool → Option Packet → Option Packet
choose b x = if b then x else None

choose_none : (b : Bool) → choose b None ≡ None
choose_none true = refl
choose_none false = refl

some_inj : (a b : Option Packet) → Some a ≡ Some b → a ≡ b
some_inj a b e = cc

false_true : false ≡ true → ⊥
false_true e = cc

-- as many as there are: all
pub oldest_all : (n : ℕ) (slots : Slots) → many slots ≤ n → oldest n slots ≡ slots
oldest_all n [] le = refl
oldest_all n (None ∷ slots) le = ap₂ (λ (x : Option Packet) (xs : Slots). x ∷ xs) (choose_none (nat_lt (many slots) n)) (oldest_all n slots le)
oldest_all n (Some p ∷ slots) le = ap₂ (λ (x : Option Packet) (xs : Slots). x ∷ xs) (ap (λ (b : Bool). choose b (Some p)) (lt-ltb (many slots) n (omega (arith, le)))) (oldest_all n slots (omega (arith, le)))

pub oldest_long : (n : ℕ) (slots : Slots) → length (oldest n slots) ≡ length slots
oldest_long n [] = refl
oldest_long n (x ∷ slots) = ap suc (oldest_long n slots)

-- where none stands, none of the oldest stands
pub oldest_none : (n : ℕ) (slots : Slots) (k : ℕ) → slice_get slots k ≡ Some None → slice_get (oldest n slots) k ≡ Some None
oldest_none n [] k e = cc
oldest_none n (x ∷ slots) zero e = let none : x ≡ None = some_inj x None e in ap (λ (y : Option Packet). Some (choose (nat_lt (many slots) n) y)) none ∙ ap (λ (y : Option Packet). Some y) (choose_none (nat_lt (many slots) n))
oldest_none n (x ∷ slots) (suc k) e = oldest_none n slots k e

-- a packet that no stage of the free ones is before is one of the oldest
pub oldest_has : (n : ℕ) (slots : Slots) (k : ℕ) (p : Packet) → slice_get slots k ≡ Some (Some p) → free_first (oldest n slots) ≤ k → slice_get (oldest n slots) k ≡ Some (Some p)
oldest_has n [] k p e le = cc
oldest_has n (x ∷ slots) k p e le = by (λ j f l. oldest_has n slots j p f l) (nat_lt (many slots) n) refl k x e le
  where
    by : ((j : ℕ) → slice_get slots j ≡ Some (Some p) → free_first (oldest n slots) ≤ j → slice_get (oldest n slots) j ≡ Some (Some p)) →
        (b : Bool) → nat_lt (many slots) n ≡ b → (k : ℕ) (x : Option Packet) → slice_get (x ∷ slots) k ≡ Some (Some p) → free_first (choose b x ∷ oldest n slots) ≤ k → slice_get (choose b x ∷ oldest n slots) k ≡ Some (Some p)
    by again true f zero x e le = e
    by again true f (suc k) x e le = ap (λ (l : Slots). slice_get l k) (oldest_all n slots (omega (arith, below (many slots) n f))) ∙ e
      where
        below : (a b : ℕ) → nat_lt a b ≡ true → a < b
        below a b is = grind (arith, nat_tests)
    by again false f zero x e le = absurd (omega (arith, le))
    by again false f (suc k) x e le = again k e (omega (arith, le))

-- ---- counts

pub many_moved : (slots : Slots) (k : ℕ) (p q : Packet) → slice_get slots k ≡ Some (Some p) → slice_get slots (suc k) ≡ Some None → many (slice_set (slice_set slots k None) (suc k) (Some q)) ≡ many slots
many_moved [] k p q here next = cc
many_moved (x ∷ []) zero p q here next = cc
many_moved (x ∷ y ∷ slots) zero p q here next =
    ap₂ (λ (a b : Option Packet). many (a ∷ b ∷ slots)) (sym (some_inj x (Some p) here)) (sym (some_inj y None next))
many_moved (None ∷ slots) (suc k) p q here next = many_moved slots k p q here next
many_moved (Some r ∷ slots) (suc k) p q here next = ap suc (many_moved slots k p q here next)

pub many_left : (slots : Slots) (k : ℕ) (p : Packet) → slice_get slots k ≡ Some (Some p) → many slots ≡ suc (many (slice_set slots k None))
many_left [] k p here = cc
many_left (x ∷ slots) zero p here = ap (λ (a : Option Packet). many (a ∷ slots)) (some_inj x (Some p) here)
many_left (None ∷ slots) (suc k) p here = many_left slots k p here
many_left (Some r ∷ slots) (suc k) p here = ap suc (many_left slots k p here)

-- ---- one of the oldest moves

pub old_moves : (n : ℕ) (slots : Slots) (k : ℕ) (p q : Packet) → slice_get slots k ≡ Some (Some p) → slice_get slots (suc k) ≡ Some None → slice_get (oldest n slots) k ≡ Some (Some p) →
    oldest n (slice_set (slice_set slots k None) (suc k) (Some q)) ≡ slice_set (slice_set (oldest n slots) k None) (suc k) (Some q)
old_moves n [] k p q here next old = cc
old_moves n (x ∷ []) zero p q here next old = cc
old_moves n (x ∷ y ∷ slots) zero p q here next old =
    let none : y ≡ None = some_inj y None next in
    let is_none : many (y ∷ slots) ≡ many slots = ap (λ (a : Option Packet). many (a ∷ slots)) none in
    ap₂ (λ (a b : Option Packet). a ∷ b ∷ oldest n slots) (choose_none (nat_lt (suc (many slots)) n)) (ap (λ (b : Bool). choose b (Some q)) (by (nat_lt (many (y ∷ slots)) n) refl old is_none))
  where
    by : (b : Bool) → nat_lt (many (y ∷ slots)) n ≡ b → Some (choose b x) ≡ Some (Some p) → many (y ∷ slots) ≡ many slots → nat_lt (many slots) n ≡ true
    by true f old same = ap (λ (m : ℕ). nat_lt m n) (sym same) ∙ f
    by false f old same = cc
old_moves n (x ∷ slots) (suc k) p q here next old =
    ap₂ (λ (m : ℕ) (l : Slots). choose (nat_lt m n) x ∷ l) (many_moved slots k p q here next) (old_moves n slots k p q here next old)

pub old_leaves : (n : ℕ) (slots : Slots) (k : ℕ) (p : Packet) → slice_get slots k ≡ Some (Some p) → suc k ≡ length slots → 0 < n →
    oldest (n - 1) (slice_set slots k None) ≡ slice_set (oldest n slots) k None
old_leaves n [] k p here end some = cc
old_leaves n (x ∷ []) zero p here end some = ap (λ (a : Option Packet). a ∷ []) (choose_none (nat_lt 0 (n - 1)))
old_leaves n (x ∷ y ∷ slots) zero p here end some = cc
old_leaves n (x ∷ slots) (suc k) p here end some =
    ap₂ (λ (b : Bool) (l : Slots). choose b x ∷ l) (fewer (many (slice_set slots k None)) (many slots) (many_left slots k p here)) (old_leaves n slots k p here (omega (arith, end)) some)
  where
    fewer : (a b : ℕ) → b ≡ suc a → nat_lt a (n - 1) ≡ nat_lt b n
    fewer a b e = ⊎_elim (λ lt. lt-ltb a (n - 1) lt ∙ sym (lt-ltb b n (omega (arith, e, lt)))) (λ le. le-ltb a (n - 1) le ∙ sym (le-ltb b n (omega (arith, e, le, some)))) (cases_lt a (n - 1))

-- ---- a younger one moves

pub young_moves : (n : ℕ) (slots : Slots) (k : ℕ) (p q : Packet) → slice_get slots k ≡ Some (Some p) → slice_get slots (suc k) ≡ Some None → k < free_first (oldest n slots) →
    oldest n (slice_set (slice_set slots k None) (suc k) (Some q)) ≡ oldest n slots
young_moves n [] k p q here next lt = cc
young_moves n (x ∷ []) zero p q here next lt = cc
young_moves n (x ∷ y ∷ slots) zero p q here next lt =
    let none : y ≡ None = some_inj y None next in
    let full : x ≡ Some p = some_inj x (Some p) here in
    let is_none : many (y ∷ slots) ≡ many slots = ap (λ (a : Option Packet). many (a ∷ slots)) none in
    let free : nat_lt (many slots) n ≡ false = by (nat_lt (many (y ∷ slots)) n) refl (subst (λ (a : Option Packet). 0 < free_first (choose (nat_lt (many (y ∷ slots)) n) a ∷ choose (nat_lt (many slots) n) y ∷ oldest n slots)) full lt) is_none in
    ap₂ (λ (a b : Option Packet). a ∷ b ∷ oldest n slots) (choose_none (nat_lt (suc (many slots)) n)) (ap (λ (b : Bool). choose b (Some q)) free)
    ∙ sym (ap₂ (λ (a b : Option Packet). a ∷ b ∷ oldest n slots) (ap (λ (b : Bool). choose b x) (ap (λ (m : ℕ). nat_lt m n) is_none ∙ free)) (ap (λ (a : Option Packet). choose (nat_lt (many slots) n) a) none ∙ choose_none (nat_lt (many slots) n)))
  where
    by : (b : Bool) → nat_lt (many (y ∷ slots)) n ≡ b → 0 < free_first (choose b (Some p) ∷ choose (nat_lt (many slots) n) y ∷ oldest n slots) → many (y ∷ slots) ≡ many slots → nat_lt (many slots) n ≡ false
    by true f lt same = absurd (omega (arith, lt))
    by false f lt same = ap (λ (m : ℕ). nat_lt m n) (sym same) ∙ f
young_moves n (x ∷ slots) (suc k) p q here next lt =
    ap₂ (λ (m : ℕ) (l : Slots). choose (nat_lt m n) x ∷ l) (many_moved slots k p q here next) (young_moves n slots k p q here next (rest (choose (nat_lt (many slots) n) x) lt))
  where
    rest : (a : Option Packet) → suc k < free_first (a ∷ oldest n slots) → k < free_first (oldest n slots)
    rest None lt = omega (arith, lt)
    rest (Some r) lt = absurd (omega (arith, lt))

-- the packet that leaves is the oldest: a younger one leaves only where the snapshot waits for none
pub young_leaves : (n : ℕ) (slots : Slots) (k : ℕ) (p : Packet) → slice_get slots k ≡ Some (Some p) → suc k ≡ length slots → k < free_first (oldest n slots) → n ≡ 0
young_leaves n [] k p here end lt = cc
young_leaves n (x ∷ []) zero p here end lt = by (nat_lt 0 n) refl (subst (λ (a : Option Packet). 0 < free_first (choose (nat_lt 0 n) a ∷ [])) (some_inj x (Some p) here) lt)
  where
    none : (a : ℕ) → nat_lt 0 a ≡ false → a ≡ 0
    none a f = grind (arith, nat_tests)

    by : (b : Bool) → nat_lt 0 n ≡ b → 0 < free_first (choose b (Some p) ∷ []) → n ≡ 0
    by true f lt = absurd (omega (arith, lt))
    by false f lt = none n f
young_leaves n (x ∷ y ∷ slots) zero p here end lt = cc
young_leaves n (x ∷ slots) (suc k) p here end lt = young_leaves n slots k p here (omega (arith, end)) (rest (choose (nat_lt (many slots) n) x) lt)
  where
    rest : (a : Option Packet) → suc k < free_first (a ∷ oldest n slots) → k < free_first (oldest n slots)
    rest None lt = omega (arith, lt)
    rest (Some r) lt = absurd (omega (arith, lt))

pub none_old : (slots : Slots) → free_first (oldest 0 slots) ≡ length slots
none_old [] = refl
none_old (x ∷ slots) = ap (λ (b : Bool). free_first (choose b x ∷ oldest 0 slots)) (le-ltb (many slots) 0 (omega arith)) ∙ ap suc (none_old slots)

-- ---- how many stages are free

-- the first packet moves
pub free_moved : (slots : Slots) (k : ℕ) (q : Packet) → suc k < length slots → free_first slots ≡ k → free_first (slice_set (slice_set slots k None) (suc k) (Some q)) ≡ suc k
free_moved [] k q lt is = absurd (omega (arith, lt))
free_moved (x ∷ []) zero q lt is = absurd (omega (arith, lt))
free_moved (x ∷ y ∷ slots) zero q lt is = refl
free_moved (None ∷ slots) (suc k) q lt is = ap suc (free_moved slots k q (omega (arith, lt)) (omega (arith, is)))
free_moved (Some r ∷ slots) (suc k) q lt is = absurd (omega (arith, is))

pub free_left : (slots : Slots) (k : ℕ) → suc k ≡ length slots → free_first slots ≡ k → free_first (slice_set slots k None) ≡ suc k
free_left [] k end is = absurd (omega (arith, end))
free_left (x ∷ []) zero end is = refl
free_left (x ∷ y ∷ slots) zero end is = absurd (omega (arith, end))
free_left (None ∷ slots) (suc k) end is = ap suc (free_left slots k (omega (arith, end)) (omega (arith, is)))
free_left (Some r ∷ slots) (suc k) end is = absurd (omega (arith, is))

-- another one moves
pub free_past : (slots : Slots) (k : ℕ) (a b : Option Packet) → free_first slots < k → free_first (slice_set (slice_set slots k a) (suc k) b) ≡ free_first slots
free_past [] k a b lt = refl
free_past (x ∷ slots) zero a b lt = absurd (omega (arith, lt))
free_past (None ∷ slots) (suc k) a b lt = ap suc (free_past slots k a b (omega (arith, lt)))
free_past (Some r ∷ slots) (suc k) a b lt = refl

pub free_past_left : (slots : Slots) (k : ℕ) (a : Option Packet) → free_first slots < k → free_first (slice_set slots k a) ≡ free_first slots
free_past_left [] k a lt = refl
free_past_left (x ∷ slots) zero a lt = absurd (omega (arith, lt))
free_past_left (None ∷ slots) (suc k) a lt = ap suc (free_past_left slots k a (omega (arith, lt)))
free_past_left (Some r ∷ slots) (suc k) a lt = refl

-- an event enters
pub oldest_enters : (n : ℕ) (slots : Slots) (q : Packet) → slice_get slots 0 ≡ Some None → n ≤ many slots → (oldest n (slice_set slots 0 (Some q)) ≡ oldest n slots) × (n ≤ many (slice_set slots 0 (Some q)))
oldest_enters n [] q here le = cc
oldest_enters n (Some p ∷ slots) q here le = cc
oldest_enters n (None ∷ slots) q here le = (ap (λ (a : Option Packet). a ∷ oldest n slots) (ap (λ (b : Bool). choose b (Some q)) (le-ltb (many slots) n le) ∙ sym (choose_none (nat_lt (many slots) n))), omega (arith, le))
