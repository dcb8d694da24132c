-- Windows in the order of their beginnings, each with the greatest end up to it: the last that began tells whether a tick is in any.
use Rattle.std.proofs.Common.{◌≡◌, ℕ, zero, suc, ◌+◌, ◌-◌, ◌<◌, ◌≤◌, List, [], ◌∷◌, ◌++◌, Bool, true, false, ◌&&◌, ◌||◌, if◌then◌else◌, get_or, length, take, max, nat_le, nat_lt, slice_index_or, refl, sym, ◌∙◌, ap, subst, ⊎_elim, arith}
use Rattle.std.specs.List.{AllWithin, list_any}
use Rattle.std.specs.List.Sorted.{IsNonDecreasingBy, IsPartitionPoint}
use Rattle.std.proofs.lemmas.Bool.Decides.{nat_tests}
use Rattle.std.proofs.lemmas.Bool.{cases_eq}
use Rattle.std.proofs.lemmas.List.{get_or_append_left, get_or_push, length_push}
use Rattle.std.proofs.lemmas.List.Folds.{list_any-append, list_any_more, list_any_none}
use Rattle.lucid_conf.specs.declared.scene.Down.{Down}
use Rattle.lucid_net_spec.specs.Ways.{is_open}
use Rattle.lucid_net.specs.Windows.{Tells, holds, is_between, reaching, told}
use Rattle.lucid_net.specs.declared.windows.Span.{Span}

abbrev Rise : List Span → Type 0
Rise spans = IsNonDecreasingBy (λ s. s.from) spans

-- ---- what the greatest ends tell

or_none : (b : Bool) → (b || false) ≡ b
or_none true = refl
or_none false = refl

greatest : (t u v : ℕ) (any : Bool) → (nat_lt t (max v u) || any) ≡ (nat_lt t u || (nat_lt t v || any))
greatest t u v any = grind (arith, nat_tests)

not_begun : (t a b : ℕ) → nat_le a t ≡ false → a ≤ b → nat_le b t ≡ false
not_begun t a b late le = grind (arith, nat_tests)

behind : (s : Span) (spans : List Span) → Rise (s ∷ spans) → Rise spans
behind s spans rise i j none le lt = rise (suc i) (suc j) none (omega (arith, le)) (omega (arith, lt))

none_holds : (tick : ℕ) (s : Span) (spans : List Span) → Rise (s ∷ spans) → nat_le s.from tick ≡ false → list_any (holds tick) (s ∷ spans) ≡ false
none_holds tick s spans rise late = list_any_none (holds tick) (s ∷ spans) (λ k none lt.
    ap (λ (b : Bool). b && nat_lt tick (slice_index_or (s ∷ spans) k none).until)
    (not_begun tick s.from (slice_index_or (s ∷ spans) k none).from late (rise 0 k none (omega arith) lt)))

pub told_reaching : (tick until : ℕ) (spans : List Span) → Rise spans → told tick until (reaching until spans) ≡ (nat_lt tick until || list_any (holds tick) spans)
told_reaching tick until [] rise = sym (or_none (nat_lt tick until))
told_reaching tick until (s ∷ spans) rise = at (nat_le s.from tick) refl (told_reaching tick (max s.until until) spans (behind s spans rise))
  where
    rest : List Span
    rest = reaching (max s.until until) spans

    at : (b : Bool) → nat_le s.from tick ≡ b → told tick (max s.until until) rest ≡ (nat_lt tick (max s.until until) || list_any (holds tick) spans) →
        (if b then told tick (max s.until until) rest else nat_lt tick until) ≡ (nat_lt tick until || ((b && nat_lt tick s.until) || list_any (holds tick) spans))
    at true is tail = tail ∙ greatest tick until s.until (list_any (holds tick) spans)
    at false is tail =
        sym (or_none (nat_lt tick until))
        ∙ ap (λ (b : Bool). nat_lt tick until || b) (sym (none_holds tick s spans rise is) ∙ ap (λ (b : Bool). (b && nat_lt tick s.until) || list_any (holds tick) spans) is)

-- ---- they begin in the same order

length_reaching : (until : ℕ) (spans : List Span) → length (reaching until spans) ≡ length spans
length_reaching until [] = refl
length_reaching until (s ∷ spans) = ap suc (length_reaching (max s.until until) spans)

from_reaching : (until k : ℕ) (spans : List Span) (none : Span) → (slice_index_or (reaching until spans) k none).from ≡ (slice_index_or spans k none).from
from_reaching until k [] none = refl
from_reaching until zero (s ∷ spans) none = refl
from_reaching until (suc k) (s ∷ spans) none = from_reaching (max s.until until) k spans none

pub rise_reaching : (until : ℕ) (spans : List Span) → Rise spans → Rise (reaching until spans)
rise_reaching until spans rise i j none le lt =
    omega (arith, from_reaching until i spans none, from_reaching until j spans none, rise i j none le (omega (arith, lt, length_reaching until spans)))

-- ---- a search for the last that began

begun_none : (tick until : ℕ) (spans : List Span) → AllWithin (λ s. nat_le s.from tick ≡ false) spans 0 (length spans) → told tick until spans ≡ nat_lt tick until
begun_none tick until [] late = refl
begun_none tick until (s ∷ spans) late = ap (λ (b : Bool). if b then told tick s.until spans else nat_lt tick until) (late 0 s (omega arith) (omega arith))

pub begun_some : (tick until k : ℕ) (spans : List Span) (none : Span) → k < length spans →
    IsPartitionPoint (λ s. nat_le s.from tick ≡ true) (λ s. nat_le s.from tick ≡ false) spans (suc k) → told tick until spans ≡ nat_lt tick (slice_index_or spans k none).until
begun_some tick until k [] none within point = absurd (omega (arith, within))
begun_some tick until zero (s ∷ spans) none within point =
    ap (λ (b : Bool). if b then told tick s.until spans else nat_lt tick until) (point.0 0 s (omega arith) (omega arith))
    ∙ begun_none tick s.until spans (λ i d low high. point.1 (suc i) d (omega (arith, low)) (omega (arith, high)))
begun_some tick until (suc k) (s ∷ spans) none within point =
    ap (λ (b : Bool). if b then told tick s.until spans else nat_lt tick until) (point.0 0 s (omega arith) (omega arith))
    ∙ begun_some tick s.until k spans none (omega (arith, within)) (
      (λ i d low high. point.0 (suc i) d (omega (arith, low)) (omega (arith, high))),
      (λ i d low high. point.1 (suc i) d (omega (arith, low)) (omega (arith, high))),
    )

pub begun : (tick k : ℕ) (spans : List Span) (none : Span) → 0 < k → k ≤ length spans →
    IsPartitionPoint (λ s. nat_le s.from tick ≡ true) (λ s. nat_le s.from tick ≡ false) spans k → nat_lt tick (slice_index_or spans (k - 1) none).until ≡ told tick 0 spans
begun tick zero spans none some within point = absurd (omega (arith, some))
begun tick (suc k) spans none some within point =
    let last : suc k - 1 ≡ k = omega arith in
    ap (λ (n : ℕ). nat_lt tick (slice_index_or spans n none).until) last ∙ sym (begun_some tick 0 k spans none (omega (arith, within)) point)

never : (tick : ℕ) → nat_lt 0 0 ≡ nat_lt tick 0
never tick = grind (arith, nat_tests)

pub not_begun_yet : (tick k : ℕ) (spans : List Span) → k ≤ 0 →
    IsPartitionPoint (λ s. nat_le s.from tick ≡ true) (λ s. nat_le s.from tick ≡ false) spans k → nat_lt 0 k ≡ told tick 0 spans
not_begun_yet tick zero spans none point = never tick ∙ sym (begun_none tick 0 spans point.1)
not_begun_yet tick (suc k) spans none point = absurd (omega (arith, none))

-- ---- what a row tells

pub settled : (down : List Down) (a b : ℕ) (found sorted : List Span) → ((tick : ℕ) → list_any (holds tick) found ≡ list_any (is_open a b tick) down) →
    Rise sorted → ((tick : ℕ) → list_any (holds tick) sorted ≡ list_any (holds tick) found) → Tells down a b (reaching 0 sorted)
settled down a b found sorted of rise same = record {
  rise = rise_reaching 0 sorted rise;
  tells = λ tick.
      told_reaching tick 0 sorted rise
      ∙ ap (λ (t : Bool). t || list_any (holds tick) sorted) (sym (never tick))
      ∙ same tick
      ∙ of tick;
}

-- ---- one more of a row

pub one_more : {X : Type 0} (P : ℕ → X → Type 0) (xs : List X) (x : X) → ((k : ℕ) (none : X) → k < length xs → P k (slice_index_or xs k none)) → P (length xs) x →
    (k : ℕ) (none : X) → k < length (xs ++ x ∷ []) → P k (slice_index_or (xs ++ x ∷ []) k none)
one_more P xs x before last k none lt = ⊎_elim
    (λ e. subst (P k) (sym (get_or_push xs x none k (sym e))) (subst (λ n. P n x) (sym e) last))
    (λ other. let low : k < length xs = omega (arith, lt, other, length_push xs x) in subst (P k) (sym (get_or_append_left xs (x ∷ []) none k low)) (before k none low))
    (cases_eq k (length xs))

-- ---- the windows of two switches, one after another

-- A window of the two is added.
pub found_more : (down : List Down) (a b i : ℕ) (spans new : List Span) (none : Down) → i < length down → is_between a b (get_or down i none) ≡ true →
    ((tick : ℕ) → list_any (holds tick) spans ≡ list_any (is_open a b tick) (take i down)) → new ≡ spans ++ record { from = (get_or down i none).from; until = (get_or down i none).until } ∷ [] →
    (tick : ℕ) → list_any (holds tick) new ≡ list_any (is_open a b tick) (take (i + 1) down)
found_more down a b i spans new none lt is so put tick =
    let s : Span = record { from = (get_or down i none).from; until = (get_or down i none).until } in
    let before : Bool = list_any (is_open a b tick) (take i down) in
    ap (list_any (holds tick)) put
    ∙ list_any-append (holds tick) spans (s ∷ [])
    ∙ ap (λ (t : Bool). t || (holds tick s || false)) (so tick)
    ∙ ap (λ (t : Bool). before || t) (or_none (holds tick s) ∙ sym (ap (λ (t : Bool). t && holds tick s) is))
    ∙ sym (list_any_more (is_open a b tick) down i none lt)

-- Another window changes nothing.
pub found_same : (down : List Down) (a b i : ℕ) (spans : List Span) (none : Down) → i < length down → is_between a b (get_or down i none) ≡ false →
    ((tick : ℕ) → list_any (holds tick) spans ≡ list_any (is_open a b tick) (take i down)) →
    (tick : ℕ) → list_any (holds tick) spans ≡ list_any (is_open a b tick) (take (i + 1) down)
found_same down a b i spans none lt is so tick =
    let w : Down = get_or down i none in
    let before : Bool = list_any (is_open a b tick) (take i down) in
    so tick
    ∙ sym (list_any_more (is_open a b tick) down i none lt ∙ ap (λ (t : Bool). before || (t && (nat_le w.from tick && nat_lt tick w.until))) is ∙ or_none before)
