-- A snapshot follows a pipe.
use Rattle.std.proofs.Common.{◌≡◌, ℕ, zero, suc, ◌+◌, ◌-◌, ◌<◌, ◌≤◌, List, [], ◌∷◌, Option, None, Some, Bool, true, false, if◌then◌else◌, get_or, length, nat_eq, nat_lt, slice_get, slice_set, refl, sym, ◌∙◌, ap, ap₂, subst, ⊎_elim, length-set, arith}
use Rattle.std.proofs.lemmas.Bool.{cases_lt, le-ltb, eq-eqb, ne_eqb}
use Rattle.std.proofs.lemmas.List.{set_past}
use Rattle.std.proofs.lemmas.List.Quantifiers.{position-Some}
use Rattle.std.proofs.lemmas.Option.{slice_get_within}
use Rattle.std.specs.List.{AllByRecursion}
use Rattle.std.specs.Option.{option_and_then, option_map_or}
use Rattle.lucid_base.specs.Cells.{row_of, zero_cells}
use Rattle.lucid_code.specs.Parts.{CodeParts}
use Rattle.lucid_tables.specs.declared.stage.StageCode.{StageCode}
use Rattle.lucid_tables.specs.Laws.{KeepsToItsArrays}
use Rattle.lucid_tables.specs.Numbers.{is_in, none_shared}
use Rattle.lucid_tables.specs.Placed.{IsPlaced, PlacedParts, stage_of}
use Rattle.lucid_tables.specs.Stages.{stage}
use Rattle.lucid_pipe.specs.Laws.{MovesKeep}
use Rattle.lucid_pipe.specs.Packets.{Packet, left_by, meets}
use Rattle.lucid_pipe.specs.Pipe.{PipeParts, comes_out, executed, gone, packet_at, sizes}
use Rattle.lucid_pipe.specs.Settled.{Settled, settled, settled_from, with_left}
use Rattle.lucid_pipe.specs.declared.passed.Passed.{Passed}
use Rattle.lucid_pipe.proofs.Beside.{Cells, IsApart, by_test, first_apart, rest_apart, settled_beside, settled_leaves}
use Rattle.lucid_pipe.proofs.Settles.{there_free, there_full}
use Rattle.lucid_snap.specs.Snap.{free_first, left_by_oldest, many, oldest}
use Rattle.lucid_snap.proofs.Oldest.{Slots, free_left, free_moved, free_past, many_left, many_moved, none_old, old_leaves, old_moves, oldest_has, oldest_long, oldest_none, young_leaves, young_moves}

-- What every placed code keeps, and every pipe.
pub record Fixed (placed : PlacedParts) : Type 0 where
  pub keep : MovesKeep placed
  pub is_placed : IsPlaced placed.code placed.stages
  pub arrays : AllByRecursion (KeepsToItsArrays placed.code) placed.stages

pub record Facts (pipe : PipeParts) : Type 0 where
  pub fixed : Fixed pipe.placed
  pub idle : (g : ℕ) → stage_of pipe.placed.stages g ≡ None → row_of pipe.cells g ≡ row_of (zero_cells pipe.placed.code.arrays) g
  pub sized : sizes pipe.cells ≡ sizes (zero_cells pipe.placed.code.arrays)
  pub long : length pipe.slots ≡ length pipe.placed.stages

abbrev pub no_stage : StageCode
no_stage = record { tables = []; arrays = [] }

abbrev pub stage_at : List StageCode → ℕ → StageCode
stage_at stages k = get_or stages k no_stage

abbrev Apart : List StageCode → Type 0
Apart stages = none_shared (λ (t : StageCode). t.arrays) stages ≡ true

false_true : false ≡ true → ⊥
false_true e = cc

-- ---- an array stands in one stage

apart_at : (s : StageCode) (stages : List StageCode) (g k : ℕ) → AllByRecursion (IsApart s) stages → is_in g s.arrays ≡ true → is_in g (stage_at stages k).arrays ≡ false
apart_at s [] g k apart i = refl
apart_at s (t ∷ stages) g zero apart i = apart.0 g i
apart_at s (t ∷ stages) g (suc k) apart i = apart_at s stages g k apart.1 i

only_stage : (stages : List StageCode) (g j k : ℕ) → Apart stages → is_in g (stage_at stages j).arrays ≡ true → is_in g (stage_at stages k).arrays ≡ true → j ≡ k
only_stage [] g j k apart here there = absurd (false_true here)
only_stage (s ∷ stages) g zero zero apart here there = refl
only_stage (s ∷ stages) g zero (suc k) apart here there = absurd (false_true (sym (apart_at s stages g k (first_apart s stages apart) here) ∙ there))
only_stage (s ∷ stages) g (suc j) zero apart here there = absurd (false_true (sym (apart_at s stages g j (first_apart s stages apart) there) ∙ here))
only_stage (s ∷ stages) g (suc j) (suc k) apart here there = ap suc (only_stage stages g j k (rest_apart s stages apart) here there)

pub not_there : (stages : List StageCode) (g j k : ℕ) → Apart stages → stage_of stages g ≡ Some j → ((j ≡ k) → ⊥) → is_in g (stage_at stages k).arrays ≡ false
not_there stages g j k apart found other =
    by_test (is_in g (stage_at stages k).arrays) (is_in g (stage_at stages k).arrays ≡ false)
    (λ i. absurd (other (only_stage stages g j k apart (position-Some (λ (s : StageCode). is_in g s.arrays) stages j no_stage found).1 i))) (λ e. e)

module _ (code : CodeParts) where
  -- a stage that no packet has still to execute is left alone
  pub untouched : (stages : List StageCode) (slots : Slots) (cells : Cells) (k g : ℕ) → AllByRecursion (KeepsToItsArrays code) stages → Apart stages → k < free_first slots → is_in g (stage_at stages k).arrays ≡ true →
      row_of (settled_from code stages slots cells).cells g ≡ row_of cells g
  untouched [] slots cells k g keeps apart lt i = refl
  untouched (s ∷ stages) [] cells k g keeps apart lt i = refl
  untouched (s ∷ stages) (Some p ∷ slots) cells k g keeps apart lt i = absurd (omega (arith, lt))
  untouched (s ∷ stages) (None ∷ slots) cells zero g keeps apart lt i = settled_leaves code s stages slots cells g keeps.1 (first_apart s stages apart) i
  untouched (s ∷ stages) (None ∷ slots) cells (suc k) g keeps apart lt i = untouched stages slots cells k g keeps.1 (rest_apart s stages apart) (omega (arith, lt)) i

  -- what only such a stage does, the others don't see
  pub beside_at : (stages : List StageCode) (slots : Slots) (c d : Cells) (k g : ℕ) → AllByRecursion (KeepsToItsArrays code) stages → Apart stages → k < free_first slots →
      ((h : ℕ) → is_in h (stage_at stages k).arrays ≡ false → row_of d h ≡ row_of c h) → is_in g (stage_at stages k).arrays ≡ false → row_of (settled_from code stages slots d).cells g ≡ row_of (settled_from code stages slots c).cells g
  beside_at [] slots c d k g keeps apart lt out off = out g off
  beside_at (s ∷ stages) [] c d k g keeps apart lt out off = out g off
  beside_at (s ∷ stages) (Some p ∷ slots) c d k g keeps apart lt out off = absurd (omega (arith, lt))
  beside_at (s ∷ stages) (None ∷ slots) c d zero g keeps apart lt out off = (settled_beside code s stages slots c d keeps.1 (first_apart s stages apart) out).1 g off
  beside_at (s ∷ stages) (None ∷ slots) c d (suc k) g keeps apart lt out off = beside_at stages slots c d k g keeps.1 (rest_apart s stages apart) (omega (arith, lt)) out off

  made_others : (stages : List StageCode) (cells : Cells) (k g : ℕ) (p : Packet) → AllByRecursion (KeepsToItsArrays code) stages → is_in g (stage_at stages k).arrays ≡ false →
      row_of (option_map_or (stage code (meets cells p)) (slice_get stages k) (meets cells p)).cells g ≡ row_of cells g
  made_others [] cells k g p keeps off = refl
  made_others (s ∷ stages) cells zero g p keeps off = keeps.0.others (meets cells p) g off
  made_others (s ∷ stages) cells (suc k) g p keeps off = made_others stages cells k g p keeps.1 off

pub with_left_cells : (o : Option Passed) (s : Settled) → (with_left o s).cells ≡ s.cells
with_left_cells None s = refl
with_left_cells (Some x) s = refl

past_none : (slots : Slots) (i : ℕ) → length slots ≤ i → option_and_then (λ slot. slot) (slice_get slots i) ≡ None
past_none [] i le = refl
past_none (x ∷ slots) zero le = absurd (omega (arith, le))
past_none (x ∷ slots) (suc i) le = past_none slots i (omega (arith, le))

-- how many it waits for once the packet in slot k of so many moved
abbrev pub fewer : ℕ → ℕ → ℕ → ℕ
fewer n k count = if nat_eq (k + 1) count then n - 1 else n

module _ (pipe : PipeParts) (k : ℕ) (p : Packet) (n : ℕ) (facts : Fixed pipe.placed) (long : length pipe.slots ≡ length pipe.placed.stages) (here : packet_at pipe k ≡ Some p) (next : packet_at pipe (k + 1) ≡ None) where
  abbrev slots : Slots
  slots = pipe.slots

  abbrev later : Slots
  later = (gone pipe k p).slots

  abbrev q : Packet
  q = left_by (executed pipe k p) p

  abbrev old_later : ℕ
  old_later = fewer n k (length slots)

  full : slice_get slots k ≡ Some (Some p)
  full = there_full slots k p here

  below : k < length slots
  below = slice_get_within slots k (Some p) full

  more : k + 1 ≡ suc k
  more = omega arith

  free_on : k + 1 < length slots → slice_get slots (suc k) ≡ Some None
  free_on lt = there_free slots (suc k) (omega (arith, lt)) (subst (λ (i : ℕ). packet_at pipe i ≡ None) more next)

  later_on : later ≡ slice_set (slice_set slots k None) (suc k) (Some q)
  later_on = ap (λ (i : ℕ). slice_set (slice_set slots k None) i (Some q)) more

  later_end : length slots ≤ k + 1 → later ≡ slice_set slots k None
  later_end le = set_past (slice_set slots k None) (k + 1) (Some q) (omega (arith, le, length-set slots k None))

  same_on : k + 1 < length slots → old_later ≡ n
  same_on lt = ap (λ (b : Bool). if b then n - 1 else n) (ne_eqb (k + 1) (length slots) (λ e. omega (arith, lt, e)))

  one_less : length slots ≤ k + 1 → old_later ≡ n - 1
  one_less le = ap (λ (b : Bool). if b then n - 1 else n) (eq-eqb (k + 1) (length slots) (omega (arith, le, below)))

  -- as many are still there
  pub enough : n ≤ many slots → old_later ≤ many later
  enough le = ⊎_elim
      (λ lt. subst (λ (m : ℕ). m ≤ many later) (sym (same_on lt)) (subst (λ (l : Slots). n ≤ many l) (sym later_on) (subst (λ (m : ℕ). n ≤ m) (sym (many_moved slots k p q full (free_on lt))) le)))
      (λ ge. subst (λ (m : ℕ). m ≤ many later) (sym (one_less ge)) (subst (λ (l : Slots). n - 1 ≤ many l) (sym (later_end ge)) (omega (arith, le, many_left slots k p full))))
      (cases_lt (k + 1) (length slots))

  -- a younger packet moved
  module _ (young : k < free_first (oldest n slots)) where
    pub young_same : oldest old_later later ≡ oldest n slots
    young_same = ⊎_elim
        (λ lt. ap₂ (λ (m : ℕ) (l : Slots). oldest m l) (same_on lt) later_on ∙ young_moves n slots k p q full (free_on lt) young)
        (λ ge. let none : n ≡ 0 = young_leaves n slots k p full (omega (arith, ge, below)) young in
        ap₂ (λ (m : ℕ) (l : Slots). oldest m l) (one_less ge ∙ less none ∙ sym none) (later_end ge) ∙ all_same none)
        (cases_lt (k + 1) (length slots))
      where
        less : n ≡ 0 → n - 1 ≡ 0
        less e = omega (arith, e)

        none_set : (l : Slots) (i : ℕ) → oldest 0 (slice_set l i None) ≡ oldest 0 l
        none_set [] i = refl
        none_set (x ∷ l) zero = ap (λ (y : Option Packet). y ∷ oldest 0 l) (gone_none (many l) None ∙ sym (gone_none (many l) x))
          where
            gone_none : (m : ℕ) (y : Option Packet) → (if nat_lt m 0 then y else None) ≡ None
            gone_none m y = ap (λ (b : Bool). if b then y else None) (le-ltb m 0 (omega arith))
        none_set (x ∷ l) (suc i) = ap₂ (λ (y : Option Packet) (r : Slots). y ∷ r) (gone_none (many (slice_set l i None)) x ∙ sym (gone_none (many l) x)) (none_set l i)
          where
            gone_none : (m : ℕ) (y : Option Packet) → (if nat_lt m 0 then y else None) ≡ None
            gone_none m y = ap (λ (b : Bool). if b then y else None) (le-ltb m 0 (omega arith))

        all_same : n ≡ 0 → oldest n (slice_set slots k None) ≡ oldest n slots
        all_same e = subst (λ (m : ℕ). oldest m (slice_set slots k None) ≡ oldest m slots) (sym e) (none_set slots k)

    pub young_others : (g : ℕ) → is_in g (stage_at pipe.placed.stages k).arrays ≡ false → row_of (left_by_oldest (gone pipe k p) old_later) g ≡ row_of (left_by_oldest pipe n) g
    young_others g off =
        ap (λ (l : Slots). row_of (settled_from pipe.placed.code pipe.placed.stages l (executed pipe k p).cells).cells g) young_same
        ∙ beside_at pipe.placed.code pipe.placed.stages (oldest n slots) pipe.cells (executed pipe k p).cells k g facts.arrays facts.is_placed.in_one_stage young (λ h o. made_others pipe.placed.code pipe.placed.stages pipe.cells k h p facts.arrays o) off

  -- one of the oldest moved
  module _ (some : free_first (oldest n slots) ≤ k) where
    has : slice_get (oldest n slots) k ≡ Some (Some p)
    has = oldest_has n slots k p full some

    abbrev alone : PipeParts
    alone = record pipe { slots = oldest n slots }

    n_some : 0 < n
    n_some = ⊎_elim (λ lt. lt) (λ le. absurd (omega (arith, some, below, none_is le))) (cases_lt 0 n)
      where
        none_is : n ≤ 0 → free_first (oldest n slots) ≡ length slots
        none_is le = let none : n ≡ 0 = omega (arith, le) in ap (λ (m : ℕ). free_first (oldest m slots)) none ∙ none_old slots

    pub old_same : oldest old_later later ≡ (gone alone k p).slots
    old_same = ⊎_elim
        (λ lt. ap₂ (λ (m : ℕ) (l : Slots). oldest m l) (same_on lt) later_on ∙ old_moves n slots k p q full (free_on lt) has ∙ ap (λ (i : ℕ). slice_set (slice_set (oldest n slots) k None) i (Some q)) (sym more))
        (λ ge. ap₂ (λ (m : ℕ) (l : Slots). oldest m l) (one_less ge) (later_end ge) ∙ old_leaves n slots k p full (omega (arith, ge, below)) n_some
        ∙ sym (set_past (slice_set (oldest n slots) k None) (k + 1) (Some q) (omega (arith, ge, length-set (oldest n slots) k None, oldest_long n slots))))
        (cases_lt (k + 1) (length slots))

    next_alone : packet_at alone (k + 1) ≡ None
    next_alone = ⊎_elim
        (λ lt. ap (λ (i : ℕ). packet_at alone i) more ∙ ap (λ (o : Option (Option Packet)). option_and_then (λ slot. slot) o) (oldest_none n slots (suc k) (free_on lt)))
        (λ ge. past_none (oldest n slots) (k + 1) (omega (arith, ge, oldest_long n slots)))
        (cases_lt (k + 1) (length slots))

    pub old_settles : left_by_oldest (gone pipe k p) old_later ≡ left_by_oldest pipe n
    old_settles =
        ap (λ (l : Slots). (settled_from pipe.placed.code pipe.placed.stages l (executed pipe k p).cells).cells) old_same
        ∙ sym (ap (λ (s : Settled). s.cells) (facts.keep.go alone k p refl (oldest_long n slots ∙ long) (ap (λ (o : Option (Option Packet)). option_and_then (λ slot. slot) o) has) next_alone)
        ∙ with_left_cells (comes_out alone k p) (settled (gone alone k p)))

    pub first_free : free_first (oldest n slots) ≡ k → free_first (oldest old_later later) ≡ suc k
    first_free is = ap free_first old_same ∙ ⊎_elim
        (λ lt. ap (λ (i : ℕ). free_first (slice_set (slice_set (oldest n slots) k None) i (Some q))) more ∙ free_moved (oldest n slots) k q (omega (arith, lt, oldest_long n slots)) is)
        (λ ge. ap free_first (set_past (slice_set (oldest n slots) k None) (k + 1) (Some q) (omega (arith, ge, length-set (oldest n slots) k None, oldest_long n slots))) ∙ free_left (oldest n slots) k (omega (arith, ge, below, oldest_long n slots)) is)
        (cases_lt (k + 1) (length slots))

    pub past_free : free_first (oldest n slots) < k → free_first (oldest old_later later) ≡ free_first (oldest n slots)
    past_free lt = ap free_first old_same ∙ ap (λ (i : ℕ). free_first (slice_set (slice_set (oldest n slots) k None) i (Some q))) more ∙ free_past (oldest n slots) k None (Some q) lt
