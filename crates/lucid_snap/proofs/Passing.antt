-- The calls of a snapshot keep that it follows its pipe.
use Rattle.std.proofs.Common.{◌≡◌, ℕ, zero, suc, ◌+◌, ◌<◌, ◌≤◌, List, [], ◌∷◌, Option, None, Some, Bool, true, false, ◌&&◌, ◌⊎◌, inl, inr, if◌then◌else◌, length, nat_eq, slice_index_or, slice_set, refl, sym, ◌∙◌, ap, subst, ⊎_elim, length-set, arith}
use Rattle.std.proofs.lemmas.Bool.{cases_lt, eq-eqb, ne_eqb}
use Rattle.std.proofs.lemmas.List.{length-map}
use Rattle.std.proofs.lemmas.List.Quantifiers.{position-Some}
use Rattle.std.specs.List.{AllByRecursion, filter_map}
use Rattle.lucid_base.specs.Cells.{row_of}
use Rattle.lucid_base.specs.declared.event.Event.{Event}
use Rattle.lucid_code.specs.Parts.{CodeParts}
use Rattle.lucid_tables.specs.declared.stage.StageCode.{StageCode}
use Rattle.lucid_tables.specs.Laws.{KeepsToItsArrays}
use Rattle.lucid_tables.specs.Numbers.{is_in}
use Rattle.lucid_tables.specs.Placed.{stage_of}
use Rattle.lucid_pipe.specs.Packets.{Packet, entering, meets}
use Rattle.lucid_pipe.specs.Pipe.{PipeParts, entered, gone, in_flight, packet_at, sizes}
use Rattle.lucid_pipe.specs.Settled.{settled, settled_from}
use Rattle.lucid_pipe.proofs.Beside.{Cells, settled_length}
use Rattle.lucid_pipe.proofs.Idle.{in_none, pass_idle}
use Rattle.lucid_pipe.proofs.Settles.{there_free, there_full}
use Rattle.std.proofs.lemmas.Option.{slice_get_within}
use Rattle.lucid_drive.specs.Changes.{Moved}
use Rattle.lucid_snap.specs.Snap.{Follows, SnapParts, arrays_of, free_first, left_by_oldest, many, oldest}
use Rattle.lucid_snap.specs.Calls.{HasPassed}
use Rattle.lucid_snap.proofs.Following.{Facts, Fixed, enough, fewer, first_free, no_stage, not_there, old_settles, past_free, stage_at, untouched, young_others, young_same}
use Rattle.lucid_snap.proofs.Oldest.{Slots, none_old, oldest_all, oldest_enters}

arrays_at : (stages : List StageCode) (k : ℕ) → slice_index_or (arrays_of stages) k [] ≡ (stage_at stages k).arrays
arrays_at [] k = refl
arrays_at (s ∷ stages) zero = refl
arrays_at (s ∷ stages) (suc k) = arrays_at stages k

sized_long : (c d : Cells) → sizes c ≡ sizes d → length c ≡ length d
sized_long c d e = sym (length-map c (λ (row : List ℕ). length row)) ∙ ap (λ (l : List ℕ). length l) e ∙ length-map d (λ (row : List ℕ). length row)

free_at : (stages : List StageCode) (g k : ℕ) → AllByRecursion (λ (s : StageCode). is_in g s.arrays ≡ false) stages → is_in g (stage_at stages k).arrays ≡ false
free_at [] g k all = refl
free_at (s ∷ stages) g zero all = all.0
free_at (s ∷ stages) g (suc k) all = free_at stages g k all.1

settled_idle : (code : CodeParts) (stages : List StageCode) (slots : Slots) (cells : Cells) (g : ℕ) → AllByRecursion (KeepsToItsArrays code) stages → AllByRecursion (λ (s : StageCode). is_in g s.arrays ≡ false) stages →
    row_of (settled_from code stages slots cells).cells g ≡ row_of cells g
settled_idle code [] slots cells g keeps free = refl
settled_idle code (s ∷ stages) [] cells g keeps free = refl
settled_idle code (s ∷ stages) (None ∷ slots) cells g keeps free = settled_idle code stages slots cells g keeps.1 free.1
settled_idle code (s ∷ stages) (Some p ∷ slots) cells g keeps free =
    pass_idle code (s ∷ stages) (meets (settled_from code stages slots cells).cells p) g keeps free ∙ settled_idle code stages slots cells g keeps.1 free.1

pub many_is : (slots : Slots) → many slots ≡ length (filter_map (λ slot. slot) slots)
many_is [] = refl
many_is (None ∷ slots) = many_is slots
many_is (Some p ∷ slots) = ap suc (many_is slots)

-- ---- it begins

pub begins : (pipe : PipeParts) (snap : SnapParts) → Facts pipe → snap.copies ≡ pipe.cells → snap.stages ≡ arrays_of pipe.placed.stages → snap.old ≡ in_flight pipe → snap.copied ≡ free_first pipe.slots → Follows snap pipe (settled pipe).cells
begins pipe snap facts copies stages old copied = record {
  long = facts.long;
  sizes = ap sizes copies ∙ facts.sized;
  stages = stages;
  enough = subst (λ (n : ℕ). n ≤ many pipe.slots) (sym waits) (omega arith);
  copied = copied ∙ ap free_first (sym all);
  copies = λ g k found lt. ap (λ (c : Cells). row_of c g) copies
      ∙ sym (untouched pipe.placed.code pipe.placed.stages pipe.slots pipe.cells k g facts.fixed.arrays facts.fixed.is_placed.in_one_stage (subst (λ (n : ℕ). k < n) copied lt) (position-Some (λ (s : StageCode). is_in g s.arrays) pipe.placed.stages k no_stage found).1);
  others = λ g k found le. ap (λ (l : Slots). row_of (settled_from pipe.placed.code pipe.placed.stages l pipe.cells).cells g) all;
  idle = λ g none. (
    settled_idle pipe.placed.code pipe.placed.stages pipe.slots pipe.cells g facts.fixed.arrays (in_none pipe.placed.stages g none) ∙ facts.idle g none,
    ap (λ (c : Cells). row_of c g) copies ∙ facts.idle g none,
  );
  given = settled_length pipe.placed.code pipe.placed.stages pipe.slots pipe.cells ∙ sym (ap (λ (c : Cells). length c) copies);
}
  where
    waits : snap.old ≡ many pipe.slots
    waits = old ∙ sym (many_is pipe.slots)

    all : oldest snap.old pipe.slots ≡ pipe.slots
    all = oldest_all snap.old pipe.slots (subst (λ (n : ℕ). many pipe.slots ≤ n) (sym waits) (omega arith))

-- ---- an event enters

pub enters : (pipe : PipeParts) (snap : SnapParts) (cells : Cells) (event : Event) (now me : ℕ) → Follows snap pipe cells → packet_at pipe 0 ≡ None → 0 < length pipe.slots → Follows snap (entered pipe event now me) cells
enters pipe snap cells event now me f free some = record {
  long = length-set pipe.slots 0 _ ∙ f.long;
  sizes = f.sizes;
  stages = f.stages;
  enough = same.1;
  copied = f.copied ∙ ap free_first (sym same.0);
  copies = f.copies;
  others = λ g k found le. ap (λ (l : Slots). row_of (settled_from pipe.placed.code pipe.placed.stages l pipe.cells).cells g) same.0 ∙ f.others g k found le;
  idle = f.idle;
  given = f.given;
}
  where
    q : Packet
    q = entering pipe.placed.code event now me

    same : (oldest snap.old (slice_set pipe.slots 0 (Some (entering pipe.placed.code event now me))) ≡ oldest snap.old pipe.slots) × (snap.old ≤ many (slice_set pipe.slots 0 (Some (entering pipe.placed.code event now me))))
    same = oldest_enters snap.old pipe.slots (entering pipe.placed.code event now me) (there_free pipe.slots 0 some free) f.enough

-- ---- a packet moves

module _ (pipe : PipeParts) (snap new : SnapParts) (cells : Cells) (k : ℕ) (p : Packet) (f : Follows snap pipe cells) (facts : Fixed pipe.placed) (here : packet_at pipe k ≡ Some p) (next : packet_at pipe (k + 1) ≡ None) (did : HasPassed snap (gone pipe k p) k new) where
  n : ℕ
  n = snap.old

  old_is : new.old ≡ fewer snap.old k (length pipe.slots)
  old_is = did.old ∙ ap (fewer snap.old k) (ap (λ (l : List (List ℕ)). length l) f.stages ∙ length-map pipe.placed.stages (λ (s : StageCode). s.arrays) ∙ sym f.long)

  own : slice_index_or snap.stages k [] ≡ (stage_at pipe.placed.stages k).arrays
  own = ap (λ (l : List (List ℕ)). slice_index_or l k []) f.stages ∙ arrays_at pipe.placed.stages k

  -- another stage was the next to be copied
  module _ (other : (k ≡ snap.copied) → ⊥) where
    not_first : nat_eq k snap.copied ≡ false
    not_first = ne_eqb k snap.copied other

    copied_same : new.copied ≡ snap.copied
    copied_same = did.copied ∙ ap (λ (b : Bool). if b then suc k else snap.copied) not_first

    row_same : (g : ℕ) → row_of new.copies g ≡ row_of snap.copies g
    row_same g = did.rows g ∙ ap (λ (b : Bool). if b && is_in g (slice_index_or snap.stages k []) then row_of (gone pipe k p).cells g else row_of snap.copies g) not_first

  -- this one was
  module _ (first : k ≡ snap.copied) where
    is_first : nat_eq k snap.copied ≡ true
    is_first = eq-eqb k snap.copied first

    copied_more : new.copied ≡ suc k
    copied_more = did.copied ∙ ap (λ (b : Bool). if b then suc k else snap.copied) is_first

    row_by : (g : ℕ) → row_of new.copies g ≡ (if is_in g (stage_at pipe.placed.stages k).arrays then row_of (gone pipe k p).cells g else row_of snap.copies g)
    row_by g = did.rows g ∙ ap (λ (b : Bool). if b && is_in g (slice_index_or snap.stages k []) then row_of (gone pipe k p).cells g else row_of snap.copies g) is_first
        ∙ ap (λ (l : List ℕ). if is_in g l then row_of (gone pipe k p).cells g else row_of snap.copies g) own

    row_mine : (g : ℕ) → is_in g (stage_at pipe.placed.stages k).arrays ≡ true → row_of new.copies g ≡ row_of (gone pipe k p).cells g
    row_mine g i = row_by g ∙ ap (λ (b : Bool). if b then row_of (gone pipe k p).cells g else row_of snap.copies g) i

    row_not : (g : ℕ) → is_in g (stage_at pipe.placed.stages k).arrays ≡ false → row_of new.copies g ≡ row_of snap.copies g
    row_not g o = row_by g ∙ ap (λ (b : Bool). if b then row_of (gone pipe k p).cells g else row_of snap.copies g) o

  -- where k stands
  abbrev Where : Type 0
  Where = (k < snap.copied) ⊎ ((k ≡ snap.copied) ⊎ (snap.copied < k))

  place : Where
  place = ⊎_elim (λ lt. inl lt) (λ le. ⊎_elim (λ gt. inr (inr gt)) (λ ge. inr (inl (omega (arith, le, ge)))) (cases_lt snap.copied k)) (cases_lt k snap.copied)

  young_is : k < snap.copied → k < free_first (oldest snap.old pipe.slots)
  young_is lt = subst (λ (m : ℕ). k < m) f.copied lt

  old_by : snap.copied ≤ k → free_first (oldest snap.old pipe.slots) ≤ k
  old_by le = subst (λ (m : ℕ). m ≤ k) f.copied le

  slots_old : oldest new.old (gone pipe k p).slots ≡ oldest (fewer snap.old k (length pipe.slots)) (gone pipe k p).slots
  slots_old = ap (λ (m : ℕ). oldest m (gone pipe k p).slots) old_is

  copied_by : Where → new.copied ≡ free_first (oldest new.old (gone pipe k p).slots)
  copied_by (inl lt) =
      copied_same (λ e. omega (arith, lt, e)) ∙ f.copied ∙ ap free_first (sym (slots_old ∙ young_same pipe k p snap.old facts f.long here next (young_is lt)))
  copied_by (inr (inl e)) =
      copied_more e ∙ sym (ap free_first slots_old ∙ first_free pipe k p snap.old facts f.long here next (old_by (omega (arith, e))) (sym f.copied ∙ sym e))
  copied_by (inr (inr gt)) =
      copied_same (λ e. omega (arith, gt, e)) ∙ f.copied ∙ sym (ap free_first slots_old ∙ past_free pipe k p snap.old facts f.long here next (old_by (omega (arith, gt))) (subst (λ (m : ℕ). m < k) f.copied gt))

  left_is : left_by_oldest (gone pipe k p) new.old ≡ left_by_oldest (gone pipe k p) (fewer snap.old k (length pipe.slots))
  left_is = ap (left_by_oldest (gone pipe k p)) old_is

  -- what the oldest leave when one of them moved
  left_same : snap.copied ≤ k → left_by_oldest (gone pipe k p) new.old ≡ left_by_oldest pipe snap.old
  left_same le = left_is ∙ old_settles pipe k p snap.old facts f.long here next (old_by le)

  others_by : Where → (g j : ℕ) → stage_of pipe.placed.stages g ≡ Some j → new.copied ≤ j → row_of (left_by_oldest (gone pipe k p) new.old) g ≡ row_of cells g
  others_by (inl lt) g j found le =
      let same = copied_same (λ e. omega (arith, lt, e)) in
      ap (λ (c : Cells). row_of c g) left_is
      ∙ young_others pipe k p snap.old facts f.long here next (young_is lt) g (not_there pipe.placed.stages g j k facts.is_placed.in_one_stage found (λ e. omega (arith, lt, le, same, e)))
      ∙ f.others g j found (omega (arith, le, same))
  others_by (inr (inl e)) g j found le = let more = copied_more e in ap (λ (c : Cells). row_of c g) (left_same (omega (arith, e))) ∙ f.others g j found (omega (arith, le, more, e))
  others_by (inr (inr gt)) g j found le = let same = copied_same (λ e. omega (arith, gt, e)) in ap (λ (c : Cells). row_of c g) (left_same (omega (arith, gt))) ∙ f.others g j found (omega (arith, le, same))

  copies_by : Where → (g j : ℕ) → stage_of pipe.placed.stages g ≡ Some j → j < new.copied → row_of new.copies g ≡ row_of cells g
  copies_by (inl lt) g j found below = row_same (λ e. omega (arith, lt, e)) g ∙ f.copies g j found (let same = copied_same (λ e. omega (arith, lt, e)) in omega (arith, below, same))
  copies_by (inr (inr gt)) g j found below = row_same (λ e. omega (arith, gt, e)) g ∙ f.copies g j found (let same = copied_same (λ e. omega (arith, gt, e)) in omega (arith, below, same))
  copies_by (inr (inl e)) g j found below = ⊎_elim
      (λ lt. row_not e g (not_there pipe.placed.stages g j k facts.is_placed.in_one_stage found (λ is. omega (arith, lt, is))) ∙ f.copies g j found (omega (arith, lt, e)))
      (λ le. let same : j ≡ k = omega (arith, le, below, copied_more e) in
      let at : stage_of pipe.placed.stages g ≡ Some k = found ∙ ap (λ (m : ℕ). Some m) same in
      let there = position-Some (λ (s : StageCode). is_in g s.arrays) pipe.placed.stages k no_stage at in
      let free : k < free_first (oldest new.old (gone pipe k p).slots) = omega (arith, copied_by (inr (inl e)), copied_more e) in
      row_mine e g there.1
      ∙ sym (untouched pipe.placed.code pipe.placed.stages (oldest new.old (gone pipe k p).slots) (gone pipe k p).cells k g facts.arrays facts.is_placed.in_one_stage free there.1)
      ∙ ap (λ (c : Cells). row_of c g) (left_same (omega (arith, e)))
      ∙ f.others g k at (omega (arith, e)))
      (cases_lt j k)

  idle_row : Where → (g : ℕ) → stage_of pipe.placed.stages g ≡ None → row_of new.copies g ≡ row_of snap.copies g
  idle_row (inl lt) g none = row_same (λ e. omega (arith, lt, e)) g
  idle_row (inr (inl e)) g none = row_not e g (free_at pipe.placed.stages g k (in_none pipe.placed.stages g none))
  idle_row (inr (inr gt)) g none = row_same (λ e. omega (arith, gt, e)) g

  passes_gone : length (gone pipe k p).slots ≡ length pipe.placed.stages → Follows new (gone pipe k p) cells
  passes_gone long = record {
    long = long;
    sizes = did.sizes ∙ f.sizes;
    stages = did.stages ∙ f.stages;
    enough = subst (λ (m : ℕ). m ≤ many (gone pipe k p).slots) (sym old_is) (enough pipe k p snap.old facts f.long here next f.enough);
    copied = copied_by place;
    copies = copies_by place;
    others = others_by place;
    idle = λ g none. ((f.idle g none).0, idle_row place g none ∙ (f.idle g none).1);
    given = f.given ∙ sym (sized_long new.copies snap.copies did.sizes);
  }

pub passes : (before pipe : PipeParts) (snap new : SnapParts) (cells : Cells) (k : ℕ) (p : Packet) → Moved before k p pipe → Follows snap before cells → Fixed before.placed → HasPassed snap pipe k new → Follows new pipe cells
passes before pipe snap new cells k p moved f facts did =
    subst (λ (q : PipeParts). Follows new q cells) (sym moved.is)
    (passes_gone before snap new cells k p f facts moved.here moved.next (subst (λ (q : PipeParts). HasPassed snap q k new) moved.is did)
    (length-set (slice_set before.slots k None) (k + 1) _ ∙ length-set before.slots k None ∙ f.long))

-- ---- it is whole

all_copied : (snap : SnapParts) (pipe : PipeParts) (cells : Cells) → Follows snap pipe cells → snap.old ≡ 0 → snap.copied ≡ length pipe.placed.stages
all_copied snap pipe cells f whole = f.copied ∙ ap (λ (n : ℕ). free_first (oldest n pipe.slots)) whole ∙ none_old pipe.slots ∙ f.long

pub whole_is : (snap : SnapParts) (pipe : PipeParts) (cells : Cells) (g : ℕ) → Follows snap pipe cells → snap.old ≡ 0 → row_of snap.copies g ≡ row_of cells g
whole_is snap pipe cells g f whole = by (stage_of pipe.placed.stages g) refl
  where
    by : (found : Option ℕ) → stage_of pipe.placed.stages g ≡ found → row_of snap.copies g ≡ row_of cells g
    by None e = (f.idle g e).1 ∙ sym (f.idle g e).0
    by (Some k) e = f.copies g k e (subst (λ (n : ℕ). k < n) (sym (all_copied snap pipe cells f whole)) (position-Some (λ (s : StageCode). is_in g s.arrays) pipe.placed.stages k no_stage e).0)

pub below_last : (before pipe : PipeParts) (snap : SnapParts) (cells : Cells) (k : ℕ) (p : Packet) → Moved before k p pipe → Follows snap before cells → k < length snap.stages
below_last before pipe snap cells k p moved f =
    omega (arith, slice_get_within before.slots k (Some p) (there_full before.slots k p moved.here), f.long, ap (λ (l : List (List ℕ)). length l) f.stages, length-map before.placed.stages (λ (s : StageCode). s.arrays))
