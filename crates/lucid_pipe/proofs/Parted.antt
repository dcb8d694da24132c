-- The registers of all blocks in one list.
use Rattle.std.proofs.Common.{◌≡◌, ℕ, zero, suc, ◌+◌, ◌-◌, ◌*◌, ◌<◌, ◌≤◌, List, [], ◌∷◌, ◌++◌, Some, drop, length, take, slice_get, slice_index_or, slice_set, refl, sym, ap, ap₂, subst, ◌∙◌, arith, append_assoc}
use Rattle.std.specs.List.{AllByRecursion}
use Rattle.std.specs.Option.{option_map, option_map_or}
use Rattle.std.proofs.lemmas.List.{length-append, length-drop, length-take-le}
use Rattle.std.proofs.Math.Nat.{suc-mul, zero-mul}
use Rattle.std.proofs.Math.Seq.{drop-nil, take-add}
use Rattle.lucid_base.specs.declared.event.Out.{Out}
use Rattle.lucid_code.specs.Parts.{CodeParts}
use Rattle.lucid_code.specs.Run.{Machine}
use Rattle.lucid_tables.specs.Placed.{PlacedParts}
use Rattle.lucid_tables.specs.Registers.{registers_of}
use Rattle.lucid_tables.specs.Stages.{stage}
use Rattle.lucid_pipe.specs.declared.head.Head.{Head}
use Rattle.lucid_pipe.specs.Blocks.{Block, block_with, blocks_of, machine}
use Rattle.lucid_pipe.specs.Packets.{Packet, left_by, sent_by}
use Rattle.lucid_pipe.specs.Pipe.{runs_stage}
use Rattle.lucid_pipe.specs.Views.{packet_of, passed_of, Executes, IsBlock, Loads}

drop_on : (a b : ℕ) (xs : List ℕ) → drop a (drop b xs) ≡ drop (b + a) xs
drop_on a zero xs = let same : a ≡ 0 + a = omega arith in ap (λ i. drop i xs) same
drop_on a (suc b) [] = drop-nil a ∙ sym (drop-nil (suc b + a))
drop_on a (suc b) (x ∷ xs) = let on : suc (b + a) ≡ suc b + a = omega arith in drop_on a b xs ∙ ap (λ i. drop i (x ∷ xs)) on

take_first : (xs ys : List ℕ) (n : ℕ) → length xs ≡ n → take n (xs ++ ys) ≡ xs
take_first [] ys zero e = refl
take_first (x ∷ xs) ys zero e = absurd (omega (arith, e))
take_first [] ys (suc n) e = absurd (omega (arith, e))
take_first (x ∷ xs) ys (suc n) e = ap (λ l. x ∷ l) (take_first xs ys n (omega (arith, e)))

drop_first : (xs ys : List ℕ) (n : ℕ) → length xs ≡ n → drop n (xs ++ ys) ≡ ys
drop_first [] ys zero e = refl
drop_first (x ∷ xs) ys zero e = absurd (omega (arith, e))
drop_first [] ys (suc n) e = absurd (omega (arith, e))
drop_first (x ∷ xs) ys (suc n) e = drop_first xs ys n (omega (arith, e))

-- As many blocks as heads.
pub many_blocks : (n : ℕ) (registers : List ℕ) (heads : List Head) → length (blocks_of n registers heads) ≡ length heads
many_blocks n registers [] = refl
many_blocks n registers (h ∷ heads) = ap suc (many_blocks n (drop n registers) heads)

-- A block has a head.
pub head_there : (n : ℕ) (registers : List ℕ) (heads : List Head) (blocks : List Block) (b : ℕ) → blocks_of n registers heads ≡ blocks → b < length blocks → b < length heads
head_there n registers heads blocks b view there = omega (arith, there, ap (λ (bs : List Block). length bs) view, many_blocks n registers heads)

-- The registers of a block are there.
pub part_there : (n : ℕ) (registers : List ℕ) (heads : List Head) (b : ℕ) → length registers ≡ length heads * n → b < length heads → b * n + n ≤ length registers
part_there n registers [] b long l = absurd (omega (arith, l))
part_there n registers (h ∷ heads) zero long l = omega (arith, long, suc-mul (length heads) n, zero-mul n)
part_there n registers (h ∷ heads) (suc b) long l =
    let all = suc-mul (length heads) n in
    let less = length-drop n registers in
    let rest = part_there n (drop n registers) heads b (omega (arith, long, all, less)) (omega (arith, l)) in
    omega (arith, rest, less, suc-mul b n, long, all)

part_is : (n : ℕ) (registers : List ℕ) (heads : List Head) (b : ℕ) (h : Head) → b < length heads → h ≡ slice_index_or heads b h →
    (later : List ℕ) → later ≡ drop (b * n) registers → slice_get (blocks_of n registers heads) b ≡ Some (block_with h (take n later))
part_is n registers [] b h l e later is = absurd (omega (arith, l))
part_is n registers (g ∷ heads) zero h l e later is =
    ap₂ (λ (i : Head) (rs : List ℕ). Some (block_with i (take n rs))) (sym e) (sym (is ∙ ap (λ j. drop j registers) (zero-mul n)))
part_is n registers (g ∷ heads) (suc b) h l e later is =
    let on : suc b * n ≡ n + b * n = omega (arith, suc-mul b n) in
    part_is n (drop n registers) heads b h (omega (arith, l)) e later (is ∙ ap (λ j. drop j registers) on ∙ sym (drop_on (b * n) n registers))

-- A block is its head with its part of the registers.
pub block_is : (n : ℕ) (registers : List ℕ) (heads : List Head) (b : ℕ) (h : Head) → b < length heads → h ≡ slice_index_or heads b h →
    slice_get (blocks_of n registers heads) b ≡ Some (block_with h (take n (drop (b * n) registers)))
block_is n registers heads b h l e = part_is n registers heads b h l e (drop (b * n) registers) refl

-- the registers with another part from here on
abbrev pub with_part : ℕ → ℕ → List ℕ → List ℕ → List ℕ
with_part n from part registers = take from registers ++ part ++ drop (from + n) registers

part_later : (n from : ℕ) (part registers : List ℕ) → with_part n (n + from) part registers ≡ take n registers ++ with_part n from part (drop n registers)
part_later n from part registers =
    let on : n + (from + n) ≡ n + from + n = omega arith in
    ap₂ (λ (xs ys : List ℕ). xs ++ part ++ ys) (take-add n from registers) (sym (drop_on (from + n) n registers ∙ ap (λ j. drop j registers) on))
    ∙ ap (λ xs. xs ++ drop (from + n) (drop n registers)) (append_assoc (take n registers) (take from (drop n registers)) part)
    ∙ append_assoc (take n registers) (take from (drop n registers) ++ part) (drop (from + n) (drop n registers))

part_set : (n : ℕ) (registers : List ℕ) (heads : List Head) (b : ℕ) (h : Head) (part : List ℕ) (from : ℕ) → from ≡ b * n →
    length part ≡ n → length registers ≡ length heads * n → b < length heads →
    blocks_of n (with_part n from part registers) (slice_set heads b h) ≡ slice_set (blocks_of n registers heads) b (block_with h part)
part_set n registers [] b h part from at own long l = absurd (omega (arith, l))
part_set n registers (g ∷ heads) zero h part from at own long l =
    ap (λ i. blocks_of n (with_part n i part registers) (h ∷ heads)) (at ∙ zero-mul n)
    ∙ ap (λ i. blocks_of n (part ++ drop i registers) (h ∷ heads)) zero_n
    ∙ ap₂ (λ (xs ys : List ℕ). block_with h xs ∷ blocks_of n ys heads) (take_first part (drop n registers) n own) (drop_first part (drop n registers) n own)
  where
    zero_n : zero + n ≡ n
    zero_n = omega arith
part_set n registers (g ∷ heads) (suc b) h part from at own long l =
    let all = suc-mul (length heads) n in
    let first : length (take n registers) ≡ n = length-take-le n registers (omega (arith, long, all)) in
    let rest = with_part n (b * n) part (drop n registers) in
    let on : from ≡ n + b * n = omega (arith, at, suc-mul b n) in
    ap (λ i. blocks_of n (with_part n i part registers) (g ∷ slice_set heads b h)) on
    ∙ ap (λ rs. blocks_of n rs (g ∷ slice_set heads b h)) (part_later n (b * n) part registers)
    ∙ ap₂ (λ (xs ys : List ℕ). block_with g xs ∷ blocks_of n ys (slice_set heads b h)) (take_first (take n registers) rest n first) (drop_first (take n registers) rest n first)
    ∙ ap (λ bs. block_with g (take n registers) ∷ bs)
    (part_set n (drop n registers) heads b h part (b * n) refl own (omega (arith, long, all, length-drop n registers)) (omega (arith, l)))

-- A block whose head and part of the registers are written.
pub block_set : (n : ℕ) (registers : List ℕ) (heads : List Head) (b : ℕ) (h : Head) (part : List ℕ) → length part ≡ n → length registers ≡ length heads * n → b < length heads →
    blocks_of n (with_part n (b * n) part registers) (slice_set heads b h) ≡ slice_set (blocks_of n registers heads) b (block_with h part)
block_set n registers heads b h part own long l = part_set n registers heads b h part (b * n) refl own long l

-- As many registers as before.
pub part_length : (n from : ℕ) (part registers : List ℕ) → length part ≡ n → from + n ≤ length registers → length (with_part n from part registers) ≡ length registers
part_length n from part registers own fits =
    omega (
      arith,
      length-append (take from registers ++ part) (drop (from + n) registers),
      length-append (take from registers) part,
      own,
      fits,
      length-take-le from registers (omega (arith, fits)),
      length-drop (from + n) registers,
    )

module _ (code : CodeParts) where
  -- Blocks of this many registers each are blocks for packets of the code.
  pub are_blocks : (n : ℕ) (registers : List ℕ) (heads : List Head) → n ≡ length (registers_of code) → length registers ≡ length heads * n →
      AllByRecursion (IsBlock code) (blocks_of n registers heads)
  are_blocks n registers [] each long = tt
  are_blocks n registers (h ∷ heads) each long =
      let all = suc-mul (length heads) n in (
        length-take-le n registers (omega (arith, long, all)) ∙ each,
        are_blocks n (drop n registers) heads each (omega (arith, long, all, length-drop n registers)),
      )

  -- and the other way round, where there is a block
  pub each_has : (n : ℕ) (registers : List ℕ) (heads : List Head) (b : ℕ) → b < length heads → length registers ≡ length heads * n →
      AllByRecursion (IsBlock code) (blocks_of n registers heads) →
      n ≡ length (registers_of code)
  each_has n registers [] b l long are = absurd (omega (arith, l))
  each_has n registers (h ∷ heads) b l long are = sym (length-take-le n registers (omega (arith, long, suc-mul (length heads) n))) ∙ are.0

-- The part of the registers that a block of packets of the code has.
pub part_carried : (placed : PlacedParts) (n : ℕ) (registers : List ℕ) (heads : List Head) (blocks : List Block) (b first : ℕ) (them : List ℕ) → blocks_of n registers heads ≡ blocks →
    length registers ≡ length heads * n → AllByRecursion (IsBlock placed.code) blocks → b < length blocks → first + n ≤ length registers → them ≡ registers →
    length (take (first + n - first) (drop first them)) ≡ length (registers_of placed.code)
part_carried placed n registers heads blocks b first them view long are there ends is =
    let whole : first + n - first ≡ n = omega arith in
    let same : length them ≡ length registers = ap (λ (xs : List ℕ). length xs) is in
    length-take-le (first + n - first) (drop first them) (omega (arith, ends, same, length-drop first them)) ∙ whole
    ∙ each_has placed.code n registers heads b (head_there n registers heads blocks b view there) long (subst (AllByRecursion (IsBlock placed.code)) (sym view) are)

-- The registers as the code writes a part of them.
abbrev pub written : ℕ → ℕ → List ℕ → List ℕ → List ℕ
written n first part them = take first them ++ (part ++ drop (first + n - first) (drop first them))

written_is : (n : ℕ) (registers : List ℕ) (b : ℕ) (part : List ℕ) (first : ℕ) (them : List ℕ) → first ≡ b * n → them ≡ registers →
    written n first part them ≡ with_part n (b * n) part registers
written_is n registers b part first them at is =
    let from = b * n in
    let whole : from + n - from ≡ n = omega arith in
    ap₂ (λ (i : ℕ) (xs : List ℕ). take i xs ++ (part ++ drop (i + n - i) (drop i xs))) at is
    ∙ ap (λ j. take from registers ++ (part ++ drop j (drop from registers))) whole
    ∙ ap (λ ys. take from registers ++ (part ++ ys)) (drop_on n from registers)
    ∙ sym (append_assoc (take from registers) part (drop (from + n) registers))

-- A part of the registers is as long as a block's.
part_own : (n : ℕ) (registers : List ℕ) (heads : List Head) (b first : ℕ) (them part : List ℕ) → first ≡ b * n → them ≡ registers → length registers ≡ length heads * n → b < length heads →
    length part ≡ length (take (first + n - first) (drop first them)) → length part ≡ n
part_own n registers heads b first them part at is long below own =
    let whole : first + n - first ≡ n = omega arith in
    let ends = part_there n registers heads b long below in
    let same : length them ≡ length registers = ap (λ (xs : List ℕ). length xs) is in
    own ∙ length-take-le (first + n - first) (drop first them) (omega (arith, ends, length-drop first them, same, at)) ∙ whole

-- As many registers as before are written.
pub written_long : (n : ℕ) (registers : List ℕ) (heads : List Head) (b first : ℕ) (them part : List ℕ) → first ≡ b * n → them ≡ registers → length registers ≡ length heads * n → b < length heads →
    length part ≡ length (take (first + n - first) (drop first them)) → length (written n first part them) ≡ length registers
written_long n registers heads b first them part at is long below own =
    ap (λ (rs : List ℕ). length rs) (written_is n registers b part first them at is)
    ∙ part_length n (b * n) part registers (part_own n registers heads b first them part at is long below own) (part_there n registers heads b long below)

module _ (placed : PlacedParts) (n : ℕ) (registers : List ℕ) (heads : List Head) (before later : List Block) (b : ℕ) (h : Head) (part : List ℕ) (first : ℕ) (them : List ℕ) where
  -- a head and its part of the registers are written
  pub record Writes : Type 0 where
    pub view : blocks_of n registers heads ≡ before
    pub long : length registers ≡ length heads * n
    pub blocks : AllByRecursion (IsBlock placed.code) before
    pub there : b < length before
    pub at : first ≡ b * n
    pub is : them ≡ registers
    pub own : length part ≡ length (take (first + n - first) (drop first them))
    pub gives : length (written n first part them) ≡ length them → later ≡ blocks_of n (written n first part them) (slice_set heads b h)

  below : Writes → b < length heads
  below w = head_there n registers heads before b w.view w.there

  own_is : Writes → length part ≡ n
  own_is w = part_own n registers heads b first them part w.at w.is w.long (below w) w.own

  later_is : Writes → later ≡ slice_set before b (block_with h part)
  later_is w =
      let same = written_is n registers b part first them w.at w.is in
      let whole : length (written n first part them) ≡ length them
      = written_long n registers heads b first them part w.at w.is w.long (below w) w.own ∙ sym (ap (λ (rs : List ℕ). length rs) w.is) in
      w.gives whole ∙ ap (λ rs. blocks_of n rs (slice_set heads b h)) same ∙ block_set n registers heads b h part (own_is w) w.long (below w)
      ∙ ap (λ (bs : List Block). slice_set bs b (block_with h part)) w.view

  pub loads : Writes → (p : Packet) → packet_of placed.code (block_with h part) ≡ p → Loads placed.code b p before later
  loads w p e = record {
    now = block_with h part;
    written = later_is w;
    long = own_is w ∙ each_has placed.code n registers heads b (below w) w.long (subst (AllByRecursion (IsBlock placed.code)) (sym w.view) w.blocks);
    packet = e;
  }

  pub executes : Writes → (k : ℕ) (cells now : List (List ℕ)) (g : Head) → g ≡ slice_index_or heads b g → h.event ≡ g.event → h.tick ≡ g.tick → h.me ≡ g.me →
      (let was = machine placed.code (take (first + n - first) (drop first them)) cells g.sent in
      machine placed.code part now h.sent ≡ option_map_or (stage placed.code was) (slice_get placed.stages k) was) →
      Executes placed k b before later cells now
  executes w k cells now g found event tick me e =
      let from = b * n in
      let whole : from + n - from ≡ n = omega arith in
      let was = block_with g (take (first + n - first) (drop first them)) in
      let same : take n (drop from registers) ≡ take (first + n - first) (drop first them)
      = ap (λ j. take j (drop from registers)) (sym whole) ∙ sym (ap₂ (λ (i : ℕ) (xs : List ℕ). take (i + n - i) (drop i xs)) w.at w.is) in
      let p = packet_of placed.code was in
      record {
        was = was;
        found = ap (λ (bs : List Block). slice_get bs b) (sym w.view) ∙ block_is n registers heads b g (below w) found ∙ ap (λ rs. Some (block_with g rs)) same;
        loads = loads w (left_by (runs_stage placed.code placed.stages cells k p) p) (packet_same event tick me ∙ ap (λ (m : Machine). left_by m p) e);
        made = ap (λ (m : Machine). m.cells) e;
      }
    where
      packet_same : h.event ≡ g.event → h.tick ≡ g.tick → h.me ≡ g.me →
          let was = block_with g (take (first + n - first) (drop first them)) in
          packet_of placed.code (block_with h part) ≡ left_by (machine placed.code part now h.sent) (packet_of placed.code was)
      packet_same e t m = cc

-- The record of a block's packet is that of its head.
pub head_told : (n : ℕ) (registers : List ℕ) (heads : List Head) (blocks : List Block) (b : ℕ) (h : Head) (outs : List Out) → blocks_of n registers heads ≡ blocks →
    b < length blocks → h ≡ slice_index_or heads b h → outs ≡ sent_by h.sent →
    option_map passed_of (slice_get blocks b) ≡ Some (record { event = h.event; now = h.tick; me = h.me; outs = outs })
head_told n registers heads blocks b h outs view there found sent =
    let below = head_there n registers heads blocks b view there in
    ap (λ (bs : List Block). option_map passed_of (slice_get bs b)) (sym view) ∙ ap (option_map passed_of) (block_is n registers heads b h below found)
    ∙ ap (λ (os : List Out). Some (record { event = h.event; now = h.tick; me = h.me; outs = os })) (sym sent)
