-- The pipe after a move of a packet.
use Rattle.std.proofs.Common.{◌≡◌, ℕ, zero, suc, ◌+◌, ◌<◌, ◌≤◌, List, [], ◌∷◌, Option, None, Some, IfSome, if◌then◌else◌, Bool, true, false, not, cond, length, map, nat_eq, nat_lt, replicate, slice_get, slice_set, slice_index_or, refl, sym, ap, ap₂, subst, ◌∙◌, arith}
use Rattle.std.specs.List.{AllByRecursion, cons_option, filter, filter_map, range_with_len}
use Rattle.std.specs.Option.{option_map}
use Rattle.std.proofs.lemmas.Bool.{and_from, or_from, ne_eqb}
use Rattle.std.proofs.lemmas.List.{length-map, length-set}
use Rattle.std.proofs.lemmas.List.FromFn.{length-map-range_with_len}
use Rattle.lucid_base.specs.Cells.{row_of, zero_cells}
use Rattle.lucid_base.specs.declared.array.ArrayDef.{ArrayDef}
use Rattle.lucid_base.specs.declared.event.Event.{Event}
use Rattle.lucid_code.specs.Parts.{CodeParts}
use Rattle.lucid_tables.specs.Numbers.{is_in, all_differ}
use Rattle.lucid_tables.specs.Placed.{PlacedParts, stage_of}
use Rattle.lucid_pipe.specs.declared.passed.Passed.{Passed}
use Rattle.lucid_pipe.specs.declared.slots.Slot.{Slot}
use Rattle.lucid_pipe.specs.Blocks.{Block}
use Rattle.lucid_pipe.specs.Packets.{Packet, left_by, told, entering}
use Rattle.lucid_pipe.specs.Pipe.{PipeParts, empty_pipe, packet_at, gone, comes_out, runs_stage, sizes}
use Rattle.lucid_pipe.specs.Laws.{MovesKeep}
use Rattle.lucid_pipe.specs.Settled.{settled, with_left, with_pass}
use Rattle.lucid_pipe.specs.Slots.{free_slots, block_at, handed, taken}
use Rattle.lucid_pipe.specs.Views.{packet_of, passed_of, told_by, in_slot, pipe_of, IsBlock, IsPipe}
use Rattle.lucid_pipe.proofs.Sizes.{made_sizes}
use Rattle.lucid_pipe.proofs.Handing.{block_there, blocks_of, same_length, stay_apart, stay_there, block_below, blocks_stay, moved_view, entered_view, own_block, packet_in, no_packet}

pub zeros_long : (arrays : List ArrayDef) → length (zero_cells arrays) ≡ length arrays
zeros_long [] = refl
zeros_long (a ∷ arrays) = ap suc (zeros_long arrays)

-- as many arrays as are declared, where each has as many cells
pub many_arrays : (arrays : List ArrayDef) (cells : List (List ℕ)) → sizes cells ≡ sizes (zero_cells arrays) → length cells ≡ length arrays
many_arrays arrays cells sized = sym (length-map cells length) ∙ ap length sized ∙ length-map (zero_cells arrays) length ∙ zeros_long arrays

module _ (placed : PlacedParts) (cells later : List (List ℕ)) (blocks : List Block) (slots : List Slot) (k b : ℕ) (x y : Block) where
  -- block b of the packet in slot k was x and is y
  pub record Runs : Type 0 where
    pub pipe : IsPipe placed cells blocks slots
    pub taken : block_at slots k ≡ Some b
    pub was : slice_get blocks b ≡ Some x
    pub is : IsBlock placed.code y
    pub packet : packet_of placed.code y ≡ left_by (runs_stage placed.code placed.stages cells k (packet_of placed.code x)) (packet_of placed.code x)
    pub idle : (g : ℕ) → stage_of placed.stages g ≡ None → row_of later g ≡ row_of cells g
    pub after : later ≡ (runs_stage placed.code placed.stages cells k (packet_of placed.code x)).cells

  below : Runs → b < length blocks
  below r = block_below (length blocks) slots k b r.pipe.there r.taken

  pub keeps_pipe : Runs → IsPipe placed later (slice_set blocks b y) (handed slots k)
  keeps_pipe r = record {
    some = subst (λ n. 0 < n) (sym (same_length slots k)) r.pipe.some;
    long = same_length slots k ∙ r.pipe.long;
    registers = blocks_stay placed.code blocks b y b (below r) r.is r.pipe.registers;
    there = stay_there (length (slice_set blocks b y)) slots k (subst (λ n. AllByRecursion (λ (s : Slot). s.block < n) slots) (sym (length-set blocks b y)) r.pipe.there);
    apart = stay_apart slots k r.pipe.apart;
    idle = λ g o. r.idle g o ∙ r.pipe.idle g o;
    sized = ap sizes r.after ∙ made_sizes placed.code placed.stages cells k (packet_of placed.code x) ∙ r.pipe.sized;
  }

  pub found : Runs → packet_at (pipe_of placed cells blocks slots) k ≡ Some (packet_of placed.code x)
  found r = packet_in placed.code blocks slots k b x r.was r.taken

  now_is : Runs → pipe_of placed later (slice_set blocks b y) (handed slots k) ≡ gone (pipe_of placed cells blocks slots) k (packet_of placed.code x)
  now_is r =
      let on : k + 1 ≡ suc k = omega arith in
      ap₂ (λ (c : List (List ℕ)) (ss : List (Option Packet)). record { placed = placed; cells = c; slots = ss }) r.after
      (moved_view placed.code blocks b y (below r) slots k r.taken r.pipe.apart
      ∙ ap₂ (λ (i : ℕ) (p : Packet). slice_set (slice_set (map (in_slot placed.code blocks) slots) k None) i (Some p)) (sym on) r.packet)

  out_is : Runs → (if nat_lt (k + 1) (length slots) then None else Some (passed_of y)) ≡ comes_out (pipe_of placed cells blocks slots) k (packet_of placed.code x)
  out_is r = ap₂ (λ (n : ℕ) (p : Packet). if nat_lt (k + 1) n then None else Some (told p)) (sym (length-map slots (in_slot placed.code blocks))) r.packet

  -- as the code returns it, once the block was passed on
  pub told_so : Runs → (count : ℕ) (answer : Option ℕ) → count ≡ length (handed slots k) → answer ≡ (if nat_lt (k + 1) count then None else Some b) →
      told_by (slice_set blocks b y) answer ≡ (if nat_lt (k + 1) (length slots) then None else Some (passed_of y))
  told_so r count answer long is =
      ap (told_by (slice_set blocks b y)) (is ∙ ap (λ (n : ℕ). if nat_lt (k + 1) n then None else Some b) (long ∙ same_length slots k)) ∙ by (nat_lt (k + 1) (length slots))
    where
      by : (t : Bool) → told_by (slice_set blocks b y) (if t then None else Some b) ≡ (if t then None else Some (passed_of y))
      by true = refl
      by false = ap (option_map passed_of) (own_block placed.code blocks b y (below r))

  pub told_there : Runs → (count : ℕ) (answer : Option ℕ) → answer ≡ (if nat_lt (k + 1) count then None else Some b) → IfSome answer (λ n. n < length (slice_set blocks b y))
  told_there r count answer is = subst (λ o. IfSome o (λ n. n < length (slice_set blocks b y))) (sym is) (by (nat_lt (k + 1) count))
    where
      by : (t : Bool) → IfSome (if t then None else Some b) (λ n. n < length (slice_set blocks b y))
      by true = tt
      by false = subst (λ n. b < n) (sym (length-set blocks b y)) (below r)

  pub goes : Runs → IfSome (packet_at (pipe_of placed cells blocks slots) k) (λ p. pipe_of placed later (slice_set blocks b y) (handed slots k) ≡ gone (pipe_of placed cells blocks slots) k p)
  goes r = subst (λ (o : Option Packet). IfSome o (λ p. pipe_of placed later (slice_set blocks b y) (handed slots k) ≡ gone (pipe_of placed cells blocks slots) k p)) (sym (found r)) (now_is r)

  pub out : Runs → IfSome (packet_at (pipe_of placed cells blocks slots) k) (λ p. (if nat_lt (k + 1) (length slots) then None else Some (passed_of y)) ≡ comes_out (pipe_of placed cells blocks slots) k p)
  out r = subst (λ (o : Option Packet). IfSome o (λ p. (if nat_lt (k + 1) (length slots) then None else Some (passed_of y)) ≡ comes_out (pipe_of placed cells blocks slots) k p)) (sym (found r)) (out_is r)

  pub settles : Runs → block_at slots (k + 1) ≡ None → MovesKeep placed →
      settled (pipe_of placed cells blocks slots) ≡ with_left (if nat_lt (k + 1) (length slots) then None else Some (passed_of y)) (settled (pipe_of placed later (slice_set blocks b y) (handed slots k)))
  settles r free law =
      law.go (pipe_of placed cells blocks slots) k (packet_of placed.code x) refl (length-map slots (in_slot placed.code blocks) ∙ r.pipe.long) (found r) (no_packet placed.code blocks slots (k + 1) free)
      ∙ ap₂ (λ (o : Option Passed) (q : PipeParts). with_left o (settled q)) (sym (out_is r)) (sym (now_is r))

-- ---- an event that enters

pub block_first : (n : ℕ) (here : Slot) (slots : List Slot) → 0 < length slots → here ≡ slice_index_or slots 0 here → AllByRecursion (λ (s : Slot). s.block < n) slots → here.block < n
block_first n here [] some e there = absurd (omega (arith, some))
block_first n here (s ∷ slots) some e there = subst (λ (t : Slot). t.block < n) (sym e) there.0

module _ (placed : PlacedParts) (cells : List (List ℕ)) (blocks : List Block) (slots : List Slot) (b : ℕ) (here : Slot) (y : Block) where
  -- the first slot is free, and its block is now y
  pub record Enters (p : Packet) : Type 0 where
    pub pipe : IsPipe placed cells blocks slots
    pub here_is : here ≡ slice_index_or slots 0 here
    pub block_is : b ≡ here.block
    pub is : IsBlock placed.code y
    pub packet : packet_of placed.code y ≡ p

  module _ (p : Packet) where
    first : (ss : List Slot) → 0 < length ss → here ≡ slice_index_or ss 0 here → (rest : List Slot) × (ss ≡ here ∷ rest)
    first [] l e = absurd (omega (arith, l))
    first (s ∷ rest) l e = (rest, ap (λ t. t ∷ rest) (sym e))

    -- the slots when the first is taken
    abbrev pub taken_first : List Slot
    taken_first = slice_set slots 0 (record { block = b; taken = true })

    entered_slots : (rest : List Slot) → slots ≡ here ∷ rest → b ≡ here.block → taken_first ≡ record here { taken = true } ∷ rest
    entered_slots rest e f = ap (λ ss. slice_set ss 0 (record { block = b; taken = true })) e ∙ ap (λ c. record { block = c; taken = true } ∷ rest) f

    pub enters_pipe : Enters p → IsPipe placed cells (slice_set blocks b y) taken_first
    enters_pipe r =
        let f = first slots r.pipe.some r.here_is in
        let same = entered_slots f.0 f.1 r.block_is in
        let there = subst (λ ss. AllByRecursion (λ (s : Slot). s.block < length blocks) ss) f.1 r.pipe.there in
        let below : b < length blocks = subst (λ c. c < length blocks) (sym r.block_is) there.0 in
        let long : length taken_first ≡ length slots = length-set slots 0 (record { block = b; taken = true }) in
        record {
          some = subst (λ n. 0 < n) (sym long) r.pipe.some;
          long = long ∙ r.pipe.long;
          registers = blocks_stay placed.code blocks b y b below r.is r.pipe.registers;
          there = subst (AllByRecursion (λ (s : Slot). s.block < length (slice_set blocks b y))) (sym same) (subst (λ n. AllByRecursion (λ (s : Slot). s.block < n) (record here { taken = true } ∷ f.0)) (sym (length-set blocks b y)) there);
          apart = ap (λ ss. all_differ (blocks_of ss)) same ∙ sym (ap (λ ss. all_differ (blocks_of ss)) f.1) ∙ r.pipe.apart;
          idle = r.pipe.idle;
          sized = r.pipe.sized;
        }

    pub enters : Enters p → map (in_slot placed.code (slice_set blocks b y)) taken_first ≡ slice_set (map (in_slot placed.code blocks) slots) 0 (Some p)
    enters r =
        let f = first slots r.pipe.some r.here_is in
        let there = subst (λ ss. AllByRecursion (λ (s : Slot). s.block < length blocks) ss) f.1 r.pipe.there in
        let below : b < length blocks = subst (λ c. c < length blocks) (sym r.block_is) there.0 in
        ap (map (in_slot placed.code (slice_set blocks b y))) (entered_slots f.0 f.1 r.block_is)
        ∙ entered_view placed.code blocks b y below here f.0 (sym r.block_is) (sym (ap (λ ss. all_differ (blocks_of ss)) f.1) ∙ r.pipe.apart)
        ∙ ap₂ (λ (ss : List Slot) (q : Packet). slice_set (map (in_slot placed.code blocks) ss) 0 (Some q)) (sym f.1) r.packet

    -- the settled state of a pipe with these slots
    pub enters_settled : Enters p → (event : Event) (now me : ℕ) → p ≡ entering placed.code event now me → block_at slots 0 ≡ None → MovesKeep placed →
        settled (pipe_of placed cells (slice_set blocks b y) taken_first) ≡ with_pass placed event now me (settled (pipe_of placed cells blocks slots))
    enters_settled r event now me is free law =
        ap (λ (ss : List (Option Packet)). settled (record { placed = placed; cells = cells; slots = ss })) (enters r ∙ ap (λ (q : Packet). slice_set (map (in_slot placed.code blocks) slots) 0 (Some q)) is)
        ∙ law.enter (pipe_of placed cells blocks slots) event now me refl (length-map slots (in_slot placed.code blocks) ∙ r.pipe.long) (no_packet placed.code blocks slots 0 free)

-- ---- a pipe without packets

no_packets : (code : CodeParts) (blocks : List Block) (a n : ℕ) → map (in_slot code blocks) (map (λ k. record { block = k; taken = false }) (range_with_len a n)) ≡ replicate n None
no_packets code blocks a zero = refl
no_packets code blocks a (suc n) = ap (λ ps. None ∷ ps) (no_packets code blocks (a + 1) n)

all_there : (m a n : ℕ) → a + n ≤ m → AllByRecursion (λ (s : Slot). s.block < m) (map (λ k. record { block = k; taken = false }) (range_with_len a n))
all_there m a zero l = tt
all_there m a (suc n) l = (omega (arith, l), all_there m (a + 1) n (omega (arith, l)))

not_in : (b a n : ℕ) → b < a → is_in b (blocks_of (map (λ k. record { block = k; taken = false }) (range_with_len a n))) ≡ false
not_in b a zero l = refl
not_in b a (suc n) l = or_from (nat_eq a b) _ (ne_eqb a b (λ e. omega (arith, l, e))) (not_in b (a + 1) n (omega (arith, l)))

all_apart : (a n : ℕ) → all_differ (blocks_of (map (λ k. record { block = k; taken = false }) (range_with_len a n))) ≡ true
all_apart a zero = refl
all_apart a (suc n) = and_from (not (is_in a (blocks_of (map (λ k. record { block = k; taken = false }) (range_with_len (a + 1) n))))) _ (ap not (not_in a (a + 1) n (omega arith))) (all_apart (a + 1) n)

pub starts_pipe : (placed : PlacedParts) (cells : List (List ℕ)) (blocks : List Block) (n : ℕ) → cells ≡ zero_cells placed.code.arrays → 0 < n → n ≡ length placed.stages → length blocks ≡ n → AllByRecursion (IsBlock placed.code) blocks → IsPipe placed cells blocks (free_slots n)
starts_pipe placed cells blocks n none some long many is = record {
  some = subst (λ m. 0 < m) (sym (length-map-range_with_len (λ k. record { block = k; taken = false }) 0 n)) some;
  long = length-map-range_with_len (λ k. record { block = k; taken = false }) 0 n ∙ long;
  registers = is;
  there = all_there (length blocks) 0 n (omega (arith, many));
  apart = all_apart 0 n;
  idle = λ g o. ap (λ (c : List (List ℕ)). row_of c g) none;
  sized = ap sizes none;
}

pub starts : (placed : PlacedParts) (cells : List (List ℕ)) (blocks : List Block) (n : ℕ) → n ≡ length placed.stages → cells ≡ zero_cells placed.code.arrays → pipe_of placed cells blocks (free_slots n) ≡ empty_pipe placed
starts placed cells blocks n long none =
    ap₂ (λ (c : List (List ℕ)) (ss : List (Option Packet)). record { placed = placed; cells = c; slots = ss }) none (no_packets placed.code blocks 0 n ∙ ap (λ m. replicate m None) long)

-- As many slots are taken as there are packets.
pub same_count : (code : CodeParts) (blocks : List Block) (slots : List Slot) → AllByRecursion (λ (s : Slot). s.block < length blocks) slots →
    taken slots ≡ length (filter_map (λ slot. slot) (map (in_slot code blocks) slots))
same_count code blocks [] h = refl
same_count code blocks (s ∷ slots) h = by s.taken (slice_get blocks s.block) (block_there blocks s.block h.0) (same_count code blocks slots h.1)
  where
    none : (d : Block) → None ≡ Some d → ⊥
    none d e = cc

    by : (t : Bool) (o : Option Block) → (d : Block) × (o ≡ Some d) → taken slots ≡ length (filter_map (λ slot. slot) (map (in_slot code blocks) slots)) →
        length (cond t (s ∷ filter (λ (u : Slot). u.taken) slots) (filter (λ (u : Slot). u.taken) slots))
        ≡ length (cons_option (if t then option_map (packet_of code) o else None) (filter_map (λ slot. slot) (map (in_slot code blocks) slots)))
    by true None e rest = absurd (none e.0 e.1)
    by true (Some b) e rest = ap suc rest
    by false o e rest = rest

pub pipe_long : (placed : PlacedParts) (cells : List (List ℕ)) (blocks : List Block) (slots : List Slot) → IsPipe placed cells blocks slots → length (map (in_slot placed.code blocks) slots) ≡ length placed.stages
pipe_long placed cells blocks slots is = length-map slots (in_slot placed.code blocks) ∙ is.long
