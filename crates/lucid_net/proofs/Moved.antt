-- Packets of a pipe that move one after another.
use Rattle.std.proofs.Common.{◌≡◌, ℕ, ◌+◌, ◌-◌, ◌<◌, ◌≤◌, Option, None, length, refl, sym, ◌∙◌, ap, subst, arith}
use Rattle.std.specs.Option.{option_map}
use Rattle.lucid_net_spec.specs.Ways.{Run}
use Rattle.lucid_net_laws.specs.Rows.{Rows, rows_in, step_of}
use Rattle.lucid_net_laws.specs.PipeStages.{run_of_packet}
use Rattle.lucid_pipe.specs.Packets.{Packet}
use Rattle.lucid_pipe.specs.Pipe.{PipeParts, packet_at}
use Rattle.lucid_pipe_laws.proofs.Moves.{backs_free, moves_all, moves_first, moves_next}
use Rattle.lucid_pipe_laws.specs.Moves.{advance, backs, goes}
use Rattle.lucid_tables.specs.Placed.{PlacedParts}
use Rattle.lucid_net.proofs.Went.{packet_is, rows_long, slot_at}

abbrev Left : Option Packet → Option Run
Left o = option_map run_of_packet o

-- all from the stage on have moved
pub record Moves (old now : PipeParts) (leaver : Option Run) (stages i : ℕ) : Type 0 where
  pub placed : now.placed ≡ old.placed
  pub some : 0 < i
  pub long : length now.slots ≡ length now.placed.stages
  pub rows : rows_in now ≡ (backs (step_of old.placed) (stages - i) (rows_in old)).0
  pub out : leaver ≡ Left (backs (step_of old.placed) (stages - i) (rows_in old)).1

pub move_first : (old new : PipeParts) (leaver : Option Run) (stages : ℕ) → stages ≡ length (rows_in old) → 0 < length (rows_in old) → new.placed ≡ old.placed → length new.slots ≡ length new.placed.stages →
    rows_in new ≡ (goes (step_of old.placed) (stages - 1) (rows_in old)).0 → leaver ≡ Left (goes (step_of old.placed) (stages - 1) (rows_in old)).1 → Moves old new leaver stages 1
move_first old new leaver stages is some placed long moved left =
    let first = moves_first (step_of old.placed) (rows_in old) (rows_in new) (goes (step_of old.placed) (stages - 1) (rows_in old)).1 stages (sym is) (subst (λ (n : ℕ). 0 < n) (sym is) some) moved refl in
    record { placed = placed; some = omega arith; long = long; rows = first.0; out = left ∙ ap Left first.1 }

pub move_free : (old now : PipeParts) (leaver : Option Run) (stages i : ℕ) → i < stages → Moves old now leaver stages i → packet_at now (stages - 1 - i + 1) ≡ None
move_free old now leaver stages i lt so =
    let here : stages - 1 - i + 1 ≡ stages - i = omega (arith, lt) in
    ap (packet_at now) here
    ∙ sym (packet_is now (stages - i) so.long)
    ∙ ap (λ (l : Rows). slot_at l (stages - i)) so.rows
    ∙ backs_free (step_of old.placed) (stages - i) (rows_in old)

pub move_inside : (old now : PipeParts) (leaver : Option Run) (stages i : ℕ) → i < stages → stages ≡ length (rows_in old) → length old.slots ≡ length old.placed.stages → Moves old now leaver stages i → stages - 1 - i + 1 < length now.slots
move_inside old now leaver stages i lt is long so =
    let many : length now.slots ≡ stages = so.long ∙ ap (λ (p : PlacedParts). length p.stages) so.placed ∙ sym (rows_long old long) ∙ sym is in
    subst (λ (n : ℕ). stages - 1 - i + 1 < n) (sym many) (omega (arith, lt, so.some))

pub move_next : (old now new : PipeParts) (leaver : Option Run) (stages i : ℕ) → i < stages → stages ≡ length (rows_in old) → Moves old now leaver stages i → new.placed ≡ now.placed → length new.slots ≡ length new.placed.stages →
    rows_in new ≡ (goes (step_of now.placed) (stages - 1 - i) (rows_in now)).0 → Moves old new leaver stages (i + 1)
move_next old now new leaver stages i lt is so placed long moved =
    let same : rows_in new ≡ (goes (step_of old.placed) (stages - 1 - i) (rows_in now)).0 = moved ∙ ap (λ (p : PlacedParts). (goes (step_of p) (stages - 1 - i) (rows_in now)).0) so.placed in
    let next = moves_next (step_of old.placed) (rows_in old) (rows_in now) (rows_in new) (backs (step_of old.placed) (stages - i) (rows_in old)).1 stages i (sym is) so.some lt so.rows refl same in
    record { placed = placed ∙ so.placed; some = omega arith; long = long; rows = next.0; out = so.out ∙ ap Left next.1 }

pub move_all : (old now : PipeParts) (leaver : Option Run) (stages i : ℕ) → stages ≤ i → Moves old now leaver stages i →
    (rows_in now ≡ (advance (step_of old.placed) None (rows_in old)).0) × (leaver ≡ Left (advance (step_of old.placed) None (rows_in old)).1)
move_all old now leaver stages i le so =
    let end = moves_all (step_of old.placed) (rows_in old) stages i le in
    (so.rows ∙ ap (λ (l : Rows × Option Packet). l.0) end, so.out ∙ ap (λ (l : Rows × Option Packet). Left l.1) end)
