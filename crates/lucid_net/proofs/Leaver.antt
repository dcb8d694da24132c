-- The packet that leaves a pipe, and the one that comes in.
use Rattle.std.proofs.Common.{◌≡◌, ◌+◌, List, length, Option, None, Some, IfSome, Bool, true, sym, ◌∙◌, ap, subst}
use Rattle.std.specs.List.{list_all}
use Rattle.lucid_core.specs.Parts.{CoreParts}
use Rattle.lucid_net_spec.proofs.Passing.{without_passes}
use Rattle.lucid_net_spec.specs.Ways.{Run}
use Rattle.lucid_net_laws.specs.Rows.{Rows, rows_in, step_of}
use Rattle.lucid_pipe.specs.Pipe.{PipeParts, packet_at}
use Rattle.lucid_pipe_laws.proofs.Moves.{backs_free}
use Rattle.lucid_pipe_laws.specs.Moves.{advance}
use Rattle.lucid_queue.specs.Waiting.{without_first}
use Rattle.lucid_queue.specs.declared.pending.Pending.{Pending}
use Rattle.lucid_net.specs.Kept.{is_kept}
use Rattle.lucid_net.specs.Leaving.{KeptAfter}
use Rattle.lucid_net.proofs.Went.{packet_is, slot_at}

-- the first slot is free once all have moved
pub moved_free : (old new : PipeParts) → length new.slots ≡ length new.placed.stages → rows_in new ≡ (advance (step_of old.placed) None (rows_in old)).0 → packet_at new 0 ≡ None
moved_free old new long moved = sym (packet_is new 0 long) ∙ ap (λ (l : Rows). slot_at l 0) moved ∙ backs_free (step_of old.placed) 0 (rows_in old)

pub kept_popped : (parts : CoreParts) (o : Option Run) (may : Pending → Bool) (queue new : List Pending) → IfSome o (λ run. KeptAfter parts run queue) → new ≡ without_first may queue → IfSome o (λ run. KeptAfter parts run new)
kept_popped parts None may queue new kept is = tt
kept_popped parts (Some run) may queue new kept is =
    subst (λ (q : List Pending). list_all (is_kept parts run.tick (run.switch + 1) 0) q ≡ true) (sym is) (without_passes (is_kept parts run.tick (run.switch + 1) 0) may queue kept)
