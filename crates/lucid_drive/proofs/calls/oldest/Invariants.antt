use Rattle.std.proofs.Common.{ℕ, ◌≡◌, length, is_some}
use Rattle.lucid_pipe.specs.Pipe.{packet_at}
use Rattle.lucid_drive.specs.Flush.{last_below}
use Rattle.lucid_drive.proofs.calls.oldest.Given as goal

-- No slot from k on is taken.
abbrev pub invariant-search : goal.invariant-search
invariant-search l = last_below (λ (k : ℕ). is_some (packet_at l.pipe k)) (length l.pipe.slots) ≡ last_below (λ (k : ℕ). is_some (packet_at l.pipe k)) l.k

abbrev pub decreases-search : goal.decreases-search
decreases-search l = l.k
