use Rattle.std.proofs.Common.{◌≡◌, vec_len}
use Rattle.lucid_inline_count.specs.Flags.{put_back}
use Rattle.lucid_inline_count.proofs.held.put_back.Given as goal

abbrev pub invariant-loop-note : goal.invariant-loop-note
invariant-loop-note l = put_back l.left.items l.held.items ≡ put_back l.fn.notes.items l.fn.held.items

abbrev pub decreases-loop-note : goal.decreases-loop-note
decreases-loop-note l = vec_len l.left
