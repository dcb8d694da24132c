use Rattle.std.proofs.Common.{◌≡◌, ◌+◌, ℕ, false, ◌&&◌, ◌||◌, drop, length}
use Rattle.std.specs.Prelude.{slice_index_or}
use Rattle.lucid_base.specs.Numbers.{is_in}
use Rattle.lucid_inline_count.specs.Flags.{put_back}
use Rattle.lucid_inline_count.specs.Found.{joined}
use Rattle.lucid_inline_count.proofs.held.distinct.Given as goal

-- each that was found is no longer held, and has a note
abbrev pub invariant-loop-x : goal.invariant-loop-x
invariant-loop-x l = record {
  back : put_back l.notes.items l.held.items ≡ l.fn.held.items;
  count : length l.found.items + joined l.held.items (drop l.x-index l.names) ≡ joined l.fn.held.items l.names;
  alike : (i : ℕ) → (slice_index_or l.fn.held.items i false && (is_in i l.found.items || (slice_index_or l.held.items i false && is_in i (drop l.x-index l.names))))
      ≡ (slice_index_or l.fn.held.items i false && is_in i l.names);
}
