use Rattle.std.proofs.Common.{◌≡◌, ℕ, ◌+◌, ◌-◌, ◌≤◌, false, List, length}
use Rattle.lucid_io.specs.History.{gave}
use Rattle.std.specs.Io.KnownBytes.{Consumes}
use Rattle.lucid_io.specs.Contents.{SameHeld}
use Rattle.lucid_io.specs.Counts.{SameCounts}
use Rattle.lucid_io.proofs.reading.take_rest.Given as goal

-- The bytes so far are those that the begun file gave, no more than a byte past the limit, and each read took a byte of it.
abbrev pub invariant-fill : goal.invariant-fill
invariant-fill g l = record {
  within : length l.bytes.items ≤ l.limit + 1;
  given : g.F.Files.given l.files ≡ length l.bytes.items;
  reads : g.F.Files.reads l.files ≤ g.F.Files.reads l.fn.files + length l.bytes.items;
  untried : (name : List ℕ) → g.F.Files.tried l.files name → g.F.Files.tried l.fn.files name;
  begun : (name : List ℕ) → g.F.Files.begun l.fn.files name → g.F.Files.begun l.files name;
  no_other : (name : List ℕ) → g.F.Files.begun l.files name → g.F.Files.begun l.fn.files name;
  so_far : Consumes (g.F.Files.left l.fn.files) (g.F.Files.left l.files) l.bytes.items;
  held : SameHeld (g.F.Files.held l.fn.files) (g.F.Files.held l.files);
  heard : g.F.Files.heard l.files ≡ gave l.bytes.items false (g.F.Files.heard l.fn.files);
  quiet : SameCounts (g.F.Files.faults l.fn.files) (g.F.Files.faults l.files);
}

-- Each turn but the last takes a byte.
abbrev pub decreases-fill : goal.decreases-fill
decreases-fill g l = l.limit + 1 - length l.bytes.items
