-- What is left of the text is counted still.
use Rattle.std.proofs.Common.{◌≡◌, ◌+◌, ◌-◌, ◌≤◌, drop, length}
use Rattle.lucid_core.specs.Texts.{holes_of}
use Rattle.lucid_types_statements.proofs.print_holes.holes.Given as goal

abbrev pub invariant-text : goal.invariant-text
invariant-text l = record {
  within : l.at ≤ length l.text;
  few : l.count ≤ l.at;
  left : l.count + holes_of (drop l.at l.text) ≡ holes_of l.text;
}

abbrev pub decreases-text : goal.decreases-text
decreases-text l = length l.text - l.at
