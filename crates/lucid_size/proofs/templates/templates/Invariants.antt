use Rattle.std.proofs.Common.{◌≡◌, ◌≤◌, drop}
use Rattle.lucid_size.specs.Templates.{templates, templates_from}
use Rattle.lucid_size.specs.Cutting.{before_those}
use Rattle.lucid_size.proofs.templates.templates.Given as goal

-- what is found, and then what is found from here on, is what is found in all
abbrev pub invariant-loop-at : goal.invariant-loop-at
invariant-loop-at l = record {
  few : l.cutting.opened ≤ l.at;
  left : before_those l.cutting.found.items (templates_from l.at l.cutting.opened l.cutting.more (drop l.at l.tokens)) ≡ templates l.tokens;
}
