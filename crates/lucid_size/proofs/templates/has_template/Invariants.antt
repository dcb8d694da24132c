use Rattle.std.proofs.Common.{◌≡◌, ◌≤◌, drop}
use Rattle.lucid_size.specs.Templates.{templates, templates_from}
use Rattle.lucid_size.proofs.templates.has_template.Given as goal

-- no template begins before this token
abbrev pub invariant-loop-at : goal.invariant-loop-at
invariant-loop-at l = record {
  few : l.opened ≤ l.at;
  left : templates_from l.at l.opened 0 (drop l.at l.tokens) ≡ templates l.tokens;
}
