use Rattle.std.proofs.Common.{◌≡◌, drop, fold}
use Rattle.lucid_normal_spec.specs.Program.{arg_widths, widest}
use Rattle.lucid_normal.proofs.inputs.arg_widths.Given as goal

-- the rest makes the whole
abbrev pub invariant-loop-event : goal.invariant-loop-event
invariant-loop-event l = fold (λ widths e. widest widths e.params) l.widths (drop l.event-index l.events) ≡ arg_widths l.events
