use Rattle.std.proofs.Common.{◌≡◌, drop, nat_eq}
use Rattle.std.specs.List.{find}
use Rattle.lucid_top_program.proofs.order.handler_line.Given as goal

-- what is left decides
abbrev pub invariant-loop-h : goal.invariant-loop-h
invariant-loop-h l = find (λ h. nat_eq h.decl l.decl) (drop l.h-index l.handlers) ≡ find (λ h. nat_eq h.decl l.decl) l.handlers
