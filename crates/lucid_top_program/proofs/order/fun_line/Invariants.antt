use Rattle.std.proofs.Common.{◌≡◌, drop, nat_eq}
use Rattle.std.specs.List.{find}
use Rattle.lucid_top_program.proofs.order.fun_line.Given as goal

-- what is left decides
abbrev pub invariant-loop-f : goal.invariant-loop-f
invariant-loop-f l = find (λ f. nat_eq f.decl l.decl) (drop l.f-index l.funs) ≡ find (λ f. nat_eq f.decl l.decl) l.funs
