use Rattle.std.proofs.Common.{◌≡◌, ◌∷◌, ◌++◌, [], drop, fold}
use Rattle.lucid_inline_count.specs.Bodies.{fun_found, funs_found}
use Rattle.lucid_inline_count.proofs.program.count_functions.Given as goal

-- the rest makes the whole
abbrev pub invariant-loop-f : goal.invariant-loop-f
invariant-loop-f l = fold (λ so_far f. so_far ++ fun_found so_far f ∷ []) l.found.items (drop l.f-index l.funs) ≡ funs_found l.funs
