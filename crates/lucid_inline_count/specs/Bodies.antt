-- The findings for functions and handlers, in the order of their declarations.
use Rattle.std.specs.Prelude.{ℕ, zero, suc, List, [], ◌∷◌, ◌++◌, Bool, fold, length, map, nat_lt}
use Rattle.lucid_core.specs.declared.body.Stmt.{Stmt}
use Rattle.lucid_core.specs.declared.defs.EventDef.{EventDef}
use Rattle.lucid_core.specs.declared.defs.FunDef.{FunDef}
use Rattle.lucid_core.specs.declared.defs.HandlerDef.{HandlerDef}
use Rattle.lucid_core.specs.Events.{event_params}
use Rattle.lucid_inline_count.specs.declared.counts.Counts.{Counts}
use Rattle.lucid_inline_count.specs.Found.{block_counts, stmt_tally}

-- Of n locals the first ones are parameters, and so held.
abbrev pub held_first : ℕ → ℕ → List Bool
held_first params zero = []
held_first params (suc n) = held_first params n ++ nat_lt n params ∷ []

abbrev pub body_found : List Counts → ℕ → ℕ → List Stmt → Counts
body_found funs params n ss = block_counts (map stmt_tally ss) (record { funs = funs; held = held_first params n })

abbrev pub fun_found : List Counts → FunDef → Counts
fun_found so_far f = body_found so_far f.params (length f.locals) f.body

abbrev pub funs_found : List FunDef → List Counts
funs_found fs = fold (λ so_far f. so_far ++ fun_found so_far f ∷ []) [] fs

abbrev pub handler_found : List EventDef → List Counts → HandlerDef → Counts
handler_found events funs h = body_found funs (length (event_params events h.event)) (length h.locals) h.body

abbrev pub handlers_found : List EventDef → List Counts → List HandlerDef → List Counts
handlers_found events funs handlers = map (handler_found events funs) handlers
