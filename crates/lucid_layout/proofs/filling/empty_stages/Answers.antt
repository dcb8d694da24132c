use Rattle.std.proofs.Common.{◌≡◌, ◌∙◌, ◌+◌, ◌∷◌, ◌++◌, ℕ, zero, suc, List, [], ap, ap₂, arith, refl, replicate}
use Rattle.lucid_tables.specs.declared.table.Table.{Table}
use Rattle.lucid_stages.specs.declared.stage.Stage.{Stage}
use Rattle.lucid_stages.specs.Stage.{no_tables}
use Rattle.lucid_layout.proofs.filling.empty_stages.Goals as goal

last : (n : ℕ) → replicate n no_tables ++ no_tables ∷ [] ≡ replicate (suc n) no_tables
last zero = refl
last (suc n) = ap (λ (stages : List Stage). no_tables ∷ stages) (last n)

one_more : (n : ℕ) (stages : List Stage) (tables : List Table) → stages ≡ replicate n no_tables → tables ≡ [] →
    stages ++ record { tables = tables; arrays = 0 } ∷ [] ≡ replicate (n + 1) no_tables
one_more n stages tables are none =
    let next : suc n ≡ n + 1 = omega arith in
    ap₂ (λ (stages : List Stage) (tables : List Table). stages ++ record { tables = tables; arrays = 0 } ∷ []) are none
    ∙ last n ∙ ap (λ k. replicate k no_tables) next

pub loop-turn-preserved : goal.loop-turn-preserved
loop-turn-preserved c =
    c.in_ok-push.ensures.items ∙ one_more c.loop-turn._turn c.loop-turn.stages.items c.new.result.items c.loop-turn.invariant c.new.ensures.items
