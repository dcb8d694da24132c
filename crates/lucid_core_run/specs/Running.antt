-- A run in progress: the state so far, and the cells that it began with.
use Rattle.std.specs.Prelude.{ℕ, List, [], ◌∷◌}
use Rattle.lucid_base.specs.declared.event.Out.{Out}
use Rattle.lucid_base.specs.declared.event.Out.TheVariants as out
use Rattle.lucid_core_run.specs.declared.draft.Draft.{Draft}
use Rattle.lucid_core_run.specs.declared.draft.Draft.TheVariants.{Gen, Say}
use Rattle.lucid_core_run.specs.declared.run.Write.{Write}
use Rattle.lucid_core.specs.Computations.{State}
use Rattle.lucid_base.specs.Cells.{with_cell}
use Rattle.lucid_core.specs.Meaning.{generated}
use Rattle.lucid_core.specs.Values.{numbers}

-- The out of a draft.
abbrev pub out_of : Draft → Out
out_of (Gen event args delay to) = generated event args delay to
out_of (Say form args) = out.Say form (numbers args)

pub record Running : Type 0 where
  pub state : State
  pub start : List (List ℕ)

abbrev pub with_state : Running → State → Running
with_state run s = record run { state = s }

-- The cells before these writes, the last taken back first.
abbrev pub rewound : List Write → List (List ℕ) → List (List ℕ)
rewound [] cells = cells
rewound (w ∷ ws) cells = with_cell (rewound ws cells) w.array w.cell w.old
