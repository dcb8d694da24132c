use Rattle.std.proofs.Common.{refl}
use Rattle.lucid_core_run.proofs.CellsLemmas.{rewound-noted, with_cell-undo}
use Rattle.lucid_core_run.proofs.run.Run.touch.Goals as goal

pub returns-in-Ok-clause-stored : goal.returns-in-Ok-clause-stored
returns-in-Ok-clause-stored c =
    rw (c.touch-touched.ensures.stored, c.in-Ok.ensures.items, c.touch-touched.ensures.held, ← c.self.view_is) (rw rewound-noted refl)

pub returns-in-Err-clause-start : goal.returns-in-Err-clause-start
returns-in-Err-clause-start c =
    rw (c.set.ensures, c.in-Err.ensures.items, c.touch-touched.ensures.stored, c.touch-touched.ensures.held, ← c.self.view_is) (rw with_cell-undo refl)
