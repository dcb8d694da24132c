use Rattle.std.proofs.lemmas.Grind.{common_steps}
use Rattle.std.proofs.Common.{ℕ, ◌-◌, List, ◌++◌, OnErr, OnOk, ◌∙◌, ap, subst, arith}
use Rattle.lucid_core.specs.Step as core
use Rattle.lucid_io.specs.Puts.{PutsAll, PutsPart}
use Rattle.lucid_log.specs.Cells.{cells_text}
use Rattle.lucid_drive.specs.Drive.{ending_text, entries}
use Rattle.lucid_drive.proofs.States.{last_cells}
use Rattle.lucid_drive.proofs.calls.drive_end.Goals as goal

pub returns-clause-all : goal.returns-clause-all
returns-clause-all g c =
    let e = c.args.state.now.entered in
    let cells = last_cells c.args.core.now c.args.scene.now c.args.state.now c.requires.at.moves c.args.pipe.now c.cells_stay_fit.ensures
    (record { rows = c.keeps_laws.ensures.rows; pass = c.keeps_laws.ensures.pass; idle = c.keeps_laws.ensures.idle; sized = c.keeps_laws.ensures.sized }) c.requires.at.after c.requires.empty in
    subst (λ (t : List ℕ). OnOk c.put_end.result (PutsAll g.S.Sink.written g.S.Sink.faults c.args.sink.now c.put_end.new.sink t))
    (ap (λ (l : List (List ℕ)). cells_text 0 c.args.core.now.arrays l ++ ending_text e (c.len-events.result - e)) cells
    ∙ ap (λ (n : ℕ). cells_text 0 c.args.core.now.arrays (core.after c.args.core.now (entries c.args.scene.now) e) ++ ending_text e (n - e)) c.len-events.ensures)
    c.put_end.ensures.all

pub returns-clause-part : goal.returns-clause-part
returns-clause-part g c =
    let e = c.args.state.now.entered in
    let cells = last_cells c.args.core.now c.args.scene.now c.args.state.now c.requires.at.moves c.args.pipe.now c.cells_stay_fit.ensures
    (record { rows = c.keeps_laws.ensures.rows; pass = c.keeps_laws.ensures.pass; idle = c.keeps_laws.ensures.idle; sized = c.keeps_laws.ensures.sized }) c.requires.at.after c.requires.empty in
    subst (λ (t : List ℕ). OnErr c.put_end.result (PutsPart g.S.Sink.written g.S.Sink.faults c.args.sink.now c.put_end.new.sink t))
    (ap (λ (l : List (List ℕ)). cells_text 0 c.args.core.now.arrays l ++ ending_text e (c.len-events.result - e)) cells
    ∙ ap (λ (n : ℕ). cells_text 0 c.args.core.now.arrays (core.after c.args.core.now (entries c.args.scene.now) e) ++ ending_text e (n - e)) c.len-events.ensures)
    c.put_end.ensures.part

pub returns-clause-cells : goal.returns-clause-cells
returns-clause-cells g c =
    last_cells c.args.core.now c.args.scene.now c.args.state.now c.requires.at.moves c.args.pipe.now c.cells_stay_fit.ensures
    (record { rows = c.keeps_laws.ensures.rows; pass = c.keeps_laws.ensures.pass; idle = c.keeps_laws.ensures.idle; sized = c.keeps_laws.ensures.sized }) c.requires.at.after c.requires.empty

pub overflow_sub-events : goal.overflow_sub-events
overflow_sub-events g c = grind (arith, common_steps)
