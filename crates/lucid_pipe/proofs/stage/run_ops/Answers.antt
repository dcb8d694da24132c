use Rattle.std.proofs.Common.{◌+◌, ◌∙◌, drop, ap, sym}
use Rattle.std.specs.List.{fold}
use Rattle.std.proofs.lemmas.List.{at_drop_more, at_drop_all}
use Rattle.lucid_code.specs.Run.{Machine}
use Rattle.lucid_pipe.specs.Blocks.{on_registers}
use Rattle.lucid_pipe.specs.InPlace.{run_number}
use Rattle.lucid_pipe.proofs.stage.run_ops.Goals as goal

pub loop-number-preserved : goal.loop-number-preserved
loop-number-preserved c =
    let f = run_number c.args.placed.now.code in
    let ops = c.args.ops.now in
    let i = c.loop-number.number-index in
    let m = on_registers c.loop-number.registers c.loop-number.cells c.loop-number.sent in (
      ap (λ (n : Machine). fold f n (drop (i + 1) ops)) c.run_op.ensures.machine ∙ sym (at_drop_more (fold f m) ops i 0 c.loop-number-test.true) ∙ c.loop-number.invariant.0,
      c.run_op.ensures.long ∙ c.loop-number.invariant.1,
    )

pub returns-clause-machine : goal.returns-clause-machine
returns-clause-machine c =
    let m = on_registers c.loop-number.registers c.loop-number.cells c.loop-number.sent in
    sym (at_drop_all (fold (run_number c.args.placed.now.code) m) c.args.ops.now c.loop-number.number-index c.loop-number-test.false) ∙ c.loop-number.invariant.0
