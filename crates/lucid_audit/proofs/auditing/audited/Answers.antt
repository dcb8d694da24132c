use Rattle.std.proofs.lemmas.Grind.{elements}
use Rattle.std.proofs.Common.{rules, arith}
use Rattle.lucid_audit.specs.Refused.{AreThere, AreBehind, FirstFull}
use Rattle.lucid_audit.proofs.Widths.{all_few, all_crowds, told}
use Rattle.lucid_audit.proofs.auditing.audited.Goals as goal

pub returns-in-Some-first_full-clause-err : goal.returns-in-Some-first_full-clause-err
returns-in-Some-first_full-clause-err c =
    let there : AreThere c.args.limits.now c.args.seats.now = c.first_absent.ensures.none (search rules) in
    let behind : AreBehind c.args.seats.now = c.first_early.ensures.none (search rules) in (
      there,
      behind,
      all_few c.args.code.now.ops c.args.limits.now c.args.seats.now there c.in_ok-stages.ensures.few,
      told (FirstFull c.args.limits.now c.args.seats.now) c.first_full.result c.in-Some-first_full.stage c.first_full.ensures.some c.in-Some-first_full.is,
    )

pub returns-clause-rules : goal.returns-clause-rules
returns-clause-rules c =
    let there : AreThere c.args.limits.now c.args.seats.now = c.first_absent.ensures.none (search rules) in
    record {
      there = there;
      order = c.first_early.ensures.none (search rules);
      rows = all_few c.args.code.now.ops c.args.limits.now c.args.seats.now there c.in_ok-stages.ensures.few;
      arrays = all_crowds c.args.limits.now c.args.seats.now there (c.first_full.ensures.none (search rules));
    }

pub first_early-requires-clause-writes : goal.first_early-requires-clause-writes
first_early-requires-clause-writes c = grind (arith, elements)
