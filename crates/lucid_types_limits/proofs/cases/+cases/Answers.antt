use Rattle.std.proofs.Common.{arith}
use Rattle.std.proofs.lemmas.Grind.{common_steps}
use Rattle.lucid_types_limits.proofs.cases.+cases.Goals as goal

pub blocks_are_few-returns-then-not-cases_are_few : goal.blocks_are_few-returns-then-not-cases_are_few
blocks_are_few-returns-then-not-cases_are_few t c = grind (arith, common_steps)

pub blocks_are_few-loop-block-preserved : goal.blocks_are_few-loop-block-preserved
blocks_are_few-loop-block-preserved t c = grind (arith, common_steps)

pub blocks_are_few-returns : goal.blocks_are_few-returns
blocks_are_few-returns t c = grind (arith, common_steps)

pub cases_are_few-returns-then-not-statement_is_few : goal.cases_are_few-returns-then-not-statement_is_few
cases_are_few-returns-then-not-statement_is_few t c = grind (arith, common_steps)

pub cases_are_few-loop-s-preserved : goal.cases_are_few-loop-s-preserved
cases_are_few-loop-s-preserved t c = grind (arith, common_steps)

pub cases_are_few-returns : goal.cases_are_few-returns
cases_are_few-returns t c = grind (arith, common_steps)
