use Rattle.std.proofs.Common.{◌≡◌, ◌+◌, ◌*◌, take, true}
use Rattle.std.specs.List.{list_all}
use Rattle.lucid_types_spec.specs.Limits.{cases_are_few}
use Rattle.lucid_types_limits.proofs.cases.+cases.Given as goal

abbrev pub decreases-statement_is_few : goal.decreases-statement_is_few
decreases-statement_is_few l = 3 * goal.size-statement_is_few l

abbrev pub decreases-choice_is_few : goal.decreases-choice_is_few
decreases-choice_is_few l = 3 * goal.size-choice_is_few l

abbrev pub decreases-no_is_few : goal.decreases-no_is_few
decreases-no_is_few l = 3 * goal.size-no_is_few l

abbrev pub decreases-cases_are_few : goal.decreases-cases_are_few
decreases-cases_are_few l = 3 * goal.size-cases_are_few l + 1

-- each case is a list in a list
abbrev pub decreases-blocks_are_few : goal.decreases-blocks_are_few
decreases-blocks_are_few l = 3 * goal.size-blocks_are_few l + 2

-- what was gone over passes
abbrev pub invariant-cases_are_few-loop-s : goal.invariant-cases_are_few-loop-s
invariant-cases_are_few-loop-s l = list_all cases_are_few (take l.s-index l.ss) ≡ true

abbrev pub invariant-blocks_are_few-loop-block : goal.invariant-blocks_are_few-loop-block
invariant-blocks_are_few-loop-block l = list_all (λ c. list_all cases_are_few c.1) (take l.block-index l.cases) ≡ true
