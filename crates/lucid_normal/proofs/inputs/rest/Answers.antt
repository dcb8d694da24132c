use Rattle.std.proofs.lemmas.Grind.{common_steps}
use Rattle.std.proofs.Common.{◌≤◌, ◌∙◌, arith, length}
use Rattle.lucid_normal.proofs.Fields.{first_left}
use Rattle.lucid_normal.proofs.inputs.rest.Goals as goal

pub returns-in_ok-from_slice : goal.returns-in_ok-from_slice
returns-in_ok-from_slice c =
    let ended : length c.args.ys.now ≤ c.args.at = omega arith in
    c.in_ok-from_slice.ensures ∙ first_left c.args.xs.now c.args.ys.now c.args.at ended

pub returns-in_ok-from_slice-2 : goal.returns-in_ok-from_slice-2
returns-in_ok-from_slice-2 c = grind (arith, common_steps)
