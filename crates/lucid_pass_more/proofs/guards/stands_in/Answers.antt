use Rattle.std.proofs.Common.{◌∙◌, sym}
use Rattle.lucid_pass_more.proofs.LiftLemmas.{found_in}
use Rattle.lucid_pass_more.proofs.guards.stands_in.Goals as goal

pub returns-then-stands_at : goal.returns-then-stands_at
returns-then-stands_at c = sym (found_in c.args.literal c.args.guard.now c.args.at (sym c.stands_at.ensures ∙ c.if-stands_at.true))
