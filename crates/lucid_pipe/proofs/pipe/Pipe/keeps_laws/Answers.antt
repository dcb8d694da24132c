use Rattle.std.proofs.Common.{◌≡◌, length, subst}
use Rattle.lucid_pipe.specs.Pipe.{PipeParts}
use Rattle.lucid_pipe.proofs.Moves.{pipe_long}
use Rattle.lucid_pipe.proofs.pipe.Pipe.keeps_laws.Goals as goal

pub returns-clause-long : goal.returns-clause-long
returns-clause-long c = subst (λ (p : PipeParts). length p.slots ≡ length p.placed.stages) c.self.view_is (pipe_long _ _ _ _ c.self.invariant)
