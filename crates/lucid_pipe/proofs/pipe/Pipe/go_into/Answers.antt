use Rattle.lucid_pipe.proofs.Moves.{pipe_long}
use Rattle.lucid_pipe.proofs.pipe.Pipe.go_into.Goals as goal

pub returns-clause-long : goal.returns-clause-long
returns-clause-long c = pipe_long _ _ _ _ c.go_on.ensures.pipe
