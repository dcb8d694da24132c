use Rattle.lucid_top_laws.proofs.texts.packet_runs_whole.Goals as goal

pub returns-clause-fit : goal.returns-clause-fit
returns-clause-fit c program limits a passes f = (c.codes_run_whole.ensures.fit program limits a passes f).packet

pub returns-clause-placed : goal.returns-clause-placed
returns-clause-placed c program limits a passes placement p = (c.codes_run_whole.ensures.placed program limits a passes placement p).packet
