use Rattle.lucid_pipe_laws.proofs.LooksLaw.{looks, keeps_picture, leaves_picture, enters_picture, settles_to_all}
use Rattle.lucid_pipe_laws.proofs.PlacesLaw.{places, leaves_whole}
use Rattle.lucid_pipe_laws.proofs.laws.moves_keep_the_picture.Goals as goal

pub returns-clause-goes : goal.returns-clause-goes
returns-clause-goes c = keeps_picture

pub returns-clause-leaves : goal.returns-clause-leaves
returns-clause-leaves c = leaves_picture

pub returns-clause-enters : goal.returns-clause-enters
returns-clause-enters c = enters_picture

pub returns-clause-cells : goal.returns-clause-cells
returns-clause-cells c = looks

pub returns-clause-places : goal.returns-clause-places
returns-clause-places c = places

pub returns-clause-out : goal.returns-clause-out
returns-clause-out c = leaves_whole

pub returns-clause-settles : goal.returns-clause-settles
returns-clause-settles c = settles_to_all
