-- The found memop is the shape, fits, and has the meaning of the body.
use Rattle.lucid_memop.proofs.Finding.{exact}
use Rattle.lucid_memop.proofs.Promises.{found_fits, found_means}
use Rattle.lucid_memop.proofs.body.shape.Goals as goal

pub returns-clause-shape : goal.returns-clause-shape
returns-clause-shape c = exact c.args.width c.args.body.now c.memop.result c.memop.ensures

pub returns-clause-fits : goal.returns-clause-fits
returns-clause-fits c = found_fits c.args.width c.args.body.now c.memop.result c.memop.ensures

pub returns-clause-means : goal.returns-clause-means
returns-clause-means c = found_means c.args.width c.args.body.now c.memop.result c.memop.ensures
