-- The networks that are worked by hand, computed.
use Rattle.std.proofs.Common.{refl}
use Rattle.std.specs.Fmt.{digits}
use Rattle.lucid_log.specs.Cells.{lines_from}
use Rattle.lucid_net_spec.specs.Examples.{NetworkExamples}

pub network_examples : NetworkExamples
unfolding digits lines_from
network_examples = record { nothing = refl; no_tick = refl; again = refl; at_once = refl; print = refl; parents = refl; two_switches = refl; window = refl; cells = refl; saturated = refl; unhandled = refl }
