use Rattle.std.proofs.Common.{List, Ok, ap, sym, ℕ}
use Rattle.lucid_top_laws.proofs.FlightExamples.{is_ready, log_is, network}
use Rattle.lucid_top_laws.proofs.worked.two_packets_are_answered.Goals as goal

pub returns : goal.returns
returns c = (Ok network, is_ready, ap (λ (t : List ℕ). Ok t) (sym log_is))
