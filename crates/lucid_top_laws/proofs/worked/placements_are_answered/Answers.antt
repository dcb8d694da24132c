use Rattle.std.proofs.Common.{◌≡◌, List, Ok, [], ap, codes, refl, sym, ℕ}
use Rattle.std.specs.Fmt.{digits}
use Rattle.lucid_net_spec.specs.Log.{log}
use Rattle.lucid_top.specs.Layout.{fit_text}
use Rattle.lucid_top.specs.Pipes.{network_of}
use Rattle.lucid_top_laws.proofs.Declares.{worked}
use Rattle.lucid_top_laws.proofs.WorkedLemmas.{is_audit, is_ready, network, pipes}
use Rattle.lucid_top_laws.proofs.worked.placements_are_answered.Goals as goal

ran : log (network_of network) ≡ codes "[0] s0 e()\nentered 1 lost 0 pending 0\n"
unfolding digits
ran = refl

laid : fit_text [] pipes.fitted ≡ codes "ops 0 bits 96 nodes 0\n"
unfolding digits
laid = refl

pub plain_text_stays-requires-clause-reads : goal.plain_text_stays-requires-clause-reads
plain_text_stays-requires-clause-reads c = worked.reads

pub returns-clause-audit : goal.returns-clause-audit
returns-clause-audit c = (Ok pipes, is_audit c.plain_text_stays.ensures, ap (λ (t : List ℕ). Ok t) (sym laid))

pub returns-clause-placed : goal.returns-clause-placed
returns-clause-placed c = (Ok network, is_ready c.plain_text_stays.ensures, ap (λ (t : List ℕ). Ok t) (sym ran))
