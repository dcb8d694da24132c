use Rattle.std.proofs.Common.{◌≡◌, List, Ok, ap, codes, refl, sym, ℕ}
use Rattle.std.specs.Fmt.{digits}
use Rattle.lucid_net_spec.specs.Log.{log, whole}
use Rattle.lucid_top.specs.Pipes.{target}
use Rattle.lucid_top_laws.proofs.Declares.{core, text, tree, worked}
use Rattle.lucid_top_laws.proofs.Entering.{is_scenario, scene}
use Rattle.lucid_top_laws.proofs.Programs.{is_program}
use Rattle.lucid_top_laws.proofs.Settings.{are_limits, limits}
use Rattle.lucid_top_laws.specs.declared.worked.TheConstants.{TOKENS}
use Rattle.lucid_top_laws.proofs.worked.run_with_an_event_is_answered.Goals as goal

lines : log (whole core scene limits) ≡ codes "[0] s0 e()\nentered 1 lost 0 pending 0\n"
unfolding digits
lines = refl

pub plain_text_stays-requires-clause-reads : goal.plain_text_stays-requires-clause-reads
plain_text_stays-requires-clause-reads c = worked.reads

pub returns : goal.returns
returns c = (
  Ok (target core limits),
  (Ok core, is_program text TOKENS tree core worked c.plain_text_stays.ensures, (Ok limits, are_limits, refl)),
  (Ok scene, is_scenario, ap (λ (t : List ℕ). Ok t) (sym lines)),
)
