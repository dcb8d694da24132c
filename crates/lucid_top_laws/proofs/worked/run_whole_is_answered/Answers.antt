use Rattle.std.proofs.Common.{◌≡◌, List, [], Ok, ℕ, ap, codes, refl, sym}
use Rattle.std.specs.Fmt.{digits}
use Rattle.lucid_net_spec.specs.Log.{log, whole}
use Rattle.lucid_top.specs.Pipes.{target}
use Rattle.lucid_top_laws.proofs.Empty.{core, tree, worked}
use Rattle.lucid_top_laws.proofs.Programs.{is_program}
use Rattle.lucid_top_laws.proofs.Settings.{are_limits, is_scenario, limits, scene}
use Rattle.lucid_top_laws.proofs.worked.run_whole_is_answered.Goals as goal

line : log (whole core scene limits) ≡ codes "entered 0 lost 0 pending 0\n"
unfolding digits
line = refl

pub returns : goal.returns
returns c = (
  Ok (target core limits),
  (Ok core, is_program [] [] tree core worked c.plain_text_stays.ensures, (Ok limits, are_limits, refl)),
  (Ok scene, is_scenario, ap (λ (t : List ℕ). Ok t) (sym line)),
)
