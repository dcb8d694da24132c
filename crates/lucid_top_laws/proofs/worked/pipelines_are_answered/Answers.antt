use Rattle.std.proofs.Common.{◌≡◌, List, Ok, [], ap, codes, refl, sym, ℕ}
use Rattle.std.specs.Fmt.{digits}
use Rattle.lucid_drive.specs.Drive.{drive_log}
use Rattle.lucid_net_spec.specs.Log.{log}
use Rattle.lucid_snap.specs.Log.{snap_log}
use Rattle.lucid_top.specs.Drive.{driven}
use Rattle.lucid_top.specs.Layout.{fit_text}
use Rattle.lucid_top.specs.Pipes.{network_of}
use Rattle.lucid_top_laws.proofs.Declares.{worked}
use Rattle.lucid_top_laws.proofs.WorkedExamples.{fitted, is_piped, is_ready, network, pipes}
use Rattle.lucid_top_laws.specs.declared.worked.TheConstants.{TOKENS}
use Rattle.lucid_top_laws.proofs.worked.pipelines_are_answered.Goals as goal

ran : log (network_of network) ≡ codes "[0] s0 e()\nentered 1 lost 0 pending 0\n"
unfolding digits
ran = refl

laid : fit_text [] fitted ≡ codes "ops 0 bits 96 nodes 0\n"
unfolding digits
laid = refl

drove : drive_log (driven network) ≡ codes "entered 0 left 1\n"
unfolding digits
drove = refl

snapped : snap_log (driven network) 0 ≡ codes "entered 0 left 1\nsnap after 0\n"
unfolding digits
snapped = refl

pub plain_text_stays-requires-clause-reads : goal.plain_text_stays-requires-clause-reads
plain_text_stays-requires-clause-reads c = worked.reads

pub returns-clause-pipe : goal.returns-clause-pipe
returns-clause-pipe c = (Ok network, is_ready c.plain_text_stays.ensures, ap (λ (t : List ℕ). Ok t) (sym ran))

pub returns-clause-layout : goal.returns-clause-layout
returns-clause-layout c = (Ok pipes, is_piped c.plain_text_stays.ensures, ap (λ (t : List ℕ). Ok t) (sym laid))

pub returns-clause-drive : goal.returns-clause-drive
returns-clause-drive c = (Ok network, is_ready c.plain_text_stays.ensures, ap (λ (t : List ℕ). Ok t) (sym drove))

pub returns-clause-snap : goal.returns-clause-snap
unfolding digits
returns-clause-snap c = (Ok network, is_ready c.plain_text_stays.ensures, ap (λ (t : List ℕ). Ok t) (sym snapped))

pub returns-clause-expand : goal.returns-clause-expand
returns-clause-expand c = (Ok TOKENS, worked.reads, (c.plain_text_stays.ensures, worked.within))
