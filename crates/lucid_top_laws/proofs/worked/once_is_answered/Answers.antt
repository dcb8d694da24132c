use Rattle.std.proofs.Common.{◌≡◌, List, [], Ok, ℕ, ap, codes, refl, sym}
use Rattle.std.specs.Fmt.{digits}
use Rattle.lucid_base.specs.declared.event.Event.{Event}
use Rattle.lucid_core.specs.Step.{Stepped, step}
use Rattle.lucid_top.specs.Once.{shown}
use Rattle.lucid_top_laws.proofs.Declares.{core, text, tree, worked}
use Rattle.lucid_top_laws.proofs.Programs.{is_program}
use Rattle.lucid_top_laws.specs.declared.worked.TheConstants.{TOKENS}
use Rattle.lucid_top_laws.proofs.worked.once_is_answered.Goals as goal

abbrev e : Event
e = record { id = 0; args = [] }

abbrev after : Stepped
after = step core [] 0 0 e

block : shown core e after.outs after.cells ≡ codes "[0] s0 e()\n"
unfolding digits
block = refl

pub plain_text_stays-requires-clause-reads : goal.plain_text_stays-requires-clause-reads
plain_text_stays-requires-clause-reads c = worked.reads

pub returns : goal.returns
returns c = (Ok core, is_program text TOKENS tree core worked c.plain_text_stays.ensures, ap (λ (t : List ℕ). Ok t) (sym block))
