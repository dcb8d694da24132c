use Rattle.std.proofs.Common.{sym, ap, subst, ◌∙◌, arith}
use Rattle.std.specs.List.{All}
use Rattle.std.proofs.lemmas.Grind.{common_steps}
use Rattle.lucid_merge.specs.declared.contested.ContestedRow.{ContestedRow}
use Rattle.lucid_merge.specs.Partners.{AreAll, HaveAllPairs}
use Rattle.lucid_merge.specs.Standing.{IsNear}
use Rattle.lucid_merge.proofs.PartnersLemmas.{of_partners}
use Rattle.lucid_merge.proofs.partners.Partners.of.Goals as goal

pub returns-clause-value : goal.returns-clause-value
returns-clause-value g c =
    let rows = c.self.inside.rows.now in
    let places = c.likely_places-places.result.now in
    let likely : HaveAllPairs c.args.row.now rows places =
    c.likely_places-places.ensures rows (subst (All (IsNear rows)) (sym c.as_slice.ensures.value) c.self.invariant.2) (subst (AreAll rows) (sym c.as_slice-2.ensures.value) c.self.invariant.1) in
    of_partners c.args.row.now c.args.self.now rows c.as_slice-p.result.now c.in_ok-found.field-0 places (sym c.self.view_is) c.as_slice-p.ensures
    c.in_ok-found.ensures.value c.in_ok-found.ensures.few (sym (ap ContestedRow.contradicts_itself c.in_ok-own.ensures) ∙ c.if-own.false) likely

pub returns-clause-steps : goal.returns-clause-steps
returns-clause-steps g c = grind (arith, common_steps)

pub returns-in_err-found-clause-steps : goal.returns-in_err-found-clause-steps
returns-in_err-found-clause-steps g c = grind (arith, common_steps)
