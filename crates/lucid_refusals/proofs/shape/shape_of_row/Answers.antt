use Rattle.std.proofs.Common.{◌≡◌, ◌∙◌, List, [], ◌∷◌, ◌++◌, sym, ap, subst}
use Rattle.lucid_code.specs.declared.op.Literal.{Literal}
use Rattle.lucid_tables.specs.declared.table.Row.{Row}
use Rattle.lucid_refusals.specs.Refusal.{StandsFor, shared}
use Rattle.lucid_refusals.proofs.RefusalLemmas.{stands_plain, stands_short}
use Rattle.lucid_refusals.proofs.shape.shape_of_row.Goals as goal

pub returns-in_ok-shape-in-None : goal.returns-in_ok-shape-in-None
returns-in_ok-shape-in-None c = subst (StandsFor c.args.fields.now c.args.more.now) (sym c.in_ok-shape-in-None.ensures) (stands_plain c.rows_are_counted.ensures c.args.fields.now c.args.more.now)

pub returns-in_ok-shape-in-Some : goal.returns-in_ok-shape-in-Some
returns-in_ok-shape-in-Some c =
    let fields = c.args.fields.now in
    let row = c.args.row.now in
    let literal = c.in-Some.literal in
    let stands : StandsFor fields (row ∷ []) ((shared fields row.pattern ++ literal ∷ []) ∷ []) =
    stands_short c.rows_are_counted.ensures fields row literal c.in-Some.ensures.0 c.in-Some.ensures.1 c.in-Some.ensures.2 in
    let shape : c.in_ok-shape-in-Some.shape ≡ (shared fields row.pattern ++ literal ∷ []) ∷ [] =
    c.in_ok-shape-in-Some.ensures ∙ ap (λ (p : List Literal). (shared fields p ++ literal ∷ []) ∷ []) c.as_slice-pattern.ensures in
    subst (λ (rows : List Row). StandsFor fields rows c.in_ok-shape-in-Some.shape) (sym c.requires) (subst (StandsFor fields (row ∷ [])) (sym shape) stands)
