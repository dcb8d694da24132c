-- Where the rows of both tables agree, nothing is new.
use Rattle.std.proofs.Common.{◌≡◌, ◌∙◌, ap₂, Bool, List, length, refl, rules, subst, sym}
use Rattle.lucid_constraints.specs.Cover.{RowsHeldTo, StartsHeld}
use Rattle.lucid_constraints.specs.Marks.{AreNumbered}
use Rattle.lucid_constraints.specs.Substitution.{needs_from}
use Rattle.lucid_constraints.specs.declared.pair.Pair.{Pair}
use Rattle.lucid_constraints.proofs.Covering.{covered}
use Rattle.lucid_constraints.proofs.order.Order.covers.Goals as goal

pub returns-then-rows_held : goal.returns-then-rows_held
returns-then-rows_held c = λ e.
    let full : length c.self.inside.marks.items ≡ 5256 = search rules in
    let all : length c.of.inside.marks.items ≡ 5256 = search rules in
    let some : AreNumbered c.of.inside.pairs = search rules in
    let rows = subst (λ (t : List Bool). RowsHeldTo c.in-Some.places t c.self.inside.marks.items 72) c.deref.ensures.value
    (subst (λ (o : List Bool). RowsHeldTo c.in-Some.places c.deref.result.now o 72) c.deref-in-Some.ensures.value (c.if-rows_held.ensures refl)) in
    let starts = subst (λ (t : List Bool). StartsHeld c.in-Some.places t c.self.inside.marks.items c.args.start.now) c.deref-then-rows_held.ensures.value
    (subst (λ (o : List Bool). StartsHeld c.in-Some.places c.deref-then-rows_held.result.now o c.args.start.now) c.deref-then-rows_held-2.ensures.value (c.start_held.ensures e)) in
    ap₂ (λ (ps qs : List Pair). needs_from c.args.names.now c.args.start.now ps qs) (sym c.self.view_is) (sym c.of.view_is)
    ∙ covered c.args.names.now c.in-Some.places c.in-Some.ensures.places c.self.inside.marks.items c.of.inside.marks.items c.self.inside.pairs c.of.inside.pairs c.args.start.now
    c.self.invariant.1 c.of.invariant.1 full all rows starts some
    ∙ c.self.view_is
