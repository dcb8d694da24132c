-- What stands at the place of the name.
use Rattle.std.proofs.Common.{◌∙◌, Some, ap, sym, arith}
use Rattle.std.proofs.lemmas.Grind.{common_steps}
use Rattle.lucid_types_spec.specs.Names.{seen}
use Rattle.lucid_types_scope.proofs.Places.{place_within, found_there, not_found}
use Rattle.lucid_types_scope.specs.declared.scope.Kept.{Kept}
use Rattle.lucid_types_scope.proofs.scope.Scope.find.Goals as goal

pub index-requires : goal.index-requires
index-requires c =
    let place = sym c.place_of.ensures ∙ c.in-Some.is in
    grind (arith, common_steps, place_within c.self.inside.kept.items c.self.inside.newest c.self.invariant c.args.name.now c.in-Some.at place)

pub returns-in-Some : goal.returns-in-Some
returns-in-Some c =
    let place = sym c.place_of.ensures ∙ c.in-Some.is in
    ap (λ (k : Kept). Some k.named.entry) c.index.ensures
    ∙ found_there c.self.inside.kept.items c.self.inside.newest c.self.invariant c.args.name.now c.in-Some.at c.index.result.now place
    ∙ ap (seen c.args.name.now) c.self.view_is

pub returns-in-None : goal.returns-in-None
returns-in-None c =
    not_found c.self.inside.kept.items c.self.inside.newest c.self.invariant c.args.name.now (sym c.place_of.ensures ∙ c.in-None.is)
    ∙ ap (seen c.args.name.now) c.self.view_is
