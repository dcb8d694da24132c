-- The map has the place of the new text.
use Rattle.std.proofs.Common.{◌≡◌, ◌∙◌, List, ℕ, None, ap, bytes_eq, length, position, refl, rules, subst, sym, arith}
use Rattle.std.proofs.lemmas.Grind.{common_steps}
use Rattle.lucid_seed.specs.Seed.{IsIndexed}
use Rattle.lucid_seed.proofs.SeedLemmas.{indexed}
use Rattle.lucid_size.proofs.names.Names.put.Goals as goal

pub invariant_of-self-in-Ok-insert : goal.invariant_of-self-in-Ok-insert
invariant_of-self-in-Ok-insert c =
    let is_new : position (bytes_eq c.args.name) c.self.inside.names.items ≡ None = ap (position (bytes_eq c.args.name)) c.self.view_is ∙ c.requires.new in
    let place_is : c.len-place.result ≡ length c.self.inside.names.items = search rules in
    subst (λ (texts : List (List ℕ)). IsIndexed texts c.insert.new.self) (sym c.in-Ok.ensures.items)
    (indexed c.self.inside.names.items c.args.name c.self.inside.places c.insert.new.self c.args.key c.args.name c.len-place.result
    is_new c.self.invariant c.requires.copy refl place_is c.in-Ok-insert.ensures.updates.0)

pub invariant_of-self-in-Err-insert : goal.invariant_of-self-in-Err-insert
invariant_of-self-in-Err-insert c = grind (arith, common_steps)
