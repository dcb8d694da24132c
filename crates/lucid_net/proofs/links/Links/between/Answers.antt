use Rattle.std.proofs.Common.{◌≡◌, Option, IfSome, true, inl, inr, slice_get, rules, ap, ◌∙◌, sym, subst, arith}
use Rattle.std.specs.List.{find}
use Rattle.lucid_conf.specs.Items.{joins}
use Rattle.lucid_conf.specs.declared.scene.Link.{Link}
use Rattle.lucid_net.proofs.Pairing.{found_is, found_joins, outside}
use Rattle.lucid_net.proofs.links.Links.between.Goals as goal
use Rattle.lucid_net.proofs.links.Links.between.Goals.{After-link_at, then-row-self-via-then-row-self, then-row-self-via-else-row-self+then-column-self}

found : (c : After-link_at) → c.link_at.result ≡ find (joins c.args.a c.args.b) c.args.self.now
found c =
    found_is c.self.inside.links.now c.args.self.now c.self.inside.switches c.self.inside.places.items c.args.a c.args.b c.index-place.result.now c.link_at.result
    c.self.invariant (search rules) (omega (arith, c.if-row-self.false)) (omega (arith, c.if-column-self.false))
    (c.link_at.ensures ∙ ap (slice_get c.self.inside.links.now) (search rules))

pub returns-then-row-self-clause-first : goal.returns-then-row-self-clause-first
returns-then-row-self-clause-first c = elim c.then-row-self.branch [
  | then-row-self-via-then-row-self w ↦
      outside c.self.inside.links.now c.args.self.now c.self.inside.switches c.self.inside.places.items c.args.a c.args.b c.self.invariant
      (search rules) (inl w.if-row-self.true)
  | then-row-self-via-else-row-self+then-column-self w ↦
      outside c.self.inside.links.now c.args.self.now c.self.inside.switches c.self.inside.places.items c.args.a c.args.b c.self.invariant
      (search rules) (inr w.if-column-self.true)
]

pub returns-clause-first : goal.returns-clause-first
returns-clause-first c = found (goal.at.returns-clause-first c).After-link_at

pub returns-clause-joins : goal.returns-clause-joins
returns-clause-joins c =
    subst (λ (o : Option Link). IfSome o (λ l. joins c.args.a c.args.b l ≡ true)) (sym (found (goal.at.returns-clause-joins c).After-link_at))
    (found_joins c.args.a c.args.b c.args.self.now)
