use Rattle.std.proofs.Common.{rules, refl}
use Rattle.lucid_constraints.proofs.CycleLemmas.{numbering, no_numbering, turned_forms}
use Rattle.lucid_constraints.specs.Circle.{needed, Covers, IsCircle, Member, OrderOn}
use Rattle.lucid_constraints.proofs.order.Order.search.Goals as goal

pub returns-in-None : goal.returns-in-None
returns-in-None c =
    let covers : Covers (needed c.args.self.now c.args.arrays) c.in_ok-names.names.items = search rules in
    let order : OrderOn (needed c.args.self.now c.args.arrays) (λ x. Member x c.in_ok-names.names.items) = search rules in
    record { none = ((λ e. numbering c.args.self.now c.args.arrays c.in_ok-names.names.items covers order), (λ h. refl)); cycle = tt }

pub returns-in-Some : goal.returns-in-Some
returns-in-Some c =
    let circle : IsCircle (needed c.args.self.now c.args.arrays) c.in-Some.found.items = search rules in
    record {
      none = ((λ e. absurd (cc)), (λ h. absurd (no_numbering c.args.self.now c.args.arrays c.in-Some.found.items circle h)));
      cycle = turned_forms c.args.self.now c.args.arrays c.in-Some.found.items c.turn.new.names.items circle c.turn.ensures;
    }
