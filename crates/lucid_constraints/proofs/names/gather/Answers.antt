use Rattle.std.proofs.Common.{rules, ◌≡◌, sym, subst, List}
use Rattle.lucid_base.specs.declared.array.ArrayName.{ArrayName}
use Rattle.lucid_constraints.proofs.NamesLemmas.{covers}
use Rattle.lucid_constraints.specs.Circle.{needed, Covers, HasDeclared, named_from}
use Rattle.lucid_constraints.proofs.names.gather.Goals as goal

pub returns : goal.returns
returns c =
    let all : HasDeclared c.args.arrays c.in_ok-names.names.items = c.in_ok-names.ensures in
    let is : c.join_each.new.names.items ≡ named_from c.in_ok-names.names.items c.args.pairs.now = search rules in
    subst (λ (names : List ArrayName). Covers (needed c.args.pairs.now c.args.arrays) names) (sym is) (covers c.args.arrays c.args.pairs.now c.in_ok-names.names.items all)
