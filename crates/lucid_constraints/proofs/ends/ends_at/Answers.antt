use Rattle.std.proofs.Common.{◌≡◌, ◌∙◌, List, [], ap, sym, subst}
use Rattle.lucid_constraints.specs.declared.pair.Atom.{Atom}
use Rattle.lucid_constraints.specs.Seen.{Seen}
use Rattle.lucid_constraints.specs.Substitution.{ends_from}
use Rattle.lucid_constraints.proofs.ends.ends_at.Goals as goal

pub loop-atom-init : goal.loop-atom-init
loop-atom-init c =
    let none : c.from_vec-done.result ≡ [] = c.from_vec-done.ensures ∙ c.in_ok-with_capacity.ensures.items in (
      ap (λ (xs : List Atom). ends_from c.args.names.now c.args.start.now xs c.args.ends.now) none,
      subst (λ (xs : List Atom). Seen c.nothing_seen-seen.result xs) (sym none) c.nothing_seen-seen.ensures,
    )
