use Rattle.std.proofs.Common.{◌≡◌, ◌+◌, get_or, take, add-one}
use Rattle.lucid_core.specs.Texts.{holes_of}
use Rattle.lucid_log.proofs.Holes.{holes_of-step, holes_of-fewer, holes_of-within}
use Rattle.lucid_log.proofs.filled.first_hole.Goals as goal
use Rattle.lucid_log.proofs.filled.first_hole.Goals.{then-text-at-ne37, else-text-at-ne37+then-text-at-ne100}

pub search-preserved : goal.search-preserved
search-preserved c =
    let not : get_or c.args.text.now c.search.at 0 ≡ 37 → get_or c.args.text.now (c.search.at + 1) 0 ≡ 100 → ⊥ =
    elim c.if-text-at-ne37.branch [
      | then-text-at-ne37 w ↦ λ percent d. w.if-text-at-ne37.true percent
      | else-text-at-ne37+then-text-at-ne100 w ↦ λ percent d. w.if-text-at-ne100.true d
    ] in
    let none : holes_of (take (c.search.at + 1 + 1) c.args.text.now) ≡ 0 =
    holes_of-step c.args.text.now c.search.at c.search.invariant.within c.search.invariant.none_yet not in
    record { within = holes_of-within c.args.text.now (c.search.at + 1 + 1) c.requires none; none_yet = none }

pub returns-clause-none_before : goal.returns-clause-none_before
returns-clause-none_before c =
    let none = rw add-one at c.search.invariant.none_yet in holes_of-fewer c.args.text.now c.search.at none
