use Rattle.std.proofs.Common.{◌∙◌, ◌<◌, sym, arith, length}
use Rattle.std.proofs.lemmas.Grind.{get_or_default_zero}
use Rattle.lucid_tables.proofs.Rising.{same_there}
use Rattle.lucid_tables.proofs.numbers.place_near.Goals as goal

pub returns-then-index-k-clause-value : goal.returns-then-index-k-clause-value
returns-then-index-k-clause-value c =
    let numbers = c.args.numbers.now.items in
    let within : c.args.likely < length numbers = omega (arith, c.if-likely-len.true, c.len.ensures) in
    let there = sym (get_or_default_zero numbers c.args.likely c.index.result.now within) ∙ sym c.index.ensures ∙ c.if-index-k.true in
    sym (same_there numbers c.args.likely c.args.k c.requires within there)
