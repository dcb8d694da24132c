use Rattle.std.proofs.Common.{◌≡◌, ◌++◌, [], drop}
use Rattle.lucid_lex.specs.Reading.{joined}
use Rattle.lucid_size.specs.Expansion.{written_from}
use Rattle.lucid_size.specs.Places.{AreInOrder}
use Rattle.lucid_size.specs.Widths.{widths_in}
use Rattle.lucid_size.proofs.assembly.write_parts.Given as goal

-- what is written so far, and then the rest
abbrev pub invariant-loop-at : goal.invariant-loop-at
invariant-loop-at l = record {
  order : AreInOrder l.tokens l.from (drop l.at l.templates);
  left : l.out.items ++ joined
      (written_from l.text l.tokens l.underscores l.names (widths_in l.found) l.from l.at (drop l.at l.templates)) []
      ≡ l.fn.out.items ++ joined (written_from l.text l.tokens l.underscores l.names (widths_in l.found) 0 0 l.templates) [];
}
