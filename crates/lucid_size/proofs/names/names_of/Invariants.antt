use Rattle.std.proofs.Common.{◌≡◌, ◌++◌, [], drop}
use Rattle.lucid_size.specs.Parts.{names_of}
use Rattle.lucid_size.specs.Expansion.{first_repeat}
use Rattle.lucid_size.proofs.names.names_of.Given as goal

-- the names so far, and then the others
abbrev pub invariant-loop-template : goal.invariant-loop-template
invariant-loop-template l = record {
  all : l.names ++ names_of l.text l.tokens (drop l.template-index l.templates) ≡ names_of l.text l.tokens l.templates;
  left : first_repeat l.names (names_of l.text l.tokens (drop l.template-index l.templates))
      ≡ first_repeat [] (names_of l.text l.tokens l.templates);
}
