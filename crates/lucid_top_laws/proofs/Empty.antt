-- The program of an empty text.
use Rattle.std.proofs.Common.{[], refl, arith}
use Rattle.std.proofs.lemmas.List.Elements.{All-nil}
use Rattle.lucid_core.specs.Parts.{CoreParts}
use Rattle.lucid_parse_tree.specs.declared.tree.Tree.{Tree}
use Rattle.lucid_types_spec.specs.Declaration.{parts_of, start}
use Rattle.lucid_types_spec.specs.Makes.Makes.{done}
use Rattle.lucid_top_laws.proofs.Programs.{Worked}

abbrev pub tree : Tree
tree = record { decls = [] }

abbrev pub core : CoreParts
core = parts_of start

pub worked : Worked [] [] tree core
worked = record {
  reads = record { pieces = []; whole = refl; each_stands = tt; tokens = refl };
  within = omega arith;
  shallow = refl;
  is_tree = record { written = refl; spelled = refl; lines = tt };
  typed = (start, done 1 start, refl);
  accepted = All-nil _;
}
