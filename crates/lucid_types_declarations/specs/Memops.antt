-- The parts of a memop's body, in the words of the typing function.
use Rattle.std.specs.Prelude.{ℕ, List, Option}
use Rattle.lucid_core.specs.declared.body.Stmt.{Stmt}
use Rattle.lucid_parse_tree.specs.declared.tree.C.{C, out-C}
use Rattle.lucid_parse_tree.specs.declared.tree.No.{No, out-No}
use Rattle.lucid_parse_tree.specs.declared.tree.S.{S}
use Rattle.lucid_types_spec.specs.Names.{Names}
use Rattle.lucid_types_laws.specs.Memop.{choice_form, second_form}

-- An if, and the statements after it.
abbrev pub chosen : ℕ → Names → C → List S → Option (List Stmt)
chosen w s c rest = choice_form w s (out-C c) rest

abbrev pub second : ℕ → Names → No → List S → Option (List Stmt)
second w s n rest = second_form w s (out-No n) rest
