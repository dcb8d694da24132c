-- Whether the matches of a choice, and of the part after its first block, have at most 32 cases.
use Rattle.std.specs.Prelude.{Bool}
use Rattle.lucid_parse_tree.specs.declared.tree.C.{C, fold-C}
use Rattle.lucid_parse_tree.specs.declared.tree.No.{No, fold-No}
use Rattle.lucid_types_spec.specs.Limits.{cases_of_choice, cases_of_no, cases_of_statement}

abbrev pub few_in_choice : C → Bool
few_in_choice = fold-C Bool Bool Bool cases_of_no cases_of_statement cases_of_choice

abbrev pub few_in_no : No → Bool
few_in_no = fold-No Bool Bool Bool cases_of_no cases_of_statement cases_of_choice
