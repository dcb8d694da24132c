-- A program, from its parts.
use Rattle.std.proofs.Common.{◌≡◌, ◌≤◌, List, None, Ok, length, refl}
use Rattle.lucid_core.specs.Parts.{CoreParts}
use Rattle.lucid_effects_spec.specs.Order.{IsAccepted}
use Rattle.lucid_lex.specs.declared.token.Token.{Token}
use Rattle.lucid_lex.specs.Reading.{Reads}
use Rattle.lucid_parse.specs.Nesting.{too_deep}
use Rattle.lucid_parse.specs.Program.{IsTreeOf, kinds_of}
use Rattle.lucid_parse_tree.specs.declared.tree.Tree.{Tree}
use Rattle.lucid_size.specs.Expansion.{ExpandsTo, most}
use Rattle.lucid_top_program.specs.Program.{IsProgram}
use Rattle.lucid_top_words.specs.Words.{Bytes}
use Rattle.lucid_types_spec.specs.Makes.{IsTyped}

-- what the parts of a program without templates are
pub record Worked (text : Bytes) (tokens : List Token) (tree : Tree) (core : CoreParts) : Type 0 where
  pub reads : Reads text tokens
  pub within : length text ≤ most
  pub shallow : too_deep (kinds_of tokens) ≡ None
  pub is_tree : IsTreeOf text tokens tree
  pub typed : IsTyped tree core
  pub accepted : IsAccepted core

-- they make the text this program, where it is its own expansion
pub is_program : (text : Bytes) (tokens : List Token) (tree : Tree) (core : CoreParts) → Worked text tokens tree core → ExpandsTo text tokens text → IsProgram text (Ok core)
is_program text tokens tree core w expands =
    (Ok text, (Ok tokens, w.reads, (expands, w.within)), (Ok tokens, w.reads, (Ok tree, (w.shallow, w.is_tree), (Ok core, w.typed, (w.accepted, refl)))))
