-- The texts that the rules accept. No refusal is on this page: specs/Program.antt and specs/Settings.antt of lucid_top_program have them.
use Rattle.std.specs.Prelude.{◌≡◌, ◌≤◌, List, None, Ok, length}
use Rattle.serde_json.specs.Data.{Data}
use Rattle.lucid_conf.specs.Answers.{Reads as Spells}
use Rattle.lucid_conf.specs.Reading.{Reading}
use Rattle.lucid_core.specs.Parts.{CoreParts}
use Rattle.lucid_effects_spec.specs.Order.{IsAccepted}
use Rattle.lucid_lex.specs.declared.token.Token.{Token}
use Rattle.lucid_lex.specs.Reading.{Reads}
use Rattle.lucid_parse.specs.Nesting.{too_deep}
use Rattle.lucid_parse.specs.Program.{IsTreeOf, kinds_of}
use Rattle.lucid_parse_tree.specs.declared.tree.Tree.{Tree}
use Rattle.lucid_size.specs.Expansion.{ExpandsTo, most}
use Rattle.lucid_types_spec.specs.Makes.{IsTyped}
use Rattle.lucid_top_words.specs.Words.{Bytes}

-- The text is a program with this core: it is expanded to a source, the tokens of the source spell a tree, the typing rules give the tree
-- this core, and each of its functions and handlers calls arrays in order.
pub record HasCore (text : Bytes) (core : CoreParts) : Type 0 where
  pub written : List Token
  pub reads : Reads text written
  pub source : Bytes
  pub expands : ExpandsTo text written source
  pub fits : length source ≤ most
  pub tokens : List Token
  pub reads_source : Reads source tokens
  pub nests : too_deep (kinds_of tokens) ≡ None
  pub tree : Tree
  pub spelled : IsTreeOf source tokens tree
  pub typed : IsTyped tree core
  pub ordered : IsAccepted core

-- the text is JSON, and its value reads so
abbrev pub HasValue : {A : Type 0} → (Data → Reading A) → Bytes → A → Type 0
HasValue reading text x = (d : Data) × Spells text d × (reading d ≡ Ok x)
