-- The program `event e();`.
use Rattle.std.proofs.Common.{◌≡◌, ℕ, [], ◌∷◌, None, Some, codes, drop, refl, subst, arith}
use Rattle.std.proofs.lemmas.List.Elements.{All-nil}
use Rattle.lucid_core.specs.Parts.{CoreParts}
use Rattle.lucid_lex.proofs.Fronts.{IsFrontOf, cut}
use Rattle.lucid_lex.proofs.Longest.{front_of-is}
use Rattle.lucid_lex.specs.declared.sign.Sign.TheVariants as sign
use Rattle.lucid_lex.specs.declared.token.Kind.{Kind}
use Rattle.lucid_lex.specs.declared.token.Kind.TheVariants as kind
use Rattle.lucid_lex.specs.declared.word.Word.TheVariants as word
use Rattle.lucid_lex.specs.Front.{front_of, gap, name_front, sign_front, token}
use Rattle.lucid_lex.specs.Piece.{Stands}
use Rattle.lucid_lex.specs.Reading.{Reads}
use Rattle.lucid_lex.specs.Sign.{sign_at}
use Rattle.lucid_lex.specs.Word.{word_in}
use Rattle.lucid_parse_tree.specs.declared.tree.Decl.{Decl}
use Rattle.lucid_parse_tree.specs.declared.tree.DeclKind.TheVariants as decl
use Rattle.lucid_parse_tree.specs.declared.tree.Tree.{Tree}
use Rattle.lucid_types_spec.specs.declared.scope.Entry.TheVariants as entry
use Rattle.lucid_types_spec.specs.Declaration.{Definitions, parts_of, start}
use Rattle.lucid_types_spec.specs.Declaration.Declared.{event}
use Rattle.lucid_types_spec.specs.Makes.{IsTyped}
use Rattle.lucid_types_spec.specs.Makes.Makes.{done, one_more}
use Rattle.lucid_types_spec.specs.Names.{called}
use Rattle.lucid_types_spec.specs.Types.Parameters.{none}
use Rattle.lucid_top_words.specs.Words.{Bytes}
use Rattle.lucid_top_laws.specs.declared.worked.TheConstants.{TOKENS}
use Rattle.lucid_top_laws.proofs.Programs.{Worked}

abbrev pub text : Bytes
text = codes "event e();"

-- ---- the pieces of the text

abbrev word_event : Kind
word_event = kind.Word word.Event

abbrev open_paren : Kind
open_paren = kind.Sign sign.OpenParen

abbrev close_paren : Kind
close_paren = kind.Sign sign.CloseParen

abbrev semicolon : Kind
semicolon = kind.Sign sign.Semicolon

-- a token that is found at the front of a text stands there, and so does a blank
pub token_stands : (len : ℕ) (kind : Kind) (rest : Bytes) → front_of rest ≡ token len kind → Stands (cut len (Some kind) rest) (drop len rest)
token_stands len kind rest found = let begins = subst (IsFrontOf rest) found (front_of-is rest) in begins.stands

pub gap_stands : (len : ℕ) (rest : Bytes) → front_of rest ≡ gap len → Stands (cut len None rest) (drop len rest)
gap_stands len rest found = let begins = subst (IsFrontOf rest) found (front_of-is rest) in begins.stands

at_event : front_of (codes "event e();") ≡ token 5 word_event
unfolding front_of name_front word_in
at_event = refl

at_blank : front_of (codes " e();") ≡ gap 1
unfolding front_of
at_blank = refl

at_name : front_of (codes "e();") ≡ token 1 kind.Name
unfolding front_of name_front word_in
at_name = refl

at_open : front_of (codes "();") ≡ token 1 open_paren
unfolding front_of sign_front sign_at
at_open = refl

at_close : front_of (codes ");") ≡ token 1 close_paren
unfolding front_of sign_front sign_at
at_close = refl

at_semicolon : front_of (codes ";") ≡ token 1 semicolon
unfolding front_of sign_front sign_at
at_semicolon = refl

reads : Reads text TOKENS
reads = record {
  pieces = cut 5 (Some word_event) (codes "event e();") ∷ cut 1 None (codes " e();") ∷ cut 1 (Some kind.Name) (codes "e();")
      ∷ cut 1 (Some open_paren) (codes "();") ∷ cut 1 (Some close_paren) (codes ");") ∷ cut 1 (Some semicolon) (codes ";") ∷ [];
  whole = refl;
  each_stands = (
    token_stands 5 word_event (codes "event e();") at_event,
    (
      gap_stands 1 (codes " e();") at_blank,
      (
        token_stands 1 kind.Name (codes "e();") at_name,
        (
          token_stands 1 open_paren (codes "();") at_open,
          (
            token_stands 1 close_paren (codes ");") at_close,
            (token_stands 1 semicolon (codes ";") at_semicolon, tt),
          ),
        ),
      ),
    ),
  );
  tokens = refl;
}

-- ---- its tree, and what the rules make of it

abbrev declaration : Decl
declaration = record { kind = decl.Event (codes "e") []; line = 1 }

abbrev pub tree : Tree
tree = record { decls = declaration ∷ [] }

abbrev made : Definitions
made = record start {
  names = called (codes "e") (entry.Event 0 []) ∷ [];
  events = record { name = codes "e"; params = []; handler = None } ∷ [];
}

abbrev pub core : CoreParts
core = parts_of made

typed : IsTyped tree core
typed = (made, one_more 1 start made made declaration [] (event (codes "e") [] [] [] (none 0 0 [])) refl (done 2 made), refl)

pub worked : Worked text TOKENS tree core
worked = record {
  reads = reads;
  within = omega arith;
  shallow = refl;
  is_tree = record { written = refl; spelled = refl; lines = (refl, tt) };
  typed = typed;
  accepted = All-nil _;
}
