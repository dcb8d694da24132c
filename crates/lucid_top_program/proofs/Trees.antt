-- What the parser and the elaborator answered is what the tree and the core of a text are.
use Rattle.std.proofs.Common.{◌≡◌, ◌≢◌, ℕ, List, Some, None, Result, Ok, Err, sym, ap, refl}
use Rattle.lucid_core.specs.Parts.{CoreParts}
use Rattle.lucid_parse_spec.specs.Lexemes.{lexemes_of}
use Rattle.lucid_lex.specs.declared.token.Token.{Token}
use Rattle.lucid_parse.specs.Nesting.{too_deep}
use Rattle.lucid_parse.specs.Program.{IsFault, IsTreeOf, kinds_of}
use Rattle.lucid_parse.specs.declared.error.ParseError.{ParseError}
use Rattle.lucid_parse.specs.declared.error.ParseError.TheVariants as parse
use Rattle.lucid_types_spec.specs.Found.{IsDetermined}
use Rattle.lucid_types_spec.specs.Makes.{IsTyped}
use Rattle.lucid_parse_tree.specs.declared.tree.Tree.{Tree}
use Rattle.lucid_types.specs.Answers.{Tells}
use Rattle.lucid_types.specs.declared.error.TypeError.{TypeError}
use Rattle.lucid_types.specs.declared.error.TypeError.TheVariants as types
use Rattle.lucid_top_words.specs.declared.refusal.Refusal.{Refusal}
use Rattle.lucid_top_words.specs.declared.refusal.Refusal.TheVariants as refusal
use Rattle.lucid_top_words.specs.Outcome.{Alike, IsTheAnswer, Declines}
use Rattle.lucid_top_program.specs.Program.{IsElaborated, IsParsed}
use Rattle.lucid_top_program.specs.Causes.{of_parse, of_types}

-- ---- trees

pub parsed : (text : List ℕ) (ts : List Token) (tree : Tree) → too_deep (kinds_of ts) ≡ None → IsTreeOf text ts tree →
    ((t : Tree) → IsTreeOf text ts t → t ≡ tree) → ((n : ℕ) → too_deep (kinds_of ts) ≡ Some n → ⊥) →
    ((n : ℕ) → too_deep (kinds_of ts) ≡ None → IsFault (lexemes_of text ts) n → ⊥) → IsTheAnswer (IsParsed text ts) (Ok tree)
parsed text ts tree shallow is one deep fault = record { is = (shallow, is); only = only }
  where
    only : (p : Result Tree Refusal) → IsParsed text ts p → Alike p (Ok tree)
    only (Ok t) o = one t o.1
    only (Err (refusal.TooDeep n)) o = deep n o
    only (Err (refusal.NoTree n)) o = fault n o.0 o.1
    only (Err r) o = absurd o

pub not-parsed : (text : List ℕ) (ts : List Token) (e : ParseError) →
    ((n : ℕ) → e ≡ parse.TooDeep n → too_deep (kinds_of ts) ≡ Some n) →
    ((n : ℕ) → e ≡ parse.NoTree n → (too_deep (kinds_of ts) ≡ None) × IsFault (lexemes_of text ts) n) →
    ((tree : Tree) → too_deep (kinds_of ts) ≡ None → IsTreeOf text ts tree → e ≡ parse.Memory) →
    ((n : ℕ) → too_deep (kinds_of ts) ≡ Some n → e ≢ parse.Memory → e ≡ parse.TooDeep n) →
    ((n : ℕ) → too_deep (kinds_of ts) ≡ None → IsFault (lexemes_of text ts) n → e ≢ parse.Memory → e ≡ parse.NoTree n) →
    Declines (IsParsed text ts) (of_parse e)
not-parsed text ts parse.Memory deep fault trees deeps faults = tt
not-parsed text ts (parse.TooDeep m) deep fault trees deeps faults = record { is = deep m refl; only = only }
  where
    only : (p : Result Tree Refusal) → IsParsed text ts p → Alike p (Err (refusal.TooDeep m))
    only (Ok t) o = let memory : parse.TooDeep m ≡ parse.Memory = trees t o.0 o.1 in absurd (cc)
    only (Err (refusal.TooDeep n)) o = sym (ap of_parse (deeps n o (λ memory. cc)))
    only (Err (refusal.NoTree n)) o = sym (ap of_parse (faults n o.0 o.1 (λ memory. cc)))
    only (Err r) o = absurd o
not-parsed text ts (parse.NoTree m) deep fault trees deeps faults = record { is = fault m refl; only = only }
  where
    only : (p : Result Tree Refusal) → IsParsed text ts p → Alike p (Err (refusal.NoTree m))
    only (Ok t) o = let memory : parse.NoTree m ≡ parse.Memory = trees t o.0 o.1 in absurd (cc)
    only (Err (refusal.TooDeep n)) o = sym (ap of_parse (deeps n o (λ memory. cc)))
    only (Err (refusal.NoTree n)) o = sym (ap of_parse (faults n o.0 o.1 (λ memory. cc)))
    only (Err r) o = absurd o

-- ---- cores

pub elaborated : (tree : Tree) (core : CoreParts) → IsTyped tree core → IsDetermined tree → IsTheAnswer (IsElaborated tree) (Ok core)
elaborated tree core typed one = record { is = typed; only = only }
  where
    only : (p : Result CoreParts Refusal) → IsElaborated tree p → Alike p (Ok core)
    only (Ok c) o = one.one_core c core o typed
    only (Err (refusal.NoRule d l)) o = one.never_both core d l None typed o
    only (Err (refusal.PassesLimit w d l)) o = one.never_both core d l (Some w) typed o
    only (Err r) o = absurd o

pub not-elaborated : (tree : Tree) (e : TypeError) → Tells tree e → IsDetermined tree → Declines (IsElaborated tree) (of_types e)
not-elaborated tree types.Memory tells one = tt
not-elaborated tree (types.NoRule decl line) tells one = record { is = tells; only = only }
  where
    only : (p : Result CoreParts Refusal) → IsElaborated tree p → Alike p (Err (refusal.NoRule decl line))
    only (Ok c) o = one.never_both c decl line None o tells
    only (Err (refusal.NoRule d l)) o = let same = one.one_refusal d l decl line None None o tells in cc
    only (Err (refusal.PassesLimit w d l)) o = let same = one.one_refusal d l decl line (Some w) None o tells in absurd (cc)
    only (Err r) o = absurd o
not-elaborated tree (types.Limit what decl line) tells one = record { is = tells; only = only }
  where
    only : (p : Result CoreParts Refusal) → IsElaborated tree p → Alike p (Err (refusal.PassesLimit what decl line))
    only (Ok c) o = one.never_both c decl line (Some what) o tells
    only (Err (refusal.NoRule d l)) o = let same = one.one_refusal d l decl line None (Some what) o tells in absurd (cc)
    only (Err (refusal.PassesLimit w d l)) o = let same = one.one_refusal d l decl line (Some w) (Some what) o tells in cc
    only (Err r) o = absurd o
