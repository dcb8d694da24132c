-- From a program's text to the program, part by part: tokens, expansion, tree, types, order. Every command that takes a program begins so.
use Rattle.std.specs.Prelude.{◌≡◌, ℕ, ◌-◌, ◌≤◌, List, [], ◌∷◌, Option, None, Some, Result, Ok, Err, if◌then◌else◌, length, map, nat_eq, option_map, slice_get}
use Rattle.std.specs.List.{find}
use Rattle.std.specs.Option.{option_and_then, option_or, unwrap_or}
use Rattle.lucid_base.specs.declared.array.ArrayName.{ArrayName}
use Rattle.lucid_base.specs.declared.array.ArrayName.TheVariants.{Global, Param}
use Rattle.lucid_core.specs.Parts.{CoreParts}
use Rattle.lucid_parse_spec.specs.Lexemes.{lexemes_of}
use Rattle.lucid_lex.specs.declared.token.Token.{Token}
use Rattle.lucid_lex.specs.Reading.{Reads, StopsAt}
use Rattle.lucid_effects_spec.specs.Order.{IsAccepted}
use Rattle.lucid_effects_spec.specs.Refused.{IsFirstRefused}
use Rattle.lucid_parse.specs.Nesting.{too_deep}
use Rattle.lucid_parse.specs.Program.{IsFault, IsTreeOf, kinds_of}
use Rattle.lucid_types_spec.specs.Makes.{IsTyped, IsRefused}
use Rattle.lucid_parse_tree.specs.declared.tree.DeclKind.{DeclKind}
use Rattle.lucid_parse_tree.specs.declared.tree.DeclKind.TheVariants as kind
use Rattle.lucid_parse_tree.specs.declared.tree.P.{P}
use Rattle.lucid_parse_tree.specs.declared.tree.P.TheVariants as param
use Rattle.lucid_parse_tree.specs.declared.tree.Tree.{Tree}
use Rattle.lucid_top_words.specs.declared.refusal.Refusal.{Refusal}
use Rattle.lucid_top_words.specs.declared.refusal.Refusal.TheVariants as refusal
use Rattle.lucid_size.specs.Expansion.{ExpandsTo, IsBroken, IsTooBig, IsTwice, most}
use Rattle.lucid_top_words.specs.declared.sizes.BadSizes.TheVariants as sizes
use Rattle.lucid_top_words.specs.Outcome.{FollowedBy}
use Rattle.lucid_top_words.specs.Words.{Bytes}

-- the tokens of the text, or the byte at which none begins
abbrev pub AreTokens : Bytes → Result (List Token) Refusal → Type 0
AreTokens text (Ok ts) = Reads text ts
AreTokens text (Err (refusal.NoToken at)) = StopsAt text at
AreTokens text (Err r) = ⊥

-- the expanded text of a text with these tokens, or why it has none: the first cause
abbrev pub IsExpanded : Bytes → List Token → Result Bytes Refusal → Type 0
IsExpanded text ts (Ok expanded) = ExpandsTo text ts expanded × (length expanded ≤ most)
IsExpanded text ts (Err (refusal.Sizes (sizes.Broken n))) = IsBroken ts n
IsExpanded text ts (Err (refusal.Sizes (sizes.Twice name))) = IsTwice text ts name
IsExpanded text ts (Err (refusal.Sizes sizes.TooLong)) = IsTooBig text ts
IsExpanded text ts (Err r) = ⊥

-- the source of the text, which is its expansion, or the reason why it has none; all that comes later is said of the source
abbrev pub IsSource : Bytes → Result Bytes Refusal → Type 0
IsSource text o = FollowedBy (AreTokens text) (IsExpanded text) o

-- the tree that the tokens spell; or the first token at which nesting is too deep, and else that of the first declaration without a tree
abbrev pub IsParsed : Bytes → List Token → Result Tree Refusal → Type 0
IsParsed text ts (Ok tree) = (too_deep (kinds_of ts) ≡ None) × IsTreeOf text ts tree
IsParsed text ts (Err (refusal.TooDeep n)) = too_deep (kinds_of ts) ≡ Some n
IsParsed text ts (Err (refusal.NoTree n)) = (too_deep (kinds_of ts) ≡ None) × IsFault (lexemes_of text ts) n
IsParsed text ts (Err r) = ⊥

-- the core that the typing rules give the tree; or the first declaration that has no rule, or passes a limit
abbrev pub IsElaborated : Tree → Result CoreParts Refusal → Type 0
IsElaborated tree (Ok core) = IsTyped tree core
IsElaborated tree (Err (refusal.NoRule decl line)) = IsRefused tree decl line None
IsElaborated tree (Err (refusal.PassesLimit what decl line)) = IsRefused tree decl line (Some what)
IsElaborated tree (Err r) = ⊥

-- ---- the order of arrays

-- the line on which the function or handler of this number begins
abbrev pub declared_line : CoreParts → ℕ → ℕ
declared_line core decl =
    let of_fun = option_map (λ f. f.line) (find (λ f. nat_eq f.decl decl) core.funs) in
    let of_handler = option_map (λ h. h.line) (find (λ h. nat_eq h.decl decl) core.handlers) in
    unwrap_or (option_or of_fun of_handler) 0

-- the name of array parameter i of these, from 0
abbrev pub array_param : ℕ → List P → Option Bytes
array_param i [] = None
array_param i (param.Value t name ∷ ps) = array_param i ps
array_param i (param.Array short width name ∷ ps) = if nat_eq i 0 then Some name else array_param (i - 1) ps

abbrev pub param_of : ℕ → DeclKind → Option Bytes
param_of i (kind.Fun answer name ps body) = array_param i ps
param_of i k = None

-- the name of an array, as declaration `decl` of the tree, from 1, has it
abbrev pub array_name : Tree → CoreParts → ℕ → ArrayName → Bytes
array_name tree core decl (Global i) = unwrap_or (option_map (λ a. a.name) (slice_get core.arrays i)) []
array_name tree core decl (Param i) = unwrap_or (option_and_then (λ d. param_of i d.kind) (slice_get tree.decls (decl - 1))) []

-- Each function and handler touches arrays in order; or this declaration is the first that doesn't, and these are the names of a cycle
-- of its arrays, each of which is needed before the next and the last before the first.
abbrev pub IsOrdered : Tree → CoreParts → Result CoreParts Refusal → Type 0
IsOrdered tree core (Ok ordered) = IsAccepted core × (ordered ≡ core)
IsOrdered tree core (Err (refusal.NoOrder decl line cycle)) =
    (first : ArrayName) × (others : List ArrayName) × IsFirstRefused core decl first others
    × (line ≡ declared_line core decl) × (cycle.items ≡ map (array_name tree core decl) (first ∷ others))
IsOrdered tree core (Err r) = ⊥

-- ---- the whole

-- the program of the tree, or the reason why it has none
abbrev pub IsProgramOf : Tree → Result CoreParts Refusal → Type 0
IsProgramOf tree o = FollowedBy (IsElaborated tree) (IsOrdered tree) o

abbrev pub IsProgramFrom : Bytes → List Token → Result CoreParts Refusal → Type 0
IsProgramFrom text ts o = FollowedBy (IsParsed text ts) IsProgramOf o

-- the program of a source; its tokens are those of the expansion, so they are never refused
abbrev pub IsRead : Bytes → Result CoreParts Refusal → Type 0
IsRead source o = FollowedBy (AreTokens source) (IsProgramFrom source) o

-- the program of the text, or the reason why it has none
abbrev pub IsProgram : Bytes → Result CoreParts Refusal → Type 0
IsProgram text o = FollowedBy (IsSource text) IsRead o
