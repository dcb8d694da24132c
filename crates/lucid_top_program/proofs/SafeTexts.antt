-- The program of a text is valid and accepted, and its events call arrays in order. They have 32 bits, since a text has fewer declarations
-- than bytes.
use Rattle.std.proofs.Common.{◌≡◌, ℕ, zero, suc, ◌+◌, ◌<◌, ◌≤◌, ◌^◌, List, [], ◌∷◌, ◌++◌, Option, None, Some, Result, Ok, Err, length, refl, sym, ap, subst, arith, length-append}
use Rattle.std.proofs.lemmas.List.{length-map}
use Rattle.std.proofs.lemmas.List.Elements.{All-from_recursion}
use Rattle.std.specs.List.{AllByRecursion}
use Rattle.std.specs.Prelude.{All, slice_get, slice_set}
use Rattle.lucid_core.specs.declared.defs.HandlerDef.{HandlerDef}
use Rattle.lucid_core.specs.Parts.{CoreParts}
use Rattle.lucid_effects_spec.proofs.Rising.{touches_rise}
use Rattle.lucid_effects_spec.specs.Order.{IsAccepted}
use Rattle.lucid_lex.proofs.Shapes.{has_shape}
use Rattle.lucid_lex.specs.declared.token.Kind.{Kind}
use Rattle.lucid_lex.specs.declared.token.Token.{Token}
use Rattle.lucid_lex.specs.Piece.{Piece}
use Rattle.lucid_lex.specs.Reading.{AllStand, Reads, joined, tokens_from, with_token}
use Rattle.lucid_parse.specs.Program.{IsTreeOf}
use Rattle.lucid_parse_spec.specs.Law.{ReadAsSpelled}
use Rattle.lucid_parse_spec.specs.Lexemes.{lexeme_of}
use Rattle.lucid_parse_spec.specs.Spelling.{declarations}
use Rattle.lucid_parse_tree.specs.declared.tree.Decl.{Decl}
use Rattle.lucid_parse_tree.specs.declared.tree.DeclKind.{DeclKind}
use Rattle.lucid_parse_tree.specs.declared.tree.Tree.{Tree}
use Rattle.lucid_size.specs.Expansion.{most}
use Rattle.lucid_top_program.specs.Safe.{IsSafe, TextsAreSafe}
use Rattle.lucid_top_program.specs.Program.{AreTokens, IsElaborated, IsExpanded, IsOrdered, IsParsed, IsProgramFrom, IsProgramOf, IsRead, IsSource}
use Rattle.lucid_top_words.specs.declared.refusal.Refusal.{Refusal}
use Rattle.lucid_top_words.specs.Outcome.{After}
use Rattle.lucid_top_words.specs.Words.{Bytes}
use Rattle.lucid_types_laws.specs.ValidLaws.{TypedIsValid}
use Rattle.lucid_types_spec.specs.Declaration.{Declared, Definitions, start}
use Rattle.lucid_types_spec.specs.Declaration.Declared.{constant, event, fun, global, group, handle, memop}
use Rattle.lucid_types_spec.specs.Makes.{IsTyped, Makes}
use Rattle.lucid_types_spec.specs.Makes.Makes.{done, one_more}

-- ---- a text has as many bytes as tokens, and as many tokens as declarations

one_token : (begin len : ℕ) (k : Option Kind) (ts : List Token) → length (with_token begin len k ts) ≤ suc (length ts)
one_token begin len None ts = omega arith
one_token begin len (Some k) ts = omega arith

few_tokens : (begin : ℕ) (ps : List Piece) → AllStand ps [] → length (tokens_from begin ps) ≤ length (joined ps [])
few_tokens begin [] stand = omega arith
few_tokens begin (p ∷ ps) stand =
    let some = (has_shape p.bytes p.kind stand.0.is_piece).0 in
    let one = one_token begin (length p.bytes) p.kind (tokens_from (begin + length p.bytes) ps) in
    let more = few_tokens (begin + length p.bytes) ps stand.1 in
    let long = length-append p.bytes (joined ps []) in
    omega (arith, some, one, more, long)

few_declarations : ReadAsSpelled → (xs : List Decl) → length xs ≤ length (declarations xs [])
few_declarations spelled [] = omega arith
few_declarations spelled (x ∷ xs) =
    let more = few_declarations spelled xs in
    let less = spelled.long x.kind (declarations xs []) in
    omega (arith, more, less)

tree_is_small : ReadAsSpelled → (text : Bytes) (ts : List Token) (tree : Tree) → Reads text ts → IsTreeOf text ts tree → length tree.decls ≤ length text
tree_is_small spelled text ts tree reads is =
    let tokens = few_tokens 0 reads.pieces reads.each_stands in
    let decls = few_declarations spelled tree.decls in
    omega (arith, tokens, decls, ap length reads.whole, ap length reads.tokens, ap length is.spelled, length-map ts (lexeme_of text))

-- ---- a declaration adds one event at most, and a handler has an event that is declared

abbrev Below : ℕ → List HandlerDef → Type 0
Below n hs = AllByRecursion (λ (h : HandlerDef). h.event < n) hs

below_more : (n k : ℕ) (hs : List HandlerDef) → n ≤ k → Below n hs → Below k hs
below_more n k [] up b = tt
below_more n k (h ∷ hs) up b = let less = b.0 in (omega (arith, less, up), below_more n k hs up b.1)

below_push : (n : ℕ) (hs : List HandlerDef) (h : HandlerDef) → Below n hs → h.event < n → Below n (hs ++ h ∷ [])
below_push n [] h b less = (less, tt)
below_push n (g ∷ hs) h b less = (b.0, below_push n hs h b.1 less)

within : {A : Type 0} (xs : List A) (i : ℕ) (x : A) → slice_get xs i ≡ Some x → i < length xs
within [] i x is = absurd (cc)
within (y ∷ ys) zero x is = omega arith
within (y ∷ ys) (suc i) x is = let less = within ys i x is in omega (arith, less)

set_length : {A : Type 0} (xs : List A) (i : ℕ) (x : A) → length (slice_set xs i x) ≡ length xs
set_length [] i x = refl
set_length (y ∷ ys) zero x = refl
set_length (y ∷ ys) (suc i) x = ap suc (set_length ys i x)

abbrev Small : ℕ → Definitions → Type 0
Small n m = (length m.events ≤ n) × Below n m.handlers

same_events : (n : ℕ) (m : Definitions) → Small n m → Small (suc n) m
same_events n m s = let few = s.0 in (omega (arith, few), below_more n (suc n) m.handlers (omega arith) s.1)

declared_small : (n number line : ℕ) (m l : Definitions) (x : DeclKind) → Declared number line m x l → Small n m → Small (suc n) l
declared_small n number line m _ _ (constant t w k v a b) s = same_events n m s
declared_small n number line m _ _ (global short w k size c a b d e) s = same_events n m s
declared_small n number line m _ _ (memop t u w k first second body steps alu a b c d) s = same_events n m s
declared_small n number line m _ _ (event k ps ws names a) s =
    let few = s.0 in
    (omega (arith, few, length-append m.events (record { name = k; params = ws; handler = None } ∷ [])), below_more n (suc n) m.handlers (omega arith) s.1)
declared_small n number line m _ _ (handle k ps body i ws e names b c seen at free a d) s =
    let few = s.0 in
    let less = within m.events i e at in (
      omega (arith, few, set_length m.events i (record e { handler = Some (length m.handlers) })),
      below_push (suc n) m.handlers _ (below_more n (suc n) m.handlers (omega arith) s.1) (omega (arith, few, less)),
    )
declared_small n number line m _ _ (fun a k ps body t qs names b c d e f) s = same_events n m s
declared_small n number line m _ _ (group k members a) s = same_events n m s

made_small : (n number : ℕ) (m k : Definitions) (xs : List Decl) → Makes number m xs k → Small n m → Small (n + length xs) k
made_small n number m _ _ (done _ _) s = subst (λ (j : ℕ). Small j m) (omega arith) s
made_small n number m k _ (one_more _ _ l _ x xs declared passes rest) s =
    let next = made_small (suc n) (number + 1) l k xs rest (declared_small n number x.line m l x.kind declared s) in
    subst (λ (j : ℕ). Small j k) (omega arith) next

-- ---- the program of a text

none_refused : {X : Type 0} {A : Type 0} (x : X) (r : Refusal) → ◌≡◌ {A = Result X Refusal} (Ok x) (Err r) → A
none_refused x r same = absurd (cc)

module _ (spelled : ReadAsSpelled) (valid : TypedIsValid) where
  typed_safe : (source : Bytes) (ts : List Token) (tree : Tree) (core : CoreParts) → length source ≤ most → Reads source ts → IsTreeOf source ts tree →
      IsTyped tree core → IsAccepted core → IsSafe core
  typed_safe source ts tree core short reads is typed accepted =
      let sound = valid tree core typed in
      let long = tree_is_small spelled source ts tree reads is in
      let made = made_small 0 1 start typed.0 tree.decls typed.1 (omega arith, tt) in
      let all : Below (2 ^ 32) typed.0.handlers = below_more (0 + length tree.decls) (2 ^ 32) typed.0.handlers (omega (arith, long, short)) made.1 in
      record {
        valid = sound;
        accepted = accepted;
        events = subst (λ (c : CoreParts). All (λ (h : HandlerDef). h.event < 2 ^ 32) c.handlers) typed.2
            (All-from_recursion (λ (h : HandlerDef). h.event < 2 ^ 32) typed.0.handlers all);
        rises = touches_rise core sound.sound accepted;
      }

  module _ (core : CoreParts) where
    of_core : (source : Bytes) (ts : List Token) (tree : Tree) → length source ≤ most → Reads source ts → IsTreeOf source ts tree →
        (end : Result CoreParts Refusal) → IsElaborated tree end → After end (IsOrdered tree) (Ok core) → IsSafe core
    of_core source ts tree short reads is (Ok made) typed ordered =
        subst IsSafe (sym ordered.1) (typed_safe source ts tree made short reads is typed ordered.0)
    of_core source ts tree short reads is (Err r) typed after = none_refused core r after

    of_tree : (source : Bytes) (ts : List Token) → length source ≤ most → Reads source ts → (end : Result Tree Refusal) → IsParsed source ts end →
        After end IsProgramOf (Ok core) → IsSafe core
    of_tree source ts short reads (Ok tree) parsed after = of_core source ts tree short reads parsed.1 after.0 after.1 after.2
    of_tree source ts short reads (Err r) parsed after = none_refused core r after

    of_tokens : (source : Bytes) → length source ≤ most → (end : Result (List Token) Refusal) → AreTokens source end → After end (IsProgramFrom source) (Ok core) → IsSafe core
    of_tokens source short (Ok ts) reads after = of_tree source ts short reads after.0 after.1 after.2
    of_tokens source short (Err r) reads after = none_refused core r after

    short_source : (text source : Bytes) (end : Result (List Token) Refusal) → After end (IsExpanded text) (Ok source) → length source ≤ most
    short_source text source (Ok ts) after = after.1
    short_source text source (Err r) after = none_refused source r after

    of_source : (text : Bytes) (end : Result Bytes Refusal) → IsSource text end → After end IsRead (Ok core) → IsSafe core
    of_source text (Ok source) is after = of_tokens source (short_source text source is.0 is.2) after.0 after.1 after.2
    of_source text (Err r) is after = none_refused core r after

pub texts_are_safe : ReadAsSpelled → TypedIsValid → TextsAreSafe
texts_are_safe spelled valid text core program = of_source spelled valid core text program.0 program.1 program.2
