-- The spelling and the typing of a program without `match` do not depend on those of a `match`.
use Rattle.std.proofs.Common.{◌≡◌, ◌↔◌, ℕ, ◌+◌, List, [], ◌∷◌, Bool, true, false, ◌&&◌, Option, None, Some, Result, map, refl, sym, ap, ap₂, subst, ◌∙◌}
use Rattle.std.specs.List.{list_all}
use Rattle.std.proofs.lemmas.Bool.{and_parts}
use Rattle.lucid_core.specs.Numbers.{all_hold}
use Rattle.lucid_lex.specs.declared.sign.Sign.TheVariants as signs
use Rattle.lucid_lex.specs.declared.word.Word.TheVariants as words
use Rattle.lucid_parse_spec.specs.Spelling as spelling
use Rattle.lucid_parse_spec.specs.Spelling.{Spelled, spelled_No, spelled_S, spelled_C}
use Rattle.lucid_parse_tree.specs.declared.tree.C.{C, fold-C, fold-roll-C, roll-C, map-C}
use Rattle.lucid_parse_tree.specs.declared.tree.Decl.{Decl}
use Rattle.lucid_parse_tree.specs.declared.tree.DeclKind.{DeclKind}
use Rattle.lucid_parse_tree.specs.declared.tree.DeclKind.TheVariants as d
use Rattle.lucid_parse_tree.specs.declared.tree.No.{No, fold-No, fold-roll-No, roll-No, map-No}
use Rattle.lucid_parse_tree.specs.declared.tree.No.TheOpen.{No-F, S-F, C-F}
use Rattle.lucid_parse_tree.specs.declared.tree.S.{S, fold-S, fold-roll-S, ind-S, roll-S, map-S}
use Rattle.lucid_parse_tree.specs.declared.tree.Tree.{Tree}
use Rattle.lucid_types_laws.specs.Declaration.{declaration}
use Rattle.lucid_types_laws.specs.Laws.{ComputesBlocks, DecidesPrograms}
use Rattle.lucid_types_laws.specs.Statement as typing
use Rattle.lucid_types_laws.specs.Statement.{Blocking, Other, Taking}
use Rattle.lucid_types_spec.specs.Block.{Block}
use Rattle.lucid_types_spec.specs.Declaration.{Definitions, parts_of, start}
use Rattle.lucid_types_spec.specs.Found.{Adds, Decides, Refusal, found, on_limit, on_made}
use Rattle.lucid_types_spec.specs.Limits.{cases_are_few, cases_of_choice, cases_of_no, cases_of_statement, passed}
use Rattle.lucid_top_laws.specs.Matches.{MatchesAreApart, Spelling, Typing, declaration_with, definitions_with, fun_with, handle_with, has_no_match, no_match_step, spelled_with, statement_with, statements_of}

abbrev other_test : No → Bool
other_test = fold-No Bool Bool Bool cases_of_no no_match_step cases_of_choice

abbrev choice_test : C → Bool
choice_test = fold-C Bool Bool Bool cases_of_no no_match_step cases_of_choice

-- ---- folds that differ at a `match` alone

abbrev is_match : {N P Q : Type 0} → S-F N P Q → Bool
is_match (S-F.Match x cases last) = true
is_match s = false

module _ {A B D : Type 0} (n : No-F A B D → A) (f g : S-F A B D → B) (c : C-F A B D → D) (same : (y : S-F A B D) → is_match y ≡ false → f y ≡ g y) where
  abbrev N : Type 0
  N = (x : No) × (other_test x ≡ true → fold-No A B D n f c x ≡ fold-No A B D n g c x)

  abbrev P : Type 0
  P = (x : S) × (has_no_match x ≡ true → fold-S A B D n f c x ≡ fold-S A B D n g c x)

  abbrev Q : Type 0
  Q = (x : C) × (choice_test x ≡ true → fold-C A B D n f c x ≡ fold-C A B D n g c x)

  abbrev stmts : List P → List S
  stmts ps = map (λ (p : P). p.0) ps

  those : (ps : List P) → all_hold (map has_no_match (stmts ps)) ≡ true → map (fold-S A B D n f c) (stmts ps) ≡ map (fold-S A B D n g c) (stmts ps)
  those [] there = refl
  those (p ∷ ps) there = let parts = and_parts _ _ there in ap₂ (λ (x : B) (xs : List B). x ∷ xs) (p.1 parts.0) (those ps parts.1)

  abbrev other_tree : No-F N P Q → No-F No S C
  other_tree = map-No N P Q No S C (λ p. p.0) (λ p. p.0) (λ p. p.0)

  abbrev tree : S-F N P Q → S-F No S C
  tree = map-S N P Q No S C (λ p. p.0) (λ p. p.0) (λ p. p.0)

  abbrev choice_tree : C-F N P Q → C-F No S C
  choice_tree = map-C N P Q No S C (λ p. p.0) (λ p. p.0) (λ p. p.0)

  other_level : (y : No-F N P Q) → cases_of_no (map-No No S C Bool Bool Bool other_test has_no_match choice_test (other_tree y)) ≡ true →
      n (map-No No S C A B D (fold-No A B D n f c) (fold-S A B D n f c) (fold-C A B D n f c) (other_tree y))
      ≡ n (map-No No S C A B D (fold-No A B D n g c) (fold-S A B D n g c) (fold-C A B D n g c) (other_tree y))
  other_level No-F.Absent there = refl
  other_level (No-F.Block ps) there = ap (λ (xs : List B). n (No-F.Block xs)) (those ps there)
  other_level (No-F.«No::Cond» q) there = ap (λ (x : D). n (No-F.«No::Cond» x)) (q.1 there)

  level : (y : S-F N P Q) → no_match_step (map-S No S C Bool Bool Bool other_test has_no_match choice_test (tree y)) ≡ true →
      f (map-S No S C A B D (fold-No A B D n f c) (fold-S A B D n f c) (fold-C A B D n f c) (tree y))
      ≡ g (map-S No S C A B D (fold-No A B D n g c) (fold-S A B D n g c) (fold-C A B D n g c) (tree y))
  level (S-F.Declare t m x) there = same (S-F.Declare t m x) refl
  level (S-F.Assign m x) there = same (S-F.Assign m x) refl
  level (S-F.Call m xs) there = same (S-F.Call m xs) refl
  level (S-F.Array x) there = same (S-F.Array x) refl
  level (S-F.«S::Cond» q) there = ap (λ (x : D). f (S-F.«S::Cond» x)) (q.1 there) ∙ same (S-F.«S::Cond» (fold-C A B D n g c q.0)) refl
  level (S-F.Return x) there = same (S-F.Return x) refl
  level (S-F.Generate x) there = same (S-F.Generate x) refl
  level (S-F.Printf t xs) there = same (S-F.Printf t xs) refl
  level (S-F.Match x cases last) there = absurd (cc)

  choice_level : (y : C-F N P Q) → cases_of_choice (map-C No S C Bool Bool Bool other_test has_no_match choice_test (choice_tree y)) ≡ true →
      c (map-C No S C A B D (fold-No A B D n f c) (fold-S A B D n f c) (fold-C A B D n f c) (choice_tree y))
      ≡ c (map-C No S C A B D (fold-No A B D n g c) (fold-S A B D n g c) (fold-C A B D n g c) (choice_tree y))
  choice_level y there =
      let parts = and_parts _ _ there in
      ap₂ (λ (xs : List B) (x : A). c (record { test = y.test; yes = xs; no = x })) (those y.yes parts.0) (y.no.1 parts.1)

  -- Where the folds are opened at a node.
  opened : {X : Type 0} {a b : Bool} {v w x y : X} → a ≡ b → v ≡ x → w ≡ y → (b ≡ true → x ≡ y) → a ≡ true → v ≡ w
  opened test left right is there = left ∙ is (sym test ∙ there) ∙ sym right

  of_other : (y : No-F N P Q) → other_test (roll-No (other_tree y)) ≡ true → fold-No A B D n f c (roll-No (other_tree y)) ≡ fold-No A B D n g c (roll-No (other_tree y))
  of_other y = opened (fold-roll-No Bool Bool Bool cases_of_no no_match_step cases_of_choice (other_tree y)) (fold-roll-No A B D n f c (other_tree y)) (fold-roll-No A B D n g c (other_tree y)) (other_level y)

  of_statement : (y : S-F N P Q) → has_no_match (roll-S (tree y)) ≡ true → fold-S A B D n f c (roll-S (tree y)) ≡ fold-S A B D n g c (roll-S (tree y))
  of_statement y = opened (fold-roll-S Bool Bool Bool cases_of_no no_match_step cases_of_choice (tree y)) (fold-roll-S A B D n f c (tree y)) (fold-roll-S A B D n g c (tree y)) (level y)

  of_choice : (y : C-F N P Q) → choice_test (roll-C (choice_tree y)) ≡ true → fold-C A B D n f c (roll-C (choice_tree y)) ≡ fold-C A B D n g c (roll-C (choice_tree y))
  of_choice y = opened (fold-roll-C Bool Bool Bool cases_of_no no_match_step cases_of_choice (choice_tree y)) (fold-roll-C A B D n f c (choice_tree y)) (fold-roll-C A B D n g c (choice_tree y)) (choice_level y)

  fold_same : (x : S) → has_no_match x ≡ true → fold-S A B D n f c x ≡ fold-S A B D n g c x
  fold_same = ind-S (λ x. other_test x ≡ true → fold-No A B D n f c x ≡ fold-No A B D n g c x) (λ x. has_no_match x ≡ true → fold-S A B D n f c x ≡ fold-S A B D n g c x)
      (λ x. choice_test x ≡ true → fold-C A B D n f c x ≡ fold-C A B D n g c x)
      (λ x y is. subst (λ z. other_test (roll-No z) ≡ true → fold-No A B D n f c (roll-No z) ≡ fold-No A B D n g c (roll-No z)) is (of_other y))
      (λ x y is. subst (λ z. has_no_match (roll-S z) ≡ true → fold-S A B D n f c (roll-S z) ≡ fold-S A B D n g c (roll-S z)) is (of_statement y))
      (λ x y is. subst (λ z. choice_test (roll-C z) ≡ true → fold-C A B D n f c (roll-C z) ≡ fold-C A B D n g c (roll-C z)) is (of_choice y))

  body_same : (xs : List S) → list_all has_no_match xs ≡ true → map (fold-S A B D n f c) xs ≡ map (fold-S A B D n g c) xs
  body_same [] there = refl
  body_same (x ∷ xs) there = let parts = and_parts _ _ there in ap₂ (λ (y : B) (ys : List B). y ∷ ys) (fold_same x parts.0) (body_same xs parts.1)

-- ---- the spelling

module _ (other : Spelling) where
  spelled_same : (y : S-F Spelled Spelled Spelled) → is_match y ≡ false → spelled_with other y ≡ spelled_S y
  spelled_same (S-F.Declare t m x) other_form = refl
  spelled_same (S-F.Assign m x) other_form = refl
  spelled_same (S-F.Call m xs) other_form = refl
  spelled_same (S-F.Array x) other_form = refl
  spelled_same (S-F.«S::Cond» q) other_form = refl
  spelled_same (S-F.Return x) other_form = refl
  spelled_same (S-F.Generate x) other_form = refl
  spelled_same (S-F.Printf t xs) other_form = refl
  spelled_same (S-F.Match x cases last) other_form = absurd (cc)

  bodies : (ss : List S) → list_all has_no_match ss ≡ true →
      map (fold-S Spelled Spelled Spelled spelled_No (spelled_with other) spelled_C) ss ≡ map spelling.statement_spelled ss
  bodies ss there = body_same spelled_No (spelled_with other) spelled_S spelled_C spelled_same ss there

  declared : (x : DeclKind) → list_all has_no_match (statements_of x) ≡ true → declaration_with other x ≡ spelling.declaration x
  declared (d.Const t n v) there = refl
  declared (d.Global short w n s) there = refl
  declared (d.Memop n first second ss) there =
      ap {B = Spelled} (λ (fs : List Spelled) (r : spelling.Text). spelling.word words.Memop (spelling.name n (spelling.in_parens
      (λ q. spelling.typed_name first.0 first.1 (spelling.sign signs.Comma (spelling.typed_name second.0 second.1 q))) (spelling.block fs r)))) (bodies ss there)
  declared (d.Event n ps) there = refl
  declared (d.Handle n ps ss) there =
      ap {B = Spelled} (λ (fs : List Spelled) (r : spelling.Text). spelling.word words.Handle (spelling.name n (spelling.parameters ps (spelling.block fs r)))) (bodies ss there)
  declared (d.Fun t n ps ss) there =
      ap {B = Spelled} (λ (fs : List Spelled) (r : spelling.Text). spelling.word words.Fun (spelling.answer t (spelling.name n (spelling.parameters ps (spelling.block fs r))))) (bodies ss there)
  declared (d.Group n ms) there = refl

  all_declared : (xs : List Decl) → list_all (λ (x : Decl). list_all has_no_match (statements_of x.kind)) xs ≡ true →
      map (λ (x : Decl). declaration_with other x.kind) xs ≡ map (λ (x : Decl). spelling.declaration x.kind) xs
  all_declared [] there = refl
  all_declared (x ∷ xs) there = let parts = and_parts _ _ there in ap₂ (λ (f : Spelled) (fs : List Spelled). f ∷ fs) (declared x.kind parts.0) (all_declared xs parts.1)

-- ---- the typing

module _ (other : Typing) where
  typed_same : (y : S-F Other Taking Taking) → is_match y ≡ false → statement_with other y ≡ typing.statement_step y
  typed_same (S-F.Declare t m x) other_form = refl
  typed_same (S-F.Assign m x) other_form = refl
  typed_same (S-F.Call m xs) other_form = refl
  typed_same (S-F.Array x) other_form = refl
  typed_same (S-F.«S::Cond» q) other_form = refl
  typed_same (S-F.Return x) other_form = refl
  typed_same (S-F.Generate x) other_form = refl
  typed_same (S-F.Printf t xs) other_form = refl
  typed_same (S-F.Match x cases last) other_form = absurd (cc)

  typed : (xs : List S) → list_all has_no_match xs ≡ true →
      map typing.taking xs ≡ map (fold-S Other Taking Taking typing.other_step (statement_with other) typing.choice_step) xs
  typed xs there = sym (body_same typing.other_step (statement_with other) typing.statement_step typing.choice_step typed_same xs there)

  definitions : (number line : ℕ) (x : DeclKind) (m : Definitions) → list_all has_no_match (statements_of x) ≡ true →
      definitions_with other number line x m ≡ declaration number line x m
  definitions number line (d.Const t n v) m there = refl
  definitions number line (d.Global short w n s) m there = refl
  definitions number line (d.Memop n first second ss) m there = refl
  definitions number line (d.Event n ps) m there = refl
  definitions number line (d.Handle n ps ss) m there = ap (λ (fs : List Taking). handle_with (typing.block fs) number line n ps m) (sym (typed ss there))
  definitions number line (d.Fun a n ps ss) m there = ap (λ (fs : List Taking). fun_with (typing.block fs) number line a n ps m) (sym (typed ss there))
  definitions number line (d.Group n ms) m there = refl

  same_next : (number : ℕ) (x : Decl) (o : Option Definitions) (f g : Definitions → Result Definitions Refusal) → ((l : Definitions) → f l ≡ g l) →
      on_made number x o f ≡ on_made number x o g
  same_next number x None f g same = refl
  same_next number x (Some l) f g same = ap (on_limit number x.line (passed x.kind (parts_of l))) (same l)

  all_found : (number : ℕ) (m : Definitions) (xs : List Decl) → list_all (λ (x : Decl). list_all has_no_match (statements_of x.kind)) xs ≡ true →
      found (definitions_with other) number m xs ≡ found declaration number m xs
  all_found number m [] there = refl
  all_found number m (x ∷ xs) there =
      let parts = and_parts _ _ there in
      ap (λ (o : Option Definitions). on_made number x o (λ l. found (definitions_with other) (number + 1) l xs)) (definitions number x.line x.kind m parts.0)
      ∙ same_next number x (declaration number x.line x.kind m) (λ l. found (definitions_with other) (number + 1) l xs) (λ l. found declaration (number + 1) l xs)
      (λ l. all_found (number + 1) l xs parts.1)

-- A function that finds the same decides the same.
decided : (one two : Adds) (tree : Tree) → found two 1 start tree.decls ≡ found one 1 start tree.decls → Decides one tree → Decides two tree
decided one two tree same of = record {
  typed = λ core typed. let r = of.typed core typed in (r.0, same ∙ r.1, r.2);
  refused = λ number line limit refused. same ∙ of.refused number line limit refused;
  on_ok = λ m is. of.on_ok m (sym same ∙ is);
  on_err = λ r is. of.on_err r (sym same ∙ is);
}

-- ---- the limit

few_same : (y : S-F Bool Bool Bool) → is_match y ≡ false → cases_of_statement y ≡ no_match_step y
few_same (S-F.Declare t m x) other_form = refl
few_same (S-F.Assign m x) other_form = refl
few_same (S-F.Call m xs) other_form = refl
few_same (S-F.Array x) other_form = refl
few_same (S-F.«S::Cond» q) other_form = refl
few_same (S-F.Return x) other_form = refl
few_same (S-F.Generate x) other_form = refl
few_same (S-F.Printf t xs) other_form = refl
few_same (S-F.Match x cases last) other_form = absurd (cc)

few : (xs : List S) → list_all has_no_match xs ≡ true → list_all cases_are_few xs ≡ true
few [] there = refl
few (x ∷ xs) there =
    let parts = and_parts _ _ there in
    ap₂ (λ (a b : Bool). a && b) (fold_same cases_of_no cases_of_statement no_match_step cases_of_choice few_same x parts.0 ∙ parts.0) (few xs parts.1)

pub apart : ComputesBlocks → DecidesPrograms → MatchesAreApart
apart computes decides = record {
  spelling = λ other tree there. ap (λ (fs : List Spelled). spelling.all_of fs []) (all_declared other tree.decls there);
  typing = λ other tree there. decided declaration (definitions_with other) tree (all_found other 1 start tree.decls there) (decides tree);
  bodies = λ other xs there a s m b k. subst (λ (fs : List Taking). (typing.block fs a s m ≡ Some (b, k)) ↔ Block a s m xs b k) (typed other xs there) (computes a s m xs b k);
  limit = few;
}
