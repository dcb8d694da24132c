-- The finding for a program by any function that computes the rules of declarations: its definitions, or the first declaration that is
-- refused.
use Rattle.std.specs.Prelude.{◌≡◌, ℕ, ◌+◌, List, [], ◌∷◌, Option, None, Some, Result, Ok, Err}
use Rattle.lucid_core.specs.Parts.{CoreParts}
use Rattle.lucid_parse_tree.specs.declared.tree.Decl.{Decl}
use Rattle.lucid_parse_tree.specs.declared.tree.DeclKind.{DeclKind}
use Rattle.lucid_parse_tree.specs.declared.tree.Tree.{Tree}
use Rattle.lucid_types_spec.specs.declared.limit.What.{What}
use Rattle.lucid_types_spec.specs.Declaration.{Declared, Definitions, parts_of, start}
use Rattle.lucid_types_spec.specs.Limits.{passed}
use Rattle.lucid_types_spec.specs.Makes.{IsRefused, IsTyped}

-- From a declaration's number and line, itself and the earlier definitions: the new definitions, if it has a rule.
abbrev pub Adds : Type 0
Adds = ℕ → ℕ → DeclKind → Definitions → Option Definitions

-- It computes just the derivations of the rules.
pub record Computes (adds : Adds) : Type 0 where
  pub sound : (number line : ℕ) (m l : Definitions) (x : DeclKind) → adds number line x m ≡ Some l → Declared number line m x l
  pub complete : (number line : ℕ) (m l : Definitions) (x : DeclKind) → Declared number line m x l → adds number line x m ≡ Some l

-- Which declaration is refused, the line on which it begins, and the limit that it passes: None where it has no rule.
pub record Refusal : Type 0 where
  pub decl : ℕ
  pub line : ℕ
  pub limit : Option What

-- ---- one declaration after another

abbrev pub on_limit : ℕ → ℕ → Option What → Result Definitions Refusal → Result Definitions Refusal
on_limit number line (Some w) next = Err (record { decl = number; line = line; limit = Some w })
on_limit number line None next = next

abbrev pub on_made : ℕ → Decl → Option Definitions → (Definitions → Result Definitions Refusal) → Result Definitions Refusal
on_made number x None next = Err (record { decl = number; line = x.line; limit = None })
on_made number x (Some l) next = on_limit number x.line (passed x.kind (parts_of l)) (next l)

abbrev pub found : Adds → ℕ → Definitions → List Decl → Result Definitions Refusal
found adds number m [] = Ok m
found adds number m (x ∷ xs) = on_made number x (adds number x.line x.kind m) (λ l. found adds (number + 1) l xs)

-- ---- the law

-- A tree is typed with the finding and nothing else, or it is refused for the finding and nothing else; and never both.
pub record Decides (adds : Adds) (tree : Tree) : Type 0 where
  pub typed : (core : CoreParts) → IsTyped tree core → (m : Definitions) × (found adds 1 start tree.decls ≡ Ok m) × (parts_of m ≡ core)
  pub refused : (number line : ℕ) (limit : Option What) → IsRefused tree number line limit →
      found adds 1 start tree.decls ≡ Err (record { decl = number; line = line; limit = limit })
  pub on_ok : (m : Definitions) → found adds 1 start tree.decls ≡ Ok m → IsTyped tree (parts_of m)
  pub on_err : (r : Refusal) → found adds 1 start tree.decls ≡ Err r → IsRefused tree r.decl r.line r.limit

abbrev pub FindsFirst : Type 0
FindsFirst = (adds : Adds) → Computes adds → (tree : Tree) → Decides adds tree

-- A tree has at most one core, or it is refused at one declaration, which begins on one line, for one reason.
pub record IsDetermined (tree : Tree) : Type 0 where
  pub one_core : (core other : CoreParts) → IsTyped tree core → IsTyped tree other → core ≡ other
  pub one_refusal : (number line number_again line_again : ℕ) (limit limit_again : Option What) →
      IsRefused tree number line limit → IsRefused tree number_again line_again limit_again →
      (number ≡ number_again) × (line ≡ line_again) × (limit ≡ limit_again)
  pub never_both : (core : CoreParts) (number line : ℕ) (limit : Option What) → IsTyped tree core → IsRefused tree number line limit → ⊥

abbrev pub Determines : Type 0
Determines = (adds : Adds) → Computes adds → (tree : Tree) → IsDetermined tree
