-- Induction over statements and over the event of a `generate`, case by case.
use Rattle.std.proofs.Common.{ℕ, List, [], ◌∷◌, map, Option, Some, None, sym, subst}
use Rattle.std.specs.List.{AllByRecursion}
use Rattle.lucid_parse_tree.specs.declared.tree.Ty.{Ty}
use Rattle.lucid_parse_tree.specs.declared.tree.E.{E}
use Rattle.lucid_parse_tree.specs.declared.tree.A.{A}
use Rattle.lucid_parse_tree.specs.declared.tree.V.{V, ind-V, roll-V, map-V}
use Rattle.lucid_parse_tree.specs.declared.tree.V.TheVariants as v
use Rattle.lucid_parse_tree.specs.declared.tree.V.TheOpen.{V-F}
use Rattle.lucid_parse_tree.specs.declared.tree.S.{S, ind-S, roll-S, map-S}
use Rattle.lucid_parse_tree.specs.declared.tree.S.TheVariants as s
use Rattle.lucid_parse_tree.specs.declared.tree.C.{C, roll-C, map-C}
use Rattle.lucid_parse_tree.specs.declared.tree.No.{No, roll-No, map-No}
use Rattle.lucid_parse_tree.specs.declared.tree.No.TheVariants as n
use Rattle.lucid_parse_tree.specs.declared.tree.No.TheOpen.{No-F, S-F, C-F}

-- a choice, from its parts
abbrev pub choice : E → List S → No → C
choice x first second = roll-C (record { test = x; yes = first; no = second })

-- the cases of an induction over events
pub record EventCases (P : V → Type 0) : Type 0 where
  pub paren : (x : V) → P x → P (v.Paren x)
  pub call : (m : List ℕ) (xs : List E) → P (v.Call m xs)
  pub delay : (x : V) (y : E) → P x → P (v.Delay x y)
  pub locate : (x : V) (y : E) → P x → P (v.Locate x y)

module _ (P : V → Type 0) (c : EventCases P) where
  of_event : (y : V-F ((x : V) × P x)) → P (roll-V (map-V ((x : V) × P x) V (λ p. p.0) y))
  of_event (V-F.Paren x) = subst P (sym (v.rolls-Paren x.0)) (c.paren x.0 x.1)
  of_event (V-F.Call m xs) = subst P (sym (v.rolls-Call m xs)) (c.call m xs)
  of_event (V-F.Delay x y) = subst P (sym (v.rolls-Delay x.0 y)) (c.delay x.0 y x.1)
  of_event (V-F.Locate x y) = subst P (sym (v.rolls-Locate x.0 y)) (c.locate x.0 y x.1)

  pub event_induction : (x : V) → P x
  event_induction = ind-V P (λ x y is. subst (λ z. P (roll-V z)) is (of_event y))

-- the property in each block of a match
abbrev pub InCases : (S → Type 0) → List (ℕ × List S) → Type 0
InCases P [] = Unit {0}
InCases P (c ∷ cs) = AllByRecursion P c.1 × InCases P cs

abbrev pub InLast : (S → Type 0) → Option (List S) → Type 0
InLast P None = Unit {0}
InLast P (Some ss) = AllByRecursion P ss

-- the cases of an induction over statements
pub record StatementCases (N : No → Type 0) (P : S → Type 0) (Q : C → Type 0) : Type 0 where
  pub declare : (t : Ty) (m : List ℕ) (x : E) → P (s.Declare t m x)
  pub assign : (m : List ℕ) (x : E) → P (s.Assign m x)
  pub call : (m : List ℕ) (xs : List E) → P (s.Call m xs)
  pub array : (x : A) → P (s.Array x)
  pub cond : (c : C) → Q c → P (s.Cond c)
  pub returned : (x : Option E) → P (s.Return x)
  pub generate : (x : V) → P (s.Generate x)
  pub printed : (t : List ℕ) (xs : List E) → P (s.Printf t xs)
  pub matched : (x : E) (cs : List (ℕ × List S)) (last : Option (List S)) → InCases P cs → InLast P last → P (s.Match x cs last)
  pub chosen : (x : E) (first : List S) (second : No) → AllByRecursion P first → N second → Q (choice x first second)
  pub absent : N n.Absent
  pub block : (ss : List S) → AllByRecursion P ss → N (n.Block ss)
  pub chain : (c : C) → Q c → N (n.Cond c)

all_of : (P : S → Type 0) (ps : List ((x : S) × P x)) → AllByRecursion P (map (λ p. p.0) ps)
all_of P [] = tt
all_of P (p ∷ ps) = (p.1, all_of P ps)

all_cases : (P : S → Type 0) (cs : List (ℕ × List ((x : S) × P x))) → InCases P (map (λ c. (c.0, map (λ p. p.0) c.1)) cs)
all_cases P [] = tt
all_cases P (c ∷ cs) = (all_of P c.1, all_cases P cs)

module _ (N : No → Type 0) (P : S → Type 0) (Q : C → Type 0) (c : StatementCases N P Q) where
  abbrev NP : Type 0
  NP = (x : No) × N x

  abbrev PP : Type 0
  PP = (x : S) × P x

  abbrev QP : Type 0
  QP = (x : C) × Q x

  of_no : (y : No-F NP PP QP) → N (roll-No (map-No NP PP QP No S C (λ p. p.0) (λ p. p.0) (λ p. p.0) y))
  of_no No-F.Absent = subst N (sym n.rolls-Absent) c.absent
  of_no (No-F.Block ps) = subst N (sym (n.rolls-Block (map (λ p. p.0) ps))) (c.block (map (λ p. p.0) ps) (all_of P ps))
  of_no (No-F.«No::Cond» x) = subst N (sym (n.rolls-Cond x.0)) (c.chain x.0 x.1)

  of_statement : (y : S-F NP PP QP) → P (roll-S (map-S NP PP QP No S C (λ p. p.0) (λ p. p.0) (λ p. p.0) y))
  of_statement (S-F.Declare t m x) = subst P (sym (s.rolls-Declare t m x)) (c.declare t m x)
  of_statement (S-F.Assign m x) = subst P (sym (s.rolls-Assign m x)) (c.assign m x)
  of_statement (S-F.Call m xs) = subst P (sym (s.rolls-Call m xs)) (c.call m xs)
  of_statement (S-F.Array x) = subst P (sym (s.rolls-Array x)) (c.array x)
  of_statement (S-F.«S::Cond» x) = subst P (sym (s.rolls-Cond x.0)) (c.cond x.0 x.1)
  of_statement (S-F.Return x) = subst P (sym (s.rolls-Return x)) (c.returned x)
  of_statement (S-F.Generate x) = subst P (sym (s.rolls-Generate x)) (c.generate x)
  of_statement (S-F.Printf t xs) = subst P (sym (s.rolls-Printf t xs)) (c.printed t xs)
  of_statement (S-F.Match x cs None) = subst P (sym (s.rolls-Match x (map (λ k. (k.0, map (λ p. p.0) k.1)) cs) None)) (c.matched x (map (λ k. (k.0, map (λ p. p.0) k.1)) cs) None (all_cases P cs) tt)
  of_statement (S-F.Match x cs (Some ps)) = subst P (sym (s.rolls-Match x (map (λ k. (k.0, map (λ p. p.0) k.1)) cs) (Some (map (λ p. p.0) ps)))) (c.matched x (map (λ k. (k.0, map (λ p. p.0) k.1)) cs) (Some (map (λ p. p.0) ps)) (all_cases P cs) (all_of P ps))

  of_choice : (y : C-F NP PP QP) → Q (roll-C (map-C NP PP QP No S C (λ p. p.0) (λ p. p.0) (λ p. p.0) y))
  of_choice y = c.chosen y.test (map (λ p. p.0) y.yes) y.no.0 (all_of P y.yes) y.no.1

  pub statement_induction : (x : S) → P x
  statement_induction = ind-S N P Q
      (λ x y is. subst (λ z. N (roll-No z)) is (of_no y))
      (λ x y is. subst (λ z. P (roll-S z)) is (of_statement y))
      (λ x y is. subst (λ z. Q (roll-C z)) is (of_choice y))
