-- Statements of which no match has too many cases, by their parts.
use Rattle.std.proofs.Common.{◌≡◌, ℕ, List, [], ◌∷◌, Option, Some, Bool, true, map, refl, sym, ap, ◌∙◌}
use Rattle.std.specs.List.{list_all}
use Rattle.std.proofs.lemmas.Bool.{and_from}
use Rattle.std.proofs.lemmas.List.Folds.{list_all-map}
use Rattle.lucid_core.specs.Numbers.{all_hold}
use Rattle.lucid_parse_tree.specs.declared.tree.C.{fold-roll-C}
use Rattle.lucid_parse_tree.specs.declared.tree.E.{E}
use Rattle.lucid_parse_tree.specs.declared.tree.No.{fold-No, fold-roll-No}
use Rattle.lucid_parse_tree.specs.declared.tree.No.TheOpen.{No-F, S-F}
use Rattle.lucid_parse_tree.specs.declared.tree.No.TheVariants as no
use Rattle.lucid_parse_tree.specs.declared.tree.S.{S, fold-roll-S}
use Rattle.lucid_parse_tree.specs.declared.tree.S.TheVariants as statement
use Rattle.lucid_parse_tree.specs.declared.tree.Ty.{Ty}
use Rattle.lucid_parse_tree.specs.declared.tree.V.{V}
use Rattle.lucid_types_spec.specs.Block.{if_of}
use Rattle.lucid_types_spec.specs.Limits.{cases_are_few, cases_of_choice, cases_of_no, cases_of_statement}

-- No match in these statements has too many.
abbrev pub Few : List S → Type 0
Few ss = list_all cases_are_few ss ≡ true

pub few : (ss : List S) → Few ss → all_hold (map cases_are_few ss) ≡ true
few ss h = list_all-map (λ b. b) cases_are_few ss ∙ h

pub declared : (t : Ty) (n : List ℕ) (x : E) → cases_are_few (statement.Declare t n x) ≡ true
declared t n x = ap cases_are_few (sym (statement.rolls-Declare t n x)) ∙ fold-roll-S _ _ _ cases_of_no cases_of_statement cases_of_choice (S-F.Declare t n x)

pub assigned : (n : List ℕ) (x : E) → cases_are_few (statement.Assign n x) ≡ true
assigned n x = ap cases_are_few (sym (statement.rolls-Assign n x)) ∙ fold-roll-S _ _ _ cases_of_no cases_of_statement cases_of_choice (S-F.Assign n x)

pub returned : (x : Option E) → cases_are_few (statement.Return x) ≡ true
returned x = ap cases_are_few (sym (statement.rolls-Return x)) ∙ fold-roll-S _ _ _ cases_of_no cases_of_statement cases_of_choice (S-F.Return x)

pub generated : (x : V) → cases_are_few (statement.Generate x) ≡ true
generated x = ap cases_are_few (sym (statement.rolls-Generate x)) ∙ fold-roll-S _ _ _ cases_of_no cases_of_statement cases_of_choice (S-F.Generate x)

pub printed : (text : List ℕ) (xs : List E) → cases_are_few (statement.Printf text xs) ≡ true
printed text xs = ap cases_are_few (sym (statement.rolls-Printf text xs)) ∙ fold-roll-S _ _ _ cases_of_no cases_of_statement cases_of_choice (S-F.Printf text xs)

pub alone : (x : E) (ys : List S) → Few ys → cases_are_few (if_of x ys no.Absent) ≡ true
alone x ys h =
    ap cases_are_few (sym (statement.rolls-Cond _)) ∙ fold-roll-S _ _ _ cases_of_no cases_of_statement cases_of_choice (S-F.«S::Cond» _)
    ∙ fold-roll-C _ _ _ cases_of_no cases_of_statement cases_of_choice (record { test = x; yes = ys; no = no.Absent })
    ∙ and_from _ _ (few ys h) (ap (fold-No Bool Bool Bool cases_of_no cases_of_statement cases_of_choice) (sym no.rolls-Absent) ∙ fold-roll-No _ _ _ cases_of_no cases_of_statement cases_of_choice No-F.Absent)

pub matched : (x : E) (n : ℕ) (ys zs : List S) → Few ys → Few zs → cases_are_few (statement.Match x ((n, ys) ∷ []) (Some zs)) ≡ true
matched x n ys zs h g =
    ap cases_are_few (sym (statement.rolls-Match x ((n, ys) ∷ []) (Some zs))) ∙ fold-roll-S _ _ _ cases_of_no cases_of_statement cases_of_choice (S-F.Match x ((n, ys) ∷ []) (Some zs))
    ∙ and_from _ _ (and_from _ _ (few ys h) refl) (few zs g)
