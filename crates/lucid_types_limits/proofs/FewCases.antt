-- Whether matches have few cases, by form.
use Rattle.std.proofs.Common.{◌≡◌, ℕ, List, [], ◌∷◌, Bool, true, ◌&&◌, Option, None, Some, length, map, nat_le, refl, sym, ap, ap₂, ◌∙◌}
use Rattle.std.specs.List.{list_all}
use Rattle.std.specs.Option.{option_map_or}
use Rattle.std.proofs.lemmas.List.{length-map}
use Rattle.std.proofs.lemmas.List.Folds.{list_all-map}
use Rattle.lucid_core.specs.Numbers.{all_hold}
use Rattle.lucid_parse_tree.specs.declared.tree.C.{C, fold-roll-C, out-C}
use Rattle.lucid_parse_tree.specs.declared.tree.E.{E}
use Rattle.lucid_parse_tree.specs.declared.tree.No.{No, fold-roll-No}
use Rattle.lucid_parse_tree.specs.declared.tree.No.TheOpen.{No-F, S-F}
use Rattle.lucid_parse_tree.specs.declared.tree.No.TheVariants as no
use Rattle.lucid_parse_tree.specs.declared.tree.No.TheViews.{roll-out-C}
use Rattle.lucid_parse_tree.specs.declared.tree.S.{S, fold-roll-S, map-S}
use Rattle.lucid_parse_tree.specs.declared.tree.S.TheVariants as s
use Rattle.lucid_types_spec.specs.Limits.{cases_are_few, cases_of_choice, cases_of_no, cases_of_statement}
use Rattle.lucid_types_limits.specs.Cases.{few_in_choice, few_in_no}

all : (ss : List S) → all_hold (map cases_are_few ss) ≡ list_all cases_are_few ss
all ss = list_all-map (λ b. b) cases_are_few ss

pub block_is : (ss : List S) → few_in_no (no.Block ss) ≡ list_all cases_are_few ss
block_is ss = ap few_in_no (sym (no.rolls-Block ss)) ∙ fold-roll-No _ _ _ cases_of_no cases_of_statement cases_of_choice (No-F.Block ss) ∙ all ss

pub choice_is : (c : C) → few_in_choice c ≡ (list_all cases_are_few (out-C c).yes && few_in_no (out-C c).no)
choice_is c =
    ap few_in_choice (sym (roll-out-C c)) ∙ fold-roll-C _ _ _ cases_of_no cases_of_statement cases_of_choice (out-C c)
    ∙ ap (λ (b : Bool). b && few_in_no (out-C c).no) (all (out-C c).yes)

abbrev tested : ℕ × List S → ℕ × List Bool
tested c = (c.0, map cases_are_few c.1)

each : (cs : List (ℕ × List S)) → list_all (λ (c : ℕ × List Bool). all_hold c.1) (map tested cs) ≡ list_all (λ (c : ℕ × List S). list_all cases_are_few c.1) cs
each [] = refl
each (c ∷ cs) = ap₂ (λ (a b : Bool). a && b) (all c.1) (each cs)

of_cases : (cs : List (ℕ × List S)) → (nat_le (length (map tested cs)) 32 && list_all (λ (c : ℕ × List Bool). all_hold c.1) (map tested cs)) ≡ (nat_le (length cs) 32 && list_all (λ (c : ℕ × List S). list_all cases_are_few c.1) cs)
of_cases cs = ap₂ (λ (n : ℕ) (b : Bool). nat_le n 32 && b) (length-map cs tested) (each cs)

match_at : (x : E) (cases : List (ℕ × List S)) (last : Option (List S)) →
    cases_are_few (s.Match x cases last) ≡ cases_of_statement (map-S No S C Bool Bool Bool few_in_no cases_are_few few_in_choice (S-F.Match x cases last))
match_at x cases last = ap cases_are_few (sym (s.rolls-Match x cases last)) ∙ fold-roll-S Bool Bool Bool cases_of_no cases_of_statement cases_of_choice (S-F.Match x cases last)

pub match_is : (x : E) (cases : List (ℕ × List S)) (last : Option (List S)) →
    cases_are_few (s.Match x cases last) ≡ (nat_le (length cases) 32 && list_all (λ (c : ℕ × List S). list_all cases_are_few c.1) cases && option_map_or (list_all cases_are_few) last true)
match_is x cases None = match_at x cases None ∙ ap₂ (λ (a b : Bool). a && b) (of_cases cases) refl
match_is x cases (Some ss) = match_at x cases (Some ss) ∙ ap₂ (λ (a b : Bool). a && b) (of_cases cases) (all ss)
