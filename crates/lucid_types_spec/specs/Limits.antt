-- The limits on numbers of things, which are asked of a declaration that has a rule.
use Rattle.std.specs.Prelude.{List, [], ◌∷◌, Option, None, Some, Bool, true, ◌&&◌, if◌then◌else◌, length, nat_le}
use Rattle.std.specs.List.{list_all}
use Rattle.std.specs.Option.{option_map_or}
use Rattle.lucid_core.specs.Numbers.{all_hold}
use Rattle.lucid_core.specs.OutCount.{outs_are_few}
use Rattle.lucid_core.specs.Parts.{CoreParts}
use Rattle.lucid_core.specs.Few.{arguments_are_few}
use Rattle.lucid_parse_tree.specs.declared.tree.DeclKind.{DeclKind}
use Rattle.lucid_parse_tree.specs.declared.tree.DeclKind.TheVariants as d
use Rattle.lucid_parse_tree.specs.declared.tree.No.TheOpen.{No-F, S-F, C-F}
use Rattle.lucid_parse_tree.specs.declared.tree.S.{S, fold-S}
use Rattle.lucid_types_spec.specs.declared.limit.What.{What}
use Rattle.lucid_types_spec.specs.declared.limit.What.TheVariants as what

-- ---- at most 32 cases in a match

abbrev pub cases_of_no : No-F Bool Bool Bool → Bool
cases_of_no No-F.Absent = true
cases_of_no (No-F.Block ss) = all_hold ss
cases_of_no (No-F.«No::Cond» c) = c

abbrev pub cases_of_statement : S-F Bool Bool Bool → Bool
cases_of_statement (S-F.Match test cases last) =
    nat_le (length cases) 32 && list_all (λ c. all_hold c.1) cases && option_map_or all_hold last true
cases_of_statement (S-F.«S::Cond» c) = c
cases_of_statement s = true

abbrev pub cases_of_choice : C-F Bool Bool Bool → Bool
cases_of_choice c = all_hold c.yes && c.no

abbrev pub cases_are_few : S → Bool
cases_are_few = fold-S Bool Bool Bool cases_of_no cases_of_statement cases_of_choice

abbrev pub body_of : DeclKind → List S
body_of (d.Handle n ps body) = body
body_of (d.Fun a n ps body) = body
body_of x = []

-- ---- all limits

-- In the order in which they are tried, each with whether it is kept by all that was made, this declaration the last.
abbrev pub limits : DeclKind → CoreParts → List (What × Bool)
limits x m =
    (what.Arrays, nat_le (length m.arrays) 64)
    ∷ (what.ArrayParameters, list_all (λ f. nat_le (length f.arrays) 8) m.funs)
    ∷ (what.ValueParameters, list_all (λ e. nat_le (length e.params) 8) m.events && list_all (λ f. nat_le f.params 8) m.funs)
    ∷ (what.Arguments, list_all (λ f. arguments_are_few f.body) m.funs && list_all (λ h. arguments_are_few h.body) m.handlers)
    ∷ (what.Outs, outs_are_few m)
    ∷ (what.Cases, list_all cases_are_few (body_of x))
    ∷ []

abbrev pub first_passed : List (What × Bool) → Option What
first_passed [] = None
first_passed (l ∷ ls) = if l.1 then first_passed ls else Some l.0

-- The limit that the declaration passes, the first of several.
abbrev pub passed : DeclKind → CoreParts → Option What
passed x m = first_passed (limits x m)
