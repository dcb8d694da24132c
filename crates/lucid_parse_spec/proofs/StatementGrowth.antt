-- Every statement has a token.
use Rattle.std.proofs.Common.{ℕ, ◌<◌, ◌≤◌, List, [], ◌∷◌, length, map, Option, Some, None, option_map, arith}
use Rattle.std.specs.List.{AllByRecursion}
use Rattle.lucid_lex.specs.declared.sign.Sign.TheVariants as signs
use Rattle.lucid_lex.specs.declared.word.Word.TheVariants as words
use Rattle.lucid_parse_tree.specs.declared.tree.Ty.{Ty}
use Rattle.lucid_parse_tree.specs.declared.tree.Ty.TheVariants as types
use Rattle.lucid_parse_tree.specs.declared.tree.E.{E}
use Rattle.lucid_parse_tree.specs.declared.tree.V.{V}
use Rattle.lucid_parse_tree.specs.declared.tree.S.{S}
use Rattle.lucid_parse_tree.specs.declared.tree.C.{C}
use Rattle.lucid_parse_tree.specs.declared.tree.No.{No}
use Rattle.lucid_parse_spec.specs.Spelling as spell
use Rattle.lucid_parse_spec.specs.Spelling.{Text, spelled, array_spelled, event_spelled, statement_spelled, choice_spelled, no_spelled}
use Rattle.lucid_parse_spec.proofs.Growth.{grows, array_grows, expressions_grow, more_expressions_grow, width_if_grow}
use Rattle.lucid_parse_spec.proofs.StatementEquations.{event_spelled-Paren, event_spelled-Call, event_spelled-Delay, event_spelled-Locate, statement_spelled-Declare, statement_spelled-Assign, statement_spelled-Call, statement_spelled-Array, statement_spelled-Cond, statement_spelled-Return, statement_spelled-Generate, statement_spelled-Printf, statement_spelled-Match, no_spelled-Absent, no_spelled-Block, no_spelled-Cond, choice_spelled-parts}
use Rattle.lucid_parse_tree.proofs.StatementInduction.{EventCases, event_induction, StatementCases, statement_induction, InCases, InLast}

abbrev EventGrows : V → Type 0
EventGrows x = (r : Text) → length r < length (event_spelled x r)

event_cases : EventCases EventGrows
event_cases = record {
  paren = λ x grow r. let more = grow (spell.sign signs.CloseParen r) in rw (event_spelled-Paren x r) (omega arith);
  call = λ m xs r. let more = expressions_grow xs (spell.sign signs.CloseParen r) in rw (event_spelled-Call m xs r) (omega arith);
  delay = λ x y grow r. let last = grows y (spell.sign signs.CloseParen r) in let more = grow (spell.sign signs.Comma (spelled y (spell.sign signs.CloseParen r))) in rw (event_spelled-Delay x y r) (omega arith);
  locate = λ x y grow r. let last = grows y (spell.sign signs.CloseParen r) in let more = grow (spell.sign signs.Comma (spelled y (spell.sign signs.CloseParen r))) in rw (event_spelled-Locate x y r) (omega arith);
}

pub event_grows : (x : V) (r : Text) → length r < length (event_spelled x r)
event_grows = event_induction EventGrows event_cases

-- ---- statements

abbrev Grows : S → Type 0
Grows x = (r : Text) → length r < length (statement_spelled x r)

abbrev ChoiceGrows : C → Type 0
ChoiceGrows x = (r : Text) → length r < length (choice_spelled x r)

abbrev NoGrows : No → Type 0
NoGrows x = (r : Text) → length r ≤ length (no_spelled x r)

list_grow : (ss : List S) → AllByRecursion Grows ss → (r : Text) → length r ≤ length (spell.all_of (map statement_spelled ss) r)
list_grow [] each r = omega arith
list_grow (x ∷ xs) each r = let first = each.0 (spell.all_of (map statement_spelled xs) r) in let rest = list_grow xs each.1 r in omega arith

block_grow : (ss : List S) → AllByRecursion Grows ss → (r : Text) → length r < length (spell.block (map statement_spelled ss) r)
block_grow ss each r = let more = list_grow ss each (spell.sign signs.CloseBrace r) in omega arith

cases_grow : (cs : List (ℕ × List S)) → InCases Grows cs → (r : Text) → length r ≤ length (spell.cases (map (λ c. (c.0, map statement_spelled c.1)) cs) r)
cases_grow [] each r = omega arith
cases_grow (c ∷ cs) each r =
    let rest = cases_grow cs each.1 r in
    let first = block_grow c.1 each.0 (spell.cases (map (λ c. (c.0, map statement_spelled c.1)) cs) r) in omega arith

last_grow : (last : Option (List S)) → InLast Grows last → (r : Text) → length r ≤ length (spell.last_arm (option_map (map statement_spelled) last) r)
last_grow None each r = omega arith
last_grow (Some ss) each r = let more = block_grow ss each r in omega arith

pub ty_grows : (t : Ty) (r : Text) → length r < length (spell.ty t r)
ty_grows (types.Int w) r = let more = width_if_grow w r in omega arith
ty_grows types.Bool r = omega arith

returned_grow : (x : Option E) (r : Text) → length r < length (spell.returned x r)
returned_grow None r = omega arith
returned_grow (Some x) r = let more = grows x (spell.sign signs.Semicolon r) in omega arith

cases : StatementCases NoGrows Grows ChoiceGrows
cases = record {
  declare = λ t m x r.
      let more = grows x (spell.sign signs.Semicolon r) in
      let all = ty_grows t (spell.name m (spell.sign signs.Equal (spelled x (spell.sign signs.Semicolon r)))) in rw (statement_spelled-Declare t m x r) (omega arith);
  assign = λ m x r. let more = grows x (spell.sign signs.Semicolon r) in rw (statement_spelled-Assign m x r) (omega arith);
  call = λ m xs r. let more = expressions_grow xs (spell.sign signs.CloseParen (spell.sign signs.Semicolon r)) in rw (statement_spelled-Call m xs r) (omega arith);
  array = λ x r. let more = array_grows x (spell.sign signs.Semicolon r) in rw (statement_spelled-Array x r) (omega arith);
  cond = λ c grow r. let more = grow r in rw (statement_spelled-Cond c r) (omega arith);
  returned = λ x r. let more = returned_grow x r in rw (statement_spelled-Return x r) (omega arith);
  generate = λ x r. let more = event_grows x (spell.sign signs.Semicolon r) in rw (statement_spelled-Generate x r) (omega arith);
  printed = λ t xs r. let more = more_expressions_grow xs (spell.sign signs.CloseParen (spell.sign signs.Semicolon r)) in rw (statement_spelled-Printf t xs r) (omega arith);
  matched = λ x cs last each least r.
      let after = last_grow last least r in
      let middle = cases_grow cs each (spell.last_arm (option_map (map statement_spelled) last) r) in
      let more = grows x (spell.word words.With (spell.cases (map (λ c. (c.0, map statement_spelled c.1)) cs) (spell.last_arm (option_map (map statement_spelled) last) r))) in rw (statement_spelled-Match x cs last r) (omega arith);
  chosen = λ x first second each grow r.
      let after = grow r in
      let middle = block_grow first each (no_spelled second r) in
      let more = grows x (spell.sign signs.CloseParen (spell.block (map statement_spelled first) (no_spelled second r))) in rw (choice_spelled-parts x first second r) (omega arith);
  absent = λ r. rw (no_spelled-Absent r) (omega arith);
  block = λ ss each r. let more = block_grow ss each r in rw (no_spelled-Block ss r) (omega arith);
  chain = λ c grow r. let more = grow r in rw (no_spelled-Cond c r) (omega arith);
}

pub statement_grows : (x : S) (r : Text) → length r < length (statement_spelled x r)
statement_grows = statement_induction NoGrows Grows ChoiceGrows cases
