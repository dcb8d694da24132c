-- A spelled statement is read as that statement.
use Rattle.std.proofs.Common.{◌≡◌, ℕ, zero, suc, ◌+◌, ◌<◌, ◌≤◌, Bool, true, false, ◌&&◌, nat_le, List, [], ◌∷◌, length, map, Option, Some, None, option_map, refl, ap, ◌∙◌, arith}
use Rattle.std.specs.List.{list_all, AllByRecursion}
use Rattle.std.proofs.lemmas.List.Folds.{list_all-map}
use Rattle.lucid_lex.specs.declared.sign.Sign.TheVariants as signs
use Rattle.lucid_lex.specs.declared.word.Word.TheVariants as words
use Rattle.lucid_parse_spec.specs.Lexemes as lexemes
use Rattle.lucid_parse_tree.specs.declared.tree.Ty.{Ty}
use Rattle.lucid_parse_tree.specs.declared.tree.Ty.TheVariants as types
use Rattle.lucid_parse_tree.specs.declared.tree.E.{E}
use Rattle.lucid_parse_tree.specs.declared.tree.A.{A}
use Rattle.lucid_parse_tree.specs.declared.tree.V.{V}
use Rattle.lucid_parse_tree.specs.declared.tree.V.TheVariants as v
use Rattle.lucid_parse_tree.specs.declared.tree.S.{S}
use Rattle.lucid_parse_tree.specs.declared.tree.S.TheVariants as s
use Rattle.lucid_parse_tree.specs.declared.tree.C.{C}
use Rattle.lucid_parse_tree.specs.declared.tree.No.{No}
use Rattle.lucid_parse_tree.specs.declared.tree.No.TheVariants as n
use Rattle.lucid_parse_spec.specs.Reader as read
use Rattle.lucid_parse_spec.specs.Reader.{Text, Parser}
use Rattle.lucid_parse_spec.specs.ReadExpression as read_e
use Rattle.lucid_parse_spec.specs.ReadStatement as read_s
use Rattle.lucid_parse_spec.specs.Spelling as spell
use Rattle.lucid_parse_spec.specs.Spelling.{spelled, array_spelled, event_spelled, statement_spelled, choice_spelled, no_spelled, array_level, is_built, all_built, event_built, statement_built, choice_built, no_built}
use Rattle.lucid_parse_spec.proofs.Steps.{both, typed_name_again}
use Rattle.lucid_parse_spec.proofs.Repeats.{StepsOf, repeat_again, all_grow}
use Rattle.lucid_parse_spec.proofs.Growth.{grows}
use Rattle.lucid_parse_spec.proofs.StatementGrowth.{event_grows, statement_grows}
use Rattle.lucid_parse_spec.proofs.ExpressionComplete.{stops, stops_close, expression_again, call_arguments_again, array_call_again, array_begins, operands_again, no_semicolon}
use Rattle.lucid_parse_spec.proofs.StatementSound.{all_are, case_part, cases_as}
use Rattle.lucid_parse_spec.proofs.StatementEquations.{event_spelled-Paren, event_spelled-Call, event_spelled-Delay, event_spelled-Locate, event_built-Paren, event_built-Call, event_built-Delay, event_built-Locate, statement_spelled-Declare, statement_spelled-Assign, statement_spelled-Call, statement_spelled-Array, statement_spelled-Cond, statement_spelled-Return, statement_spelled-Generate, statement_spelled-Printf, statement_spelled-Match, statement_built-Declare, statement_built-Assign, statement_built-Call, statement_built-Array, statement_built-Cond, statement_built-Return, statement_built-Generate, statement_built-Printf, statement_built-Match, no_spelled-Absent, no_spelled-Block, no_spelled-Cond, no_built-Block, no_built-Cond, choice_spelled-parts, choice_built-parts}
use Rattle.lucid_parse_tree.proofs.StatementInduction.{choice, event_induction, StatementCases, statement_induction, InCases, InLast}

stops_semicolon : (r : Text) → stops 1 (spell.sign signs.Semicolon r) ≡ true
unfolding read_e.next_of
stops_semicolon r = refl

stops_with : (r : Text) → stops 1 (spell.word words.With r) ≡ true
unfolding read_e.next_of
stops_with r = refl

-- ---- events

abbrev EventAgain : V → Type 0
EventAgain x = (d : ℕ) (r : Text) → event_built x ≡ true → length (event_spelled x r) ≤ d → read_s.event_at d (event_spelled x r) ≡ Some (x, r)

event_paren : (x : V) → EventAgain x → EventAgain (v.Paren x)
unfolding read_s.event_at read_s.event_within
event_paren x again zero r built few = let more = event_grows (v.Paren x) r in absurd (omega arith)
event_paren x again (suc d) r built few =
    let less : length (event_spelled x (spell.sign signs.CloseParen r)) ≤ d = omega (arith, rw (event_spelled-Paren x r) at few) in
    rw (event_spelled-Paren x r, again d (spell.sign signs.CloseParen r) (rw (event_built-Paren x) at built) less) refl

event_call : (m : List ℕ) (xs : List E) → EventAgain (v.Call m xs)
unfolding read_s.event_at read_s.event_within
event_call m xs zero r built few = let more = event_grows (v.Call m xs) r in absurd (omega arith)
event_call m xs (suc d) r built few = rw (event_spelled-Call m xs r, call_arguments_again xs r (rw (event_built-Call m xs) at built)) refl

pair_again : (d : ℕ) (x : V) (y : E) (r : Text) → EventAgain x → (event_built x && is_built y) ≡ true → length (event_spelled x (spell.sign signs.Comma (spelled y (spell.sign signs.CloseParen r)))) ≤ d → read_s.event_pair (read_s.event_at d) (spell.in_parens (λ q. event_spelled x (spell.sign signs.Comma (spelled y q))) r) ≡ Some ((x, y), r)
unfolding read_s.event_pair
pair_again d x y r again built few =
    let hs = both _ _ built in
    rw (again d (spell.sign signs.Comma (spelled y (spell.sign signs.CloseParen r))) hs.0 few, expression_again y (spell.sign signs.CloseParen r) hs.1 (stops_close r)) refl

event_delay : (x : V) (y : E) → EventAgain x → EventAgain (v.Delay x y)
unfolding read_s.event_at read_s.event_within read_s.event_by
event_delay x y again zero r built few = let more = event_grows (v.Delay x y) r in absurd (omega arith)
event_delay x y again (suc d) r built few =
    let less : length (event_spelled x (spell.sign signs.Comma (spelled y (spell.sign signs.CloseParen r)))) ≤ d = omega (arith, rw (event_spelled-Delay x y r) at few) in
    rw (event_spelled-Delay x y r, pair_again d x y r again (rw (event_built-Delay x y) at built) less) refl

event_locate : (x : V) (y : E) → EventAgain x → EventAgain (v.Locate x y)
unfolding read_s.event_at read_s.event_within read_s.event_by
event_locate x y again zero r built few = let more = event_grows (v.Locate x y) r in absurd (omega arith)
event_locate x y again (suc d) r built few =
    let less : length (event_spelled x (spell.sign signs.Comma (spelled y (spell.sign signs.CloseParen r)))) ≤ d = omega (arith, rw (event_spelled-Locate x y r) at few) in
    rw (event_spelled-Locate x y r, pair_again d x y r again (rw (event_built-Locate x y) at built) less) refl

event_at_again : (x : V) → EventAgain x
event_at_again = event_induction EventAgain (record { paren = event_paren; call = event_call; delay = event_delay; locate = event_locate })

event_again : (x : V) (r : Text) → event_built x ≡ true → read_s.event (event_spelled x r) ≡ Some (x, r)
unfolding read_s.event
event_again x r built = event_at_again x (length (event_spelled x r)) r built (omega arith)

-- ---- statements without statements in them

abbrev Within : S → Type 0
Within x = (inner : read_s.Inner) (r : Text) → statement_built x ≡ true → read_s.statement_within inner (statement_spelled x r) ≡ Some (x, r)

ty_within : (inner : read_s.Inner) (t : Ty) (r : Text) → read_s.statement_within inner (spell.ty t r) ≡ read_s.declared (spell.ty t r)
unfolding read_s.statement_within read_s.simple
ty_within inner (types.Int w) r = refl
ty_within inner types.Bool r = refl

declare_within : (t : Ty) (m : List ℕ) (x : E) → Within (s.Declare t m x)
unfolding read_s.declared read_s.ended_value
declare_within t m x inner r built =
    let end = spell.sign signs.Semicolon r in
    rw (statement_spelled-Declare t m x r, ty_within inner t (spell.name m (spell.sign signs.Equal (spelled x end))), typed_name_again t m (spell.sign signs.Equal (spelled x end)), expression_again x end (rw (statement_built-Declare t m x) at built) (stops_semicolon r)) refl

assign_within : (m : List ℕ) (x : E) → Within (s.Assign m x)
unfolding read_s.statement_within read_s.simple read_s.after_its_name read_s.ended_value
assign_within m x inner r built = rw (statement_spelled-Assign m x r, expression_again x (spell.sign signs.Semicolon r) (rw (statement_built-Assign m x) at built) (stops_semicolon r)) refl

call_within : (m : List ℕ) (xs : List E) → Within (s.Call m xs)
unfolding read_s.statement_within read_s.simple read_s.after_its_name read_s.ended_arguments
call_within m xs inner r built = rw (statement_spelled-Call m xs r, call_arguments_again xs (spell.sign signs.Semicolon r) (rw (statement_built-Call m xs) at built)) refl

array_within : (x : A) → Within (s.Array x)
unfolding read_s.statement_within read_s.simple read_s.array_statement read_e.whole_array_call
array_within x inner r built =
    let needs = rw (statement_built-Array x) at built in
    let end = spell.sign signs.Semicolon r in
    let h = array_begins x end needs in
    rw (statement_spelled-Array x r, h.1, array_call_again x end h.0 h.1 needs) refl

returned_within : (x : Option E) → Within (s.Return x)
unfolding read_s.statement_within read_s.simple read_s.returned read_s.ended_value
returned_within None inner r built = rw (statement_spelled-Return None r) refl
returned_within (Some x) inner r built =
    let needs = rw (statement_built-Return (Some x)) at built in
    let end = spell.sign signs.Semicolon r in
    rw (statement_spelled-Return (Some x) r, no_semicolon x end needs (stops_semicolon r), expression_again x end needs (stops_semicolon r)) refl

generate_within : (x : V) → Within (s.Generate x)
unfolding read_s.statement_within read_s.simple read_s.generated
generate_within x inner r built = rw (statement_spelled-Generate x r, event_again x (spell.sign signs.Semicolon r) (rw (statement_built-Generate x) at built)) refl

printed_within : (t : List ℕ) (xs : List E) → Within (s.Printf t xs)
unfolding read_s.statement_within read_s.simple read_s.printed
printed_within t xs inner r built = rw (statement_spelled-Printf t xs r, operands_again xs (spell.sign signs.Semicolon r) (rw (statement_built-Printf t xs) at built)) refl

-- ---- where a statement ends, and its first token

-- neither an `else` nor a case follows
abbrev pub calm : Text → Bool
calm (lexemes.Word words.Else ∷ r) = false
calm (lexemes.Sign signs.Or ∷ r) = false
calm r = true

abbrev plain : Text → Bool
plain (lexemes.Word words.Else ∷ r) = false
plain (lexemes.Sign signs.Or ∷ r) = false
plain (lexemes.Sign signs.CloseBrace ∷ r) = false
plain r = true

plain_calm : (ts : Text) → plain ts ≡ true → calm ts ≡ true
plain_calm (lexemes.Word words.Else ∷ r) h = h
plain_calm (lexemes.Sign signs.Or ∷ r) h = h
plain_calm (lexemes.Sign signs.CloseBrace ∷ r) h = refl
plain_calm r h = refl

brace_step : (item : Parser S) (ts : Text) → plain ts ≡ true → read_s.before_brace item ts ≡ Some (item ts)
brace_step item (lexemes.Sign signs.CloseBrace ∷ r) h = absurd cc
brace_step item ts h = refl

ty_plain : (t : Ty) (r : Text) → plain (spell.ty t r) ≡ true
ty_plain (types.Int w) r = refl
ty_plain types.Bool r = refl

returned_plain : (x : Option E) (r : Text) → plain (spell.returned x r) ≡ true
returned_plain None r = refl
returned_plain (Some x) r = refl

array_plain : (x : A) (r : Text) → nat_le 1 (array_level x) ≡ true → plain (array_spelled x r) ≡ true
array_plain x r built = let h = array_begins x r built in rw h.1 refl

abbrev Plain : S → Type 0
Plain x = (r : Text) → statement_built x ≡ true → plain (statement_spelled x r) ≡ true

plain_cases : StatementCases (λ x. Unit {0}) Plain (λ x. (r : Text) → plain (choice_spelled x r) ≡ true)
plain_cases = record {
  declare = λ t m x r built. rw (statement_spelled-Declare t m x r) (ty_plain t (spell.name m (spell.sign signs.Equal (spelled x (spell.sign signs.Semicolon r)))));
  assign = λ m x r built. rw (statement_spelled-Assign m x r) refl;
  call = λ m xs r built. rw (statement_spelled-Call m xs r) refl;
  array = λ x r built. rw (statement_spelled-Array x r) (array_plain x (spell.sign signs.Semicolon r) (rw (statement_built-Array x) at built));
  cond = λ c h r built. rw (statement_spelled-Cond c r) (h r);
  returned = λ x r built. rw (statement_spelled-Return x r) (returned_plain x r);
  generate = λ x r built. rw (statement_spelled-Generate x r) refl;
  printed = λ t xs r built. rw (statement_spelled-Printf t xs r) refl;
  matched = λ x cs last each least r built. rw (statement_spelled-Match x cs last r) refl;
  chosen = λ x first second each h r. rw (choice_spelled-parts x first second r) refl;
  absent = tt;
  block = λ ss each. tt;
  chain = λ c h. tt;
}

statement_plain : (x : S) → Plain x
statement_plain = statement_induction (λ x. Unit {0}) Plain (λ x. (r : Text) → plain (choice_spelled x r) ≡ true) plain_cases

-- ---- statements with statements in them

abbrev Again : S → Type 0
Again x = (d : ℕ) (r : Text) → statement_built x ≡ true → calm r ≡ true → length (statement_spelled x r) ≤ d → (read_s.inner_at d).statement (statement_spelled x r) ≡ Some (x, r)

record Chosen (d : ℕ) (c : C) (r : Text) : Type 0 where
  behind : Text
  written : choice_spelled c r ≡ spell.word words.If behind
  reads : (read_s.inner_at d).choice behind ≡ Some (c, r)

abbrev ChoiceAgain : C → Type 0
ChoiceAgain c = (d : ℕ) (r : Text) → choice_built c ≡ true → calm r ≡ true → length (choice_spelled c r) ≤ suc d → Chosen d c r

abbrev NoAgain : No → Type 0
NoAgain x = (d : ℕ) (r : Text) → no_built x ≡ true → calm r ≡ true → length (no_spelled x r) ≤ d → read_s.alternative (read_s.inner_at d) (no_spelled x r) ≡ Some (x, r)

simple_again : (x : S) → Within x → Again x
unfolding read_s.inner_at
simple_again x within zero r built ends few = let more = statement_grows x r in absurd (omega arith)
simple_again x within (suc d) r built ends few = within (read_s.inner_at d) r built

-- the tokens after a statement in a block
rest_calm : (ss : List S) (r : Text) → all_are ss ≡ true → calm (spell.all_of (map statement_spelled ss) (spell.sign signs.CloseBrace r)) ≡ true
rest_calm [] r built = refl
rest_calm (x ∷ xs) r built = plain_calm _ (statement_plain x (spell.all_of (map statement_spelled xs) (spell.sign signs.CloseBrace r)) (both _ _ built).0)

statement_steps : (d : ℕ) (ss : List S) (r : Text) → AllByRecursion Again ss → all_are ss ≡ true → length (spell.all_of (map statement_spelled ss) (spell.sign signs.CloseBrace r)) ≤ d → StepsOf (read_s.before_brace (read_s.inner_at d).statement) statement_spelled ss (spell.sign signs.CloseBrace r)
statement_steps d [] r each built few = refl
statement_steps d (x ∷ xs) r each built few =
    let hs = both _ _ built in
    let rest = spell.all_of (map statement_spelled xs) (spell.sign signs.CloseBrace r) in
    let more = statement_grows x rest in (
      brace_step (read_s.inner_at d).statement (statement_spelled x rest) (statement_plain x rest hs.0) ∙ ap (λ o. Some o) (each.0 d rest hs.0 (rest_calm xs r hs.1) few),
      statement_steps d xs r each.1 hs.1 (omega arith),
    )

block_again : (d : ℕ) (ss : List S) (r : Text) → AllByRecursion Again ss → all_are ss ≡ true → length (spell.block (map statement_spelled ss) r) ≤ suc d → read_s.block (read_s.inner_at d).statement (spell.block (map statement_spelled ss) r) ≡ Some (ss, r)
unfolding read_s.block read_s.statements
block_again d ss r each built few =
    let ts = spell.all_of (map statement_spelled ss) (spell.sign signs.CloseBrace r) in
    let count = all_grow statement_spelled statement_grows ss (spell.sign signs.CloseBrace r) in
    rw (repeat_again (read_s.before_brace (read_s.inner_at d).statement) statement_spelled (length ts) [] ss (spell.sign signs.CloseBrace r) (omega arith) (statement_steps d ss r each built (omega arith))) refl

block_long : (ss : List S) (r : Text) → length r + 2 ≤ length (spell.block (map statement_spelled ss) r)
block_long ss r = let count = all_grow statement_spelled statement_grows ss (spell.sign signs.CloseBrace r) in omega arith

-- ---- matches

case_grows : (c : ℕ × List S) (r : Text) → length r < length (case_part c r)
case_grows c r = let more = block_long c.1 r in omega arith

no_case : (last : Option (List S)) (r : Text) → calm r ≡ true → read_s.case_head (spell.last_arm (option_map (map statement_spelled) last) r) ≡ None
unfolding read_s.case_head
no_case None (lexemes.Sign signs.Or ∷ r) h = absurd cc
no_case None r h = refl
no_case (Some ss) r h = refl

case_steps : (d : ℕ) (cs : List (ℕ × List S)) (r : Text) → InCases Again cs → spell.cases_built (map (λ c. (c.0, map statement_built c.1)) cs) ≡ true → length (spell.all_of (map case_part cs) r) ≤ d → read_s.case_head r ≡ None → StepsOf (read_s.one_case (read_s.inner_at d).statement) case_part cs r
unfolding read_s.case_head
case_steps d [] r each built few ends = ap (option_map (read_s.case_body (read_s.inner_at d).statement)) ends
case_steps d (c ∷ cs) r each built few ends =
    let hs = both _ _ built in
    let rest = spell.all_of (map case_part cs) r in
    let more = block_long c.1 rest in
    (rw (block_again d c.1 rest each.0 hs.0 (omega arith)) refl, case_steps d cs r each.1 hs.1 (omega arith) ends)

cases_again : (d : ℕ) (cs : List (ℕ × List S)) (r : Text) → InCases Again cs → spell.cases_built (map (λ c. (c.0, map statement_built c.1)) cs) ≡ true → length (spell.cases (map (λ c. (c.0, map statement_spelled c.1)) cs) r) ≤ d → read_s.case_head r ≡ None → read_s.cases (read_s.inner_at d).statement (spell.cases (map (λ c. (c.0, map statement_spelled c.1)) cs) r) ≡ Some (cs, r)
unfolding read_s.cases
cases_again d cs r each built few ends =
    let same = cases_as cs r in
    let count = all_grow case_part case_grows cs r in
    let less : length (spell.all_of (map case_part cs) r) ≤ d = rw same few in
    rw (← same) (repeat_again (read_s.one_case (read_s.inner_at d).statement) case_part (length (spell.all_of (map case_part cs) r)) [] cs r (omega arith) (case_steps d cs r each built less ends))

no_last : (r : Text) → calm r ≡ true → read_s.last_head r ≡ None
unfolding read_s.last_head
no_last (lexemes.Sign signs.Or ∷ r) h = absurd cc
no_last r h = refl

last_again : (d : ℕ) (last : Option (List S)) (r : Text) → InLast Again last → spell.last_built (option_map (map statement_built) last) ≡ true → calm r ≡ true → length (spell.last_arm (option_map (map statement_spelled) last) r) ≤ d → read_s.last_arm (read_s.inner_at d).statement (spell.last_arm (option_map (map statement_spelled) last) r) ≡ Some (last, r)
unfolding read_s.last_arm read_s.last_head
last_again d None r each built ends few = ap (read_s.last_on (read_s.inner_at d).statement r) (no_last r ends)
last_again d (Some ss) r each built ends few = rw (block_again d ss r each built (omega arith)) refl

some_again : (cs : List (ℕ × List S)) → (spell.is_some {X = ℕ × List Bool} (map (λ c. (c.0, map statement_built c.1)) cs) && spell.cases_built (map (λ c. (c.0, map statement_built c.1)) cs)) ≡ true → (read.some cs ≡ Some cs) × (spell.cases_built (map (λ c. (c.0, map statement_built c.1)) cs) ≡ true)
some_again [] h = absurd cc
some_again (c ∷ cs) h = (refl, h)

cases_long : (cs : List (ℕ × List S)) (r : Text) → length r ≤ length (spell.cases (map (λ c. (c.0, map statement_spelled c.1)) cs) r)
cases_long cs r = let count = all_grow case_part case_grows cs r in rw (← cases_as cs r) (omega arith)

match_again : (x : E) (cs : List (ℕ × List S)) (last : Option (List S)) → InCases Again cs → InLast Again last → Again (s.Match x cs last)
unfolding read_s.inner_at read_s.statement_within read_s.matched read_s.match_head
match_again x cs last each least zero r built ends few = let more = statement_grows (s.Match x cs last) r in absurd (omega arith)
match_again x cs last each least (suc d) r built ends few =
    let hs = both _ _ (rw (statement_built-Match x cs last) at built) in
    let ks = both _ _ hs.1 in
    let some = some_again cs ks.0 in
    let end = spell.last_arm (option_map (map statement_spelled) last) r in
    let middle = spell.cases (map (λ c. (c.0, map statement_spelled c.1)) cs) end in
    let more = grows x (spell.word words.With middle) in
    let most = cases_long cs end in
    let all : length (spelled x (spell.word words.With middle)) ≤ d = omega (arith, rw (statement_spelled-Match x cs last r) at few) in
    rw (
      statement_spelled-Match x cs last r,
      expression_again x (spell.word words.With middle) hs.0 (stops_with middle),
      cases_again d cs end each some.1 (omega arith) (no_case last r ends),
      last_again d last r least ks.1 ends (omega arith),
      some.0,
    ) refl

-- ---- choices

absent_here : (inner : read_s.Inner) (r : Text) → calm r ≡ true → read_s.alternative inner r ≡ Some (n.Absent, r)
unfolding read_s.alternative
absent_here inner (lexemes.Word words.Else ∷ r) h = absurd cc
absent_here inner r h = refl

absent_again : NoAgain n.Absent
absent_again d r built ends few = rw (no_spelled-Absent r) (absent_here (read_s.inner_at d) r ends)

no_block_again : (ss : List S) → AllByRecursion Again ss → NoAgain (n.Block ss)
unfolding read_s.alternative
no_block_again ss each d r built ends few =
    let less : length (spell.block (map statement_spelled ss) r) ≤ suc d = omega (arith, rw (no_spelled-Block ss r) at few) in
    rw (no_spelled-Block ss r, block_again d ss r each (rw (no_built-Block ss) at built) less) refl

chain_again : (c : C) → ChoiceAgain c → NoAgain (n.Cond c)
unfolding read_s.alternative
chain_again c again d r built ends few =
    let h = again d r (rw (no_built-Cond c) at built) ends (omega (arith, rw (no_spelled-Cond c r) at few)) in
    rw (no_spelled-Cond c r, h.written, h.reads) refl

choice_again : (x : E) (first : List S) (second : No) → AllByRecursion Again first → NoAgain second → ChoiceAgain (choice x first second)
unfolding read_s.inner_at read_s.choice_within read_s.condition
choice_again x first second each again zero r built ends few =
    let more = grows x (spell.sign signs.CloseParen (spell.block (map statement_spelled first) (no_spelled second r))) in
    absurd (omega (arith, rw (choice_spelled-parts x first second r) at few))
choice_again x first second each again (suc d) r built ends few =
    let hs = both _ _ (rw (choice_built-parts x first second) at built) in
    let ks = both _ _ hs.1 in
    let end = no_spelled second r in
    let middle = spell.block (map statement_spelled first) end in
    let more = grows x (spell.sign signs.CloseParen middle) in
    let most = block_long first end in
    let all : length (spelled x (spell.sign signs.CloseParen middle)) ≤ d = omega (arith, rw (choice_spelled-parts x first second r) at few) in
    record {
      behind = spell.in_parens (spelled x) middle;
      written = choice_spelled-parts x first second r;
      reads = rw (expression_again x (spell.sign signs.CloseParen middle) hs.0 (stops_close middle), block_again d first end each ks.0 (omega arith), again d r ks.1 ends (omega arith)) refl;
    }

cond_again : (c : C) → ChoiceAgain c → Again (s.Cond c)
unfolding read_s.inner_at read_s.statement_within
cond_again c again zero r built ends few = let more = statement_grows (s.Cond c) r in absurd (omega arith)
cond_again c again (suc d) r built ends few =
    let h = again d r (rw (statement_built-Cond c) at built) ends (rw (statement_spelled-Cond c r) at few) in
    rw (statement_spelled-Cond c r, h.written, h.reads) refl

statement_again : (x : S) → Again x
statement_again = statement_induction NoAgain Again ChoiceAgain (record {
  declare = λ t m x. simple_again (s.Declare t m x) (declare_within t m x);
  assign = λ m x. simple_again (s.Assign m x) (assign_within m x);
  call = λ m xs. simple_again (s.Call m xs) (call_within m xs);
  array = λ x. simple_again (s.Array x) (array_within x);
  cond = cond_again;
  returned = λ x. simple_again (s.Return x) (returned_within x);
  generate = λ x. simple_again (s.Generate x) (generate_within x);
  printed = λ t xs. simple_again (s.Printf t xs) (printed_within t xs);
  matched = match_again;
  chosen = choice_again;
  absent = absent_again;
  block = no_block_again;
  chain = chain_again;
})

each_again : (ss : List S) → AllByRecursion Again ss
each_again [] = tt
each_again (x ∷ xs) = (statement_again x, each_again xs)

-- a body that is spelled is read
pub body_again : (ss : List S) (r : Text) → list_all statement_built ss ≡ true → read_s.body (spell.body ss r) ≡ Some (ss, r)
unfolding read_s.body
body_again ss r built = block_again (length (spell.body ss r)) ss r (each_again ss) (list_all-map (λ b. b) statement_built ss ∙ built) (omega arith)

pub body_long : (ss : List S) (r : Text) → length r < length (spell.body ss r)
body_long ss r = let more = block_long ss r in omega arith
