-- A statement that is read is spelled so, and the grammar builds it.
use Rattle.std.proofs.Common.{◌≡◌, ℕ, zero, suc, Bool, true, false, ◌&&◌, nat_le, if◌then◌else◌, List, [], ◌∷◌, length, map, codes, Option, Some, None, option_map, refl, sym, ap, ◌∙◌}
use Rattle.std.specs.Str.{bytes_eq}
use Rattle.std.proofs.lemmas.List.Folds.{list_all-map}
use Rattle.lucid_lex.specs.declared.sign.Sign.TheVariants as signs
use Rattle.lucid_lex.specs.declared.word.Word.TheVariants as words
use Rattle.lucid_parse_spec.specs.Lexemes as lexemes
use Rattle.lucid_parse_tree.specs.declared.tree.E.{E}
use Rattle.lucid_parse_tree.specs.declared.tree.V.{V}
use Rattle.lucid_parse_tree.specs.declared.tree.V.TheVariants as v
use Rattle.lucid_parse_tree.specs.declared.tree.S.{S}
use Rattle.lucid_parse_tree.specs.declared.tree.S.TheVariants as s
use Rattle.lucid_parse_tree.specs.declared.tree.C.{C}
use Rattle.lucid_parse_tree.specs.declared.tree.No.TheVariants as n
use Rattle.lucid_parse_spec.specs.Reader as read
use Rattle.lucid_parse_spec.specs.Reader.{Text, Outcome, Parser, ◌>>=◌}
use Rattle.lucid_parse_spec.specs.ReadExpression as read_e
use Rattle.lucid_parse_spec.specs.ReadStatement as read_s
use Rattle.lucid_parse_spec.specs.Spelling as spell
use Rattle.lucid_parse_spec.specs.Spelling.{spelled, array_spelled, event_spelled, statement_spelled, choice_spelled, no_spelled, array_level, is_built, all_built, event_built, statement_built, choice_built, no_built}
use Rattle.lucid_parse_spec.proofs.Steps.{Yields, yields_none, yields_some, bind, of_both, after_ok, after_word_ok, after_name_ok, name_ok, number_ok, typed_name_ok, same_bytes}
use Rattle.lucid_parse_spec.proofs.Repeats.{repeat_ok}
use Rattle.lucid_parse_spec.proofs.ExpressionSound.{expression_ok, expression_at_ok, expressions_ok, arguments_ok, array_call_ok}
use Rattle.lucid_parse_spec.proofs.StatementEquations.{event_spelled-Paren, event_spelled-Call, event_spelled-Delay, event_spelled-Locate, event_built-Paren, event_built-Call, event_built-Delay, event_built-Locate, statement_spelled-Declare, statement_spelled-Assign, statement_spelled-Call, statement_spelled-Array, statement_spelled-Cond, statement_spelled-Return, statement_spelled-Generate, statement_spelled-Printf, statement_spelled-Match, statement_built-Declare, statement_built-Assign, statement_built-Call, statement_built-Array, statement_built-Cond, statement_built-Return, statement_built-Generate, statement_built-Printf, statement_built-Match, no_spelled-Absent, no_spelled-Block, no_spelled-Cond, no_built-Absent, no_built-Block, no_built-Cond, choice_spelled-parts, choice_built-parts}
use Rattle.lucid_parse_tree.proofs.StatementInduction.{choice}

call_arguments_ok : (ts : Text) → Yields (read_e.call_arguments ts) (λ x. (ts ≡ spell.with_commas (map spelled x.0) (spell.sign signs.CloseParen x.1)) × (all_built x.0 ≡ true))
unfolding read_e.call_arguments
call_arguments_ok ts = arguments_ok (read_e.expression_at (length ts)) (expression_at_ok (length ts)) ts

-- ---- events

abbrev pub Event : Text → V × Text → Type 0
Event ts x = (ts ≡ event_spelled x.0 x.1) × (event_built x.0 ≡ true)

module _ (inner : Parser V) (ok : (ts : Text) → Yields (inner ts) (Event ts)) where
  pair_ok : (ts : Text) → Yields (read_s.event_pair inner ts) (λ x. (ts ≡ spell.in_parens (λ q. event_spelled x.0.0 (spell.sign signs.Comma (spelled x.0.1 q))) x.1) × ((event_built x.0.0 && is_built x.0.1) ≡ true))
  unfolding read_s.event_pair
  pair_ok ts = bind _ _ _ _ (after_ok signs.OpenParen ts) (λ r hr. bind _ _ _ _ (ok r) (λ x hx. bind _ _ _ _ (after_ok signs.Comma x.1) (λ q hq. bind _ _ _ _ (expression_ok q) (λ y hy. bind _ _ _ _ (after_ok signs.CloseParen y.1) (λ o ho.
      yields_some _ ((x.0, y.0), o) (hr ∙ ap (spell.sign signs.OpenParen) (hx.0 ∙ ap (event_spelled x.0) (hq ∙ ap (spell.sign signs.Comma) (hy.0 ∙ ap (spelled y.0) ho))), of_both _ _ hx.1 hy.1))))))

  abbrev After : List ℕ → Text → V × Text → Type 0
  After bytes ts x = (spell.word words.EventCalls (spell.sign signs.Dot (spell.name bytes ts)) ≡ event_spelled x.0 x.1) × (event_built x.0 ≡ true)

  delay_ok : (ts : Text) → Yields (read_s.event_pair inner ts >>= (λ x. Some (v.Delay x.0.0 x.0.1, x.1))) (After (codes "delay") ts)
  delay_ok ts = bind _ _ _ _ (pair_ok ts) (λ x hx. yields_some _ (v.Delay x.0.0 x.0.1, x.1) (ap (λ z. spell.word words.EventCalls (spell.sign signs.Dot (spell.name (codes "delay") z))) hx.0 ∙ sym (event_spelled-Delay x.0.0 x.0.1 x.1), event_built-Delay x.0.0 x.0.1 ∙ hx.1))

  locate_ok : (ts : Text) → Yields (read_s.event_pair inner ts >>= (λ x. Some (v.Locate x.0.0 x.0.1, x.1))) (After (codes "locate") ts)
  locate_ok ts = bind _ _ _ _ (pair_ok ts) (λ x hx. yields_some _ (v.Locate x.0.0 x.0.1, x.1) (ap (λ z. spell.word words.EventCalls (spell.sign signs.Dot (spell.name (codes "locate") z))) hx.0 ∙ sym (event_spelled-Locate x.0.0 x.0.1 x.1), event_built-Locate x.0.0 x.0.1 ∙ hx.1))

  by_if : (bytes text : List ℕ) (ts : Text) (b : Bool) → bytes_eq bytes text ≡ b → (one other : Outcome V) → Yields one (After text ts) → Yields other (After bytes ts) → Yields (if b then one else other) (After bytes ts)
  by_if bytes text ts true h one other first second = let same = same_bytes bytes text h in rw same first
  by_if bytes text ts false h one other first second = second

  event_by_ok : (bytes : List ℕ) (ts : Text) → Yields (read_s.event_by inner bytes ts) (After bytes ts)
  unfolding read_s.event_by
  event_by_ok bytes ts = by_if bytes (codes "delay") ts _ refl _ _ (delay_ok ts) (by_if bytes (codes "locate") ts _ refl _ _ (locate_ok ts) (yields_none _))

  event_within_ok : (ts : Text) → Yields (read_s.event_within inner ts) (Event ts)
  unfolding read_s.event_within
  event_within_ok [] = yields_none _
  event_within_ok (lexemes.Sign signs.OpenParen ∷ ts) = bind _ _ _ _ (ok ts) (λ x hx. bind _ _ _ _ (after_ok signs.CloseParen x.1) (λ r hr.
      yields_some _ (v.Paren x.0, r) (ap (spell.sign signs.OpenParen) (hx.0 ∙ ap (event_spelled x.0) hr) ∙ sym (event_spelled-Paren x.0 r), event_built-Paren x.0 ∙ hx.1)))
  event_within_ok (lexemes.Name m ∷ ts) = bind _ _ _ _ (after_ok signs.OpenParen ts) (λ r hr. bind _ _ _ _ (call_arguments_ok r) (λ xs hx.
      yields_some _ (v.Call m xs.0, xs.1) (ap (spell.name m) (hr ∙ ap (spell.sign signs.OpenParen) hx.0) ∙ sym (event_spelled-Call m xs.0 xs.1), event_built-Call m xs.0 ∙ hx.1)))
  event_within_ok (lexemes.Word words.EventCalls ∷ ts) = bind _ _ _ _ (after_ok signs.Dot ts) (λ r hr. bind _ _ _ _ (name_ok r) (λ m hm. record {
    each = λ x is.
        let hx = (event_by_ok m.0 m.1).each x is in
        (ap (spell.word words.EventCalls) (hr ∙ ap (spell.sign signs.Dot) hm) ∙ hx.0, hx.1);
  }))
  event_within_ok (l ∷ ts) = yields_none _

event_at_ok : (d : ℕ) (ts : Text) → Yields (read_s.event_at d ts) (Event ts)
unfolding read_s.event_at
event_at_ok zero ts = yields_none _
event_at_ok (suc d) ts = event_within_ok (read_s.event_at d) (event_at_ok d) ts

event_ok : (ts : Text) → Yields (read_s.event ts) (Event ts)
unfolding read_s.event
event_ok ts = event_at_ok (length ts) ts

-- ---- statements without statements in them

abbrev pub Statement : Text → S × Text → Type 0
Statement ts x = (ts ≡ statement_spelled x.0 x.1) × (statement_built x.0 ≡ true)

ended_value_ok : (ts : Text) → Yields (read_s.ended_value ts) (λ x. (ts ≡ spelled x.0 (spell.sign signs.Semicolon x.1)) × (is_built x.0 ≡ true))
unfolding read_s.ended_value
ended_value_ok ts = bind _ _ _ _ (expression_ok ts) (λ x hx. bind _ _ _ _ (after_ok signs.Semicolon x.1) (λ r hr. yields_some _ (x.0, r) (hx.0 ∙ ap (spelled x.0) hr, hx.1)))

ended_arguments_ok : (ts : Text) → Yields (read_s.ended_arguments ts) (λ x. (ts ≡ spell.with_commas (map spelled x.0) (spell.sign signs.CloseParen (spell.sign signs.Semicolon x.1))) × (all_built x.0 ≡ true))
unfolding read_s.ended_arguments
ended_arguments_ok ts = bind _ _ _ _ (call_arguments_ok ts) (λ xs hx. bind _ _ _ _ (after_ok signs.Semicolon xs.1) (λ r hr.
    yields_some _ (xs.0, r) (hx.0 ∙ ap (λ z. spell.with_commas (map spelled xs.0) (spell.sign signs.CloseParen z)) hr, hx.1)))

after_its_name_ok : (m : List ℕ) (ts : Text) → Yields (read_s.after_its_name m ts) (Statement (spell.name m ts))
unfolding read_s.after_its_name
after_its_name_ok m [] = yields_none _
after_its_name_ok m (lexemes.Sign signs.Equal ∷ ts) = bind _ _ _ _ (ended_value_ok ts) (λ x hx.
    yields_some _ (s.Assign m x.0, x.1) (ap (λ z. spell.name m (spell.sign signs.Equal z)) hx.0 ∙ sym (statement_spelled-Assign m x.0 x.1), statement_built-Assign m x.0 ∙ hx.1))
after_its_name_ok m (lexemes.Sign signs.OpenParen ∷ ts) = bind _ _ _ _ (ended_arguments_ok ts) (λ xs hx.
    yields_some _ (s.Call m xs.0, xs.1) (ap (λ z. spell.name m (spell.sign signs.OpenParen z)) hx.0 ∙ sym (statement_spelled-Call m xs.0 xs.1), statement_built-Call m xs.0 ∙ hx.1))
after_its_name_ok m (l ∷ ts) = yields_none _

declared_ok : (ts : Text) → Yields (read_s.declared ts) (Statement ts)
unfolding read_s.declared
declared_ok ts = bind _ _ _ _ (typed_name_ok ts) (λ t ht. bind _ _ _ _ (after_ok signs.Equal t.1) (λ r hr. bind _ _ _ _ (ended_value_ok r) (λ x hx.
    yields_some _ (s.Declare t.0.0 t.0.1 x.0, x.1) (ht ∙ ap (spell.typed_name t.0.0 t.0.1) (hr ∙ ap (spell.sign signs.Equal) hx.0) ∙ sym (statement_spelled-Declare t.0.0 t.0.1 x.0 x.1), statement_built-Declare t.0.0 t.0.1 x.0 ∙ hx.1))))

array_statement_ok : (ts : Text) → Yields (read_s.array_statement ts) (Statement (spell.word words.ArrayCalls ts))
unfolding read_s.array_statement read_e.whole_array_call
array_statement_ok ts = bind _ _ _ _ (array_call_ok (read_e.expression_at (length ts)) (expression_at_ok (length ts)) ts) (λ x hx. bind _ _ _ _ (after_ok signs.Semicolon x.1) (λ r hr.
    yields_some _ (s.Array x.0, r) (hx.0 ∙ ap (array_spelled x.0) hr ∙ sym (statement_spelled-Array x.0 r), statement_built-Array x.0 ∙ ap (nat_le 1) hx.1)))

returned_on_ok : (ts : Text) (o : Option Text) → Yields o (λ r. ts ≡ spell.sign signs.Semicolon r) → Yields (read_s.returned_on ts o) (Statement (spell.word words.Return ts))
returned_on_ok ts (Some r) h = yields_some _ (s.Return None, r) (ap (spell.word words.Return) (h.each r refl) ∙ sym (statement_spelled-Return None r), statement_built-Return None)
returned_on_ok ts None h = bind _ _ _ _ (ended_value_ok ts) (λ x hx.
    yields_some _ (s.Return (Some x.0), x.1) (ap (spell.word words.Return) hx.0 ∙ sym (statement_spelled-Return (Some x.0) x.1), statement_built-Return (Some x.0) ∙ hx.1))

returned_ok : (ts : Text) → Yields (read_s.returned ts) (Statement (spell.word words.Return ts))
unfolding read_s.returned
returned_ok ts = returned_on_ok ts (read.after signs.Semicolon ts) (after_ok signs.Semicolon ts)

generated_ok : (ts : Text) → Yields (read_s.generated ts) (Statement (spell.word words.Generate ts))
unfolding read_s.generated
generated_ok ts = bind _ _ _ _ (event_ok ts) (λ x hx. bind _ _ _ _ (after_ok signs.Semicolon x.1) (λ r hr.
    yields_some _ (s.Generate x.0, r) (ap (spell.word words.Generate) (hx.0 ∙ ap (event_spelled x.0) hr) ∙ sym (statement_spelled-Generate x.0 r), statement_built-Generate x.0 ∙ hx.1)))

operands_on_ok : (ts : Text) (o : Option Text) → Yields o (λ r. ts ≡ spell.sign signs.Comma r) → Yields (read_e.operands_on ts o) (λ x. (ts ≡ spell.each_after_comma (map spelled x.0) x.1) × (all_built x.0 ≡ true))
operands_on_ok ts None h = yields_some _ ([], ts) (refl, refl)
operands_on_ok ts (Some r) h = record {
  each = λ x is.
      let hr = h.each r refl in
      let hx = (expressions_ok (read_e.expression_at (length r)) (expression_at_ok (length r)) r).each x is in
      (rw hx.whole (hr ∙ ap (spell.sign signs.Comma) hx.written), rw hx.whole hx.built);
}

operands_ok : (ts : Text) → Yields (read_e.operands ts) (λ x. (ts ≡ spell.each_after_comma (map spelled x.0) x.1) × (all_built x.0 ≡ true))
unfolding read_e.operands
operands_ok ts = operands_on_ok ts (read.after signs.Comma ts) (after_ok signs.Comma ts)

quoted_ok : (ts : Text) → Yields (read_s.quoted ts) (λ x. ts ≡ lexemes.Text x.0 ∷ x.1)
quoted_ok [] = yields_none _
quoted_ok (lexemes.Text t ∷ ts) = yields_some _ (t, ts) refl
quoted_ok (l ∷ ts) = yields_none _

printed_ok : (ts : Text) → Yields (read_s.printed ts) (Statement (spell.word words.Printf ts))
unfolding read_s.printed
printed_ok ts = bind _ _ _ _ (after_ok signs.OpenParen ts) (λ r hr. bind _ _ _ _ (quoted_ok r) (λ t ht. bind _ _ _ _ (operands_ok t.1) (λ xs hx. bind _ _ _ _ (after_ok signs.CloseParen xs.1) (λ q hq. bind _ _ _ _ (after_ok signs.Semicolon q) (λ o ho.
    yields_some _ (s.Printf t.0 xs.0, o) (ap (spell.word words.Printf) (hr ∙ ap (spell.sign signs.OpenParen) (ht ∙ ap (λ z. lexemes.Text t.0 ∷ z) (hx.0 ∙ ap (spell.each_after_comma (map spelled xs.0)) (hq ∙ ap (spell.sign signs.CloseParen) ho)))) ∙ sym (statement_spelled-Printf t.0 xs.0 o), statement_built-Printf t.0 xs.0 ∙ hx.1))))))

simple_ok : (ts : Text) → Yields (read_s.simple ts) (Statement ts)
unfolding read_s.simple
simple_ok (lexemes.Name m ∷ ts) = after_its_name_ok m ts
simple_ok (lexemes.Word words.ArrayCalls ∷ ts) = array_statement_ok ts
simple_ok (lexemes.Word words.Return ∷ ts) = returned_ok ts
simple_ok (lexemes.Word words.Generate ∷ ts) = generated_ok ts
simple_ok (lexemes.Word words.Printf ∷ ts) = printed_ok ts
simple_ok ts = declared_ok ts

-- ---- statements with statements in them

-- the grammar builds all of these
abbrev pub all_are : List S → Bool
all_are ss = spell.all_true (map statement_built ss)

abbrev pub Choice : Text → C × Text → Type 0
Choice ts x = (spell.word words.If ts ≡ choice_spelled x.0 x.1) × (choice_built x.0 ≡ true)

abbrev pub Block : Text → List S × Text → Type 0
Block ts x = (ts ≡ spell.block (map statement_spelled x.0) x.1) × (all_are x.0 ≡ true)

-- a case, with the rest behind it
abbrev pub case_part : ℕ × List S → spell.Spelled
case_part c r = spell.sign signs.Or (spell.number c.0 (spell.sign signs.Arrow (spell.block (map statement_spelled c.1) r)))

pub cases_as : (cs : List (ℕ × List S)) (r : Text) → spell.all_of (map case_part cs) r ≡ spell.cases (map (λ c. (c.0, map statement_spelled c.1)) cs) r
cases_as [] r = refl
cases_as (c ∷ cs) r = ap (λ z. spell.sign signs.Or (spell.number c.0 (spell.sign signs.Arrow (spell.block (map statement_spelled c.1) z)))) (cases_as cs r)

module _ (item : Parser S) (ok : (ts : Text) → Yields (item ts) (Statement ts)) where
  brace_if : (ts : Text) (b : Bool) (o : Outcome S) → (if b then None else Some (item ts)) ≡ Some o → Yields o (λ x. (ts ≡ statement_spelled x.0 x.1) × (statement_built x.0 ≡ true))
  brace_if ts true o is = absurd cc
  brace_if ts false o is = record { each = λ x given. let same : item ts ≡ Some x = cc in (ok ts).each x same }

  statements_ok : (ts : Text) → Yields (read_s.statements item ts) (λ x. (ts ≡ spell.all_of (map statement_spelled x.0) x.1) × (all_are x.0 ≡ true))
  unfolding read_s.statements
  statements_ok ts = record {
    each = λ x is.
        let h = (repeat_ok (read_s.before_brace item) statement_spelled statement_built (λ us o given. brace_if us _ o given) (length ts) [] ts).each x is in
        (rw h.whole h.written, list_all-map (λ b. b) statement_built x.0 ∙ rw h.whole h.built);
  }

  pub block_ok : (ts : Text) → Yields (read_s.block item ts) (Block ts)
  unfolding read_s.block
  block_ok ts = bind _ _ _ _ (after_ok signs.OpenBrace ts) (λ r hr. bind _ _ _ _ (statements_ok r) (λ xs hx. bind _ _ _ _ (after_ok signs.CloseBrace xs.1) (λ q hq.
      yields_some _ (xs.0, q) (hr ∙ ap (spell.sign signs.OpenBrace) (hx.0 ∙ ap (spell.all_of (map statement_spelled xs.0)) hq), hx.1))))

  case_head_ok : (ts : Text) → Yields (read_s.case_head ts) (λ h. ts ≡ spell.sign signs.Or (spell.number h.0 (spell.sign signs.Arrow h.1)))
  unfolding read_s.case_head
  case_head_ok ts = bind _ _ _ _ (after_ok signs.Or ts) (λ r hr. bind _ _ _ _ (number_ok r) (λ m hm. bind _ _ _ _ (after_ok signs.Arrow m.1) (λ q hq.
      yields_some _ (m.0, q) (hr ∙ ap (spell.sign signs.Or) (hm ∙ ap (spell.number m.0) hq)))))

  body_ok : (ts : Text) (h : ℕ × Text) → ts ≡ spell.sign signs.Or (spell.number h.0 (spell.sign signs.Arrow h.1)) → Yields (read_s.case_body item h) (λ x. (ts ≡ case_part x.0 x.1) × (all_are x.0.1 ≡ true))
  body_ok ts h hh = bind _ _ _ _ (block_ok h.1) (λ xs hx. yields_some _ ((h.0, xs.0), xs.1) (hh ∙ ap (λ z. spell.sign signs.Or (spell.number h.0 (spell.sign signs.Arrow z))) hx.0, hx.1))

  case_step : (ts : Text) (q : Option (ℕ × Text)) → Yields q (λ h. ts ≡ spell.sign signs.Or (spell.number h.0 (spell.sign signs.Arrow h.1))) → (o : Outcome (ℕ × List S)) → option_map (read_s.case_body item) q ≡ Some o → Yields o (λ x. (ts ≡ case_part x.0 x.1) × (all_are x.0.1 ≡ true))
  case_step ts None comes o is = absurd cc
  case_step ts (Some h) comes o is =
      let hh = comes.each h refl in
      record {
        each = λ x given.
            let same : read_s.case_body item h ≡ Some x = cc in
            (body_ok ts h hh).each x same;
      }

  cases_ok : (ts : Text) → Yields (read_s.cases item ts) (λ x. (ts ≡ spell.cases (map (λ c. (c.0, map statement_spelled c.1)) x.0) x.1) × (spell.cases_built (map (λ c. (c.0, map statement_built c.1)) x.0) ≡ true))
  unfolding read_s.cases
  cases_ok ts = record {
    each = λ x is.
        let h = (repeat_ok (read_s.one_case item) case_part (λ c. all_are c.1) (λ us o given. case_step us (read_s.case_head us) (case_head_ok us) o given) (length ts) [] ts).each x is in
        (rw h.whole (h.written ∙ cases_as h.items x.1), list_all-map (λ c. spell.all_true c.1) (λ c. (c.0, map statement_built c.1)) x.0 ∙ rw h.whole h.built);
  }

  last_head_ok : (ts : Text) → Yields (read_s.last_head ts) (λ r. ts ≡ spell.sign signs.Or (spell.name (codes "_") (spell.sign signs.Arrow r)))
  unfolding read_s.last_head
  last_head_ok ts = bind _ _ _ _ (after_ok signs.Or ts) (λ r hr. bind _ _ _ _ (after_name_ok (codes "_") r) (λ q hq. record {
    each = λ n given. hr ∙ ap (spell.sign signs.Or) (hq ∙ ap (spell.name (codes "_")) ((after_ok signs.Arrow q).each n given));
  }))

  last_on_ok : (ts : Text) (o : Option Text) → Yields o (λ r. ts ≡ spell.sign signs.Or (spell.name (codes "_") (spell.sign signs.Arrow r))) → Yields (read_s.last_on item ts o) (λ x. (ts ≡ spell.last_arm (option_map (map statement_spelled) x.0) x.1) × (spell.last_built (option_map (map statement_built) x.0) ≡ true))
  last_on_ok ts None h = yields_some _ (None, ts) (refl, refl)
  last_on_ok ts (Some r) h = let hr = h.each r refl in bind _ _ _ _ (block_ok r) (λ xs hx.
      yields_some _ (Some xs.0, xs.1) (hr ∙ ap (λ z. spell.sign signs.Or (spell.name (codes "_") (spell.sign signs.Arrow z))) hx.0, hx.1))

  last_arm_ok : (ts : Text) → Yields (read_s.last_arm item ts) (λ x. (ts ≡ spell.last_arm (option_map (map statement_spelled) x.0) x.1) × (spell.last_built (option_map (map statement_built) x.0) ≡ true))
  unfolding read_s.last_arm
  last_arm_ok ts = last_on_ok ts (read_s.last_head ts) (last_head_ok ts)

  match_head_ok : (ts : Text) → Yields (read_s.match_head ts) (λ x. (ts ≡ spelled x.0 (spell.word words.With x.1)) × (is_built x.0 ≡ true))
  unfolding read_s.match_head
  match_head_ok ts = bind _ _ _ _ (expression_ok ts) (λ x hx. bind _ _ _ _ (after_word_ok words.With x.1) (λ r hr. yields_some _ (x.0, r) (hx.0 ∙ ap (spelled x.0) hr, hx.1)))

  match_of_ok : (x : E) (cs : List (ℕ × List S)) (last : Option (List S)) → spell.cases_built (map (λ c. (c.0, map statement_built c.1)) cs) ≡ true → Yields (read_s.match_of x cs last) (λ y. (y ≡ s.Match x cs last) × ((spell.is_some {X = ℕ × List Bool} (map (λ c. (c.0, map statement_built c.1)) cs) && spell.cases_built (map (λ c. (c.0, map statement_built c.1)) cs)) ≡ true))
  match_of_ok x [] last h = yields_none _
  match_of_ok x (c ∷ cs) last h = yields_some _ (s.Match x (c ∷ cs) last) (refl, h)

  matched_ok : (ts : Text) → Yields (read_s.matched item ts) (Statement (spell.word words.Match ts))
  unfolding read_s.matched
  matched_ok ts = bind _ _ _ _ (match_head_ok ts) (λ x hx. bind _ _ _ _ (cases_ok x.1) (λ cs hc. bind _ _ _ _ (last_arm_ok cs.1) (λ l hl. bind _ _ _ _ (match_of_ok x.0 cs.0 l.0 hc.1) (λ y hy.
      yields_some _ (y, l.1) (
        ap (spell.word words.Match) (hx.0 ∙ ap (λ z. spelled x.0 (spell.word words.With z)) (hc.0 ∙ ap (spell.cases (map (λ c. (c.0, map statement_spelled c.1)) cs.0)) hl.0)) ∙ sym (statement_spelled-Match x.0 cs.0 l.0 l.1) ∙ ap (λ z. statement_spelled z l.1) (sym hy.0),
        ap statement_built hy.0 ∙ statement_built-Match x.0 cs.0 l.0 ∙ of_both _ _ hx.1 (of_both _ _ hy.1 hl.1),
      )))))

-- nested statements are read as they are spelled
record InnerOk (inner : read_s.Inner) : Type 0 where
  statement : (ts : Text) → Yields (inner.statement ts) (Statement ts)
  choice : (ts : Text) → Yields (inner.choice ts) (Choice ts)

module _ (inner : read_s.Inner) (ok : InnerOk inner) where
  alternative_ok : (ts : Text) → Yields (read_s.alternative inner ts) (λ x. (ts ≡ no_spelled x.0 x.1) × (no_built x.0 ≡ true))
  unfolding read_s.alternative
  alternative_ok (lexemes.Word words.Else ∷ lexemes.Word words.If ∷ ts) = bind _ _ _ _ (ok.choice ts) (λ x hx. yields_some _ (n.Cond x.0, x.1) (ap (spell.word words.Else) hx.0 ∙ sym (no_spelled-Cond x.0 x.1), no_built-Cond x.0 ∙ hx.1))
  alternative_ok (lexemes.Word words.Else ∷ ts) = bind _ _ _ _ (block_ok inner.statement ok.statement ts) (λ xs hx. yields_some _ (n.Block xs.0, xs.1) (ap (spell.word words.Else) hx.0 ∙ sym (no_spelled-Block xs.0 xs.1), no_built-Block xs.0 ∙ hx.1))
  alternative_ok ts = yields_some _ (n.Absent, ts) (sym (no_spelled-Absent ts), no_built-Absent)

  condition_ok : (ts : Text) → Yields (read_s.condition ts) (λ x. (ts ≡ spell.in_parens (spelled x.0) x.1) × (is_built x.0 ≡ true))
  unfolding read_s.condition
  condition_ok ts = bind _ _ _ _ (after_ok signs.OpenParen ts) (λ r hr. bind _ _ _ _ (expression_ok r) (λ x hx. bind _ _ _ _ (after_ok signs.CloseParen x.1) (λ q hq.
      yields_some _ (x.0, q) (hr ∙ ap (spell.sign signs.OpenParen) (hx.0 ∙ ap (spelled x.0) hq), hx.1))))

  choice_within_ok : (ts : Text) → Yields (read_s.choice_within inner ts) (Choice ts)
  unfolding read_s.choice_within
  choice_within_ok ts = bind _ _ _ _ (condition_ok ts) (λ x hx. bind _ _ _ _ (block_ok inner.statement ok.statement x.1) (λ xs hxs. bind _ _ _ _ (alternative_ok xs.1) (λ y hy.
      yields_some _ (choice x.0 xs.0 y.0, y.1) (
        ap (spell.word words.If) (hx.0 ∙ ap (spell.in_parens (spelled x.0)) (hxs.0 ∙ ap (spell.block (map statement_spelled xs.0)) hy.0)) ∙ sym (choice_spelled-parts x.0 xs.0 y.0 y.1),
        choice_built-parts x.0 xs.0 y.0 ∙ of_both _ _ hx.1 (of_both _ _ hxs.1 hy.1),
      ))))

  statement_within_ok : (ts : Text) → Yields (read_s.statement_within inner ts) (Statement ts)
  unfolding read_s.statement_within
  statement_within_ok (lexemes.Word words.If ∷ ts) = bind _ _ _ _ (ok.choice ts) (λ x hx. yields_some _ (s.Cond x.0, x.1) (hx.0 ∙ sym (statement_spelled-Cond x.0 x.1), statement_built-Cond x.0 ∙ hx.1))
  statement_within_ok (lexemes.Word words.Match ∷ ts) = matched_ok inner.statement ok.statement ts
  statement_within_ok ts = simple_ok ts

inner_at_ok : (d : ℕ) → InnerOk (read_s.inner_at d)
unfolding read_s.inner_at
inner_at_ok zero = record { statement = λ ts. yields_none _; choice = λ ts. yields_none _ }
inner_at_ok (suc d) = record { statement = statement_within_ok (read_s.inner_at d) (inner_at_ok d); choice = choice_within_ok (read_s.inner_at d) (inner_at_ok d) }

-- a body is read as it is spelled
pub body_reads : (ts : Text) → Yields (read_s.body ts) (Block ts)
unfolding read_s.body
body_reads ts = block_ok ((read_s.inner_at (length ts)).statement) ((inner_at_ok (length ts)).statement) ts
