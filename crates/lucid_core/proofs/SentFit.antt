-- In a body whose widths agree, whose texts are filled and whose returns are last, each node keeps the state fine, if its parts do.
use Rattle.std.proofs.Common.{◌≡◌, ℕ, suc, List, [], ◌∷◌, ◌++◌, Bool, true, false, ◌&&◌, ◌||◌, if◌then◌else◌, length, map, Option, None, Some, refl, sym, ap, subst, ◌∙◌, nat_eq, slice_get, slice_index_or, slice_set, option_map, option_to_list}
use Rattle.std.specs.List.{list_all}
use Rattle.std.specs.Option.{option_eq}
use Rattle.std.proofs.lemmas.Bool.{and_from, and_parts}
use Rattle.lucid_base.specs.Bits.{bits_of}
use Rattle.lucid_base.specs.declared.bits.Bits.{Bits}
use Rattle.lucid_base.specs.declared.event.Out.TheVariants as out
use Rattle.lucid_base.specs.declared.event.Target.TheVariants.{At, Here}
use Rattle.lucid_core.specs.declared.body.Expr.{Expr}
use Rattle.lucid_core.specs.declared.body.Stmt.{Stmt}
use Rattle.lucid_core.specs.declared.body.Touch.{Touch}
use Rattle.lucid_core.specs.declared.body.Expr.TheOpen.{Expr-F, Stmt-F, Touch-F}
use Rattle.lucid_core.specs.declared.body.Expr.TheFolds.{map-Expr, map-Stmt, map-Touch}
use Rattle.lucid_core.specs.Computations.{Computation, Effect, Frame, State, all, array_of, block, both}
use Rattle.lucid_base.specs.Cells.{cell_at}
use Rattle.lucid_core.specs.Meaning as m
use Rattle.lucid_core.specs.Meaning.{all_given, call, delay_of, effect_of, generated, holding, target_of, touch_of, value_of}
use Rattle.lucid_core.specs.Parts.{CoreParts}
use Rattle.lucid_core.specs.Returns as r
use Rattle.lucid_core.specs.Returns.{Returns, expr_returns, stmt_returns, touch_returns}
use Rattle.lucid_core.specs.Scope.{Scope}
use Rattle.lucid_core.specs.Texts as x
use Rattle.lucid_core.specs.Texts.{Printed}
use Rattle.lucid_core.specs.Typing as t
use Rattle.lucid_core.specs.Typing.{Answer, Typed, answer_of, returns_of, touch_answer, joined}
use Rattle.lucid_core.specs.Values.{nothing, numbers, unary, binary, comparison, hashed, memop}
use Rattle.lucid_core.proofs.Arrays.{with_cell-fits, is_wide, are_wide}
use Rattle.lucid_core.proofs.Fine.{Asked, IsFine, answer_given, both_asked, both_pass, both_pass_of, parts_asked, is_none, is_this, touched_has, Goes, Stands, StaysFine, has, has_once, has_none, once, Has, call_fits, still, or_later, on_the_first, on_the_second, both_stay, sent_too, generated_fits, group_fits, say_is_fit}
use Rattle.lucid_core.proofs.Prints.{prints_step, expr_prints, stmt_prints, touch_prints}
use Rattle.lucid_core.proofs.Seen.{block_sees}
use Rattle.lucid_core.proofs.TypingRules.{AllGive, Matched, give_parts, local_rule, un_rule, bin_rule, cmp_rule, cast_rule, hash_rule, all_rule, values_rule, call_rule, inlined_rule, touch_rule, assign_rule, drop_rule, if_rule, gen_rule, multi_rule, say_rule, return_rule}
use Rattle.lucid_core.proofs.WidthLists.{widths, HeldFit, local_width_is, widths-set, widths-holding}

module _ (asked : Asked) (core : CoreParts) (s : Scope) (p : Frame) (stands : Stands asked core s p) where
  abbrev pub Fine : Answer → State → Type 0
  Fine k old = IsFine asked core s.locals k old

  -- An expression gives a value of its width.
  abbrev pub ExprFits : Computation Bits → Typed Answer → Printed → Returns → Type 0
  ExprFits act typed texts returns = (asked.outs ≡ true → texts core.forms ≡ true) → returns.last ≡ true → (a : Answer) → typed s ≡ Some a →
      (k : Answer) (old : State) → Fine k old → Goes asked core s.locals k (Has a) (act p old)

  -- After a statement whose returns all give a, so does the answer, where it was given before or the statement always returns.
  abbrev pub StmtFits : Effect → Typed (List Answer) → Printed → Returns → Type 0
  StmtFits act typed texts returns = (asked.outs ≡ true → texts core.forms ≡ true) → returns.last ≡ true → (rs : List Answer) → typed s ≡ Some rs → (a : Answer) → list_all (option_eq nat_eq a) rs ≡ true →
      (given : Bool) (old : State) → Fine (once given a) old → Fine (once (given || returns.always) a) (act p old).after

  -- A part of which it holds.
  abbrev pub E : Type 0
  E = (e : Expr) × ExprFits (value_of e) (answer_of e) (expr_prints e) (expr_returns e)

  abbrev pub S : Type 0
  S = (e : Stmt) × StmtFits (effect_of e) (returns_of e) (stmt_prints e) (stmt_returns e)

  abbrev pub T : Type 0
  T = (e : Touch) × ExprFits (touch_of e) (touch_answer e) (touch_prints e) (touch_returns e)

  -- The trees of a list.
  abbrev exprs : List E → List Expr
  exprs es = map (λ (e : E). e.0) es

  abbrev pub stmts : List S → List Stmt
  stmts es = map (λ (e : S). e.0) es

  -- All texts are filled, where it is asked.
  abbrev pub Texts : List Printed → Type 0
  Texts tests = asked.outs ≡ true → list_all (λ test. test core.forms) tests ≡ true

  abbrev all_last : List Returns → Bool
  all_last rs = list_all (λ one. one.last) rs

  -- Expressions from left to right give values of their widths.
  values_fit : (es : List E) → Texts (map expr_prints (exprs es)) → all_last (map expr_returns (exprs es)) ≡ true →
      (ws : List ℕ) → t.values (map answer_of (exprs es)) s ≡ Some ws → (k : Answer) (old : State) → Fine k old →
      Goes asked core s.locals k (λ vs. widths vs ≡ ws) (all (map value_of (exprs es)) p old)
  values_fit [] texts last ws h k old fine = record { gives = cc; fine = fine }
  values_fit (e ∷ es) texts last ws h k old fine =
      let rule = values_rule s (answer_of e.0) (map answer_of (exprs es)) ws h in
      let text = parts_asked texts in
      let end = and_parts _ _ last in
      let ran = e.1 text.0 end.0 (Some rule.0) rule.1 k old fine in
      let next = values_fit es text.1 end.1 rule.2.0 rule.2.1 k (value_of e.0 p old).after ran.fine in
      record { gives = cc (ran.gives, next.gives, rule.2.2); fine = next.fine }

  -- As many values as expressions.
  count_kept : (es : List E) (old : State) → length (map expr_prints (exprs es)) ≡ length (numbers (all (map value_of (exprs es)) p old).gives)
  count_kept [] old = refl
  count_kept (e ∷ es) old = ap suc (count_kept es (value_of e.0 p old).after)

  abbrev given_trees : List (ℕ × E) → List (ℕ × Expr)
  given_trees gs = map (λ (g : ℕ × E). (g.0, g.1.0)) gs

  -- Arguments of an inlined call fit the locals that are to hold them.
  given_fit : (gs : List (ℕ × E)) →
      Texts (map (λ (g : ℕ × Printed). g.1) (map (λ (g : ℕ × Expr). (g.0, expr_prints g.1)) (given_trees gs))) →
      all_last (map (λ (g : ℕ × Returns). g.1) (map (λ (g : ℕ × Expr). (g.0, expr_returns g.1)) (given_trees gs))) ≡ true →
      Matched s (map (λ (g : ℕ × Expr). (g.0, answer_of g.1)) (given_trees gs)) →
      (k : Answer) (old : State) → Fine k old →
      Goes asked core s.locals k (HeldFit s.locals) (all_given (map (λ (g : ℕ × Expr). (g.0, value_of g.1)) (given_trees gs)) p old)
  given_fit [] texts last matched k old fine = record { gives = tt; fine = fine }
  given_fit (g ∷ gs) texts last matched k old fine =
      let text = parts_asked texts in
      let end = and_parts _ _ last in
      let ran = g.1.1 text.0 end.0 (Some matched.0.0) matched.0.1 k old fine in
      let next = given_fit gs text.1 end.1 matched.1 k (value_of g.1.0 p old).after ran.fine in
      record { gives = (matched.0.2 ∙ ap (λ (w : ℕ). Some w) (sym ran.gives), next.gives); fine = next.fine }

  -- After a body whose returns all give a, so does the answer, where it was given before or the body always returns.
  abbrev pub BodyFits : List Stmt → Type 0
  BodyFits ss = Texts (map stmt_prints ss) → (r.block_returns (map stmt_returns ss)).last ≡ true → (rs : List (List Answer)) → t.all_typed (map returns_of ss) s ≡ Some rs →
      (a : Answer) → list_all (option_eq nat_eq a) (joined rs) ≡ true → (given : Bool) (old : State) → Fine (once given a) old →
      Fine (once (given || (r.block_returns (map stmt_returns ss)).always) a) (block (map effect_of ss) p old).after

  pub block_fits : (es : List S) → BodyFits (stmts es)
  block_fits [] texts last rs h a only given old fine = still asked core s.locals given a old fine
  block_fits (e ∷ es) texts last rs h a only given old fine =
      let rule = all_rule s (returns_of e.0) (map returns_of (stmts es)) rs h in
      let text = parts_asked texts in
      let end = and_parts _ _ (and_parts _ _ last).0 in
      let alone = both_pass_of (option_eq nat_eq a) (joined rs) rule.0 (joined rule.2.0) (ap joined rule.2.2) only in
      let first = (stmt_returns e.0).always in
      let ran = e.1 text.0 end.0 rule.0 rule.1 a alone.0 given old fine in
      let next = block_fits es text.1 end.1 rule.2.0 rule.2.1 a alone.1 (given || first) (effect_of e.0 p old).after ran in
      or_later asked core s.locals given first (r.block_returns (map stmt_returns (stmts es))).always a _ next

  -- The trees of a node, and the results of its steps for them.
  abbrev pub expr_tree : Expr-F E S T → Expr-F Expr Stmt Touch
  expr_tree = map-Expr E S T Expr Stmt Touch (λ e. e.0) (λ e. e.0) (λ e. e.0)

  abbrev pub touch_tree : Touch-F E S T → Touch-F Expr Stmt Touch
  touch_tree = map-Touch E S T Expr Stmt Touch (λ e. e.0) (λ e. e.0) (λ e. e.0)

  abbrev pub stmt_tree : Stmt-F E S T → Stmt-F Expr Stmt Touch
  stmt_tree = map-Stmt E S T Expr Stmt Touch (λ e. e.0) (λ e. e.0) (λ e. e.0)

  abbrev ExprNodeFits : Expr-F Expr Stmt Touch → Type 0
  ExprNodeFits y = ExprFits
      (m.expr_step (map-Expr Expr Stmt Touch (Computation Bits) Effect (Computation Bits) value_of effect_of touch_of y))
      (t.expr_step (map-Expr Expr Stmt Touch (Typed Answer) (Typed (List Answer)) (Typed Answer) answer_of returns_of touch_answer y))
      (x.expr_step (map-Expr Expr Stmt Touch Printed Printed Printed expr_prints stmt_prints touch_prints y))
      (r.expr_step (map-Expr Expr Stmt Touch Returns Returns Returns expr_returns stmt_returns touch_returns y))

  pub expr_level : (y : Expr-F E S T) → ExprNodeFits (expr_tree y)
  expr_level (Expr-F.Fixed b) texts last a h k old fine = let e : a ≡ Some b.width = cc in record { gives = has a b.width b e refl; fine = fine }
  expr_level (Expr-F.Local i) texts last a h k old fine =
      let rule = local_rule s i a h in
      let width = local_width_is old.locals i rule.0 (ap (λ (ws : List ℕ). slice_get ws i) fine.locals ∙ rule.1) in
      record { gives = has a rule.0 (slice_index_or old.locals i nothing) rule.2 width; fine = fine }
  expr_level Expr-F.Now texts last a h k old fine = let e : a ≡ Some 32 = cc in record { gives = has a 32 (bits_of 32 p.now) e refl; fine = fine }
  expr_level Expr-F.Me texts last a h k old fine = let e : a ≡ Some 32 = cc in record { gives = has a 32 (bits_of 32 p.me) e refl; fine = fine }
  expr_level (Expr-F.Un op e) texts last a h k old fine =
      let rule = un_rule s op (answer_of e.0) a h in
      let ran = e.1 (parts_asked texts).0 (and_parts _ _ last).0 (Some rule.0) rule.1 k old fine in
      record { gives = has a rule.0 (unary op (value_of e.0 p old).gives) rule.2 ran.gives; fine = ran.fine }
  expr_level (Expr-F.Bin op e f) texts last a h k old fine =
      let rule = bin_rule s op (answer_of e.0) (answer_of f.0) a h in
      let text = parts_asked texts in
      let end = and_parts _ _ last in
      let ran = e.1 text.0 end.0 (Some rule.0) rule.1 k old fine in
      let after = (value_of e.0 p old).after in
      let next = f.1 (parts_asked text.1).0 (and_parts _ _ end.1).0 (Some rule.0) rule.2 k after ran.fine in
      record { gives = has a rule.0 (binary op (value_of e.0 p old).gives (value_of f.0 p after).gives) rule.3 ran.gives; fine = next.fine }
  expr_level (Expr-F.Cmp op e f) texts last a h k old fine =
      let rule = cmp_rule s op (answer_of e.0) (answer_of f.0) a h in
      let text = parts_asked texts in
      let end = and_parts _ _ last in
      let ran = e.1 text.0 end.0 (Some rule.0) rule.1 k old fine in
      let after = (value_of e.0 p old).after in
      let next = f.1 (parts_asked text.1).0 (and_parts _ _ end.1).0 (Some rule.0) rule.2 k after ran.fine in
      record { gives = has a 1 (comparison op (value_of e.0 p old).gives (value_of f.0 p after).gives) rule.3 refl; fine = next.fine }
  expr_level (Expr-F.Cast w e) texts last a h k old fine =
      let rule = cast_rule s w (answer_of e.0) a h in
      let ran = e.1 (parts_asked texts).0 (and_parts _ _ last).0 (Some rule.0) rule.1 k old fine in
      record { gives = has a w (bits_of w (value_of e.0 p old).gives.value) rule.2 refl; fine = ran.fine }
  expr_level (Expr-F.Hash w es) texts last a h k old fine =
      let rule = hash_rule s w (map answer_of (exprs es)) a h in
      let ran = values_fit es texts last rule.0 rule.1 k old fine in
      record { gives = has a w (hashed w (all (map value_of (exprs es)) p old).gives) rule.2 refl; fine = ran.fine }
  expr_level (Expr-F.Array e) texts last a h k old fine = e.1 (parts_asked texts).0 (and_parts _ _ last).0 a h k old fine
  expr_level (Expr-F.Fun i names es) texts last a h k old fine =
      let rule = call_rule s i names (map answer_of (exprs es)) a h in
      let args = values_fit es texts last _ rule.2 k old fine in
      let ran = all (map value_of (exprs es)) p old in
      let wide = λ (is : asked.cells ≡ true). are_wide asked core s p stands is names rule.0.arrays rule.3 in
      let called = call_fits asked core p s.funs p.funs stands.funs i rule.0 rule.1 (map (array_of p.arrays) names) ran.gives args.gives wide s.locals k ran.after args.fine in
      let result = (call i (map (array_of p.arrays) names) ran.gives p ran.after).gives in
      record { gives = subst (λ (b : Answer). Has b result) (sym rule.4) called.gives; fine = called.fine }
  expr_level (Expr-F.Inlined given es) texts last a h k old fine =
      let rule = inlined_rule s (map (λ (g : ℕ × Expr). (g.0, answer_of g.1)) (given_trees given)) (map returns_of (stmts es)) a h in
      let text = both_asked (λ (test : Printed). test core.forms) (map (λ (g : ℕ × Printed). g.1) (map (λ (g : ℕ × Expr). (g.0, expr_prints g.1)) (given_trees given))) (map stmt_prints (stmts es)) texts in
      let body = r.block_returns (map stmt_returns (stmts es)) in
      let returns = and_parts _ _ last in
      let end = and_parts _ _ returns.0 in
      let ran = all_given (map (λ (g : ℕ × Expr). (g.0, value_of g.1)) (given_trees given)) p old in
      let args = given_fit given text.0 end.0 rule.matched k old fine in
      let own : State = record ran.after { locals = holding ran.after.locals ran.gives; answer = nothing } in
      let begun : Fine (once false a) own = record { locals = widths-holding s.locals ran.gives ran.after.locals args.gives args.fine.locals; answer = tt; outs = args.fine.outs; cells = args.fine.cells } in
      let done = block_fits es text.1 end.1 rule.returns rule.typed a rule.only false own begun in
      let seen = λ (w : ℕ) (e : a ≡ Some w). (block_sees s (stmts es) rule.returns rule.typed).value (rule.some w e) in
      record {
        gives = answer_given asked core s.locals a body.value body.always _ seen returns.1 done;
        fine = record { locals = args.fine.locals; answer = args.fine.answer; outs = done.outs; cells = done.cells };
      }

  abbrev TouchNodeFits : Touch-F Expr Stmt Touch → Type 0
  TouchNodeFits y = ExprFits
      (m.touch_step (map-Touch Expr Stmt Touch (Computation Bits) Effect (Computation Bits) value_of effect_of touch_of y))
      (t.touch_step (map-Touch Expr Stmt Touch (Typed Answer) (Typed (List Answer)) (Typed Answer) answer_of returns_of touch_answer y))
      (x.touch_step (map-Touch Expr Stmt Touch Printed Printed Printed expr_prints stmt_prints touch_prints y))
      (r.touch_step (map-Touch Expr Stmt Touch Returns Returns Returns expr_returns stmt_returns touch_returns y))

  pub touch_level : (y : Touch-F E S T) → TouchNodeFits (touch_tree y)
  touch_level y texts last a h k old fine =
      let rule = touch_rule s (map-Touch Expr Stmt Touch (Typed Answer) (Typed (List Answer)) (Typed Answer) answer_of returns_of touch_answer (touch_tree y)) a h in
      let text = parts_asked texts in
      let text2 = parts_asked text.1 in
      let end = and_parts _ _ last in
      let end2 = and_parts _ _ end.1 in
      let index = value_of y.index.0 p old in
      let get = value_of y.get_arg.0 p index.after in
      let set = value_of y.set_arg.0 p get.after in
      let fine1 = y.index.1 text.0 end.0 (Some rule.index.0) rule.index.1 k old fine in
      let fine2 = y.get_arg.1 text2.0 end2.0 (Some rule.get.0) rule.get.1 k index.after fine1.fine in
      let fine3 = y.set_arg.1 (parts_asked text2.1).0 (and_parts _ _ end2.1).0 (Some rule.set.0) rule.set.1 k get.after fine2.fine in
      record {
        gives = touched_has y.answers y.get.width a (memop y.get _ get.gives) rule.answer refl;
        fine = record {
          locals = fine3.fine.locals;
          answer = fine3.fine.answer;
          outs = fine3.fine.outs;
          cells = λ is. with_cell-fits core set.after.cells (array_of p.arrays y.array) index.gives.value y.set.width _ (is_wide asked core s p stands is y.array y.set.width rule.cell) (memop y.set (cell_at set.after.cells (array_of p.arrays y.array) index.gives.value) set.gives).fits (fine3.fine.cells is);
        };
      }

  abbrev StmtNodeFits : Stmt-F Expr Stmt Touch → Type 0
  StmtNodeFits y = StmtFits
      (m.stmt_step (map-Stmt Expr Stmt Touch (Computation Bits) Effect (Computation Bits) value_of effect_of touch_of y))
      (t.stmt_step (map-Stmt Expr Stmt Touch (Typed Answer) (Typed (List Answer)) (Typed Answer) answer_of returns_of touch_answer y))
      (prints_step (map-Stmt Expr Stmt Touch Printed Printed Printed expr_prints stmt_prints touch_prints y))
      (r.stmt_step (map-Stmt Expr Stmt Touch Returns Returns Returns expr_returns stmt_returns touch_returns y))

  -- Of a condition with two blocks.
  either_fine : (b : Bool) (es fs : List S) (k : Answer) (old : State) → Fine k (block (map effect_of (stmts es)) p old).after → Fine k (block (map effect_of (stmts fs)) p old).after →
      Fine k (block (if b then map effect_of (stmts fs) else map effect_of (stmts es)) p old).after
  either_fine true es fs k old first second = second
  either_fine false es fs k old first second = first

  if_level : (e : E) (es fs : List S) → StmtNodeFits (Stmt-F.If e.0 (stmts es) (stmts fs))
  if_level e es fs texts last rs h a only given old fine =
      let rule = if_rule s (answer_of e.0) (map returns_of (stmts es)) (map returns_of (stmts fs)) rs h in
      let here = parts_asked texts in
      let text = both_asked (λ (test : Printed). test core.forms) (map stmt_prints (stmts es)) (map stmt_prints (stmts fs)) here.1 in
      let end = and_parts _ _ last in
      let begin = and_parts _ _ end.0 in
      let alone = both_pass_of (option_eq nat_eq a) rs (joined rule.first) (joined rule.second) rule.returns only in
      let ran = value_of e.0 p old in
      let first = (r.block_returns (map stmt_returns (stmts es))).always in
      let second = (r.block_returns (map stmt_returns (stmts fs))).always in
      let condition = e.1 here.0 begin.0 (Some 1) rule.condition (once given a) old fine in
      let one = block_fits es text.0 begin.1 rule.first rule.typed a alone.0 given ran.after condition.fine in
      let two = block_fits fs text.1 end.1 rule.second rule.typed_too a alone.1 given ran.after condition.fine in
      either_fine (nat_eq ran.gives.value 0) es fs (once (given || (first && second)) a) ran.after
      (on_the_first asked core s.locals given first second a _ one) (on_the_second asked core s.locals given first second a _ two)

  -- Of a delay or a target.
  optional_stays : {A : Type 0} (absent : A) (given : ℕ → A) (o : Option E) → Texts (option_to_list (option_map (λ e. expr_prints e.0) o)) → all_last (option_to_list (option_map (λ e. expr_returns e.0) o)) ≡ true →
      AllGive s (option_to_list (option_map (λ e. answer_of e.0) o)) → StaysFine asked core s.locals p (m.optional absent given (option_map (λ e. value_of e.0) o))
  optional_stays absent given None texts last give k old fine = fine
  optional_stays absent given (Some e) texts last give k old fine = (e.1 (parts_asked texts).0 (and_parts _ _ last).0 (Some give.0.0) give.0.1 k old fine).fine

  gen_level : (event : ℕ) (es : List E) (delay to : Option E) (delay_first : Bool) → StmtFits
      (m.stmt_step (Stmt-F.Gen event (map value_of (exprs es)) (option_map (λ e. value_of e.0) delay) (option_map (λ e. value_of e.0) to) delay_first))
      (t.stmt_step (Stmt-F.Gen event (map answer_of (exprs es)) (option_map (λ e. answer_of e.0) delay) (option_map (λ e. answer_of e.0) to) delay_first))
      (prints_step (Stmt-F.Gen event (map expr_prints (exprs es)) (option_map (λ e. expr_prints e.0) delay) (option_map (λ e. expr_prints e.0) to) delay_first))
      (r.stmt_step (Stmt-F.Gen event (map expr_returns (exprs es)) (option_map (λ e. expr_returns e.0) delay) (option_map (λ e. expr_returns e.0) to) delay_first))
  gen_level event es delay to delay_first texts last rs h a only given old fine =
      let rule = gen_rule s event (map answer_of (exprs es)) (option_map (λ (e : E). answer_of e.0) delay) (option_map (λ (e : E). answer_of e.0) to) delay_first rs h in
      let text = both_asked (λ (test : Printed). test core.forms) (map expr_prints (exprs es) ++ option_to_list (option_map (λ (e : E). expr_prints e.0) delay)) (option_to_list (option_map (λ (e : E). expr_prints e.0) to)) texts in
      let text2 = both_asked (λ (test : Printed). test core.forms) (map expr_prints (exprs es)) (option_to_list (option_map (λ (e : E). expr_prints e.0) delay)) text.0 in
      let end = both_pass (λ (one : Returns). one.last) (map expr_returns (exprs es) ++ option_to_list (option_map (λ (e : E). expr_returns e.0) delay)) (option_to_list (option_map (λ (e : E). expr_returns e.0) to)) last in
      let end2 = both_pass (λ (one : Returns). one.last) (map expr_returns (exprs es)) (option_to_list (option_map (λ (e : E). expr_returns e.0) delay)) end.0 in
      let give = give_parts s (option_to_list (option_map (λ (e : E). answer_of e.0) delay)) (option_to_list (option_map (λ (e : E). answer_of e.0) to)) rule.others in
      let first = delay_of (option_map (λ (e : E). value_of e.0) delay) in
      let second = target_of (option_map (λ (e : E). value_of e.0) to) in
      let ran = all (map value_of (exprs es)) p old in
      let args = values_fit es text2.0 end2.0 rule.params rule.typed (once given a) old fine in
      let after = both_stay asked core s.locals p delay_first first second (optional_stays 0 (λ n. n) delay text2.1 end2.1 give.0) (optional_stays Here At to text.1 end.1 give.1) (once given a) ran.after args.fine in
      let where_to = both delay_first first second p ran.after in
      let fit = generated_fits asked core s p stands event rule.params ran.gives where_to.gives.0 where_to.gives.1 rule.declared args.gives in
      still asked core s.locals given a _ (sent_too asked core s.locals (once given a) where_to.after (generated event ran.gives where_to.gives.0 where_to.gives.1 ∷ []) after (λ is. and_from _ _ fit refl))

  multi_level : (event : ℕ) (es : List E) (delay : Option E) (members : List ℕ) → StmtFits
      (m.stmt_step (Stmt-F.Multi event (map value_of (exprs es)) (option_map (λ e. value_of e.0) delay) members))
      (t.stmt_step (Stmt-F.Multi event (map answer_of (exprs es)) (option_map (λ e. answer_of e.0) delay) members))
      (prints_step (Stmt-F.Multi event (map expr_prints (exprs es)) (option_map (λ e. expr_prints e.0) delay) members))
      (r.stmt_step (Stmt-F.Multi event (map expr_returns (exprs es)) (option_map (λ e. expr_returns e.0) delay) members))
  multi_level event es delay members texts last rs h a only given old fine =
      let rule = multi_rule s event (map answer_of (exprs es)) (option_map (λ (e : E). answer_of e.0) delay) members rs h in
      let text = both_asked (λ (test : Printed). test core.forms) (map expr_prints (exprs es)) (option_to_list (option_map (λ (e : E). expr_prints e.0) delay)) texts in
      let end = both_pass (λ (one : Returns). one.last) (map expr_returns (exprs es)) (option_to_list (option_map (λ (e : E). expr_returns e.0) delay)) last in
      let act = delay_of (option_map (λ (e : E). value_of e.0) delay) in
      let ran = all (map value_of (exprs es)) p old in
      let args = values_fit es text.0 end.0 rule.params rule.typed (once given a) old fine in
      let after = optional_stays 0 (λ n. n) delay text.1 end.1 rule.others (once given a) ran.after args.fine in
      let when = act p ran.after in
      let fit = group_fits core event ran.gives when.gives members (λ m. generated_fits asked core s p stands event rule.params ran.gives when.gives (At m) rule.declared args.gives) in
      still asked core s.locals given a _ (sent_too asked core s.locals (once given a) when.after (map (generated event ran.gives when.gives) (map At members)) after (λ is. fit))

  pub stmt_level : (y : Stmt-F E S T) → StmtNodeFits (stmt_tree y)
  stmt_level (Stmt-F.Assign i e) texts last rs h a only given old fine =
      let rule = assign_rule s i (answer_of e.0) rs h in
      let v = (value_of e.0 p old).gives in
      let after = (value_of e.0 p old).after in
      let ran = e.1 (parts_asked texts).0 (and_parts _ _ last).0 (Some rule.0) rule.1 (once given a) old fine in
      let there : slice_get (widths after.locals) i ≡ Some v.width = ap (λ (ws : List ℕ). slice_get ws i) ran.fine.locals ∙ rule.2 ∙ ap (λ (w : ℕ). Some w) (sym ran.gives) in
      still asked core s.locals given a (record after { locals = slice_set after.locals i v }) (record { locals = widths-set after.locals i v there ∙ ran.fine.locals; answer = ran.fine.answer; outs = ran.fine.outs; cells = ran.fine.cells })
  stmt_level (Stmt-F.Drop e) texts last rs h a only given old fine =
      let rule = drop_rule s (answer_of e.0) rs h in
      let ran = e.1 (parts_asked texts).0 (and_parts _ _ last).0 rule.0 rule.1 (once given a) old fine in
      still asked core s.locals given a (value_of e.0 p old).after ran.fine
  stmt_level (Stmt-F.If e es fs) texts last rs h a only given old fine = if_level e es fs texts last rs h a only given old fine
  stmt_level (Stmt-F.Gen event es None None delay_first) texts last rs h a only given old fine = gen_level event es None None delay_first texts last rs h a only given old fine
  stmt_level (Stmt-F.Gen event es None (Some f) delay_first) texts last rs h a only given old fine = gen_level event es None (Some f) delay_first texts last rs h a only given old fine
  stmt_level (Stmt-F.Gen event es (Some e) None delay_first) texts last rs h a only given old fine = gen_level event es (Some e) None delay_first texts last rs h a only given old fine
  stmt_level (Stmt-F.Gen event es (Some e) (Some f) delay_first) texts last rs h a only given old fine = gen_level event es (Some e) (Some f) delay_first texts last rs h a only given old fine
  stmt_level (Stmt-F.Multi event es None members) texts last rs h a only given old fine = multi_level event es None members texts last rs h a only given old fine
  stmt_level (Stmt-F.Multi event es (Some e) members) texts last rs h a only given old fine = multi_level event es (Some e) members texts last rs h a only given old fine
  stmt_level (Stmt-F.Say form es) texts last rs h a only given old fine =
      let rule = say_rule s form (map answer_of (exprs es)) rs h in
      let text = parts_asked texts in
      let ran = all (map value_of (exprs es)) p old in
      let args = values_fit es text.1 last rule.0 rule.1 (once given a) old fine in
      let fit = λ (is : asked.outs ≡ true). say_is_fit (slice_get core.forms form) (length (map expr_prints (exprs es))) (length (numbers ran.gives)) (count_kept es old) (text.0 is) in
      still asked core s.locals given a _ (sent_too asked core s.locals (once given a) ran.after (out.Say form (numbers ran.gives) ∷ []) args.fine (λ is. and_from _ _ (fit is) refl))
  stmt_level (Stmt-F.Return None) texts last rs h a only given old fine =
      let e : rs ≡ None ∷ [] = cc in
      let none = is_none a (and_parts _ _ (subst (λ (q : List Answer). list_all (option_eq nat_eq a) q ≡ true) e only)).0 in
      record { locals = fine.locals; answer = has_once (given || true) a old.answer (has_none a old.answer none); outs = fine.outs; cells = fine.cells }
  stmt_level (Stmt-F.Return (Some e)) texts last rs h a only given old fine =
      let rule = return_rule s (answer_of e.0) rs h in
      let this = is_this a rule.0 (and_parts _ _ (subst (λ (q : List Answer). list_all (option_eq nat_eq a) q ≡ true) rule.2 only)).0 in
      let v = (value_of e.0 p old).gives in
      let ran = e.1 (parts_asked texts).0 (and_parts _ _ last).0 (Some rule.0) rule.1 (once given a) old fine in
      record { locals = ran.fine.locals; answer = has_once (given || true) a v (has a rule.0 v this ran.gives); outs = ran.fine.outs; cells = ran.fine.cells }
