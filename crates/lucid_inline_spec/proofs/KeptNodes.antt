-- The flat form of each node of a body keeps the rules, if its parts do.
use Rattle.std.proofs.Common.{◌≡◌, ◌⊎◌, inl, inr, ℕ, zero, suc, ◌+◌, ◌<◌, List, [], ◌∷◌, ◌++◌, Bool, true, false, ◌&&◌, ◌||◌, if◌then◌else◌, is_some, unwrap_or, Option, None, Some, length, map, take, refl, sym, ap, ap₂, subst, ◌∙◌, arith, append-nil, append_assoc, length-append, nat_eq, nat_le, slice_get, option_map, option_to_list}
use Rattle.std.specs.List.{list_all, enumerate_from}
use Rattle.std.specs.Option.{option_eq, option_map_or}
use Rattle.std.proofs.lemmas.Bool.{and_from, and_parts, eq-eqb, eqb-true, or_cases, or_left}
use Rattle.std.proofs.lemmas.List.{length-map, length-take-le, map-append}
use Rattle.std.proofs.lemmas.List.Folds.{list_all-append}
use Rattle.lucid_base.specs.Bits.{bits_of}
use Rattle.lucid_base.specs.declared.array.ArrayName.{ArrayName}
use Rattle.lucid_core.specs.declared.body.Expr.{Expr}
use Rattle.lucid_core.specs.declared.body.Stmt.{Stmt}
use Rattle.lucid_core.specs.declared.body.Touch.{Touch}
use Rattle.lucid_core.specs.declared.body.Expr.TheOpen.{Expr-F, Stmt-F, Touch-F}
use Rattle.lucid_core.specs.declared.body.Expr.TheViews.{roll-Expr, roll-Stmt}
use Rattle.lucid_core.specs.declared.body.Expr.TheFolds.{fold-roll-Expr, fold-roll-Stmt, fold-roll-Touch, map-Expr, map-Stmt, map-Touch}
use Rattle.lucid_core.specs.declared.defs.FunDef.{FunDef}
use Rattle.lucid_core.specs.Computations.{array_of}
use Rattle.lucid_core.specs.ExamplePrograms.{local}
use Rattle.lucid_core.specs.Assigned as flow
use Rattle.lucid_core.specs.Assigned.{Flow, block_reads_assigned, expr_flow, stmt_flow, touch_flow}
use Rattle.lucid_core.specs.Limits as limits
use Rattle.lucid_core.specs.Limits.{are_members, expr_limits, stmt_limits, touch_limits}
use Rattle.lucid_core.specs.Names as names
use Rattle.lucid_core.specs.Names.{expr_names, is_array, stmt_names, touch_names}
use Rattle.lucid_base.specs.Numbers.{is_in}
use Rattle.lucid_core.specs.Numbers.{all_hold}
use Rattle.lucid_core.specs.Returns as returns
use Rattle.lucid_core.specs.Returns.{Returns, block_returns, expr_returns, stmt_returns, touch_returns}
use Rattle.lucid_core.specs.Scope.{Scope, Test, each}
use Rattle.lucid_core.specs.Syntax as syntax
use Rattle.lucid_core.specs.Syntax.{is_core_expr, is_core_stmt, is_core_touch}
use Rattle.lucid_core.specs.Texts as texts
use Rattle.lucid_core.specs.Texts.{Printed, each_filled, expr_texts, holes_of, stmt_texts, touch_texts}
use Rattle.lucid_core.specs.Typing as typing
use Rattle.lucid_core.specs.Typing.{Answer, Typed, all_typed, answer_of, cell_width, joined, returns_of, touch_answer, value, values}
use Rattle.lucid_core.proofs.Fine.{both_pass, is_none, is_this}
use Rattle.lucid_core.proofs.Pairwise.{Pairwise}
use Rattle.lucid_core.proofs.TypingRules.{AllGive, Gives, all_rule, assign_rule, bin_rule, call_rule, cast_rule, cmp_rule, drop_rule, first_of_two, gen_rule, give_parts, hash_rule, holds, if_rule, is_value, local_rule, multi_rule, return_rule, say_rule, un_rule, values_rule}
use Rattle.lucid_core.proofs.WidthRead.{expr_reads}
use Rattle.lucid_core.specs.declared.ending.Ending.{Ending}
use Rattle.lucid_core.specs.declared.ending.Ending.TheVariants.{Never, Sometimes, Always}
use Rattle.lucid_core.specs.Endings.{of_either, on_every_path, on_some_path}
use Rattle.lucid_core_laws.specs.ExprNodes.{KeepsGiven}
use Rattle.lucid_core.specs.Few as few
use Rattle.lucid_core.specs.Few.{expr_few, stmt_few, touch_few}
use Rattle.lucid_core_laws.specs.Keeps.{KeepsAll, KeepsBlock, KeepsExpr, KeepsStmt, MayKeep}
use Rattle.lucid_core_laws.specs.Place.{Place}
use Rattle.lucid_core_laws.proofs.Expressions.{expr_nodes}
use Rattle.lucid_core_laws.proofs.Statements.{stmt_nodes}
use Rattle.lucid_inline_spec.specs.Flat as f
use Rattle.lucid_inline_spec.specs.Flat.{Flatten, Flattened, PutIn, Site, flat_expr, flat_stmt, flat_touch}
use Rattle.lucid_inline_spec.proofs.Grows.{AllGrow, expr_grows, exprs_grow, put_grows, stmts_grow}
use Rattle.lucid_inline_spec.proofs.Kept.{PutKeeps, Stand, flat_place, found}
use Rattle.lucid_inline_spec.proofs.Kept as kept
use Rattle.lucid_inline_spec.proofs.Locals.{Begins, begins_append, begins_self, begins_then}
use Rattle.lucid_base.proofs.NumbersLemmas.{in_first, in_second, itself_in}
use Rattle.lucid_inline_spec.proofs.Numbered.{number_there, numbers_of, slice_begins, slice_behind}

-- ---- few operands

abbrev few_node : Expr-F Expr Stmt Touch → Bool
few_node y = few.expr_step (map-Expr Expr Stmt Touch Bool Bool Bool expr_few stmt_few touch_few y)

expr_few_at : (y : Expr-F Expr Stmt Touch) → expr_few (roll-Expr y) ≡ few_node y
expr_few_at y = fold-roll-Expr Bool Bool Bool few.expr_step few.stmt_step few.touch_step y

stmt_few_at : (y : Stmt-F Expr Stmt Touch) → stmt_few (roll-Stmt y) ≡ few.stmt_step (map-Stmt Expr Stmt Touch Bool Bool Bool expr_few stmt_few touch_few y)
stmt_few_at y = fold-roll-Stmt Bool Bool Bool few.expr_step few.stmt_step few.touch_step y

args_alone : (b : ℕ) (xs : List Expr) → map (λ (g : ℕ × Bool). g.1) (map (λ (g : ℕ × Expr). (g.0, expr_few g.1)) (enumerate_from b xs)) ≡ map expr_few xs
args_alone b [] = refl
args_alone b (x ∷ xs) = ap (λ (q : List Bool). expr_few x ∷ q) (args_alone (b + 1) xs)

both_hold : (xs ys : List Bool) → all_hold xs ≡ true → all_hold ys ≡ true → all_hold (xs ++ ys) ≡ true
both_hold xs ys h k = list_all-append (λ b. b) xs ys ∙ and_from _ _ h k

few_inlined : (b : ℕ) (xs : List Expr) (ss : List Stmt) → all_hold (map expr_few xs) ≡ true → all_hold (map stmt_few ss) ≡ true → few_node (Expr-F.Inlined (enumerate_from b xs) ss) ≡ true
few_inlined b xs ss h k = ap (λ (q : List Bool). all_hold (q ++ map stmt_few ss)) (args_alone b xs) ∙ both_hold (map expr_few xs) (map stmt_few ss) h k

few_gen : (event : ℕ) (xs : List Expr) (d t : Option Expr) (b : Bool) → all_hold (map expr_few xs) ≡ true → all_hold (option_to_list (option_map expr_few d)) ≡ true → all_hold (option_to_list (option_map expr_few t)) ≡ true →
    stmt_few (roll-Stmt (Stmt-F.Gen event xs d t b)) ≡ true
few_gen event xs None None b h k l = stmt_few_at (Stmt-F.Gen event xs None None b) ∙ both_hold (map expr_few xs ++ []) [] (both_hold (map expr_few xs) [] h k) l
few_gen event xs None (Some t) b h k l = stmt_few_at (Stmt-F.Gen event xs None (Some t) b) ∙ both_hold (map expr_few xs ++ []) (expr_few t ∷ []) (both_hold (map expr_few xs) [] h k) l
few_gen event xs (Some d) None b h k l = stmt_few_at (Stmt-F.Gen event xs (Some d) None b) ∙ both_hold (map expr_few xs ++ expr_few d ∷ []) [] (both_hold (map expr_few xs) (expr_few d ∷ []) h k) l
few_gen event xs (Some d) (Some t) b h k l = stmt_few_at (Stmt-F.Gen event xs (Some d) (Some t) b) ∙ both_hold (map expr_few xs ++ expr_few d ∷ []) (expr_few t ∷ []) (both_hold (map expr_few xs) (expr_few d ∷ []) h k) l

-- ---- endings

on_some_of : (r q : Ending) → on_some_path (of_either r q) ≡ (on_some_path r || on_some_path q)
on_some_of Never Never = refl
on_some_of Never Sometimes = refl
on_some_of Never Always = refl
on_some_of Sometimes q = refl
on_some_of Always Never = refl
on_some_of Always Sometimes = refl
on_some_of Always Always = refl

on_every_of : (r q : Ending) → on_every_path (of_either r q) ≡ (on_every_path r && on_every_path q)
on_every_of Never Never = refl
on_every_of Never Sometimes = refl
on_every_of Never Always = refl
on_every_of Sometimes q = refl
on_every_of Always Never = refl
on_every_of Always Sometimes = refl
on_every_of Always Always = refl

nowhere : (k : List ℕ) (j i : ℕ) → is_in i [] ≡ true → is_in j k ≡ true
nowhere k j i h = absurd (cc)

-- A text that is there.
there_filled : (o : Option (List ℕ)) (n : ℕ) → option_map_or (λ text. nat_eq n (holes_of text)) o false ≡ true → (text : List ℕ) × (o ≡ Some text) × (n ≡ holes_of text)
there_filled None n h = absurd (cc)
there_filled (Some text) n h = (text, refl, eqb-true n (holes_of text) h)

module _ (A : List ℕ) (Ev Fo : List (List ℕ)) (p : Site) (P L : List ℕ) (Fs : List FunDef) (all : Pairwise (PutKeeps A Ev Fo) Fs p.funs) (grow : AllGrow p.funs) (stand : Stand A Ev Fo P p.arrays) where
  abbrev s : Scope
  s = kept.core_scope A Ev Fo p P L Fs all grow stand

  abbrev PlaceAt : List ℕ → List ℕ → Place
  PlaceAt W K = flat_place A Ev Fo W K

  abbrev E : Type 0
  E = kept.E A Ev Fo p P L Fs all grow stand

  abbrev S : Type 0
  S = kept.S A Ev Fo p P L Fs all grow stand

  abbrev T : Type 0
  T = kept.T A Ev Fo p P L Fs all grow stand

  abbrev exprs : List E → List Expr
  exprs es = map (λ (e : E). e.0) es

  abbrev stmts : List S → List Stmt
  stmts es = map (λ (e : S). e.0) es

  abbrev KeptExpr : List ℕ → Answer → Flatten Expr → Type 0
  KeptExpr known a t = kept.KeptExpr A Ev Fo p P L Fs all grow stand known a t

  abbrev KeptTouch : List ℕ → Answer → Flatten Touch → Type 0
  KeptTouch known a t = kept.KeptTouch A Ev Fo p P L Fs all grow stand known a t

  abbrev KeptAll : List ℕ → List ℕ → Flatten (List Expr) → Type 0
  KeptAll known vs t = kept.KeptAll A Ev Fo p P L Fs all grow stand known vs t

  abbrev KeptStmt : List ℕ → Answer → Flatten (List Stmt) → Returns → List ℕ → Type 0
  KeptStmt known a t returns assigns = kept.KeptStmt A Ev Fo p P L Fs all grow stand known a t returns assigns

  abbrev Tested : List ℕ → Test → Returns → Flow → Bool → Printed → Bool → Type 0
  Tested known n r w l x c = kept.Tested A Ev Fo p P L Fs all grow stand known n r w l x c

  abbrev Here : List ℕ → Type 0
  Here ws = kept.Here A Ev Fo p P L Fs all grow stand ws

  abbrev Knows : List ℕ → List ℕ → Type 0
  Knows known K = kept.Knows A Ev Fo p P L Fs all grow stand known K

  abbrev AllTested : List ℕ → List Expr → Type 0
  AllTested known es = kept.AllTested A Ev Fo p P L Fs all grow stand known es

  here_later : (ws us : List ℕ) → Begins ws us → Here ws → Here us
  here_later = kept.here_later A Ev Fo p P L Fs all grow stand

  exprs_kept : (known : List ℕ) (es : List E) → AllTested known (exprs es) → (vs : List ℕ) → values (map answer_of (exprs es)) s ≡ Some vs → KeptAll known vs (f.each (map flat_expr (exprs es)))
  exprs_kept = kept.exprs_kept A Ev Fo p P L Fs all grow stand

  tested : (known : List ℕ) (es : List Expr) → each (map expr_names es) s ≡ true → list_all (λ r. r.last) (map expr_returns es) ≡ true → flow.all_read_assigned (map expr_flow es) known ≡ true →
      all_hold (map expr_limits es) ≡ true → each_filled (map expr_texts es) Fo ≡ true → all_hold (map is_core_expr es) ≡ true → AllTested known es
  tested = kept.tested A Ev Fo p P L Fs all grow stand

  abbrev pub expr_tree : Expr-F E S T → Expr-F Expr Stmt Touch
  expr_tree = map-Expr E S T Expr Stmt Touch (λ e. e.0) (λ e. e.0) (λ e. e.0)

  abbrev pub touch_tree : Touch-F E S T → Touch-F Expr Stmt Touch
  touch_tree = map-Touch E S T Expr Stmt Touch (λ e. e.0) (λ e. e.0) (λ e. e.0)

  abbrev pub stmt_tree : Stmt-F E S T → Stmt-F Expr Stmt Touch
  stmt_tree = map-Stmt E S T Expr Stmt Touch (λ e. e.0) (λ e. e.0) (λ e. e.0)

  -- The results of the rules for a node, by their results for its parts.
  abbrev pub ExprAt : List ℕ → Expr-F Expr Stmt Touch → Type 0
  ExprAt known y = Tested known
      (names.expr_step (map-Expr Expr Stmt Touch Test Test Test expr_names stmt_names touch_names y))
      (returns.expr_step (map-Expr Expr Stmt Touch Returns Returns Returns expr_returns stmt_returns touch_returns y))
      (flow.expr_step (map-Expr Expr Stmt Touch Flow Flow Flow expr_flow stmt_flow touch_flow y))
      (limits.expr_step (map-Expr Expr Stmt Touch Bool Bool Bool expr_limits stmt_limits touch_limits y))
      (texts.expr_step (map-Expr Expr Stmt Touch Printed Printed Printed expr_texts stmt_texts touch_texts y))
      (syntax.not_inlined (map-Expr Expr Stmt Touch Bool Bool Bool is_core_expr is_core_stmt is_core_touch y))

  abbrev pub TouchAt : List ℕ → Touch-F Expr Stmt Touch → Type 0
  TouchAt known y = Tested known
      (names.touch_step (map-Touch Expr Stmt Touch Test Test Test expr_names stmt_names touch_names y))
      (returns.touch_step (map-Touch Expr Stmt Touch Returns Returns Returns expr_returns stmt_returns touch_returns y))
      (flow.touch_step (map-Touch Expr Stmt Touch Flow Flow Flow expr_flow stmt_flow touch_flow y))
      (limits.touch_step (map-Touch Expr Stmt Touch Bool Bool Bool expr_limits stmt_limits touch_limits y))
      (texts.touch_step (map-Touch Expr Stmt Touch Printed Printed Printed expr_texts stmt_texts touch_texts y))
      (syntax.touch_step (map-Touch Expr Stmt Touch Bool Bool Bool is_core_expr is_core_stmt is_core_touch y))

  abbrev pub StmtAt : List ℕ → Stmt-F Expr Stmt Touch → Type 0
  StmtAt known y = Tested known
      (names.stmt_step (map-Stmt Expr Stmt Touch Test Test Test expr_names stmt_names touch_names y))
      (returns.stmt_step (map-Stmt Expr Stmt Touch Returns Returns Returns expr_returns stmt_returns touch_returns y))
      (flow.stmt_step (map-Stmt Expr Stmt Touch Flow Flow Flow expr_flow stmt_flow touch_flow y))
      (limits.stmt_step (map-Stmt Expr Stmt Touch Bool Bool Bool expr_limits stmt_limits touch_limits y))
      (texts.stmt_step (map-Stmt Expr Stmt Touch Printed Printed Printed expr_texts stmt_texts touch_texts y))
      (syntax.any_stmt (map-Stmt Expr Stmt Touch Bool Bool Bool is_core_expr is_core_stmt is_core_touch y))

  abbrev pub flat_e : Expr-F Expr Stmt Touch → Flatten Expr
  flat_e y = f.expr_step (map-Expr Expr Stmt Touch (Flatten Expr) (Flatten (List Stmt)) (Flatten Touch) flat_expr flat_stmt flat_touch y)

  abbrev pub flat_t : Touch-F Expr Stmt Touch → Flatten Touch
  flat_t y = f.touch_step (map-Touch Expr Stmt Touch (Flatten Expr) (Flatten (List Stmt)) (Flatten Touch) flat_expr flat_stmt flat_touch y)

  abbrev pub flat_s : Stmt-F Expr Stmt Touch → Flatten (List Stmt)
  flat_s y = f.stmt_step (map-Stmt Expr Stmt Touch (Flatten Expr) (Flatten (List Stmt)) (Flatten Touch) flat_expr flat_stmt flat_touch y)

  -- An answer that is known.
  answered : (known : List ℕ) (a b : Answer) (t : Flatten Expr) → a ≡ b → KeptExpr known b t → KeptExpr known a t
  answered known a b t e h = subst (λ (x : Answer). KeptExpr known x t) (sym e) h

  -- ---- a call

  stand_more : (a : ℕ) (as_ : List ℕ) (c : ℕ) (ws : List ℕ) → slice_get A a ≡ Some c → Stand A Ev Fo ws as_ → Stand A Ev Fo (c ∷ ws) (a ∷ as_)
  stand_more a as_ c ws h rest zero w is = h ∙ is
  stand_more a as_ c ws h rest (suc i) w is = rest i w is

  stands : (names : List ArrayName) (ws : List ℕ) → all_typed (map cell_width names) s ≡ Some ws → Stand A Ev Fo ws (map (array_of p.arrays) names)
  stands [] ws h = let e : [] ≡ ws = cc in subst (λ (q : List ℕ). Stand A Ev Fo q []) e (λ i w is. absurd (cc))
  stands (x ∷ xs) ws h =
      let rule = all_rule s (cell_width x) (map cell_width xs) ws h in
      subst (λ (q : List ℕ). Stand A Ev Fo q (map (array_of p.arrays) (x ∷ xs))) (sym rule.2.2)
      (stand_more (array_of p.arrays x) (map (array_of p.arrays) xs) rule.0 rule.2.0 (kept.array_stands A Ev Fo p P L Fs all grow stand x rule.0 rule.1) (stands xs rule.2.0 rule.2.1))

  -- The arguments of a call are held by the next locals.
  given_kept : (W K : List ℕ) (b : ℕ) (vs : List ℕ) (xs : List Expr) → KeepsAll (PlaceAt W K) vs xs → ((i w : ℕ) → slice_get vs i ≡ Some w → slice_get W (b + i) ≡ Some w) → KeepsGiven (PlaceAt W K) vs (enumerate_from b xs)
  given_kept W K b [] [] h there = tt
  given_kept W K b (v ∷ vs) (x ∷ xs) h there =
      let z : b ≡ b + 0 = omega arith in
      (ap (slice_get W) z ∙ there 0 v refl, h.0, given_kept W K (b + 1) vs xs h.1 (λ i w is. let e : b + 1 + i ≡ b + suc i = omega arith in ap (slice_get W) e ∙ there (suc i) w is))
  given_kept W K b [] (x ∷ xs) h there = absurd h
  given_kept W K b (v ∷ vs) [] h there = absurd h

  taken : (n : ℕ) (ls : List ℕ) (i w : ℕ) → slice_get (take n ls) i ≡ Some w → slice_get ls i ≡ Some w
  taken zero ls i w h = absurd (cc)
  taken (suc n) [] i w h = absurd (cc)
  taken (suc n) (l ∷ ls) zero w h = h
  taken (suc n) (l ∷ ls) (suc i) w h = taken n ls i w h

  -- A function's inlined body, after the arguments.
  put_kept : (d : FunDef) (o : Option PutIn) (put : PutIn) → o ≡ Some put → PutKeeps A Ev Fo d put → (arrays : List ℕ) → Stand A Ev Fo d.arrays arrays → (args : List Expr) (ws W : List ℕ) → Begins (f.put_in o arrays args ws).locals W →
      (K : List ℕ) → KeepsAll (PlaceAt W K) (take d.params d.locals) args → length args ≡ length (take d.params d.locals) → KeepsExpr (PlaceAt W K) d.answer (roll-Expr (f.put_in o arrays args ws).value)
  put_kept d None put is one arrays fit args ws W begins K given count = absurd (cc)
  put_kept d (Some h) put is one arrays fit args ws W begins K given count =
      let same : put ≡ h = cc in
      let body = subst (λ (x : PutIn). PutKeeps A Ev Fo d x) same one in
      let n : length (take d.params d.locals) ≡ d.params = length-take-le d.params d.locals body.params in
      let own = begins_then (ws ++ d.locals) (h arrays ws).locals W (body.begins arrays ws) begins in
      let put_in = body.body arrays ws fit W begins (K ++ numbers_of (length ws) args) (λ i l. in_second K (numbers_of (length ws) args) (length ws + i) (number_there args (length ws) i (omega arith))) in
      expr_nodes.inlined (PlaceAt W K) (take d.params d.locals) (enumerate_from (length ws) args) d.answer put_in.0 (h arrays ws).value refl
      (given_kept W K (length ws) (take d.params d.locals) args given (λ i w there. slice_begins (ws ++ d.locals) W own (length ws + i) w (slice_behind ws d.locals i ∙ taken d.params d.locals i w there)))
      put_in.2 put_in.1

  put_few : (d : FunDef) (o : Option PutIn) (put : PutIn) → o ≡ Some put → PutKeeps A Ev Fo d put → (arrays : List ℕ) → Stand A Ev Fo d.arrays arrays → (args : List Expr) (ws : List ℕ) → all_hold (map expr_few args) ≡ true → few_node (f.put_in o arrays args ws).value ≡ true
  put_few d None put is one arrays fit args ws h = absurd (cc)
  put_few d (Some g) put is one arrays fit args ws h =
      let same : put ≡ g = cc in few_inlined (length ws) args (g arrays ws).value h ((subst (λ (x : PutIn). PutKeeps A Ev Fo d x) same one).few arrays ws fit)

  call_kept : (known : List ℕ) (k : ℕ) (names : List ArrayName) (es : List E) (d : FunDef) → slice_get Fs k ≡ Some d → KeptAll known (take d.params d.locals) (f.each (map flat_expr (exprs es))) →
      all_typed (map cell_width names) s ≡ Some d.arrays → KeptExpr known d.answer (flat_e (Expr-F.Fun k names (exprs es)))
  call_kept known k names es d there given cells =
      let here = found A Ev Fo Fs p.funs all k d there in
      let arrays = map (array_of p.arrays) names in record {
        keeps = λ ws h W begins K knows.
            let first = f.each (map flat_expr (exprs es)) p ws in
            let whole = f.put_in (slice_get p.funs k) arrays first.value first.locals in
            put_kept d (slice_get p.funs k) here.0 here.1 here.2 arrays (stands names d.arrays cells) first.value first.locals W begins K
            (given.keeps ws h W (begins_then first.locals whole.locals W (put_grows p.funs grow k arrays first.value first.locals) begins) K knows) (given.count ws);
        few = λ ws.
            let first = f.each (map flat_expr (exprs es)) p ws in
            expr_few_at (f.put_in (slice_get p.funs k) arrays first.value first.locals).value ∙ put_few d (slice_get p.funs k) here.0 here.1 here.2 arrays (stands names d.arrays cells) first.value first.locals (given.few ws);
      }

  -- ---- expressions

  each-length : (hs : List E) (us : List ℕ) → length (f.each (map flat_expr (exprs hs)) p us).value ≡ length hs
  each-length [] us = refl
  each-length (g ∷ hs) us = ap suc (each-length hs (flat_expr g.0 p us).locals)

  pub expr_level : (y : Expr-F E S T) (known : List ℕ) → ExprAt known (expr_tree y) → (a : Answer) →
      typing.expr_step (map-Expr Expr Stmt Touch (Typed Answer) (Typed (List Answer)) (Typed Answer) answer_of returns_of touch_answer (expr_tree y)) s ≡ Some a → KeptExpr known a (flat_e (expr_tree y))
  expr_level (Expr-F.Fixed n) known h a typed = let e : a ≡ Some n.width = cc in answered known a (Some n.width) _ e (record { keeps = λ ws here W begins K knows. expr_nodes.fixed (PlaceAt W K) n; few = λ ws. expr_few_at (Expr-F.Fixed n) })
  expr_level (Expr-F.Local i) known h a typed =
      let rule = local_rule s i a typed in
      answered known a (Some rule.0) _ rule.2 (record {
        keeps = λ ws here W begins K knows. expr_nodes.local (PlaceAt W K) (p.first + i) rule.0 (slice_begins ws W begins (p.first + i) rule.0 (here i rule.0 rule.1)) (knows i h.reads);
        few = λ ws. expr_few_at (Expr-F.Local (p.first + i));
      })
  expr_level Expr-F.Now known h a typed = let e : a ≡ Some 32 = cc in answered known a (Some 32) _ e (record { keeps = λ ws here W begins K knows. expr_nodes.now (PlaceAt W K); few = λ ws. expr_few_at Expr-F.Now })
  expr_level Expr-F.Me known h a typed = let e : a ≡ Some 32 = cc in answered known a (Some 32) _ e (record { keeps = λ ws here W begins K knows. expr_nodes.me (PlaceAt W K); few = λ ws. expr_few_at Expr-F.Me })
  expr_level (Expr-F.Un op e) known h a typed =
      let rule = un_rule s op (answer_of e.0) a typed in
      let x = e.1 known (tested known (e.0 ∷ []) h.named h.last h.reads h.limited h.filled h.formed).0 (Some rule.0) rule.1 in
      answered known a (Some rule.0) _ rule.2 (record {
        keeps = λ ws here W begins K knows. expr_nodes.un (PlaceAt W K) rule.0 op _ (x.keeps ws here W begins K knows);
        few = λ ws. expr_few_at (Expr-F.Un op (flat_expr e.0 p ws).value) ∙ and_from _ _ (x.few ws) refl;
      })
  expr_level (Expr-F.Bin op e g) known h a typed =
      let rule = bin_rule s op (answer_of e.0) (answer_of g.0) a typed in
      let tests = tested known (e.0 ∷ g.0 ∷ []) h.named h.last h.reads h.limited h.filled h.formed in
      let x = e.1 known tests.0 (Some rule.0) rule.1 in
      let y = g.1 known tests.1.0 (Some rule.0) rule.2 in
      answered known a (Some rule.0) _ rule.3 (record {
        keeps = λ ws here W begins K knows. let first = (flat_expr e.0 p ws).locals in expr_nodes.bin (PlaceAt W K) rule.0 op _ _
            (x.keeps ws here W (begins_then first (flat_expr g.0 p first).locals W (expr_grows g.0 p grow first) begins) K knows) (y.keeps first (here_later ws first (expr_grows e.0 p grow ws) here) W begins K knows);
        few = λ ws. expr_few_at (Expr-F.Bin op (flat_expr e.0 p ws).value (flat_expr g.0 p (flat_expr e.0 p ws).locals).value) ∙ and_from _ _ (x.few ws) (and_from _ _ (y.few (flat_expr e.0 p ws).locals) refl);
      })
  expr_level (Expr-F.Cmp op e g) known h a typed =
      let rule = cmp_rule s op (answer_of e.0) (answer_of g.0) a typed in
      let tests = tested known (e.0 ∷ g.0 ∷ []) h.named h.last h.reads h.limited h.filled h.formed in
      let x = e.1 known tests.0 (Some rule.0) rule.1 in
      let y = g.1 known tests.1.0 (Some rule.0) rule.2 in
      answered known a (Some 1) _ rule.3 (record {
        keeps = λ ws here W begins K knows. let first = (flat_expr e.0 p ws).locals in expr_nodes.cmp (PlaceAt W K) rule.0 op _ _
            (x.keeps ws here W (begins_then first (flat_expr g.0 p first).locals W (expr_grows g.0 p grow first) begins) K knows) (y.keeps first (here_later ws first (expr_grows e.0 p grow ws) here) W begins K knows);
        few = λ ws. expr_few_at (Expr-F.Cmp op (flat_expr e.0 p ws).value (flat_expr g.0 p (flat_expr e.0 p ws).locals).value) ∙ and_from _ _ (x.few ws) (and_from _ _ (y.few (flat_expr e.0 p ws).locals) refl);
      })
  expr_level (Expr-F.Cast w e) known h a typed =
      let rule = cast_rule s w (answer_of e.0) a typed in
      let x = e.1 known (tested known (e.0 ∷ []) h.named h.last h.reads h.limited h.filled h.formed).0 (Some rule.0) rule.1 in
      answered known a (Some w) _ rule.2 (record {
        keeps = λ ws here W begins K knows. expr_nodes.cast (PlaceAt W K) w rule.0 _ (x.keeps ws here W begins K knows);
        few = λ ws. expr_few_at (Expr-F.Cast w (flat_expr e.0 p ws).value) ∙ and_from _ _ (x.few ws) refl;
      })
  expr_level (Expr-F.Hash w []) known h a typed = let none : false ≡ true = h.limited in absurd (cc)
  expr_level (Expr-F.Hash w (e ∷ es)) known h a typed =
      let rule = hash_rule s w (map answer_of (exprs (e ∷ es))) a typed in
      let limit = and_parts _ _ h.limited in
      let all_of = exprs_kept known (e ∷ es) (tested known (exprs (e ∷ es)) h.named h.last h.reads limit.1 h.filled h.formed) rule.0 rule.1 in
      let first = values_rule s (answer_of e.0) (map answer_of (exprs es)) rule.0 rule.1 in
      let parts = subst (λ (q : List ℕ). KeptAll known q (f.each (map flat_expr (exprs (e ∷ es))))) first.2.2 all_of in
      answered known a (Some w) _ rule.2 (record {
        keeps = λ ws here W begins K knows. expr_nodes.hash (PlaceAt W K) w first.0 first.2.0 _ _ (parts.keeps ws here W begins K knows);
        few = λ ws. expr_few_at (Expr-F.Hash w (f.each (map flat_expr (exprs (e ∷ es))) p ws).value)
            ∙ and_from _ _ (ap (λ (n : ℕ). nat_le n 9) (length-map (f.each (map flat_expr (exprs (e ∷ es))) p ws).value expr_few ∙ each-length (e ∷ es) ws ∙ sym (length-map (e ∷ es) (λ (x : E). x.0)) ∙ sym (length-map (exprs (e ∷ es)) expr_limits))
            ∙ (and_parts _ _ limit.0).1) (parts.few ws);
      })
  expr_level (Expr-F.Array e) known h a typed =
      let x = e.1 known (record { named = (and_parts _ _ h.named).0; last = (and_parts _ _ h.last).0; reads = (and_parts _ _ h.reads).0; limited = (and_parts _ _ h.limited).0; filled = (and_parts _ _ h.filled).0; formed = (and_parts _ _ h.formed).0 }) a typed in record {
        keeps = λ ws here W begins K knows. expr_nodes.array (PlaceAt W K) a _ (x.keeps ws here W begins K knows);
        few = λ ws. expr_few_at (Expr-F.Array (flat_touch e.0 p ws).value) ∙ and_from _ _ (x.few ws) refl;
      }
  expr_level (Expr-F.Fun k names es) known h a typed =
      let rule = call_rule s k names (map answer_of (exprs es)) a typed in
      let given = exprs_kept known es (tested known (exprs es) (and_parts _ _ h.named).1 h.last h.reads h.limited h.filled h.formed) (take rule.0.params rule.0.locals) rule.2 in
      answered known a rule.0.answer _ rule.4 (call_kept known k names es rule.0 rule.1 given rule.3)
  expr_level (Expr-F.Inlined given es) known h a typed = absurd (let no : false ≡ true = h.formed in cc)

  -- ---- a call of an array

  -- The meaning of the widths of a call of an array for its parts.
  pub record Touching (t : Touch-F (Typed Answer) (Typed (List Answer)) (Typed Answer)) (a : Answer) : Type 0 where
    pub width : ℕ
    pub cell : cell_width t.array s ≡ Some width
    pub index : (w : ℕ) × Gives s t.index w
    pub get : t.get.width ≡ width
    pub set : t.set.width ≡ width
    pub get_arg : Gives s t.get_arg width
    pub set_arg : Gives s t.set_arg width
    pub answer : a ≡ (if t.answers then Some width else None)

  touching : (t : Touch-F (Typed Answer) (Typed (List Answer)) (Typed Answer)) (a : Answer) → typing.touch_step t s ≡ Some a → Touching t a
  touching t a h =
      let cell = first_of_two (cell_width t.array s) _ a h in
      let index = first_of_two (value t.index s) _ a cell.2 in
      let get = first_of_two (value t.get_arg s) _ a index.2 in
      let set = first_of_two (value t.set_arg s) _ a get.2 in
      let agree = holds (list_all (nat_eq cell.0) (t.get.width ∷ t.set.width ∷ get.0 ∷ set.0 ∷ [])) (if t.answers then Some cell.0 else None) a set.2 in
      let one = and_parts _ _ agree.0 in
      let two = and_parts _ _ one.1 in
      let three = and_parts _ _ two.1 in
      let e1 : cell.0 ≡ t.get.width = eqb-true _ _ one.0 in
      let e2 : cell.0 ≡ t.set.width = eqb-true _ _ two.0 in
      let e3 : cell.0 ≡ get.0 = eqb-true _ _ three.0 in
      let e4 : cell.0 ≡ set.0 = eqb-true _ _ (and_parts _ _ three.1).0 in
      record {
        width = cell.0;
        cell = cell.1;
        index = (index.0, is_value (t.index s) index.0 index.1);
        get = sym e1;
        set = sym e2;
        get_arg = is_value (t.get_arg s) cell.0 (get.1 ∙ ap (λ (w : ℕ). Some w) (sym e3));
        set_arg = is_value (t.set_arg s) cell.0 (set.1 ∙ ap (λ (w : ℕ). Some w) (sym e4));
        answer = sym agree.1;
      }

  pub touch_level : (y : Touch-F E S T) (known : List ℕ) → TouchAt known (touch_tree y) → (a : Answer) →
      typing.touch_step (map-Touch Expr Stmt Touch (Typed Answer) (Typed (List Answer)) (Typed Answer) answer_of returns_of touch_answer (touch_tree y)) s ≡ Some a → KeptTouch known a (flat_t (touch_tree y))
  touch_level y known h a typed =
      let rule = touching (map-Touch Expr Stmt Touch (Typed Answer) (Typed (List Answer)) (Typed Answer) answer_of returns_of touch_answer (touch_tree y)) a typed in
      let limit = and_parts _ _ h.limited in
      let memops = and_parts _ _ limit.0 in
      let tests = tested known (y.index.0 ∷ y.get_arg.0 ∷ y.set_arg.0 ∷ []) (and_parts _ _ h.named).1 h.last h.reads limit.1 h.filled h.formed in
      let x = y.index.1 known tests.0 (Some rule.index.0) rule.index.1 in
      let g = y.get_arg.1 known tests.1.0 (Some rule.width) rule.get_arg in
      let v = y.set_arg.1 known tests.1.1.0 (Some rule.width) rule.set_arg in
      subst (λ (b : Answer). KeptTouch known b (flat_t (touch_tree y))) (sym rule.answer) (record {
        keeps = λ ws here W begins K knows.
            let first = flat_expr y.index.0 p ws in
            let second = flat_expr y.get_arg.0 p first.locals in
            let third = flat_expr y.set_arg.0 p second.locals in
            let b1 = expr_grows y.index.0 p grow ws in
            let b2 = expr_grows y.get_arg.0 p grow first.locals in
            let b3 = expr_grows y.set_arg.0 p grow second.locals in
            let here1 = here_later ws first.locals b1 here in
            let end2 = begins_then second.locals third.locals W b3 begins in
            expr_nodes.touch (PlaceAt W K) rule.width rule.index.0 (f.touch_node (map-Touch Expr Stmt Touch (Flatten Expr) (Flatten (List Stmt)) (Flatten Touch) flat_expr flat_stmt flat_touch (touch_tree y)) p ws).value
            (kept.array_stands A Ev Fo p P L Fs all grow stand y.array rule.width rule.cell) rule.get rule.set memops.0 memops.1
            (x.keeps ws here W (begins_then first.locals second.locals W b2 end2) K knows) (g.keeps first.locals here1 W end2 K knows) (v.keeps second.locals (here_later first.locals second.locals b2 here1) W begins K knows);
        few = λ ws.
            let first = flat_expr y.index.0 p ws in
            let second = flat_expr y.get_arg.0 p first.locals in
            fold-roll-Touch Bool Bool Bool few.expr_step few.stmt_step few.touch_step (f.touch_node (map-Touch Expr Stmt Touch (Flatten Expr) (Flatten (List Stmt)) (Flatten Touch) flat_expr flat_stmt flat_touch (touch_tree y)) p ws).value
            ∙ and_from _ _ (x.few ws) (and_from _ _ (g.few first.locals) (and_from _ _ (v.few second.locals) refl));
      })

  -- ---- a group

  abbrev held_by : ℕ → List Expr → List Stmt
  held_by b xs = map roll-Stmt (map (λ (g : ℕ × Expr). Stmt-F.Assign g.0 g.1) (enumerate_from b xs))

  abbrev sent_to : ℕ → ℕ → ℕ → Bool → List ℕ → List Stmt
  sent_to event b n delayed members = map roll-Stmt (map (f.to_member event b n delayed) members)

  -- Everything that is assigned here is assigned there.
  abbrev More : List ℕ → List ℕ → Type 0
  More K K2 = (j : ℕ) → is_in j K ≡ true → is_in j K2 ≡ true

  -- The added locals have the widths of their values.
  widths_read : (ws K vs : List ℕ) (xs : List Expr) → KeepsAll (PlaceAt ws K) vs xs → map (f.width_in ws) xs ≡ vs
  widths_read ws K [] [] h = refl
  widths_read ws K (v ∷ vs) (x ∷ xs) h =
      ap₂ (λ (w : ℕ) (rest : List ℕ). w ∷ rest) (ap (λ (o : Option ℕ). unwrap_or o 32) (expr_reads (PlaceAt ws K).scope x (Some v) h.0.typed)) (widths_read ws K vs xs h.1)
  widths_read ws K [] (x ∷ xs) h = absurd h
  widths_read ws K (v ∷ vs) [] h = absurd h

  abbrev Wide : List ℕ → ℕ → List ℕ → Type 0
  Wide W b vs = (i w : ℕ) → slice_get vs i ≡ Some w → slice_get W (b + i) ≡ Some w

  wide_rest : (W : List ℕ) (b v : ℕ) (vs : List ℕ) → Wide W b (v ∷ vs) → Wide W (b + 1) vs
  wide_rest W b v vs h i w is = let e : b + 1 + i ≡ b + suc i = omega arith in ap (slice_get W) e ∙ h (suc i) w is

  wide_first : (W : List ℕ) (b v : ℕ) (vs : List ℕ) → Wide W b (v ∷ vs) → slice_get W b ≡ Some v
  wide_first W b v vs h = let z : b ≡ b + 0 = omega arith in ap (slice_get W) z ∙ h 0 v refl

  held_keep : (known W : List ℕ) (a : Answer) (r : Ending) (vs : List ℕ) (xs : List Expr) (b : ℕ) (K : List ℕ) → Knows known K → ((K2 : List ℕ) → Knows known K2 → KeepsAll (PlaceAt W K2) vs xs) → Wide W b vs → (rest : List Stmt) →
      ((K2 : List ℕ) → More K K2 → ((i : ℕ) → i < length vs → is_in (b + i) K2 ≡ true) → KeepsBlock (PlaceAt W K2) a r rest) → KeepsBlock (PlaceAt W K) a r (held_by b xs ++ rest)
  held_keep known W a r [] [] b K knows h wide rest then_ = then_ K (λ j i. i) (λ i l. absurd (omega arith))
  held_keep known W a r (v ∷ vs) (x ∷ xs) b K knows h wide rest then_ =
      let knows2 : Knows known (K ++ b ∷ []) = λ i is. in_first K (b ∷ []) (p.first + i) (knows i is) in
      stmt_nodes.first (PlaceAt W K) a r (b ∷ []) (roll-Stmt (Stmt-F.Assign b x)) (held_by (b + 1) xs ++ rest) (stmt_nodes.assign (PlaceAt W K) a b v x (wide_first W b v vs wide) (h K knows).0)
      (held_keep known W a r vs xs (b + 1) (K ++ b ∷ []) knows2 (λ K2 k. (h K2 k).1) (wide_rest W b v vs wide) rest
      (λ K2 more nums. then_ K2 (λ j i. more j (in_first K (b ∷ []) j i)) (λ i l. at K2 more nums i l)))
    where
      at : (K2 : List ℕ) → More (K ++ b ∷ []) K2 → ((i : ℕ) → i < length vs → is_in (b + 1 + i) K2 ≡ true) → (i : ℕ) → i < suc (length vs) → is_in (b + i) K2 ≡ true
      at K2 more nums zero l = let z : b + 0 ≡ b = omega arith in ap (λ (n : ℕ). is_in n K2) z ∙ more b (in_second K (b ∷ []) b (itself_in b))
      at K2 more nums (suc i) l = let e : b + suc i ≡ b + 1 + i = omega arith in ap (λ (n : ℕ). is_in n K2) e ∙ nums i (omega arith)
  held_keep known W a r [] (x ∷ xs) b K knows h wide rest then_ = absurd (h K knows)
  held_keep known W a r (v ∷ vs) [] b K knows h wide rest then_ = absurd (h K knows)

  locals_keep : (W K : List ℕ) (vs : List ℕ) (b : ℕ) → Wide W b vs → ((i : ℕ) → i < length vs → is_in (b + i) K ≡ true) → KeepsAll (PlaceAt W K) vs (f.locals_from b (length vs))
  locals_keep W K [] b wide there = tt
  locals_keep W K (v ∷ vs) b wide there =
      let z : b ≡ b + 0 = omega arith in (
        expr_nodes.local (PlaceAt W K) b v (wide_first W b v vs wide) (ap (λ (n : ℕ). is_in n K) z ∙ there 0 (omega arith)),
        locals_keep W K vs (b + 1) (wide_rest W b v vs wide) (λ i l. let e : b + 1 + i ≡ b + suc i = omega arith in ap (λ (n : ℕ). is_in n K) e ∙ there (suc i) (omega arith)),
      )

  -- The widths of a delay, where there is one.
  abbrev Delayed : Bool → List ℕ → Type 0
  Delayed true us = (w : ℕ) × (us ≡ w ∷ [])
  Delayed false us = us ≡ []

  delay_keeps : (W K params us : List ℕ) (b : ℕ) (delayed : Bool) → Delayed delayed us → Wide W b (params ++ us) → ((i : ℕ) → i < length (params ++ us) → is_in (b + i) K ≡ true) →
      MayKeep (PlaceAt W K) (if delayed then Some (local (b + length params)) else None)
  delay_keeps W K params us b false is wide there = tt
  delay_keeps W K params us b true is wide there =
      let n = length-append params us in
      let one : length us ≡ 1 = ap length is.1 in
      let z : length params ≡ length params + 0 = omega arith in (
        is.0,
        expr_nodes.local (PlaceAt W K) (b + length params) is.0
            (wide (length params) is.0 (ap (slice_get (params ++ us)) z ∙ slice_behind params us 0 ∙ ap (λ (q : List ℕ). slice_get q 0) is.1)) (there (length params) (omega arith)),
      )

  left_wide : (W : List ℕ) (b : ℕ) (params us : List ℕ) → Wide W b (params ++ us) → Wide W b params
  left_wide W b params us wide i w is = wide i w (slice_begins params (params ++ us) (begins_append params us) i w is)

  sent_keep : (known W : List ℕ) (a : Answer) (r : Ending) (event b : ℕ) (params us : List ℕ) (delayed : Bool) → slice_get Ev event ≡ Some params → nat_le (length params) 8 ≡ true → Delayed delayed us → Wide W b (params ++ us) →
      (members : List ℕ) (K : List ℕ) → ((i : ℕ) → i < length (params ++ us) → is_in (b + i) K ≡ true) → (rest : List Stmt) → ((K2 : List ℕ) → More K K2 → KeepsBlock (PlaceAt W K2) a r rest) →
      KeepsBlock (PlaceAt W K) a r (sent_to event b (length params) delayed members ++ rest)
  sent_keep known W a r event b params us delayed there short late wide [] K nums rest then_ = then_ K (λ j i. i)
  sent_keep known W a r event b params us delayed there short late wide (m ∷ members) K nums rest then_ =
      let n = length-append params us in
      stmt_nodes.first (PlaceAt W K) a r [] (roll-Stmt (f.to_member event b (length params) delayed m)) (sent_to event b (length params) delayed members ++ rest)
      (stmt_nodes.generate (PlaceAt W K) a event params (f.locals_from b (length params)) (if delayed then Some (local (b + length params)) else None) (Some (roll-Expr (Expr-F.Fixed (bits_of 32 m)))) false
      (record { there = there; few = short }) (locals_keep W K params b (left_wide W b params us wide) (λ i l. nums i (omega arith))) (delay_keeps W K params us b delayed late wide nums) (32, expr_nodes.fixed (PlaceAt W K) (bits_of 32 m)))
      (sent_keep known W a r event b params us delayed there short late wide members (K ++ []) (λ i l. in_first K [] (b + i) (nums i l)) rest (λ K2 more. then_ K2 (λ j i. more j (in_first K [] j i))))

  locals_few : (n b : ℕ) → all_hold (map expr_few (f.locals_from b n)) ≡ true
  locals_few zero b = refl
  locals_few (suc n) b = and_from _ _ (expr_few_at (Expr-F.Local b)) (locals_few n (b + 1))

  delay_few : (b n : ℕ) (delayed : Bool) → all_hold (option_to_list (option_map expr_few (if delayed then Some (local (b + n)) else None))) ≡ true
  delay_few b n true = and_from _ _ (expr_few_at (Expr-F.Local (b + n))) refl
  delay_few b n false = refl

  sent_few : (event b n : ℕ) (delayed : Bool) (members : List ℕ) → all_hold (map stmt_few (sent_to event b n delayed members)) ≡ true
  sent_few event b n delayed [] = refl
  sent_few event b n delayed (m ∷ members) = and_from _ _
      (few_gen event (f.locals_from b n) (if delayed then Some (local (b + n)) else None) (Some (roll-Expr (Expr-F.Fixed (bits_of 32 m)))) false (locals_few n b) (delay_few b n delayed) (and_from _ _ (expr_few_at (Expr-F.Fixed (bits_of 32 m))) refl))
      (sent_few event b n delayed members)

  held_few : (b : ℕ) (xs : List Expr) → all_hold (map expr_few xs) ≡ true → all_hold (map stmt_few (held_by b xs)) ≡ true
  held_few b [] h = refl
  held_few b (x ∷ xs) h = let both = and_parts _ _ h in and_from _ _ (stmt_few_at (Stmt-F.Assign b x) ∙ and_from _ _ both.0 refl) (held_few (b + 1) xs both.1)

  abbrev grouped : ℕ → ℕ → Bool → List ℕ → List (Flatten Expr) → Flatten (List Stmt)
  grouped event n delayed members held = λ q ws. let first = f.each held q ws in record {
    value = map roll-Stmt (map (λ (g : ℕ × Expr). Stmt-F.Assign g.0 g.1) (enumerate_from (length first.locals) first.value) ++ map (f.to_member event (length first.locals) n delayed) members);
    locals = first.locals ++ map (f.width_in first.locals) first.value;
  }

  pub group_kept : (known : List ℕ) (a : Answer) (event : ℕ) (delayed : Bool) (members params us : List ℕ) (hs : List E) → KeptAll known (params ++ us) (f.each (map flat_expr (exprs hs))) → slice_get Ev event ≡ Some params → nat_le (length params) 8 ≡ true →
      Delayed delayed us → (q : Returns) → q.some ≡ false → q.always ≡ false → (n : ℕ) → length params ≡ n → (held : List (Flatten Expr)) → map flat_expr (exprs hs) ≡ held → KeptStmt known a (grouped event n delayed members held) q []
  group_kept known a event delayed members params us hs given there short late q no_some no_always n n_is held held_is =
      subst (λ (ts : List (Flatten Expr)). KeptStmt known a (grouped event n delayed members ts) q []) held_is
      (subst (λ (m : ℕ). KeptStmt known a (grouped event m delayed members (map flat_expr (exprs hs))) q []) n_is (record {
        ending = Never;
        some = sym no_some;
        always = sym no_always;
        last = λ ws here W begins K knows. subst (λ (ss : List Stmt). KeepsBlock (PlaceAt W K) a Never ss) (append-nil _) (before ws here W begins K knows [] Never (λ K2 k. stmt_nodes.empty (PlaceAt W K2) a));
        before = λ on ws here W begins K knows xs r then_. before ws here W begins K knows xs r then_;
        few = λ ws. let first = f.each (map flat_expr (exprs hs)) p ws in
            ap (λ (ss : List Stmt). all_hold (map stmt_few ss)) (split ws) ∙ kept.few_append (held_by (length first.locals) first.value) (sent_to event (length first.locals) (length params) delayed members)
            (held_few (length first.locals) first.value (given.few ws)) (sent_few event (length first.locals) (length params) delayed members);
      }))
    where
      split : (ws : List ℕ) → (grouped event (length params) delayed members (map flat_expr (exprs hs)) p ws).value ≡
          held_by (length (f.each (map flat_expr (exprs hs)) p ws).locals) (f.each (map flat_expr (exprs hs)) p ws).value ++ sent_to event (length (f.each (map flat_expr (exprs hs)) p ws).locals) (length params) delayed members
      split ws = let first = f.each (map flat_expr (exprs hs)) p ws in
          map-append roll-Stmt (map (λ (g : ℕ × Expr). Stmt-F.Assign g.0 g.1) (enumerate_from (length first.locals) first.value)) (map (f.to_member event (length first.locals) (length params) delayed) members)

      before : (ws : List ℕ) → Here ws → (W : List ℕ) → Begins (grouped event (length params) delayed members (map flat_expr (exprs hs)) p ws).locals W → (K : List ℕ) → Knows known K → (xs : List Stmt) (r : Ending) →
          ((K2 : List ℕ) → Knows (known ++ []) K2 → KeepsBlock (PlaceAt W K2) a r xs) → KeepsBlock (PlaceAt W K) a r ((grouped event (length params) delayed members (map flat_expr (exprs hs)) p ws).value ++ xs)
      before ws here W begins K knows xs r then_ =
          let first = f.each (map flat_expr (exprs hs)) p ws in
          let b = length first.locals in
          let own = map (f.width_in first.locals) first.value in
          let widths : own ≡ params ++ us = widths_read first.locals K (params ++ us) first.value (given.keeps ws here first.locals (begins_self first.locals) K knows) in
          let wide : Wide W b (params ++ us) = λ i w is. slice_begins (first.locals ++ own) W begins (b + i) w (slice_behind first.locals own i ∙ ap (λ (z : List ℕ). slice_get z i) widths ∙ is) in
          subst (λ (ss : List Stmt). KeepsBlock (PlaceAt W K) a r (ss ++ xs)) (sym (split ws))
          (subst (λ (ss : List Stmt). KeepsBlock (PlaceAt W K) a r ss) (sym (append_assoc (held_by b first.value) (sent_to event b (length params) delayed members) xs))
          (held_keep known W a r (params ++ us) first.value b K knows (λ K2 k. given.keeps ws here W (begins_then first.locals (first.locals ++ own) W (begins_append first.locals own) begins) K2 k) wide (sent_to event b (length params) delayed members ++ xs)
          (λ K2 more nums. sent_keep known W a r event b params us delayed there short late wide members K2 nums xs
          (λ K3 more2. then_ K3 (λ i is. more2 (p.first + i) (more (p.first + i) (knows i (subst (λ (z : List ℕ). is_in i z ≡ true) (append-nil known) is))))))))

  -- ---- statements

  optional_kept : (known : List ℕ) (o : Option E) → AllTested known (exprs (option_to_list o)) → AllGive s (map answer_of (exprs (option_to_list o))) →
      ((ws : List ℕ) → Here ws → (W : List ℕ) → Begins (f.optional (option_map (λ (e : E). flat_expr e.0) o) p ws).locals W → (K : List ℕ) → Knows known K → MayKeep (PlaceAt W K) (f.optional (option_map (λ (e : E). flat_expr e.0) o) p ws).value)
      × ((ws : List ℕ) → all_hold (option_to_list (option_map expr_few (f.optional (option_map (λ (e : E). flat_expr e.0) o) p ws).value)) ≡ true)
  optional_kept known None h give = (λ ws here W begins K knows. tt, λ ws. refl)
  optional_kept known (Some e) h give =
      let x = e.1 known h.0 (Some give.0.0) give.0.1 in
      (λ ws here W begins K knows. (give.0.0, x.keeps ws here W begins K knows), λ ws. and_from _ _ (x.few ws) refl)

  optional_grows : (o : Option E) (ws : List ℕ) → Begins ws (f.optional (option_map (λ (e : E). flat_expr e.0) o) p ws).locals
  optional_grows None ws = begins_self ws
  optional_grows (Some e) ws = expr_grows e.0 p grow ws

  abbrev operand : Option E → Flatten (Option Expr)
  operand o = f.optional (option_map (λ (e : E). flat_expr e.0) o)

  -- A delay and a target, in either order.
  both_kept : (known : List ℕ) (first : Bool) (d t : Option E) → AllTested known (exprs (option_to_list d)) → AllGive s (map answer_of (exprs (option_to_list d))) → AllTested known (exprs (option_to_list t)) → AllGive s (map answer_of (exprs (option_to_list t))) →
      ((ws : List ℕ) → Here ws → (W : List ℕ) → Begins (f.both first (operand d) (operand t) p ws).locals W → (K : List ℕ) → Knows known K →
      MayKeep (PlaceAt W K) (f.both first (operand d) (operand t) p ws).value.0 × MayKeep (PlaceAt W K) (f.both first (operand d) (operand t) p ws).value.1)
      × ((ws : List ℕ) → (all_hold (option_to_list (option_map expr_few (f.both first (operand d) (operand t) p ws).value.0)) ≡ true) × (all_hold (option_to_list (option_map expr_few (f.both first (operand d) (operand t) p ws).value.1)) ≡ true))
      × ((ws : List ℕ) → Begins ws (f.both first (operand d) (operand t) p ws).locals)
  both_kept known true d t h1 g1 h2 g2 =
      let x = optional_kept known d h1 g1 in
      let y = optional_kept known t h2 g2 in (
        λ ws here W begins K knows. let mid = (operand d p ws).locals in
            (x.0 ws here W (begins_then mid (operand t p mid).locals W (optional_grows t mid) begins) K knows, y.0 mid (here_later ws mid (optional_grows d ws) here) W begins K knows),
        λ ws. (x.1 ws, y.1 (operand d p ws).locals),
        λ ws. let mid = (operand d p ws).locals in begins_then ws mid (operand t p mid).locals (optional_grows d ws) (optional_grows t mid),
      )
  both_kept known false d t h1 g1 h2 g2 =
      let x = optional_kept known d h1 g1 in
      let y = optional_kept known t h2 g2 in (
        λ ws here W begins K knows. let mid = (operand t p ws).locals in
            (x.0 mid (here_later ws mid (optional_grows t ws) here) W begins K knows, y.0 ws here W (begins_then mid (operand d p mid).locals W (optional_grows d mid) begins) K knows),
        λ ws. (x.1 (operand t p ws).locals, y.1 ws),
        λ ws. let mid = (operand t p ws).locals in begins_then ws mid (operand d p mid).locals (optional_grows t ws) (optional_grows d mid),
      )

  alone : (known : List ℕ) (a : Answer) (t : Flatten (List Stmt)) (q : Returns) (assigns : List ℕ) (r : Ending) → on_some_path r ≡ q.some → on_every_path r ≡ q.always →
      (k : List ℕ) → ((i : ℕ) → is_in i assigns ≡ true → is_in (p.first + i) k ≡ true) → (x : List ℕ → Stmt) → ((ws : List ℕ) → (t p ws).value ≡ x ws ∷ []) →
      ((ws : List ℕ) → Here ws → (W : List ℕ) → Begins (t p ws).locals W → (K : List ℕ) → Knows known K → KeepsStmt (PlaceAt W K) a r k (x ws)) → ((ws : List ℕ) → stmt_few (x ws) ≡ true) → KeptStmt known a t q assigns
  alone = kept.alone A Ev Fo p P L Fs all grow stand

  vals-length : (known : List ℕ) (es : List E) (vs : List ℕ) → KeptAll known vs (f.each (map flat_expr (exprs es))) → length vs ≡ length es
  vals-length known es vs h = sym (h.count []) ∙ each-length es []

  split_tests : (known : List ℕ) (es ds : List E) → AllTested known (exprs (es ++ ds)) → AllTested known (exprs es) × AllTested known (exprs ds)
  split_tests known [] ds h = (tt, h)
  split_tests known (e ∷ es) ds h = let rest = split_tests known es ds h.1 in ((h.0, rest.0), rest.1)

  -- The operands of an event: its arguments, its delay and its target.
  abbrev operands : Option E → Option E → List E
  operands d t = option_to_list d ++ option_to_list t

  gen_kept : (known : List ℕ) (a : Answer) (event : ℕ) (es : List E) (d t : Option E) (first : Bool) → AllTested known (exprs es) → AllTested known (exprs (option_to_list d)) → AllTested known (exprs (option_to_list t)) →
      (params : List ℕ) → slice_get Ev event ≡ Some params → nat_le (length params) 8 ≡ true → values (map answer_of (exprs es)) s ≡ Some params →
      AllGive s (map answer_of (exprs (option_to_list d))) → AllGive s (map answer_of (exprs (option_to_list t))) → (q : Returns) → q.some ≡ false → q.always ≡ false →
      KeptStmt known a (f.stmt_step (Stmt-F.Gen event (map flat_expr (exprs es)) (option_map (λ (e : E). flat_expr e.0) d) (option_map (λ (e : E). flat_expr e.0) t) first)) q []
  gen_kept known a event es d t first h1 h2 h3 params there short typed give1 give2 q no_some no_always =
      let args = exprs_kept known es h1 params typed in
      let both = both_kept known first d t h2 give1 h3 give2 in
      alone known a _ q [] Never (sym no_some) (sym no_always) [] (λ i h. nowhere [] (p.first + i) i h)
      (λ ws. let one = f.each (map flat_expr (exprs es)) p ws in let two = f.both first (operand d) (operand t) p one.locals in roll-Stmt (Stmt-F.Gen event one.value two.value.0 two.value.1 first)) (λ ws. refl)
      (λ ws here W begins K knows.
      let one = f.each (map flat_expr (exprs es)) p ws in
      let two = f.both first (operand d) (operand t) p one.locals in
      let others = both.0 one.locals (here_later ws one.locals (exprs_grow (exprs es) p grow ws) here) W begins K knows in
      stmt_nodes.generate (PlaceAt W K) a event params one.value two.value.0 two.value.1 first (record { there = there; few = short })
      (args.keeps ws here W (begins_then one.locals two.locals W (both.2 one.locals) begins) K knows) others.0 others.1)
      (λ ws. let one = f.each (map flat_expr (exprs es)) p ws in let two = f.both first (operand d) (operand t) p one.locals in
      few_gen event one.value two.value.0 two.value.1 first (args.few ws) (both.1 one.locals).0 (both.1 one.locals).1)

  short_event : (es : List E) (params : List ℕ) (n : ℕ) → length params ≡ length es → n ≡ length es → nat_le n 8 ≡ true → nat_le (length params) 8 ≡ true
  short_event es params n e g h = ap (λ (m : ℕ). nat_le m 8) (e ∙ sym g) ∙ h

  limits-length : (es : List E) → length (map expr_limits (exprs es)) ≡ length es
  limits-length es = length-map (exprs es) expr_limits ∙ length-map es (λ (e : E). e.0)

  gen_level : (event : ℕ) (es : List E) (d t : Option E) (first : Bool) (known : List ℕ) (n : Test) (r : Returns) (w : Flow) (l : Bool) (x : Printed) (c : Bool) →
      n ≡ names.stmt_step (Stmt-F.Gen event (map expr_names (exprs es)) (option_map (λ (e : E). expr_names e.0) d) (option_map (λ (e : E). expr_names e.0) t) first) →
      r ≡ returns.stmt_step (Stmt-F.Gen event (map expr_returns (exprs es)) (option_map (λ (e : E). expr_returns e.0) d) (option_map (λ (e : E). expr_returns e.0) t) first) →
      w ≡ flow.stmt_step (Stmt-F.Gen event (map expr_flow (exprs es)) (option_map (λ (e : E). expr_flow e.0) d) (option_map (λ (e : E). expr_flow e.0) t) first) →
      l ≡ limits.stmt_step (Stmt-F.Gen event (map expr_limits (exprs es)) (option_map (λ (e : E). expr_limits e.0) d) (option_map (λ (e : E). expr_limits e.0) t) first) →
      x ≡ texts.stmt_step (Stmt-F.Gen event (map expr_texts (exprs es)) (option_map (λ (e : E). expr_texts e.0) d) (option_map (λ (e : E). expr_texts e.0) t) first) →
      c ≡ syntax.any_stmt (Stmt-F.Gen event (map is_core_expr (exprs es)) (option_map (λ (e : E). is_core_expr e.0) d) (option_map (λ (e : E). is_core_expr e.0) t) first) →
      Tested known n r w l x c → (rs : List Answer) →
      typing.stmt_step (Stmt-F.Gen event (map answer_of (exprs es)) (option_map (λ (e : E). answer_of e.0) d) (option_map (λ (e : E). answer_of e.0) t) first) s ≡ Some rs → (a : Answer) → r.some ≡ false → r.always ≡ false →
      KeptStmt known a (f.stmt_step (Stmt-F.Gen event (map flat_expr (exprs es)) (option_map (λ (e : E). flat_expr e.0) d) (option_map (λ (e : E). flat_expr e.0) t) first)) r []
  gen_level event es d t first known n r w l x c e1 e2 e3 e4 e5 e6 h rs typed a no_some no_always =
      let rule = gen_rule s event (map answer_of (exprs es)) (option_map (λ (e : E). answer_of e.0) d) (option_map (λ (e : E). answer_of e.0) t) first rs typed in
      let limit = and_parts _ _ (sym e4 ∙ h.limited) in
      let tests = tested known (exprs ((es ++ option_to_list d) ++ option_to_list t))
      (ap (λ (ts : List Test). each ts s) (three expr_names) ∙ (and_parts _ _ (sym (ap (λ (z : Test). z s) e1) ∙ h.named)).1)
      (ap (list_all (λ (z : Returns). z.last)) (three expr_returns) ∙ sym (ap (λ (z : Returns). z.last) e2) ∙ h.last)
      (ap (λ (ts : List Flow). flow.all_read_assigned ts known) (three expr_flow) ∙ sym (ap (λ (z : Flow). z.reads_assigned known) e3) ∙ h.reads)
      (ap all_hold (three expr_limits) ∙ limit.1)
      (ap (λ (ts : List Printed). each_filled ts Fo) (three expr_texts) ∙ sym (ap (λ (z : Printed). z Fo) e5) ∙ h.filled)
      (ap all_hold (three is_core_expr) ∙ sym e6 ∙ h.formed) in
      let more = split_tests known (es ++ option_to_list d) (option_to_list t) tests in
      let most = split_tests known es (option_to_list d) more.0 in
      let gives = give_parts s (option_to_list (option_map (λ (e : E). answer_of e.0) d)) (option_to_list (option_map (λ (e : E). answer_of e.0) t)) rule.others in
      let args = exprs_kept known es most.0 rule.params rule.typed in
      gen_kept known a event es d t first most.0 most.1 more.1 rule.params rule.declared (short_event es rule.params (length (map expr_limits (exprs es))) (vals-length known es rule.params args) (limits-length es) limit.0) rule.typed
      (subst (λ (ts : List (Typed Answer)). AllGive s ts) (sym (two answer_of d)) gives.0) (subst (λ (ts : List (Typed Answer)). AllGive s ts) (sym (two answer_of t)) gives.1) r no_some no_always
    where
      two : {B : Type 0} (g : Expr → B) (o : Option E) → map g (exprs (option_to_list o)) ≡ option_to_list (option_map (λ (e : E). g e.0) o)
      two g None = refl
      two g (Some e) = refl

      three : {B : Type 0} (g : Expr → B) → map g (exprs ((es ++ option_to_list d) ++ option_to_list t)) ≡ (map g (exprs es) ++ option_to_list (option_map (λ (e : E). g e.0) d)) ++ option_to_list (option_map (λ (e : E). g e.0) t)
      three {B} g =
          ap (map g) (map-append (λ (e : E). e.0) (es ++ option_to_list d) (option_to_list t)) ∙ map-append g (exprs (es ++ option_to_list d)) (exprs (option_to_list t))
          ∙ ap₂ (λ (xs ys : List B). xs ++ ys) (ap (map g) (map-append (λ (e : E). e.0) es (option_to_list d)) ∙ map-append g (exprs es) (exprs (option_to_list d)) ∙ ap (λ (ys : List B). map g (exprs es) ++ ys) (two g d)) (two g t)

  multi_level : (event : ℕ) (es : List E) (d : Option E) (delayed : Bool) (members : List ℕ) (known : List ℕ) (n : Test) (r : Returns) (w : Flow) (l : Bool) (x : Printed) (c : Bool) →
      n ≡ names.stmt_step (Stmt-F.Multi event (map expr_names (exprs es)) (option_map (λ (e : E). expr_names e.0) d) members) →
      r ≡ returns.stmt_step (Stmt-F.Multi event (map expr_returns (exprs es)) (option_map (λ (e : E). expr_returns e.0) d) members) →
      w ≡ flow.stmt_step (Stmt-F.Multi event (map expr_flow (exprs es)) (option_map (λ (e : E). expr_flow e.0) d) members) →
      l ≡ limits.stmt_step (Stmt-F.Multi event (map expr_limits (exprs es)) (option_map (λ (e : E). expr_limits e.0) d) members) →
      x ≡ texts.stmt_step (Stmt-F.Multi event (map expr_texts (exprs es)) (option_map (λ (e : E). expr_texts e.0) d) members) →
      c ≡ syntax.any_stmt (Stmt-F.Multi event (map is_core_expr (exprs es)) (option_map (λ (e : E). is_core_expr e.0) d) members) →
      Tested known n r w l x c → (rs : List Answer) → typing.stmt_step (Stmt-F.Multi event (map answer_of (exprs es)) (option_map (λ (e : E). answer_of e.0) d) members) s ≡ Some rs → (a : Answer) → r.some ≡ false → r.always ≡ false →
      is_some d ≡ delayed → (held : List (Flatten Expr)) → map flat_expr (exprs (es ++ option_to_list d)) ≡ held → KeptStmt known a (grouped event (length (map flat_expr (exprs es))) delayed members held) r []
  multi_level event es d delayed members known n r w l x c e1 e2 e3 e4 e5 e6 h rs typed a no_some no_always late held held_is =
      let rule = multi_rule s event (map answer_of (exprs es)) (option_map (λ (e : E). answer_of e.0) d) members rs typed in
      let limit = and_parts _ _ (sym e4 ∙ h.limited) in
      let tests = tested known (exprs (es ++ option_to_list d))
      (ap (λ (ts : List Test). each ts s) (join expr_names) ∙ (and_parts _ _ (sym (ap (λ (z : Test). z s) e1) ∙ h.named)).1)
      (ap (list_all (λ (z : Returns). z.last)) (join expr_returns) ∙ sym (ap (λ (z : Returns). z.last) e2) ∙ h.last)
      (ap (λ (ts : List Flow). flow.all_read_assigned ts known) (join expr_flow) ∙ sym (ap (λ (z : Flow). z.reads_assigned known) e3) ∙ h.reads)
      (ap all_hold (join expr_limits) ∙ limit.1)
      (ap (λ (ts : List Printed). each_filled ts Fo) (join expr_texts) ∙ sym (ap (λ (z : Printed). z Fo) e5) ∙ h.filled)
      (ap all_hold (join is_core_expr) ∙ sym e6 ∙ h.formed) in
      let args = exprs_kept known es (split_tests known es (option_to_list d) tests).0 rule.params rule.typed in
      let late2 = delay_widths d delayed late rule.others in
      let whole = exprs_kept known (es ++ option_to_list d) tests (rule.params ++ late2.0) (ap (λ (ts : List (Typed Answer)). values ts s) (join answer_of) ∙ joined_values (map answer_of (exprs es)) (option_to_list (option_map (λ (e : E). answer_of e.0) d)) rule.params late2.0 rule.typed late2.1) in
      let many = vals-length known es rule.params args in
      group_kept known a event delayed members rule.params late2.0 (es ++ option_to_list d) whole rule.declared (short_event es rule.params (length (map expr_limits (exprs es))) many (limits-length es) (and_parts _ _ limit.0).0)
      late2.2 r no_some no_always (length (map flat_expr (exprs es))) (many ∙ sym (length-map es (λ (e : E). e.0)) ∙ sym (length-map (exprs es) flat_expr)) held held_is
    where
      two : {B : Type 0} (g : Expr → B) (o : Option E) → map g (exprs (option_to_list o)) ≡ option_to_list (option_map (λ (e : E). g e.0) o)
      two g None = refl
      two g (Some e) = refl

      join : {B : Type 0} (g : Expr → B) → map g (exprs (es ++ option_to_list d)) ≡ map g (exprs es) ++ option_to_list (option_map (λ (e : E). g e.0) d)
      join {B} g = ap (map g) (map-append (λ (e : E). e.0) es (option_to_list d)) ∙ map-append g (exprs es) (exprs (option_to_list d)) ∙ ap (λ (ys : List B). map g (exprs es) ++ ys) (two g d)

      delay_widths : (o : Option E) (b : Bool) → is_some o ≡ b → AllGive s (option_to_list (option_map (λ (e : E). answer_of e.0) o)) →
          (us : List ℕ) × (values (option_to_list (option_map (λ (e : E). answer_of e.0) o)) s ≡ Some us) × Delayed b us
      delay_widths None true e give = absurd (cc)
      delay_widths None false e give = ([], refl, refl)
      delay_widths (Some g) true e give = (give.0.0 ∷ [], rw give.0.1 refl, (give.0.0, refl))
      delay_widths (Some g) false e give = absurd (cc)

      joined_values : (xs ys : List (Typed Answer)) (vs us : List ℕ) → values xs s ≡ Some vs → values ys s ≡ Some us → values (xs ++ ys) s ≡ Some (vs ++ us)
      joined_values [] ys vs us h1 h2 = let e : [] ≡ vs = cc in subst (λ (q : List ℕ). values ys s ≡ Some (q ++ us)) e h2
      joined_values (y ∷ xs) ys vs us h1 h2 =
          let rule = values_rule s y xs vs h1 in
          subst (λ (q : List ℕ). values (y ∷ (xs ++ ys)) s ≡ Some (q ++ us)) (sym rule.2.2) (rw (rule.1, joined_values xs ys rule.2.0 us rule.2.1 h2) refl)

  pub stmt_level : (y : Stmt-F E S T) (known : List ℕ) → StmtAt known (stmt_tree y) → (rs : List Answer) →
      typing.stmt_step (map-Stmt Expr Stmt Touch (Typed Answer) (Typed (List Answer)) (Typed Answer) answer_of returns_of touch_answer (stmt_tree y)) s ≡ Some rs → (a : Answer) → list_all (option_eq nat_eq a) rs ≡ true →
      KeptStmt known a (flat_s (stmt_tree y)) (returns.stmt_step (map-Stmt Expr Stmt Touch Returns Returns Returns expr_returns stmt_returns touch_returns (stmt_tree y))) (flow.stmt_step (map-Stmt Expr Stmt Touch Flow Flow Flow expr_flow stmt_flow touch_flow (stmt_tree y))).assigns
  stmt_level (Stmt-F.Assign i e) known h rs typed a only =
      let rule = assign_rule s i (answer_of e.0) rs typed in
      let x = e.1 known (record { named = (and_parts _ _ h.named).1; last = (and_parts _ _ h.last).0; reads = h.reads; limited = (and_parts _ _ h.limited).0; filled = (and_parts _ _ h.filled).0; formed = (and_parts _ _ h.formed).0 }) (Some rule.0) rule.1 in
      alone known a _ _ (i ∷ []) Never refl refl ((p.first + i) ∷ []) (λ k is. same k (or_cases _ _ is)) (λ ws. roll-Stmt (Stmt-F.Assign (p.first + i) (flat_expr e.0 p ws).value)) (λ ws. refl)
      (λ ws here W begins K knows. stmt_nodes.assign (PlaceAt W K) a (p.first + i) rule.0 _ (slice_begins ws W (begins_then ws (flat_expr e.0 p ws).locals W (expr_grows e.0 p grow ws) begins) (p.first + i) rule.0 (here i rule.0 rule.2)) (x.keeps ws here W begins K knows))
      (λ ws. stmt_few_at (Stmt-F.Assign (p.first + i) (flat_expr e.0 p ws).value) ∙ and_from _ _ (x.few ws) refl)
    where
      same : (k : ℕ) → (nat_eq i k ≡ true) ⊎ (is_in k [] ≡ true) → is_in (p.first + k) ((p.first + i) ∷ []) ≡ true
      same k (inl e2) = let q = eqb-true i k e2 in or_left _ _ (eq-eqb (p.first + i) (p.first + k) (omega arith))
      same k (inr e2) = absurd (cc)
  stmt_level (Stmt-F.Drop e) known h rs typed a only =
      let rule = drop_rule s (answer_of e.0) rs typed in
      let x = e.1 known (tested known (e.0 ∷ []) h.named h.last h.reads h.limited h.filled h.formed).0 rule.0 rule.1 in
      alone known a _ _ [] Never refl refl [] (λ i is. nowhere [] (p.first + i) i is) (λ ws. roll-Stmt (Stmt-F.Drop (flat_expr e.0 p ws).value)) (λ ws. refl)
      (λ ws here W begins K knows. stmt_nodes.drop_value (PlaceAt W K) a rule.0 _ (x.keeps ws here W begins K knows))
      (λ ws. stmt_few_at (Stmt-F.Drop (flat_expr e.0 p ws).value) ∙ and_from _ _ (x.few ws) refl)
  stmt_level (Stmt-F.If e es gs) known h rs typed a only =
      let rule = if_rule s (answer_of e.0) (map returns_of (stmts es)) (map returns_of (stmts gs)) rs typed in
      let onlys = both_pass (option_eq nat_eq a) (joined rule.first) (joined rule.second) (subst (λ (q : List Answer). list_all (option_eq nat_eq a) q ≡ true) rule.returns only) in
      let named = and_parts _ _ h.named in
      let names2 = both_pass (λ (test : Test). test s) (map stmt_names (stmts es)) (map stmt_names (stmts gs)) named.1 in
      let last = and_parts _ _ h.last in
      let last2 = and_parts _ _ last.0 in
      let reads = and_parts _ _ h.reads in
      let reads2 = and_parts _ _ reads.0 in
      let limit = and_parts _ _ h.limited in
      let limits2 = both_pass (λ (b : Bool). b) (map stmt_limits (stmts es)) (map stmt_limits (stmts gs)) limit.1 in
      let filled = and_parts _ _ h.filled in
      let filled2 = both_pass (λ (test : Printed). test Fo) (map stmt_texts (stmts es)) (map stmt_texts (stmts gs)) filled.1 in
      let formed = and_parts _ _ h.formed in
      let formed2 = both_pass (λ (b : Bool). b) (map is_core_stmt (stmts es)) (map is_core_stmt (stmts gs)) formed.1 in
      let x = e.1 known (record { named = named.0; last = last2.0; reads = reads2.0; limited = limit.0; filled = filled.0; formed = formed.0 }) (Some 1) rule.condition in
      let u = kept.block_kept A Ev Fo p P L Fs all grow stand known es (record { named = names2.0; last = last2.1; reads = reads2.1; limited = limits2.0; filled = filled2.0; formed = formed2.0 }) rule.first rule.typed a onlys.0 in
      let v = kept.block_kept A Ev Fo p P L Fs all grow stand known gs (record { named = names2.1; last = last.1; reads = reads.1; limited = limits2.1; filled = filled2.1; formed = formed2.1 }) rule.second rule.typed_too a onlys.1 in
      alone known a _ _ [] (of_either u.ending v.ending) (on_some_of u.ending v.ending ∙ ap₂ (λ (c d : Bool). c || d) u.some v.some) (on_every_of u.ending v.ending ∙ ap₂ (λ (c d : Bool). c && d) u.always v.always)
      [] (λ i is. nowhere [] (p.first + i) i is)
      (λ ws. let one = flat_expr e.0 p ws in let two = f.block (map flat_stmt (stmts es)) p one.locals in let three = f.block (map flat_stmt (stmts gs)) p two.locals in roll-Stmt (Stmt-F.If one.value two.value three.value)) (λ ws. refl)
      (λ ws here W begins K knows.
      let one = flat_expr e.0 p ws in
      let two = f.block (map flat_stmt (stmts es)) p one.locals in
      let three = f.block (map flat_stmt (stmts gs)) p two.locals in
      let here1 = here_later ws one.locals (expr_grows e.0 p grow ws) here in
      let end2 = begins_then two.locals three.locals W (stmts_grow (stmts gs) p grow two.locals) begins in
      stmt_nodes.choose (PlaceAt W K) a u.ending v.ending one.value two.value three.value (x.keeps ws here W (begins_then one.locals two.locals W (stmts_grow (stmts es) p grow one.locals) end2) K knows)
      (u.keeps one.locals here1 W end2 K knows) (v.keeps two.locals (here_later one.locals two.locals (stmts_grow (stmts es) p grow one.locals) here1) W begins K knows))
      (λ ws. let one = flat_expr e.0 p ws in let two = f.block (map flat_stmt (stmts es)) p one.locals in let three = f.block (map flat_stmt (stmts gs)) p two.locals in
      stmt_few_at (Stmt-F.If one.value two.value three.value) ∙ and_from _ _ (x.few ws) (both_hold (map stmt_few two.value) (map stmt_few three.value) (u.few one.locals) (v.few two.locals)))
  stmt_level (Stmt-F.Gen event es None None first) known h rs typed a only = gen_level event es None None first known _ _ _ _ _ _ refl refl refl refl refl refl h rs typed a refl refl
  stmt_level (Stmt-F.Gen event es None (Some t) first) known h rs typed a only = gen_level event es None (Some t) first known _ _ _ _ _ _ refl refl refl refl refl refl h rs typed a refl refl
  stmt_level (Stmt-F.Gen event es (Some d) None first) known h rs typed a only = gen_level event es (Some d) None first known _ _ _ _ _ _ refl refl refl refl refl refl h rs typed a refl refl
  stmt_level (Stmt-F.Gen event es (Some d) (Some t) first) known h rs typed a only = gen_level event es (Some d) (Some t) first known _ _ _ _ _ _ refl refl refl refl refl refl h rs typed a refl refl
  stmt_level (Stmt-F.Multi event es None members) known h rs typed a only =
      multi_level event es None false members known _ _ _ _ _ _ refl refl refl refl refl refl h rs typed a refl refl refl (map flat_expr (exprs es) ++ []) (ap (map flat_expr) (map-append (λ (e : E). e.0) es []) ∙ map-append flat_expr (exprs es) [])
  stmt_level (Stmt-F.Multi event es (Some d) members) known h rs typed a only =
      multi_level event es (Some d) true members known _ _ _ _ _ _ refl refl refl refl refl refl h rs typed a refl refl refl (map flat_expr (exprs es) ++ flat_expr d.0 ∷ []) (ap (map flat_expr) (map-append (λ (e : E). e.0) es (d ∷ [])) ∙ map-append flat_expr (exprs es) (d.0 ∷ []))
  stmt_level (Stmt-F.Say form es) known h rs typed a only =
      let rule = say_rule s form (map answer_of (exprs es)) rs typed in
      let filled = and_parts _ _ h.filled in
      let limit = and_parts _ _ h.limited in
      let text = there_filled (slice_get Fo form) (length (map expr_texts (exprs es))) filled.0 in
      let args = exprs_kept known es (tested known (exprs es) (and_parts _ _ h.named).1 h.last h.reads limit.1 filled.1 h.formed) rule.0 rule.1 in
      alone known a _ _ [] Never refl refl [] (λ i is. nowhere [] (p.first + i) i is) (λ ws. roll-Stmt (Stmt-F.Say form (f.each (map flat_expr (exprs es)) p ws).value)) (λ ws. refl)
      (λ ws here W begins K knows. stmt_nodes.say (PlaceAt W K) a form text.0 rule.0 _ text.1 (each-length es ws ∙ sym (length-map es (λ (e : E). e.0)) ∙ sym (length-map (exprs es) expr_texts) ∙ text.2) (args.keeps ws here W begins K knows))
      (λ ws. stmt_few_at (Stmt-F.Say form (f.each (map flat_expr (exprs es)) p ws).value)
      ∙ and_from _ _ (ap (λ (n : ℕ). nat_le n 8) (length-map (f.each (map flat_expr (exprs es)) p ws).value expr_few ∙ each-length es ws ∙ sym (limits-length es)) ∙ limit.0) (args.few ws))
  stmt_level (Stmt-F.Return None) known h rs typed a only =
      let e : rs ≡ None ∷ [] = cc in
      let is : a ≡ None = is_none a (and_parts _ _ (subst (λ (q : List Answer). list_all (option_eq nat_eq a) q ≡ true) e only)).0 in
      alone known a _ _ [] Always refl refl [] (λ i q. nowhere [] (p.first + i) i q) (λ ws. roll-Stmt (Stmt-F.Return None)) (λ ws. refl)
      (λ ws here W begins K knows. subst (λ (b : Answer). KeepsStmt (PlaceAt W K) b Always [] (roll-Stmt (Stmt-F.Return None))) (sym is) (stmt_nodes.return_nothing (PlaceAt W K))) (λ ws. stmt_few_at (Stmt-F.Return None))
  stmt_level (Stmt-F.Return (Some e)) known h rs typed a only =
      let rule = return_rule s (answer_of e.0) rs typed in
      let is : a ≡ Some rule.0 = is_this a rule.0 (and_parts _ _ (subst (λ (q : List Answer). list_all (option_eq nat_eq a) q ≡ true) rule.2 only)).0 in
      let x = e.1 known (tested known (e.0 ∷ []) h.named h.last h.reads h.limited h.filled h.formed).0 (Some rule.0) rule.1 in
      alone known a _ _ [] Always refl refl [] (λ i q. nowhere [] (p.first + i) i q) (λ ws. roll-Stmt (Stmt-F.Return (Some (flat_expr e.0 p ws).value))) (λ ws. refl)
      (λ ws here W begins K knows. subst (λ (b : Answer). KeepsStmt (PlaceAt W K) b Always [] (roll-Stmt (Stmt-F.Return (Some (flat_expr e.0 p ws).value)))) (sym is) (stmt_nodes.return_value (PlaceAt W K) rule.0 _ (x.keeps ws here W begins K knows)))
      (λ ws. stmt_few_at (Stmt-F.Return (Some (flat_expr e.0 p ws).value)) ∙ and_from _ _ (x.few ws) refl)
