-- The flat form of a part of a body keeps the rules of a valid program if the part does: the meaning at a site.
use Rattle.std.proofs.Common.{◌≡◌, ◌⊎◌, inl, inr, ℕ, zero, suc, ◌+◌, ◌<◌, ◌≤◌, List, [], ◌∷◌, ◌++◌, Bool, true, false, not, ◌||◌, is_some, Some, length, map, refl, sym, ap, subst, ◌∙◌, append-nil, nat_eq, slice_get, slice_index}
use Rattle.std.specs.List.{list_all}
use Rattle.std.specs.Option.{option_eq}
use Rattle.std.proofs.lemmas.Bool.{and_from, and_parts}
use Rattle.std.proofs.lemmas.List.{map-append}
use Rattle.std.proofs.lemmas.List.Folds.{list_all-append}
use Rattle.lucid_base.specs.declared.array.ArrayName.{ArrayName}
use Rattle.lucid_base.specs.declared.array.ArrayName.TheVariants.{Global, Param}
use Rattle.lucid_core.specs.declared.body.Expr.{Expr}
use Rattle.lucid_core.specs.declared.body.Stmt.{Stmt}
use Rattle.lucid_core.specs.declared.body.Touch.{Touch}
use Rattle.lucid_core.specs.declared.defs.FunDef.{FunDef}
use Rattle.lucid_core.specs.Computations.{array_of}
use Rattle.lucid_core.specs.Assigned.{Flow, all_read_assigned, block_reads_assigned, expr_flow, stmt_flow, touch_flow}
use Rattle.lucid_core.specs.Limits.{expr_limits, stmt_limits, touch_limits}
use Rattle.lucid_core.specs.Names.{expr_names, stmt_names, touch_names}
use Rattle.lucid_base.specs.Numbers.{is_in}
use Rattle.lucid_core.specs.Numbers.{all_hold}
use Rattle.lucid_core.specs.Returns.{Returns, block_returns, expr_returns, stmt_returns, touch_returns}
use Rattle.lucid_core.specs.Scope.{Scope, Test, each}
use Rattle.lucid_core.specs.Syntax.{is_core_expr, is_core_stmt, is_core_touch}
use Rattle.lucid_core.specs.Texts.{Printed, each_filled, expr_texts, stmt_texts, touch_texts}
use Rattle.lucid_core.specs.Typing.{Answer, all_typed, answer_of, cell_width, joined, returns_of, touch_answer, values}
use Rattle.lucid_core.proofs.Pairwise.{Pairwise}
use Rattle.lucid_core.proofs.TypingRules.{all_rule, values_rule}
use Rattle.lucid_core.specs.declared.ending.Ending.{Ending}
use Rattle.lucid_core.specs.declared.ending.Ending.TheVariants.{Never, Sometimes, Always}
use Rattle.lucid_core.specs.Endings.{on_every_path, on_some_path}
use Rattle.lucid_core.specs.Few.{expr_few, stmt_few, touch_few}
use Rattle.lucid_core_laws.specs.Keeps.{KeepsAll, KeepsBlock, KeepsExpr, KeepsStmt, KeepsTouch}
use Rattle.lucid_core_laws.specs.Place.{Place}
use Rattle.lucid_core.proofs.Fine.{both_pass}
use Rattle.lucid_core_laws.proofs.Statements.{stmt_nodes}
use Rattle.lucid_inline_spec.specs.Flat as f
use Rattle.lucid_inline_spec.specs.Flat.{Flatten, Flattened, PutIn, Site, flat_expr, flat_stmt, flat_touch}
use Rattle.lucid_inline_spec.proofs.Grows.{AllGrow, expr_grows, exprs_grow, stmt_grows, stmts_grow}
use Rattle.lucid_inline_spec.proofs.Locals.{Begins, begins_then}
use Rattle.lucid_base.proofs.NumbersLemmas.{in_either, in_first, in_second}
use Rattle.lucid_inline_spec.proofs.Numbered.{slice_begins}

-- ---- endings

pub never_returns : (r : Ending) → on_some_path r ≡ false → r ≡ Never
never_returns Never h = refl
never_returns Sometimes h = absurd (cc)
never_returns Always h = absurd (cc)

pub goes_on : (r : Ending) → on_some_path r ≡ false → on_every_path r ≡ false
goes_on Never h = refl
goes_on Sometimes h = refl
goes_on Always h = absurd (cc)

pub or_false : (b : Bool) → b ≡ (b || false)
or_false true = refl
or_false false = refl

pub not_some : (b : Bool) → (not b || false) ≡ true → b ≡ false
not_some true h = absurd (cc)
not_some false h = refl

pub few_append : (xs ys : List Stmt) → all_hold (map stmt_few xs) ≡ true → all_hold (map stmt_few ys) ≡ true → all_hold (map stmt_few (xs ++ ys)) ≡ true
few_append xs ys h k = ap all_hold (map-append stmt_few xs ys) ∙ list_all-append (λ b. b) (map stmt_few xs) (map stmt_few ys) ∙ and_from _ _ h k

-- ---- a site, in a program of these arrays, events and texts

module _ (A : List ℕ) (Ev Fo : List (List ℕ)) where
  abbrev pub flat_place : List ℕ → List ℕ → Place
  flat_place W K = record { scope = record { arrays = A; params = []; locals = W; events = Ev; forms = Fo; funs = [] }; known = K; flat = true }

  -- Arrays of these cell widths are passed for array parameters.
  abbrev pub Stand : List ℕ → List ℕ → Type 0
  Stand params arrays = (i w : ℕ) → slice_get params i ≡ Some w → slice_get A (slice_index arrays i) ≡ Some w

  -- A function's inlined body keeps the rules.
  pub record PutKeeps (d : FunDef) (put : PutIn) : Type 0 where
    pub params : d.params ≤ length d.locals
    pub begins : (arrays ws : List ℕ) → Begins (ws ++ d.locals) (put arrays ws).locals
    pub body : (arrays ws : List ℕ) → Stand d.arrays arrays → (W : List ℕ) → Begins (put arrays ws).locals W → (K : List ℕ) → ((i : ℕ) → i < d.params → is_in (length ws + i) K ≡ true) →
        (r : Ending) × (is_some d.answer ≡ true → on_every_path r ≡ true) × KeepsBlock (flat_place W K) d.answer r (put arrays ws).value
    pub few : (arrays ws : List ℕ) → Stand d.arrays arrays → all_hold (map stmt_few (put arrays ws).value) ≡ true

  pub found : (ds : List FunDef) (ps : List PutIn) → Pairwise PutKeeps ds ps → (k : ℕ) (d : FunDef) → slice_get ds k ≡ Some d → (put : PutIn) × (slice_get ps k ≡ Some put) × PutKeeps d put
  found [] [] all k d h = absurd (cc)
  found (e ∷ ds) (put ∷ ps) all zero d h = let same : e ≡ d = cc in (put, refl, subst (λ (x : FunDef). PutKeeps x put) same all.0)
  found (e ∷ ds) (put ∷ ps) all (suc k) d h = found ds ps all.1 k d h
  found [] (put ∷ ps) all k d h = absurd all
  found (e ∷ ds) [] all k d h = absurd all

  -- A body with these array parameters, locals and functions before it.
  module _ (p : Site) (P L : List ℕ) (Fs : List FunDef) (all : Pairwise PutKeeps Fs p.funs) (grow : AllGrow p.funs) (stand : Stand P p.arrays) where
    abbrev pub core_scope : Scope
    core_scope = record { arrays = A; params = P; locals = L; events = Ev; forms = Fo; funs = Fs }

    -- The body's locals have their widths.
    abbrev pub Here : List ℕ → Type 0
    Here ws = (i w : ℕ) → slice_get L i ≡ Some w → slice_get ws (p.first + i) ≡ Some w

    pub here_later : (ws us : List ℕ) → Begins ws us → Here ws → Here us
    here_later ws us b h i w is = slice_begins ws us b (p.first + i) w (h i w is)

    -- The locals assigned in the body are assigned here.
    abbrev pub Knows : List ℕ → List ℕ → Type 0
    Knows known K = (i : ℕ) → is_in i known ≡ true → is_in (p.first + i) K ≡ true

    pub knows_both : (known K xs ys : List ℕ) → Knows known K → ((i : ℕ) → is_in i xs ≡ true → is_in (p.first + i) ys ≡ true) → Knows (known ++ xs) (K ++ ys)
    knows_both known K xs ys h more i is = of (in_either known xs i is)
      where
        of : (is_in i known ≡ true) ⊎ (is_in i xs ≡ true) → is_in (p.first + i) (K ++ ys) ≡ true
        of (inl e) = in_first K ys (p.first + i) (h i e)
        of (inr e) = in_second K ys (p.first + i) (more i e)

    pub array_stands : (name : ArrayName) (w : ℕ) → cell_width name core_scope ≡ Some w → slice_get A (array_of p.arrays name) ≡ Some w
    array_stands (Global a) w h = h
    array_stands (Param i) w h = stand i w h

    -- The rules except for widths, for a part of the body after these assignments.
    pub record Tested (known : List ℕ) (names : Test) (returns : Returns) (flow : Flow) (limits : Bool) (texts : Printed) (syntax : Bool) : Type 0 where
      pub named : names core_scope ≡ true
      pub last : returns.last ≡ true
      pub reads : flow.reads_assigned known ≡ true
      pub limited : limits ≡ true
      pub filled : texts Fo ≡ true
      pub formed : syntax ≡ true

    abbrev pub ExprTested : List ℕ → Expr → Type 0
    ExprTested known e = Tested known (expr_names e) (expr_returns e) (expr_flow e) (expr_limits e) (expr_texts e) (is_core_expr e)

    abbrev pub TouchTested : List ℕ → Touch → Type 0
    TouchTested known e = Tested known (touch_names e) (touch_returns e) (touch_flow e) (touch_limits e) (touch_texts e) (is_core_touch e)

    abbrev pub StmtTested : List ℕ → Stmt → Type 0
    StmtTested known e = Tested known (stmt_names e) (stmt_returns e) (stmt_flow e) (stmt_limits e) (stmt_texts e) (is_core_stmt e)

    abbrev pub AllTested : List ℕ → List Expr → Type 0
    AllTested known [] = Unit {0}
    AllTested known (e ∷ es) = ExprTested known e × AllTested known es

    pub tested : (known : List ℕ) (es : List Expr) → each (map expr_names es) core_scope ≡ true → list_all (λ r. r.last) (map expr_returns es) ≡ true → all_read_assigned (map expr_flow es) known ≡ true →
        all_hold (map expr_limits es) ≡ true → each_filled (map expr_texts es) Fo ≡ true → all_hold (map is_core_expr es) ≡ true → AllTested known es
    tested known [] h1 h2 h3 h4 h5 h6 = tt
    tested known (e ∷ es) h1 h2 h3 h4 h5 h6 =
        let a = and_parts _ _ h1 in
        let b = and_parts _ _ h2 in
        let c = and_parts _ _ h3 in
        let d = and_parts _ _ h4 in
        let g = and_parts _ _ h5 in
        let h = and_parts _ _ h6 in
        (record { named = a.0; last = b.0; reads = c.0; limited = d.0; filled = g.0; formed = h.0 }, tested known es a.1 b.1 c.1 d.1 g.1 h.1)

    pub record BlockTested (known : List ℕ) (ss : List Stmt) : Type 0 where
      pub named : each (map stmt_names ss) core_scope ≡ true
      pub last : (block_returns (map stmt_returns ss)).last ≡ true
      pub reads : block_reads_assigned (map stmt_flow ss) known ≡ true
      pub limited : all_hold (map stmt_limits ss) ≡ true
      pub filled : each_filled (map stmt_texts ss) Fo ≡ true
      pub formed : all_hold (map is_core_stmt ss) ≡ true

    -- The flat form of a part keeps the rules, for any locals added later and any other assignments.
    pub record KeptExpr (known : List ℕ) (a : Answer) (t : Flatten Expr) : Type 0 where
      pub keeps : (ws : List ℕ) → Here ws → (W : List ℕ) → Begins (t p ws).locals W → (K : List ℕ) → Knows known K → KeepsExpr (flat_place W K) a (t p ws).value
      pub few : (ws : List ℕ) → expr_few (t p ws).value ≡ true

    pub record KeptTouch (known : List ℕ) (a : Answer) (t : Flatten Touch) : Type 0 where
      pub keeps : (ws : List ℕ) → Here ws → (W : List ℕ) → Begins (t p ws).locals W → (K : List ℕ) → Knows known K → KeepsTouch (flat_place W K) a (t p ws).value
      pub few : (ws : List ℕ) → touch_few (t p ws).value ≡ true

    -- Values of these widths.
    pub record KeptAll (known vs : List ℕ) (t : Flatten (List Expr)) : Type 0 where
      pub keeps : (ws : List ℕ) → Here ws → (W : List ℕ) → Begins (t p ws).locals W → (K : List ℕ) → Knows known K → KeepsAll (flat_place W K) vs (t p ws).value
      pub few : (ws : List ℕ) → all_hold (map expr_few (t p ws).value) ≡ true
      pub count : (ws : List ℕ) → length (t p ws).value ≡ length vs

    -- Statements whose returns give this: as the last of a block, and before others.
    pub record KeptStmt (known : List ℕ) (a : Answer) (t : Flatten (List Stmt)) (returns : Returns) (assigns : List ℕ) : Type 0 where
      pub ending : Ending
      pub some : on_some_path ending ≡ returns.some
      pub always : on_every_path ending ≡ returns.always
      pub last : (ws : List ℕ) → Here ws → (W : List ℕ) → Begins (t p ws).locals W → (K : List ℕ) → Knows known K → KeepsBlock (flat_place W K) a ending (t p ws).value
      pub before : returns.some ≡ false → (ws : List ℕ) → Here ws → (W : List ℕ) → Begins (t p ws).locals W → (K : List ℕ) → Knows known K → (xs : List Stmt) (r : Ending) →
          ((K2 : List ℕ) → Knows (known ++ assigns) K2 → KeepsBlock (flat_place W K2) a r xs) → KeepsBlock (flat_place W K) a r ((t p ws).value ++ xs)
      pub few : (ws : List ℕ) → all_hold (map stmt_few (t p ws).value) ≡ true

    pub record KeptBlock (known : List ℕ) (a : Answer) (t : Flatten (List Stmt)) (returns : Returns) : Type 0 where
      pub ending : Ending
      pub some : on_some_path ending ≡ returns.some
      pub always : on_every_path ending ≡ returns.always
      pub keeps : (ws : List ℕ) → Here ws → (W : List ℕ) → Begins (t p ws).locals W → (K : List ℕ) → Knows known K → KeepsBlock (flat_place W K) a ending (t p ws).value
      pub few : (ws : List ℕ) → all_hold (map stmt_few (t p ws).value) ≡ true

    -- A part that becomes one statement, which assigns these.
    pub alone : (known : List ℕ) (a : Answer) (t : Flatten (List Stmt)) (returns : Returns) (assigns : List ℕ) (r : Ending) → on_some_path r ≡ returns.some → on_every_path r ≡ returns.always →
        (k : List ℕ) → ((i : ℕ) → is_in i assigns ≡ true → is_in (p.first + i) k ≡ true) → (x : List ℕ → Stmt) → ((ws : List ℕ) → (t p ws).value ≡ x ws ∷ []) →
        ((ws : List ℕ) → Here ws → (W : List ℕ) → Begins (t p ws).locals W → (K : List ℕ) → Knows known K → KeepsStmt (flat_place W K) a r k (x ws)) → ((ws : List ℕ) → stmt_few (x ws) ≡ true) →
        KeptStmt known a t returns assigns
    alone known a t returns assigns r some always k assigned x is keeps few = record {
      ending = r;
      some = some;
      always = always;
      last = λ ws here W begins K knows. subst (λ (ss : List Stmt). KeepsBlock (flat_place W K) a r ss) (sym (is ws)) (stmt_nodes.last (flat_place W K) a r k (x ws) (keeps ws here W begins K knows));
      before = λ on ws here W begins K knows xs q rest.
          subst (λ (ss : List Stmt). KeepsBlock (flat_place W K) a q (ss ++ xs)) (sym (is ws))
          (stmt_nodes.first (flat_place W K) a q k (x ws) xs (subst (λ (e : Ending). KeepsStmt (flat_place W K) a e k (x ws)) (never_returns r (some ∙ on)) (keeps ws here W begins K knows))
          (rest (K ++ k) (knows_both known K assigns k knows assigned)));
      few = λ ws. subst (λ (ss : List Stmt). all_hold (map stmt_few ss) ≡ true) (sym (is ws)) (and_from _ _ (few ws) refl);
    }

    -- Trees of which it holds.
    abbrev pub ExprKeeps : Expr → Type 0
    ExprKeeps e = (known : List ℕ) → ExprTested known e → (a : Answer) → answer_of e core_scope ≡ Some a → KeptExpr known a (flat_expr e)

    abbrev pub TouchKeeps : Touch → Type 0
    TouchKeeps e = (known : List ℕ) → TouchTested known e → (a : Answer) → touch_answer e core_scope ≡ Some a → KeptTouch known a (flat_touch e)

    abbrev pub StmtKeeps : Stmt → Type 0
    StmtKeeps e = (known : List ℕ) → StmtTested known e → (rs : List Answer) → returns_of e core_scope ≡ Some rs → (a : Answer) → list_all (option_eq nat_eq a) rs ≡ true →
        KeptStmt known a (flat_stmt e) (stmt_returns e) (stmt_flow e).assigns

    abbrev pub E : Type 0
    E = (e : Expr) × ExprKeeps e

    abbrev pub S : Type 0
    S = (e : Stmt) × StmtKeeps e

    abbrev pub T : Type 0
    T = (e : Touch) × TouchKeeps e

    abbrev pub exprs : List E → List Expr
    exprs es = map (λ (e : E). e.0) es

    abbrev pub stmts : List S → List Stmt
    stmts es = map (λ (e : S). e.0) es

    pub exprs_kept : (known : List ℕ) (es : List E) → AllTested known (exprs es) → (vs : List ℕ) → values (map answer_of (exprs es)) core_scope ≡ Some vs → KeptAll known vs (f.each (map flat_expr (exprs es)))
    exprs_kept known [] h vs typed =
        let e : [] ≡ vs = cc in
        subst (λ (q : List ℕ). KeptAll known q (f.each (map flat_expr (exprs [])))) e (record { keeps = λ ws here W begins K knows. tt; few = λ ws. refl; count = λ ws. refl })
    exprs_kept known (e ∷ es) h vs typed =
        let rule = values_rule core_scope (answer_of e.0) (map answer_of (exprs es)) vs typed in
        let one = e.1 known h.0 (Some rule.0) rule.1 in
        let rest = exprs_kept known es h.1 rule.2.0 rule.2.1 in
        subst (λ (q : List ℕ). KeptAll known q (f.each (map flat_expr (exprs (e ∷ es))))) (sym rule.2.2) (record {
          keeps = λ ws here W begins K knows.
              let first = (flat_expr e.0 p ws).locals in
              let second = (f.each (map flat_expr (exprs es)) p first).locals in (
                one.keeps ws here W (begins_then first second W (exprs_grow (exprs es) p grow first) begins) K knows,
                rest.keeps first (here_later ws first (expr_grows e.0 p grow ws) here) W begins K knows,
              );
          few = λ ws. and_from _ _ (one.few ws) (rest.few (flat_expr e.0 p ws).locals);
          count = λ ws. ap suc (rest.count (flat_expr e.0 p ws).locals);
        })

    pub block_kept : (known : List ℕ) (es : List S) → BlockTested known (stmts es) → (rs : List (List Answer)) → all_typed (map returns_of (stmts es)) core_scope ≡ Some rs → (a : Answer) → list_all (option_eq nat_eq a) (joined rs) ≡ true →
        KeptBlock known a (f.block (map flat_stmt (stmts es))) (block_returns (map stmt_returns (stmts es)))
    block_kept known [] h rs typed a only = record { ending = Never; some = refl; always = refl; keeps = λ ws here W begins K knows. stmt_nodes.empty (flat_place W K) a; few = λ ws. refl }
    block_kept known (e ∷ []) h rs typed a only =
        let rule = all_rule core_scope (returns_of e.0) [] rs typed in
        let only2 : list_all (option_eq nat_eq a) (rule.0 ++ joined rule.2.0) ≡ true = subst (λ (q : List (List Answer)). list_all (option_eq nat_eq a) (joined q) ≡ true) rule.2.2 only in
        let one = e.1 known (record {
          named = (and_parts _ _ h.named).0;
          last = (and_parts _ _ (and_parts _ _ h.last).0).0;
          reads = (and_parts _ _ h.reads).0;
          limited = (and_parts _ _ h.limited).0;
          filled = (and_parts _ _ h.filled).0;
          formed = (and_parts _ _ h.formed).0;
        }) rule.0 rule.1 a (both_pass (option_eq nat_eq a) rule.0 (joined rule.2.0) only2).0 in
        record {
          ending = one.ending;
          some = one.some ∙ or_false (stmt_returns e.0).some;
          always = one.always ∙ or_false (stmt_returns e.0).always;
          keeps = λ ws here W begins K knows. subst (λ (ss : List Stmt). KeepsBlock (flat_place W K) a one.ending ss) (sym (append-nil (flat_stmt e.0 p ws).value)) (one.last ws here W begins K knows);
          few = λ ws. subst (λ (ss : List Stmt). all_hold (map stmt_few ss) ≡ true) (sym (append-nil (flat_stmt e.0 p ws).value)) (one.few ws);
        }
    block_kept known (e ∷ (g ∷ es)) h rs typed a only =
        let rule = all_rule core_scope (returns_of e.0) (map returns_of (stmts (g ∷ es))) rs typed in
        let only2 : list_all (option_eq nat_eq a) (rule.0 ++ joined rule.2.0) ≡ true = subst (λ (q : List (List Answer)). list_all (option_eq nat_eq a) (joined q) ≡ true) rule.2.2 only in
        let onlys = both_pass (option_eq nat_eq a) rule.0 (joined rule.2.0) only2 in
        let last = and_parts _ _ h.last in
        let lasts = and_parts _ _ last.0 in
        let on : (stmt_returns e.0).some ≡ false = not_some (stmt_returns e.0).some last.1 in
        let reads = and_parts _ _ h.reads in
        let one = e.1 known (record {
          named = (and_parts _ _ h.named).0;
          last = lasts.0;
          reads = reads.0;
          limited = (and_parts _ _ h.limited).0;
          filled = (and_parts _ _ h.filled).0;
          formed = (and_parts _ _ h.formed).0;
        }) rule.0 rule.1 a onlys.0 in
        let rest = block_kept (known ++ (stmt_flow e.0).assigns) (g ∷ es) (record {
          named = (and_parts _ _ h.named).1;
          last = lasts.1;
          reads = reads.1;
          limited = (and_parts _ _ h.limited).1;
          filled = (and_parts _ _ h.filled).1;
          formed = (and_parts _ _ h.formed).1;
        }) rule.2.0 rule.2.1 a onlys.1 in
        record {
          ending = rest.ending;
          some = rest.some ∙ ap (λ (b : Bool). b || (block_returns (map stmt_returns (stmts (g ∷ es)))).some) (sym on);
          always = rest.always ∙ ap (λ (b : Bool). b || (block_returns (map stmt_returns (stmts (g ∷ es)))).always) (sym (sym one.always ∙ goes_on one.ending (one.some ∙ on)));
          keeps = λ ws here W begins K knows.
              let first = flat_stmt e.0 p ws in
              let second = f.block (map flat_stmt (stmts (g ∷ es))) p first.locals in
              one.before on ws here W (begins_then first.locals second.locals W (stmts_grow (stmts (g ∷ es)) p grow first.locals) begins) K knows second.value rest.ending
              (λ K2 more. rest.keeps first.locals (here_later ws first.locals (stmt_grows e.0 p grow ws) here) W begins K2 more);
          few = λ ws.
              let first = flat_stmt e.0 p ws in
              let second = f.block (map flat_stmt (stmts (g ∷ es))) p first.locals in
              few_append first.value second.value (one.few ws) (rest.few first.locals);
        }
