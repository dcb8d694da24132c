-- The flat forms of the bodies of a valid core keep the rules: by induction on the trees, and then function after function.
use Rattle.std.proofs.Common.{◌≡◌, ℕ, ◌+◌, ◌≤◌, List, [], ◌∷◌, ◌++◌, Bool, true, false, not, ◌&&◌, ◌||◌, is_some, None, Some, length, map, take, refl, sym, ap, subst, ◌∙◌, arith, append-nil, append_assoc, nat_eq, nat_le, slice_get}
use Rattle.std.specs.List.{list_all}
use Rattle.std.specs.Option.{option_eq}
use Rattle.std.proofs.lemmas.Bool.{and_from, and_parts, leb-true}
use Rattle.std.proofs.lemmas.List.{length-take-le}
use Rattle.lucid_core.specs.declared.body.Expr.{Expr}
use Rattle.lucid_core.specs.declared.body.Stmt.{Stmt}
use Rattle.lucid_core.specs.declared.body.Touch.{Touch}
use Rattle.lucid_core.specs.declared.body.Expr.TheOpen.{Expr-F, Stmt-F, Touch-F}
use Rattle.lucid_core.specs.declared.body.Expr.TheViews.{roll-Expr, roll-Stmt, roll-Touch}
use Rattle.lucid_core.specs.declared.body.Expr.TheFolds.{fold-roll-Expr, fold-roll-Stmt, fold-roll-Touch, map-Stmt}
use Rattle.lucid_core.specs.declared.defs.FunDef.{FunDef}
use Rattle.lucid_core.specs.declared.defs.HandlerDef.{HandlerDef}
use Rattle.lucid_core.specs.Assigned as flow
use Rattle.lucid_core.specs.Assigned.{Flow, body_reads_assigned, stmt_flow}
use Rattle.lucid_core.specs.Events.{event_params}
use Rattle.lucid_core.specs.Limits as limits
use Rattle.lucid_core.specs.Limits.{body_keeps_limits, stmt_limits}
use Rattle.lucid_core.specs.Names as names
use Rattle.lucid_core.specs.Names.{stmt_names}
use Rattle.lucid_base.specs.Numbers.{is_in}
use Rattle.lucid_core.specs.Numbers.{all_hold, places}
use Rattle.lucid_core.specs.Parts.{CoreParts}
use Rattle.lucid_core.specs.Returns as returns
use Rattle.lucid_core.specs.Returns.{Returns, block_returns, body_returns, stmt_returns}
use Rattle.lucid_core.specs.Scope.{Scope, Test, each, fun_scope, funs_pass, handler_scope}
use Rattle.lucid_core.specs.Syntax as syntax
use Rattle.lucid_core.specs.Syntax.{is_core_stmt}
use Rattle.lucid_core.specs.Texts as texts
use Rattle.lucid_core.specs.Texts.{Printed, body_fills_texts, stmt_texts}
use Rattle.lucid_core.specs.Typing as typing
use Rattle.lucid_core.specs.Typing.{Answer, Typed, all_typed, body_gives_only, joined, returns_of}
use Rattle.lucid_core.specs.Valid.{IsValid}
use Rattle.lucid_core.proofs.Pairwise.{Pairwise, one_more}
use Rattle.lucid_core.proofs.TypingRules.{body_rule}
use Rattle.lucid_core.proofs.WidthLists.{passes_at}
use Rattle.lucid_core.specs.declared.ending.Ending.{Ending}
use Rattle.lucid_core.specs.Few.{stmt_few}
use Rattle.lucid_core.proofs.Induction.{Cases, body_by}
use Rattle.lucid_core_laws.specs.Keeps.{KeepsBlock}
use Rattle.lucid_inline_spec.specs.Flat as f
use Rattle.lucid_inline_spec.specs.Flat.{Flatten, PutIn, Site, flat_expr, flat_stmt, flat_touch}
use Rattle.lucid_inline_spec.proofs.Grows.{AllGrow}
use Rattle.lucid_inline_spec.proofs.Kept as kept
use Rattle.lucid_inline_spec.proofs.Kept.{PutKeeps, Stand, flat_place}
use Rattle.lucid_inline_spec.proofs.KeptNodes as nodes
use Rattle.lucid_inline_spec.proofs.LengthLaw.{grow_more, put_begins, put_grows}
use Rattle.lucid_inline_spec.proofs.Locals.{begins_self}
use Rattle.lucid_inline_spec.proofs.Numbered.{number_within, slice_behind}
use Rattle.lucid_inline_spec.proofs.Runs.{puts_from}

module _ (A : List ℕ) (Ev Fo : List (List ℕ)) (p : Site) (P L : List ℕ) (Fs : List FunDef) (all : Pairwise (PutKeeps A Ev Fo) Fs p.funs) (grow : AllGrow p.funs) (stand : Stand A Ev Fo P p.arrays) where
  abbrev s : Scope
  s = kept.core_scope A Ev Fo p P L Fs all grow stand

  abbrev E : Type 0
  E = kept.E A Ev Fo p P L Fs all grow stand

  abbrev S : Type 0
  S = kept.S A Ev Fo p P L Fs all grow stand

  abbrev T : Type 0
  T = kept.T A Ev Fo p P L Fs all grow stand

  abbrev ExprKeeps : Expr → Type 0
  ExprKeeps e = kept.ExprKeeps A Ev Fo p P L Fs all grow stand e

  abbrev StmtKeeps : Stmt → Type 0
  StmtKeeps e = kept.StmtKeeps A Ev Fo p P L Fs all grow stand e

  abbrev TouchKeeps : Touch → Type 0
  TouchKeeps e = kept.TouchKeeps A Ev Fo p P L Fs all grow stand e

  abbrev Tested : List ℕ → Test → Returns → Flow → Bool → Printed → Bool → Type 0
  Tested known n r w l x c = kept.Tested A Ev Fo p P L Fs all grow stand known n r w l x c

  abbrev KeptStmt : List ℕ → Answer → Flatten (List Stmt) → Returns → List ℕ → Type 0
  KeptStmt known a t q assigns = kept.KeptStmt A Ev Fo p P L Fs all grow stand known a t q assigns

  -- The same results of the rules.
  along : (known : List ℕ) {n m : Test} {r q : Returns} {w v : Flow} {l k : Bool} {x y : Printed} {b c : Bool} → n ≡ m → r ≡ q → w ≡ v → l ≡ k → x ≡ y → b ≡ c → Tested known n r w l x b → Tested known m q v k y c
  along known en er ew el ex eb h = record {
    named = sym (ap (λ (z : Test). z s) en) ∙ h.named;
    last = sym (ap (λ (z : Returns). z.last) er) ∙ h.last;
    reads = sym (ap (λ (z : Flow). z.reads_assigned known) ew) ∙ h.reads;
    limited = sym el ∙ h.limited;
    filled = sym (ap (λ (z : Printed). z Fo) ex) ∙ h.filled;
    formed = sym eb ∙ h.formed;
  }

  of_expr : (y : Expr-F E S T) → ExprKeeps (roll-Expr (nodes.expr_tree A Ev Fo p P L Fs all grow stand y))
  of_expr y known h a typed =
      let tree = nodes.expr_tree A Ev Fo p P L Fs all grow stand y in
      subst (λ (t : Flatten Expr). kept.KeptExpr A Ev Fo p P L Fs all grow stand known a t) (sym (fold-roll-Expr (Flatten Expr) (Flatten (List Stmt)) (Flatten Touch) f.expr_step f.stmt_step f.touch_step tree))
      (nodes.expr_level A Ev Fo p P L Fs all grow stand y known
      (along known (fold-roll-Expr Test Test Test names.expr_step names.stmt_step names.touch_step tree) (fold-roll-Expr Returns Returns Returns returns.expr_step returns.stmt_step returns.touch_step tree)
      (fold-roll-Expr Flow Flow Flow flow.expr_step flow.stmt_step flow.touch_step tree) (fold-roll-Expr Bool Bool Bool limits.expr_step limits.stmt_step limits.touch_step tree)
      (fold-roll-Expr Printed Printed Printed texts.expr_step texts.stmt_step texts.touch_step tree) (fold-roll-Expr Bool Bool Bool syntax.not_inlined syntax.any_stmt syntax.touch_step tree) h) a
      (sym (ap (λ (z : Typed Answer). z s) (fold-roll-Expr (Typed Answer) (Typed (List Answer)) (Typed Answer) typing.expr_step typing.stmt_step typing.touch_step tree)) ∙ typed))

  of_touch : (y : Touch-F E S T) → TouchKeeps (roll-Touch (nodes.touch_tree A Ev Fo p P L Fs all grow stand y))
  of_touch y known h a typed =
      let tree = nodes.touch_tree A Ev Fo p P L Fs all grow stand y in
      subst (λ (t : Flatten Touch). kept.KeptTouch A Ev Fo p P L Fs all grow stand known a t) (sym (fold-roll-Touch (Flatten Expr) (Flatten (List Stmt)) (Flatten Touch) f.expr_step f.stmt_step f.touch_step tree))
      (nodes.touch_level A Ev Fo p P L Fs all grow stand y known
      (along known (fold-roll-Touch Test Test Test names.expr_step names.stmt_step names.touch_step tree) (fold-roll-Touch Returns Returns Returns returns.expr_step returns.stmt_step returns.touch_step tree)
      (fold-roll-Touch Flow Flow Flow flow.expr_step flow.stmt_step flow.touch_step tree) (fold-roll-Touch Bool Bool Bool limits.expr_step limits.stmt_step limits.touch_step tree)
      (fold-roll-Touch Printed Printed Printed texts.expr_step texts.stmt_step texts.touch_step tree) (fold-roll-Touch Bool Bool Bool syntax.not_inlined syntax.any_stmt syntax.touch_step tree) h) a
      (sym (ap (λ (z : Typed Answer). z s) (fold-roll-Touch (Typed Answer) (Typed (List Answer)) (Typed Answer) typing.expr_step typing.stmt_step typing.touch_step tree)) ∙ typed))

  of_stmt : (y : Stmt-F E S T) → StmtKeeps (roll-Stmt (nodes.stmt_tree A Ev Fo p P L Fs all grow stand y))
  of_stmt y known h rs typed a only =
      let tree = nodes.stmt_tree A Ev Fo p P L Fs all grow stand y in
      let back = fold-roll-Stmt Returns Returns Returns returns.expr_step returns.stmt_step returns.touch_step tree in
      let ahead = fold-roll-Stmt Flow Flow Flow flow.expr_step flow.stmt_step flow.touch_step tree in
      let whole = nodes.stmt_level A Ev Fo p P L Fs all grow stand y known
      (along known (fold-roll-Stmt Test Test Test names.expr_step names.stmt_step names.touch_step tree) back ahead (fold-roll-Stmt Bool Bool Bool limits.expr_step limits.stmt_step limits.touch_step tree)
      (fold-roll-Stmt Printed Printed Printed texts.expr_step texts.stmt_step texts.touch_step tree) (fold-roll-Stmt Bool Bool Bool syntax.not_inlined syntax.any_stmt syntax.touch_step tree) h) rs
      (sym (ap (λ (z : Typed (List Answer)). z s) (fold-roll-Stmt (Typed Answer) (Typed (List Answer)) (Typed Answer) typing.expr_step typing.stmt_step typing.touch_step tree)) ∙ typed) a only in
      subst (λ (t : Flatten (List Stmt)). KeptStmt known a t (stmt_returns (roll-Stmt tree)) (stmt_flow (roll-Stmt tree)).assigns) (sym (fold-roll-Stmt (Flatten Expr) (Flatten (List Stmt)) (Flatten Touch) f.expr_step f.stmt_step f.touch_step tree))
      (subst (λ (q : Returns). KeptStmt known a (nodes.flat_s A Ev Fo p P L Fs all grow stand tree) q (stmt_flow (roll-Stmt tree)).assigns) (sym back)
      (subst (λ (w : Flow). KeptStmt known a (nodes.flat_s A Ev Fo p P L Fs all grow stand tree) (returns.stmt_step (map-Stmt Expr Stmt Touch Returns Returns Returns returns.expr_returns stmt_returns returns.touch_returns tree)) w.assigns) (sym ahead) whole))

  by_nodes : Cases ExprKeeps StmtKeeps TouchKeeps
  by_nodes = record { expr = of_expr; stmt = of_stmt; touch = of_touch }

  abbrev BodyKeeps : List Stmt → Type 0
  BodyKeeps ss = (known : List ℕ) → kept.BlockTested A Ev Fo p P L Fs all grow stand known ss → (rs : List (List Answer)) → all_typed (map returns_of ss) s ≡ Some rs → (a : Answer) → list_all (option_eq nat_eq a) (joined rs) ≡ true →
      kept.KeptBlock A Ev Fo p P L Fs all grow stand known a (f.block (map flat_stmt ss)) (block_returns (map stmt_returns ss))

  pub body_keeps : (ss : List Stmt) → BodyKeeps ss
  body_keeps = body_by BodyKeeps by_nodes (λ es. λ known h rs typed a only. kept.block_kept A Ev Fo p P L Fs all grow stand known es h rs typed a only)

all_mapped : (ss : List Stmt) → list_all is_core_stmt ss ≡ true → all_hold (map is_core_stmt ss) ≡ true
all_mapped [] h = refl
all_mapped (x ∷ ss) h = let both = and_parts _ _ h in and_from _ _ both.0 (all_mapped ss both.1)

answers : (given : Bool) (always : Bool) → (not given || always) ≡ true → given ≡ true → always ≡ true
answers true always h e = h
answers false always h e = absurd (cc)

module _ (core : CoreParts) where
  abbrev A : List ℕ
  A = map (λ a. a.width) core.arrays

  abbrev Ev : List (List ℕ)
  Ev = map (λ e. e.params) core.events

  abbrev pub Keeping : FunDef → PutIn → Type 0
  Keeping = PutKeeps A Ev core.forms

  fun_keeps : (before : List FunDef) (puts : List PutIn) → Pairwise Keeping before puts → AllGrow puts → (d : FunDef) → each (map stmt_names d.body) (fun_scope core before d) ≡ true → body_gives_only d.answer d.body (fun_scope core before d) ≡ true →
      ((body_returns d.body).last && (not (is_some d.answer) || (body_returns d.body).always)) ≡ true → body_reads_assigned (take d.params d.locals) d.body ≡ true → body_keeps_limits d.body ≡ true → body_fills_texts d.body core.forms ≡ true →
      list_all is_core_stmt d.body ≡ true → d.params ≤ length d.locals → Keeping d (f.put_of puts d)
  fun_keeps before puts all grow d names widths ends reads limits texts forms small =
      let end = and_parts _ _ ends in
      let rule = body_rule (fun_scope core before d) d.answer (map returns_of d.body) widths in record {
        params = small;
        begins = put_begins puts d grow;
        body = λ arrays ws stand W begins K nums.
            let site : Site = record { arrays = arrays; first = length ws; funs = puts } in
            let made = body_keeps A Ev core.forms site d.arrays d.locals before all grow stand d.body (places (take d.params d.locals))
            (record { named = names; last = end.0; reads = reads; limited = limits; filled = texts; formed = all_mapped d.body forms }) rule.0 rule.1 d.answer rule.2 in (
              made.ending,
              λ given. made.always ∙ answers (is_some d.answer) _ end.1 given,
              made.keeps (ws ++ d.locals) (λ i w is. slice_behind ws d.locals i ∙ is) W begins K (λ i is. nums i (let l = number_within (take d.params d.locals) 0 i is in let n = length-take-le d.params d.locals small in let u = l.1 in omega arith)),
            );
        few = λ arrays ws stand.
            let site : Site = record { arrays = arrays; first = length ws; funs = puts } in
            (body_keeps A Ev core.forms site d.arrays d.locals before all grow stand d.body (places (take d.params d.locals))
            (record { named = names; last = end.0; reads = reads; limited = limits; filled = texts; formed = all_mapped d.body forms }) rule.0 rule.1 d.answer rule.2).few (ws ++ d.locals);
      }

  funs_keep : (before ds : List FunDef) (puts : List PutIn) → Pairwise Keeping before puts → AllGrow puts → funs_pass (λ earlier d. each (map stmt_names d.body) (fun_scope core earlier d)) before ds ≡ true →
      funs_pass (λ earlier d. body_gives_only d.answer d.body (fun_scope core earlier d)) before ds ≡ true → list_all (λ d. (body_returns d.body).last && (not (is_some d.answer) || (body_returns d.body).always)) ds ≡ true →
      list_all (λ d. body_reads_assigned (take d.params d.locals) d.body) ds ≡ true → list_all (λ d. body_keeps_limits d.body) ds ≡ true → list_all (λ d. body_fills_texts d.body core.forms) ds ≡ true → list_all (λ d. list_all is_core_stmt d.body) ds ≡ true →
      list_all (λ d. nat_le d.params (length d.locals)) ds ≡ true → Pairwise Keeping (before ++ ds) (puts_from puts ds)
  funs_keep before [] puts all grow names widths ends reads limits texts forms small = subst (λ (q : List FunDef). Pairwise Keeping q puts) (sym (append-nil before)) all
  funs_keep before (d ∷ ds) puts all grow names widths ends reads limits texts forms small =
      let n = and_parts _ _ names in
      let w = and_parts _ _ widths in
      let e = and_parts _ _ ends in
      let r = and_parts _ _ reads in
      let l = and_parts _ _ limits in
      let t = and_parts _ _ texts in
      let c = and_parts _ _ forms in
      let m = and_parts _ _ small in
      let one = fun_keeps before puts all grow d n.0 w.0 e.0 r.0 l.0 t.0 c.0 (leb-true _ _ m.0) in
      subst (λ (q : List FunDef). Pairwise Keeping q (puts_from puts (d ∷ ds))) (append_assoc before (d ∷ []) ds)
      (funs_keep (before ++ d ∷ []) ds (puts ++ f.put_of puts d ∷ []) (one_more Keeping before puts d (f.put_of puts d) all one) (grow_more puts (f.put_of puts d) grow (put_grows puts d grow)) n.1 w.1 e.1 r.1 l.1 t.1 c.1 m.1)

  pub core_funs_keep : IsValid core → Pairwise Keeping core.funs (f.puts_of core.funs)
  core_funs_keep valid =
      let all_names = and_parts _ _ valid.sound.names in
      funs_keep [] core.funs [] tt tt (and_parts _ _ all_names.0).0 (and_parts _ _ valid.sound.widths).0 (and_parts _ _ valid.sound.returns).0 (and_parts _ _ valid.sound.reads).0 (and_parts _ _ valid.sound.bodies).0
      (and_parts _ _ valid.sound.texts).0 (and_parts _ _ valid.syntax).0 all_names.1

  -- A handler's body, with its event's parameters assigned.
  pub record HandlerKept (h : HandlerDef) : Type 0 where
    pub ending : Ending
    pub body : KeepsBlock (flat_place A Ev core.forms (f.flat_handler core.funs h).locals (places (event_params core.events h.event))) None ending (f.flat_handler core.funs h).body
    pub few : all_hold (map stmt_few (f.flat_handler core.funs h).body) ≡ true

  pub handler_keeps : (valid : IsValid core) → AllGrow (f.puts_of core.funs) → (k : ℕ) (h : HandlerDef) → slice_get core.handlers k ≡ Some h → HandlerKept h
  handler_keeps valid grow k h is =
      let names = passes_at (λ (g : HandlerDef). each (map stmt_names g.body) (handler_scope core g)) core.handlers k h (and_parts _ _ (and_parts _ _ valid.sound.names).0).1 is in
      let widths = passes_at (λ (g : HandlerDef). body_gives_only None g.body (handler_scope core g)) core.handlers k h (and_parts _ _ valid.sound.widths).1 is in
      let last = passes_at (λ (g : HandlerDef). (body_returns g.body).last) core.handlers k h (and_parts _ _ valid.sound.returns).1 is in
      let reads = passes_at (λ (g : HandlerDef). body_reads_assigned (event_params core.events g.event) g.body) core.handlers k h (and_parts _ _ valid.sound.reads).1 is in
      let limits = passes_at (λ (g : HandlerDef). body_keeps_limits g.body) core.handlers k h (and_parts _ _ valid.sound.bodies).1 is in
      let texts = passes_at (λ (g : HandlerDef). body_fills_texts g.body core.forms) core.handlers k h (and_parts _ _ valid.sound.texts).1 is in
      let forms = passes_at (λ (g : HandlerDef). list_all is_core_stmt g.body) core.handlers k h (and_parts _ _ valid.syntax).1 is in
      let rule = body_rule (handler_scope core h) None (map returns_of h.body) widths in
      let site : Site = record { arrays = []; first = 0; funs = f.puts_of core.funs } in
      let known = places (event_params core.events h.event) in
      let made = body_keeps A Ev core.forms site [] h.locals core.funs (core_funs_keep valid) grow (λ i w there. absurd (cc)) h.body known
      (record { named = names; last = last; reads = reads; limited = limits; filled = texts; formed = all_mapped h.body forms }) rule.0 rule.1 None rule.2 in record {
        ending = made.ending;
        body = made.keeps h.locals (λ i w there. let z : 0 + i ≡ i = omega arith in ap (slice_get h.locals) z ∙ there) (f.flat_handler core.funs h).locals (begins_self (f.flat_handler core.funs h).locals) known
            (λ i there. let z : 0 + i ≡ i = omega arith in ap (λ (n : ℕ). is_in n known) z ∙ there);
        few = made.few h.locals;
      }
