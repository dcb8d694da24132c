-- Each rule for an expression or a call of an array, given that its parts keep it.
use Rattle.std.proofs.Common.{◌≡◌, ℕ, suc, ◌≤◌, List, [], ◌∷◌, ◌++◌, None, Some, Bool, true, false, not, ◌&&◌, ◌||◌, if◌then◌else◌, is_some, length, map, take, arith, nat_eq, nat_le, refl, sym, ap, subst, ◌∙◌}
use Rattle.std.specs.List.{list_all}
use Rattle.std.specs.Option.{option_eq}
use Rattle.std.proofs.lemmas.Bool.{and_from, and_parts, eqb-true, le-leb}
use Rattle.std.proofs.lemmas.List.{length-map}
use Rattle.lucid_core.specs.declared.body.Expr.{Expr}
use Rattle.lucid_core.specs.declared.body.Stmt.{Stmt}
use Rattle.lucid_core.specs.declared.body.Touch.{Touch}
use Rattle.lucid_core.specs.declared.body.Expr.TheOpen.{Expr-F, Touch-F}
use Rattle.lucid_core.specs.declared.body.Expr.TheViews.{roll-Expr, roll-Touch}
use Rattle.lucid_core.specs.declared.body.Expr.TheFolds.{fold-roll-Expr, fold-roll-Touch, map-Expr, map-Touch}
use Rattle.lucid_core.specs.Assigned as flow
use Rattle.lucid_core.specs.Assigned.{Flow, block_reads_assigned, expr_flow, stmt_flow, touch_flow}
use Rattle.lucid_core.specs.Limits as limits
use Rattle.lucid_core.specs.Limits.{expr_limits, stmt_limits, touch_limits}
use Rattle.lucid_core.specs.Names as names
use Rattle.lucid_core.specs.Names.{expr_names, stmt_names, touch_names}
use Rattle.lucid_core.specs.Returns as returns
use Rattle.lucid_core.specs.Returns.{Returns, is_end, expr_returns, stmt_returns, touch_returns}
use Rattle.lucid_core.specs.Scope.{Test}
use Rattle.lucid_core.specs.Syntax as syntax
use Rattle.lucid_core.specs.Texts as texts
use Rattle.lucid_core.specs.Texts.{Printed, expr_texts, stmt_texts, touch_texts}
use Rattle.lucid_core.specs.Typing as typing
use Rattle.lucid_core.specs.Typing.{Answer, Typed, answer_of, one_answer, returns_of, touch_answer}
use Rattle.lucid_core.specs.declared.ending.Ending.{Ending}
use Rattle.lucid_core_laws.specs.Allowed as allowed
use Rattle.lucid_core_laws.specs.Allowed.{expr_allowed, stmt_allowed, touch_allowed}
use Rattle.lucid_core.specs.Endings.{on_every_path}
use Rattle.lucid_core_laws.specs.ExprNodes.{ExprNodes}
use Rattle.lucid_core.specs.Few as few
use Rattle.lucid_core.specs.Few.{expr_few, stmt_few, touch_few}
use Rattle.lucid_core_laws.specs.Keeps.{Keeps, KeepsExpr, KeepsTouch, KeepsBlock}
use Rattle.lucid_core_laws.specs.Place.{Place, behind}
use Rattle.lucid_core_laws.proofs.Parts.{ListedGiven, arguments, arrays_are_there, array_is_there, both_lists, is_below, just, listed, listed_given, of_both, pair, same_width, same_widths}

-- The results of the rules for a node, by their results for its parts.
abbrev AtExpr : Place → Answer → Expr-F Expr Stmt Touch → Type 0
AtExpr p a y = Keeps p a
    (names.expr_step (map-Expr Expr Stmt Touch Test Test Test expr_names stmt_names touch_names y))
    (typing.expr_step (map-Expr Expr Stmt Touch (Typed Answer) (Typed (List Answer)) (Typed Answer) answer_of returns_of touch_answer y))
    (returns.expr_step (map-Expr Expr Stmt Touch Returns Returns Returns expr_returns stmt_returns touch_returns y))
    (flow.expr_step (map-Expr Expr Stmt Touch Flow Flow Flow expr_flow stmt_flow touch_flow y))
    (few.expr_step (map-Expr Expr Stmt Touch Bool Bool Bool expr_few stmt_few touch_few y))
    (limits.expr_step (map-Expr Expr Stmt Touch Bool Bool Bool expr_limits stmt_limits touch_limits y))
    (texts.expr_step (map-Expr Expr Stmt Touch Printed Printed Printed expr_texts stmt_texts touch_texts y))
    (allowed.expr_step p.flat (map-Expr Expr Stmt Touch Bool Bool Bool (expr_allowed p.flat) (stmt_allowed p.flat) (touch_allowed p.flat) y))

abbrev AtTouch : Place → Answer → Touch-F Expr Stmt Touch → Type 0
AtTouch p a y = Keeps p a
    (names.touch_step (map-Touch Expr Stmt Touch Test Test Test expr_names stmt_names touch_names y))
    (typing.touch_step (map-Touch Expr Stmt Touch (Typed Answer) (Typed (List Answer)) (Typed Answer) answer_of returns_of touch_answer y))
    (returns.touch_step (map-Touch Expr Stmt Touch Returns Returns Returns expr_returns stmt_returns touch_returns y))
    (flow.touch_step (map-Touch Expr Stmt Touch Flow Flow Flow expr_flow stmt_flow touch_flow y))
    (few.touch_step (map-Touch Expr Stmt Touch Bool Bool Bool expr_few stmt_few touch_few y))
    (limits.touch_step (map-Touch Expr Stmt Touch Bool Bool Bool expr_limits stmt_limits touch_limits y))
    (texts.touch_step (map-Touch Expr Stmt Touch Printed Printed Printed expr_texts stmt_texts touch_texts y))
    (syntax.touch_step (map-Touch Expr Stmt Touch Bool Bool Bool (expr_allowed p.flat) (stmt_allowed p.flat) (touch_allowed p.flat) y))

-- The same results of the rules.
along : (p : Place) (a : Answer) {n m : Test} {t u : Typed Answer} {r q : Returns} {f g : Flow} {w v l k : Bool} {x y : Printed} {b c : Bool} →
    n ≡ m → t ≡ u → r ≡ q → f ≡ g → w ≡ v → l ≡ k → x ≡ y → b ≡ c → Keeps p a m u q g v k y c → Keeps p a n t r f w l x b
along p a en et er ef ew el ex eb h = record {
  named = ap (λ (z : Test). z p.scope) en ∙ h.named;
  typed = ap (λ (z : Typed Answer). z p.scope) et ∙ h.typed;
  last = ap (λ (z : Returns). z.last) er ∙ h.last;
  reads = ap (λ (z : Flow). z.reads_assigned p.known) ef ∙ h.reads;
  limited = λ is. el ∙ h.limited (sym ew ∙ is);
  filled = ap (λ (z : Printed). z p.scope.forms) ex ∙ h.filled;
  formed = eb ∙ h.formed;
}

-- Here the folds are opened, for all forms at once.
of_expr : (p : Place) (a : Answer) (y : Expr-F Expr Stmt Touch) → AtExpr p a y → KeepsExpr p a (roll-Expr y)
of_expr p a y h = along p a
    (fold-roll-Expr Test Test Test names.expr_step names.stmt_step names.touch_step y)
    (fold-roll-Expr (Typed Answer) (Typed (List Answer)) (Typed Answer) typing.expr_step typing.stmt_step typing.touch_step y)
    (fold-roll-Expr Returns Returns Returns returns.expr_step returns.stmt_step returns.touch_step y)
    (fold-roll-Expr Flow Flow Flow flow.expr_step flow.stmt_step flow.touch_step y)
    (fold-roll-Expr Bool Bool Bool few.expr_step few.stmt_step few.touch_step y)
    (fold-roll-Expr Bool Bool Bool limits.expr_step limits.stmt_step limits.touch_step y)
    (fold-roll-Expr Printed Printed Printed texts.expr_step texts.stmt_step texts.touch_step y)
    (fold-roll-Expr Bool Bool Bool (allowed.expr_step p.flat) (allowed.stmt_step p.flat) syntax.touch_step y) h

of_touch : (p : Place) (a : Answer) (y : Touch-F Expr Stmt Touch) → AtTouch p a y → KeepsTouch p a (roll-Touch y)
of_touch p a y h = along p a
    (fold-roll-Touch Test Test Test names.expr_step names.stmt_step names.touch_step y)
    (fold-roll-Touch (Typed Answer) (Typed (List Answer)) (Typed Answer) typing.expr_step typing.stmt_step typing.touch_step y)
    (fold-roll-Touch Returns Returns Returns returns.expr_step returns.stmt_step returns.touch_step y)
    (fold-roll-Touch Flow Flow Flow flow.expr_step flow.stmt_step flow.touch_step y)
    (fold-roll-Touch Bool Bool Bool few.expr_step few.stmt_step few.touch_step y)
    (fold-roll-Touch Bool Bool Bool limits.expr_step limits.stmt_step limits.touch_step y)
    (fold-roll-Touch Printed Printed Printed texts.expr_step texts.stmt_step texts.touch_step y)
    (fold-roll-Touch Bool Bool Bool (allowed.expr_step p.flat) (allowed.stmt_step p.flat) syntax.touch_step y) h

-- At least one of them, and few.
hash_limit : (n m k : ℕ) (few limits : Bool) → n ≡ suc k → m ≡ n → (few ≡ true → limits ≡ true) → nat_le m 9 && few ≡ true → (nat_le 1 n && nat_le n 9) && limits ≡ true
hash_limit n m k few limits e f h g =
    let parts = and_parts (nat_le m 9) few g in
    let least : 1 ≤ n = omega (arith, e) in
    and_from _ _ (and_from _ _ (le-leb 1 n least) (ap (λ x. nat_le x 9) (sym f) ∙ parts.0)) (h parts.1)

-- ---- an inlined call

answer_is : (a b : Answer) → option_eq nat_eq a b ≡ true → b ≡ a
answer_is None None h = refl
answer_is None (Some w) h = absurd (cc)
answer_is (Some w) None h = absurd (cc)
answer_is (Some w) (Some v) h = ap (λ n. Some n) (sym (eqb-true w v h))

-- Where all returns give this, and there is one where it is a value, it is the one answer.
one_is : (a : Answer) (given : List Answer) → list_all (option_eq nat_eq a) given ≡ true → (is_some a ≡ true → is_end given ≡ false) → one_answer given ≡ Some a
one_is None [] h k = refl
one_is (Some w) [] h k = let no : true ≡ false = k refl in absurd (cc)
one_is a (b ∷ rest) h k =
    let parts = and_parts _ _ h in
    let same : b ≡ a = answer_is a b parts.0 in
    subst (λ (c : Answer). one_answer (c ∷ rest) ≡ Some a) (sym same) (rw parts.1 refl)

ends_alone : (a : Answer) (value always : Bool) → (a ≡ None → value ≡ false) → (is_some a ≡ true → always ≡ true) → not value || always ≡ true
ends_alone None value always h k = rw (h refl) refl
ends_alone (Some w) value always h k = or_true (not value) always (k refl)
  where
    or_true : (x y : Bool) → y ≡ true → x || y ≡ true
    or_true true y e = refl
    or_true false y e = e

at_inlined : (p : Place) (ws : List ℕ) (given : List (ℕ × Expr)) (a : Answer) (r : Ending) (ss : List Stmt) → p.flat ≡ true → ListedGiven p ws given →
    KeepsBlock (behind p (map (λ g. g.0) given)) a r ss → (is_some a ≡ true → on_every_path r ≡ true) → AtExpr p a (Expr-F.Inlined given ss)
at_inlined p ws given a r ss flat xs body ends = record {
  named = and_from _ _ xs.named body.named;
  typed = rw (xs.typed, xs.held, body.typed, one_is a (typing.joined body.given) body.only (λ is. body.seen (ends is)), same_widths ws) refl;
  last = and_from _ _ (and_from _ _ xs.last body.last) (ends_alone a _ _ body.value (λ is. body.always ∙ ends is));
  reads = and_from _ _ xs.reads (subst (λ (ns : List ℕ). block_reads_assigned (map stmt_flow ss) (p.known ++ ns) ≡ true) (sym xs.params) body.reads);
  limited = λ h. let parts = of_both (λ b. b) (arguments expr_few given) (map stmt_few ss) h in
      both_lists (λ b. b) (arguments expr_limits given) (map stmt_limits ss) (xs.limited parts.0) (body.limited parts.1);
  filled = both_lists (λ (test : Printed). test p.scope.forms) (arguments expr_texts given) (map stmt_texts ss) xs.filled body.filled;
  formed = and_from _ _ flat (both_lists (λ b. b) (arguments (expr_allowed p.flat) given) (map (stmt_allowed p.flat) ss) xs.formed body.formed);
}

-- ---- all forms

pub expr_nodes : ExprNodes
expr_nodes = record {
  fixed = λ p n. of_expr p (Some n.width) (Expr-F.Fixed n) (record { named = refl; typed = refl; last = refl; reads = refl; limited = λ h. refl; filled = refl; formed = refl });
  local = λ p i w there assigned. of_expr p (Some w) (Expr-F.Local i) (record { named = is_below p.scope.locals i w there; typed = rw there refl; last = refl; reads = assigned; limited = λ h. refl; filled = refl; formed = refl });
  now = λ p. of_expr p (Some 32) Expr-F.Now (record { named = refl; typed = refl; last = refl; reads = refl; limited = λ h. refl; filled = refl; formed = refl });
  me = λ p. of_expr p (Some 32) Expr-F.Me (record { named = refl; typed = refl; last = refl; reads = refl; limited = λ h. refl; filled = refl; formed = refl });
  un = λ p w op c x. let xs = just p w c x in
      of_expr p (Some w) (Expr-F.Un op c) (record { named = xs.named; typed = rw x.typed refl; last = xs.last; reads = xs.reads; limited = xs.limited; filled = xs.filled; formed = xs.formed });
  bin = λ p w op c d x y. let xs = pair p w w c d x y in
      of_expr p (Some w) (Expr-F.Bin op c d) (record { named = xs.named; typed = rw (x.typed, y.typed, same_width w) refl; last = xs.last; reads = xs.reads; limited = xs.limited; filled = xs.filled; formed = xs.formed });
  cmp = λ p w op c d x y. let xs = pair p w w c d x y in
      of_expr p (Some 1) (Expr-F.Cmp op c d) (record { named = xs.named; typed = rw (x.typed, y.typed, same_width w) refl; last = xs.last; reads = xs.reads; limited = xs.limited; filled = xs.filled; formed = xs.formed });
  cast = λ p w v c x. let xs = just p v c x in
      of_expr p (Some w) (Expr-F.Cast w c) (record { named = xs.named; typed = rw x.typed refl; last = xs.last; reads = xs.reads; limited = xs.limited; filled = xs.filled; formed = xs.formed });
  hash = λ p w v vs c cs all. let xs = listed p (v ∷ vs) (c ∷ cs) all in
      of_expr p (Some w) (Expr-F.Hash w (c ∷ cs)) (record {
        named = xs.named;
        typed = rw xs.typed refl;
        last = xs.last;
        reads = xs.reads;
        limited = hash_limit (length (map expr_limits (c ∷ cs))) (length (map expr_few (c ∷ cs))) (length (map expr_limits cs)) _ _ refl
            (length-map (c ∷ cs) expr_few ∙ sym (length-map (c ∷ cs) expr_limits)) xs.limited;
        filled = xs.filled;
        formed = xs.formed;
      });
  array = λ p a t x. of_expr p a (Expr-F.Array t) (record {
    named = and_from _ _ x.named refl;
    typed = x.typed;
    last = and_from _ _ x.last refl;
    reads = and_from _ _ x.reads refl;
    limited = λ h. and_from _ _ (x.limited (and_parts _ _ h).0) refl;
    filled = and_from _ _ x.filled refl;
    formed = and_from _ _ x.formed refl;
  });
  touch = λ p w v t there gets sets get_fits set_fits i g s.
      let xs = listed p (v ∷ w ∷ w ∷ []) (t.index ∷ t.get_arg ∷ t.set_arg ∷ []) (i, (g, (s, tt))) in
      of_touch p (if t.answers then Some w else None) t (record {
        named = and_from _ _ (array_is_there p.scope t.array w there) xs.named;
        typed = rw (there, i.typed, g.typed, s.typed, gets, sets, same_width w) refl;
        last = xs.last;
        reads = xs.reads;
        limited = λ h. and_from _ _ (and_from _ _ get_fits set_fits) (xs.limited h);
        filled = xs.filled;
        formed = xs.formed;
      });
  call = λ p k f arrays cs core there cells all.
      let ws = take f.params f.locals in
      let xs = listed p ws cs all in
      of_expr p f.answer (Expr-F.Fun k arrays cs) (record {
        named = and_from _ _ (and_from _ _ (is_below p.scope.funs k f there) (arrays_are_there p.scope arrays f.arrays cells)) xs.named;
        typed = rw (there, cells, xs.typed, same_widths f.arrays, same_widths ws) refl;
        last = xs.last;
        reads = xs.reads;
        limited = xs.limited;
        filled = xs.filled;
        formed = and_from _ _ (ap (λ b. not b) core) xs.formed;
      });
  inlined = λ p ws given a r ss flat all body ends. of_expr p a (Expr-F.Inlined given ss) (at_inlined p ws given a r ss flat (listed_given p ws given all) body ends);
}
