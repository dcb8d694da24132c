-- Lists of expressions that keep the rules, as the rules ask it of a list.
use Rattle.std.proofs.Common.{◌≡◌, ℕ, suc, List, [], ◌∷◌, ◌++◌, Option, None, Some, Bool, true, ◌&&◌, length, map, nat_eq, nat_lt, refl, sym, ap, ◌∙◌, slice_get}
use Rattle.std.specs.List.{list_all}
use Rattle.std.proofs.lemmas.Bool.{and_from, and_parts, eq-eqb, lt-ltb}
use Rattle.std.proofs.lemmas.Option.{slice_get_within}
use Rattle.std.proofs.lemmas.List.Folds.{list_all-append}
use Rattle.lucid_base.specs.declared.array.ArrayName.{ArrayName}
use Rattle.lucid_base.specs.declared.array.ArrayName.TheVariants.{Global, Param}
use Rattle.lucid_core.specs.declared.body.Expr.{Expr}
use Rattle.lucid_core.specs.Assigned.{Flow, all_read_assigned, expr_flow}
use Rattle.lucid_core.specs.Limits.{expr_limits}
use Rattle.lucid_core.specs.Names.{expr_names, is_array}
use Rattle.lucid_core.specs.Numbers.{all_hold}
use Rattle.lucid_core.specs.Returns.{expr_returns}
use Rattle.lucid_core.specs.Scope.{Scope, Test, each}
use Rattle.lucid_core.specs.Texts.{each_filled, expr_texts}
use Rattle.lucid_core.specs.Typing.{Answer, Typed, ◌>>=◌, all_typed, answer_of, cell_width, local_width, same, values}
use Rattle.lucid_core_laws.specs.Allowed.{expr_allowed}
use Rattle.lucid_core_laws.specs.ExprNodes.{KeepsGiven}
use Rattle.lucid_core.specs.Few.{expr_few}
use Rattle.lucid_core_laws.specs.Keeps.{KeepsExpr, KeepsAll}
use Rattle.lucid_core_laws.specs.Place.{Place}

-- ---- tests of two lists

pub both_lists : {A : Type 0} (test : A → Bool) (xs ys : List A) → list_all test xs ≡ true → list_all test ys ≡ true → list_all test (xs ++ ys) ≡ true
both_lists test xs ys h k = list_all-append test xs ys ∙ and_from _ _ h k

pub of_both : {A : Type 0} (test : A → Bool) (xs ys : List A) → list_all test (xs ++ ys) ≡ true → (list_all test xs ≡ true) × (list_all test ys ≡ true)
of_both test xs ys h = and_parts _ _ (sym (list_all-append test xs ys) ∙ h)

-- ---- widths and places

pub same_width : (w : ℕ) → nat_eq w w ≡ true
same_width w = eq-eqb w w refl

pub same_widths : (ws : List ℕ) → same ws ws ≡ true
same_widths [] = refl
same_widths (w ∷ ws) = and_from _ _ (same_width w) (same_widths ws)

pub is_below : {A : Type 0} (xs : List A) (i : ℕ) (x : A) → slice_get xs i ≡ Some x → nat_lt i (length xs) ≡ true
is_below xs i x h = lt-ltb i (length xs) (slice_get_within xs i x h)

-- An array whose cells have a width is there.
pub array_is_there : (s : Scope) (name : ArrayName) (w : ℕ) → cell_width name s ≡ Some w → is_array s.arrays s.params name ≡ true
array_is_there s (Global a) w h = is_below s.arrays a w h
array_is_there s (Param i) w h = is_below s.params i w h

first_given : (o : Option ℕ) (r : Option (List ℕ)) (ws : List ℕ) → (o >>= (λ a. r >>= (λ as_. Some (a ∷ as_)))) ≡ Some ws → (w : ℕ) × (vs : List ℕ) × (o ≡ Some w) × (r ≡ Some vs)
first_given None r ws h = absurd (cc)
first_given (Some w) None ws h = absurd (cc)
first_given (Some w) (Some vs) ws h = (w, vs, refl, refl)

pub arrays_are_there : (s : Scope) (names : List ArrayName) (ws : List ℕ) → all_typed (map cell_width names) s ≡ Some ws → list_all (is_array s.arrays s.params) names ≡ true
arrays_are_there s [] ws h = refl
arrays_are_there s (x ∷ xs) ws h =
    let both = first_given (cell_width x s) (all_typed (map cell_width xs) s) ws h in
    and_from _ _ (array_is_there s x both.0 both.2) (arrays_are_there s xs both.1 both.3)

-- ---- lists of expressions

pub record Listed (p : Place) (ws : List ℕ) (cs : List Expr) : Type 0 where
  pub count : length cs ≡ length ws
  pub named : each (map expr_names cs) p.scope ≡ true
  pub typed : values (map answer_of cs) p.scope ≡ Some ws
  pub last : list_all (λ r. r.last) (map expr_returns cs) ≡ true
  pub reads : all_read_assigned (map expr_flow cs) p.known ≡ true
  pub limited : all_hold (map expr_few cs) ≡ true → all_hold (map expr_limits cs) ≡ true
  pub filled : each_filled (map expr_texts cs) p.scope.forms ≡ true
  pub formed : all_hold (map (expr_allowed p.flat) cs) ≡ true

one_part : (p : Place) (w : ℕ) (ws : List ℕ) (c : Expr) (cs : List Expr) → KeepsExpr p (Some w) c → Listed p ws cs → Listed p (w ∷ ws) (c ∷ cs)
one_part p w ws c cs x xs = record {
  count = ap (λ n. suc n) xs.count;
  named = and_from _ _ x.named xs.named;
  typed = rw (x.typed, xs.typed) refl;
  last = and_from _ _ x.last xs.last;
  reads = and_from _ _ x.reads xs.reads;
  limited = λ h. let parts = and_parts _ _ h in and_from _ _ (x.limited parts.0) (xs.limited parts.1);
  filled = and_from _ _ x.filled xs.filled;
  formed = and_from _ _ x.formed xs.formed;
}

pub listed : (p : Place) (ws : List ℕ) (cs : List Expr) → KeepsAll p ws cs → Listed p ws cs
listed p [] [] h = record { count = refl; named = refl; typed = refl; last = refl; reads = refl; limited = λ h. refl; filled = refl; formed = refl }
listed p (w ∷ ws) (c ∷ cs) h = one_part p w ws c cs h.0 (listed p ws cs h.1)
listed p [] (c ∷ cs) h = absurd h
listed p (w ∷ ws) [] h = absurd h

pub joined_parts : (p : Place) (ws vs : List ℕ) (cs ds : List Expr) → KeepsAll p ws cs → KeepsAll p vs ds → KeepsAll p (ws ++ vs) (cs ++ ds)
joined_parts p [] vs [] ds x y = y
joined_parts p (w ∷ ws) vs (c ∷ cs) ds x y = (x.0, joined_parts p ws vs cs ds x.1 y)
joined_parts p [] vs (c ∷ cs) ds x y = absurd x
joined_parts p (w ∷ ws) vs [] ds x y = absurd x

pub just : (p : Place) (w : ℕ) (c : Expr) → KeepsExpr p (Some w) c → Listed p (w ∷ []) (c ∷ [])
just p w c x = listed p (w ∷ []) (c ∷ []) (x, tt)

pub pair : (p : Place) (w v : ℕ) (c d : Expr) → KeepsExpr p (Some w) c → KeepsExpr p (Some v) d → Listed p (w ∷ v ∷ []) (c ∷ d ∷ [])
pair p w v c d x y = listed p (w ∷ v ∷ []) (c ∷ d ∷ []) (x, (y, tt))

-- ---- arguments of an inlined call

abbrev pub each_given : {A : Type 0} → (Expr → A) → List (ℕ × Expr) → List (ℕ × A)
each_given {A} f given = map (λ (g : ℕ × Expr). (g.0, f g.1)) given

abbrev pub arguments : {A : Type 0} → (Expr → A) → List (ℕ × Expr) → List A
arguments {A} f given = map (λ (g : ℕ × A). g.1) (each_given f given)

pub record ListedGiven (p : Place) (ws : List ℕ) (given : List (ℕ × Expr)) : Type 0 where
  pub named : list_all (λ (g : ℕ × Test). nat_lt g.0 (length p.scope.locals) && g.1 p.scope) (each_given expr_names given) ≡ true
  pub typed : values (arguments answer_of given) p.scope ≡ Some ws
  pub held : all_typed (map (λ (g : ℕ × Typed Answer). local_width g.0) (each_given answer_of given)) p.scope ≡ Some ws
  pub last : list_all (λ r. r.last) (arguments expr_returns given) ≡ true
  pub reads : all_read_assigned (arguments expr_flow given) p.known ≡ true
  pub params : map (λ (g : ℕ × Flow). g.0) (each_given expr_flow given) ≡ map (λ (g : ℕ × Expr). g.0) given
  pub limited : all_hold (arguments expr_few given) ≡ true → all_hold (arguments expr_limits given) ≡ true
  pub filled : each_filled (arguments expr_texts given) p.scope.forms ≡ true
  pub formed : all_hold (arguments (expr_allowed p.flat) given) ≡ true

pub listed_given : (p : Place) (ws : List ℕ) (given : List (ℕ × Expr)) → KeepsGiven p ws given → ListedGiven p ws given
listed_given p [] [] h = record { named = refl; typed = refl; held = refl; last = refl; reads = refl; params = refl; limited = λ h. refl; filled = refl; formed = refl }
listed_given p (w ∷ ws) (g ∷ given) h =
    let x = h.1 in
    let xs = listed_given p ws given h.2 in
    record {
      named = and_from _ _ (and_from _ _ (is_below p.scope.locals g.0 w h.0) x.named) xs.named;
      typed = rw (x.typed, xs.typed) refl;
      held = rw (h.0, xs.held) refl;
      last = and_from _ _ x.last xs.last;
      reads = and_from _ _ x.reads xs.reads;
      params = ap (λ ns. g.0 ∷ ns) xs.params;
      limited = λ h. let parts = and_parts _ _ h in and_from _ _ (x.limited parts.0) (xs.limited parts.1);
      filled = and_from _ _ x.filled xs.filled;
      formed = and_from _ _ x.formed xs.formed;
    }
listed_given p [] (g ∷ given) h = absurd h
listed_given p (w ∷ ws) [] h = absurd h
