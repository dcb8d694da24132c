-- The meaning of the widths of a node for its parts.
use Rattle.std.proofs.Common.{◌≡◌, ℕ, List, [], ◌∷◌, ◌++◌, Bool, true, false, ◌&&◌, if◌then◌else◌, map, take, Option, None, Some, refl, sym, ap, subst, ◌∙◌, slice_get, nat_eq, option_map, option_to_list}
use Rattle.std.specs.List.{list_all, list_any}
use Rattle.std.specs.Option.{option_eq, is_some}
use Rattle.std.specs.Cmp.Lexicographic.{same_text}
use Rattle.std.proofs.lemmas.Bool.{and_from, and_parts, eqb-true, eq-eqb, or_left}
use Rattle.lucid_base.specs.declared.array.ArrayName.{ArrayName}
use Rattle.lucid_base.specs.declared.ops.BinOp.{BinOp}
use Rattle.lucid_base.specs.declared.ops.CmpOp.{CmpOp}
use Rattle.lucid_base.specs.declared.ops.UnOp.{UnOp}
use Rattle.lucid_core.specs.declared.body.Expr.TheOpen.{Expr-F, Stmt-F, Touch-F}
use Rattle.lucid_core.specs.declared.defs.FunDef.{FunDef}
use Rattle.lucid_core.specs.Scope.{Scope}
use Rattle.lucid_core.specs.Typing.{Answer, Typed, ◌>>=◌, given_that, same, value, all_typed, values, cell_width, local_width, joined, one_answer, expr_step, touch_step, event_is_given, stmt_step, gives_only}

-- Where the second of two gives something, so does the first.
pub first_of_two : {A B : Type 0} (o : Option A) (f : A → Option B) (b : B) → (o >>= f) ≡ Some b → (a : A) × (o ≡ Some a) × (f a ≡ Some b)
first_of_two None f b h = absurd (cc)
first_of_two (Some a) f b h = (a, refl, h)

-- Where x is given that a test holds.
pub holds : {A : Type 0} (test : Bool) (x y : A) → given_that test x ≡ Some y → (test ≡ true) × (x ≡ y)
holds true x y h = (refl, cc)
holds false x y h = absurd (cc)

pub is_value : (o : Option Answer) (w : ℕ) → (o >>= (λ answer. answer)) ≡ Some w → o ≡ Some (Some w)
is_value None w h = absurd (cc)
is_value (Some None) w h = absurd (cc)
is_value (Some (Some v)) w h = cc

of_map : (o : Option ℕ) (a : Answer) → option_map (λ w. Some w) o ≡ Some a → (w : ℕ) × (o ≡ Some w) × (a ≡ Some w)
of_map None a h = absurd (cc)
of_map (Some w) a h = (w, refl, cc)

-- Helpers on answers.
option_eq_self : (a : Answer) → option_eq nat_eq a a ≡ true
option_eq_self None = refl
option_eq_self (Some w) = eq-eqb w w refl

-- The answer is that of each return; and if it is a value, some return has one.
only_answer : (rs : List Answer) (a : Answer) → one_answer rs ≡ Some a → (list_all (option_eq nat_eq a) rs ≡ true) × ((w : ℕ) → a ≡ Some w → list_any is_some rs ≡ true)
only_answer [] a h = (refl, λ w e. absurd (cc))
only_answer (r ∷ rs) a h =
    let found = holds (list_all (option_eq nat_eq r) rs) r a h in (
      subst (λ (b : Answer). list_all (option_eq nat_eq b) (r ∷ rs) ≡ true) found.1 (and_from _ _ (option_eq_self r) found.0),
      λ w e. or_left _ _ (ap is_some (found.1 ∙ e)),
    )

module _ (s : Scope) where
  -- It gives a value of width w.
  abbrev pub Gives : Typed Answer → ℕ → Type 0
  Gives x w = x s ≡ Some (Some w)

  gives : (x : Typed Answer) (w : ℕ) → value x s ≡ Some w → Gives x w
  gives x w h = is_value (x s) w h

  pub local_rule : (i : ℕ) (a : Answer) → expr_step (Expr-F.Local i) s ≡ Some a → (w : ℕ) × (slice_get s.locals i ≡ Some w) × (a ≡ Some w)
  local_rule i a h = of_map (local_width i s) a h

  pub un_rule : (op : UnOp) (x : Typed Answer) (a : Answer) → expr_step (Expr-F.Un op x) s ≡ Some a → (w : ℕ) × Gives x w × (a ≡ Some w)
  un_rule op x a h = let r = of_map (value x s) a h in (r.0, gives x r.0 r.1, r.2)

  pub bin_rule : (op : BinOp) (x y : Typed Answer) (a : Answer) → expr_step (Expr-F.Bin op x y) s ≡ Some a → (w : ℕ) × Gives x w × Gives y w × (a ≡ Some w)
  bin_rule op x y a h =
      let first = first_of_two (value x s) _ a h in
      let second = first_of_two (value y s) _ a first.2 in
      let same = holds (nat_eq first.0 second.0) (Some first.0) a second.2 in
      let e : second.0 ≡ first.0 = sym (eqb-true _ _ same.0) in
      (first.0, gives x first.0 first.1, gives y first.0 (second.1 ∙ ap (λ (w : ℕ). Some w) e), sym same.1)

  pub cmp_rule : (op : CmpOp) (x y : Typed Answer) (a : Answer) → expr_step (Expr-F.Cmp op x y) s ≡ Some a → (w : ℕ) × Gives x w × Gives y w × (a ≡ Some 1)
  cmp_rule op x y a h =
      let first = first_of_two (value x s) _ a h in
      let second = first_of_two (value y s) _ a first.2 in
      let same = holds (nat_eq first.0 second.0) (Some 1) a second.2 in
      let e : second.0 ≡ first.0 = sym (eqb-true _ _ same.0) in
      (first.0, gives x first.0 first.1, gives y first.0 (second.1 ∙ ap (λ (w : ℕ). Some w) e), sym same.1)

  pub cast_rule : (w : ℕ) (x : Typed Answer) (a : Answer) → expr_step (Expr-F.Cast w x) s ≡ Some a → (v : ℕ) × Gives x v × (a ≡ Some w)
  cast_rule w x a h = let first = first_of_two (value x s) _ a h in (first.0, gives x first.0 first.1, cc)

  pub hash_rule : (w : ℕ) (xs : List (Typed Answer)) (a : Answer) → expr_step (Expr-F.Hash w xs) s ≡ Some a → (ws : List ℕ) × (values xs s ≡ Some ws) × (a ≡ Some w)
  hash_rule w xs a h = let first = first_of_two (values xs s) _ a h in (first.0, first.1, cc)

  -- One after the other.
  pub all_rule : {A : Type 0} (x : Typed A) (xs : List (Typed A)) (rs : List A) → all_typed (x ∷ xs) s ≡ Some rs →
      (r : A) × (x s ≡ Some r) × ((rest : List A) × (all_typed xs s ≡ Some rest) × (rs ≡ r ∷ rest))
  all_rule {A = A} x xs rs h =
      let first = first_of_two (x s) _ rs h in
      let others = first_of_two (all_typed xs s) (λ (rest : List A). Some (first.0 ∷ rest)) rs first.2 in
      (first.0, first.1, (others.0, others.1, cc))

  pub values_rule : (x : Typed Answer) (xs : List (Typed Answer)) (ws : List ℕ) → values (x ∷ xs) s ≡ Some ws →
      (w : ℕ) × Gives x w × ((rest : List ℕ) × (values xs s ≡ Some rest) × (ws ≡ w ∷ rest))
  values_rule x xs ws h = let r = all_rule (value x) (map value xs) ws h in (r.0, gives x r.0 r.1, r.2)

  -- Each gives a value.
  abbrev pub AllGive : List (Typed Answer) → Type 0
  AllGive [] = Unit {0}
  AllGive (x ∷ xs) = ((w : ℕ) × Gives x w) × AllGive xs

  all_give : (xs : List (Typed Answer)) (ws : List ℕ) → values xs s ≡ Some ws → AllGive xs
  all_give [] ws h = tt
  all_give (x ∷ xs) ws h = let rule = values_rule x xs ws h in ((rule.0, rule.1), all_give xs rule.2.0 rule.2.1)

  pub give_parts : (xs ys : List (Typed Answer)) → AllGive (xs ++ ys) → AllGive xs × AllGive ys
  give_parts [] ys h = (tt, h)
  give_parts (x ∷ xs) ys h = let rest = give_parts xs ys h.1 in ((h.0, rest.0), rest.1)

  pub call_rule : (k : ℕ) (names : List ArrayName) (xs : List (Typed Answer)) (a : Answer) → expr_step (Expr-F.Fun k names xs) s ≡ Some a →
      (f : FunDef) × (slice_get s.funs k ≡ Some f) × (values xs s ≡ Some (take f.params f.locals)) × (all_typed (map cell_width names) s ≡ Some f.arrays) × (a ≡ f.answer)
  call_rule k names xs a h =
      let fun = first_of_two (slice_get s.funs k) _ a h in
      let cells = first_of_two (all_typed (map cell_width names) s) _ a fun.2 in
      let args = first_of_two (values xs s) _ a cells.2 in
      let agree = holds (same cells.0 fun.0.arrays && same args.0 (take fun.0.params fun.0.locals)) fun.0.answer a args.2 in
      let both = and_parts _ _ agree.0 in
      let e : args.0 ≡ take fun.0.params fun.0.locals = same_text _ _ (sym both.1) in
      let f : cells.0 ≡ fun.0.arrays = same_text _ _ (sym both.0) in
      (fun.0, fun.1, args.1 ∙ ap (λ (ws : List ℕ). Some ws) e, cells.1 ∙ ap (λ (ws : List ℕ). Some ws) f, sym agree.1)

  -- Each argument has the width of the local that is to hold it.
  abbrev pub Matched : List (ℕ × Typed Answer) → Type 0
  Matched [] = Unit {0}
  Matched (g ∷ gs) = ((w : ℕ) × Gives g.1 w × (slice_get s.locals g.0 ≡ Some w)) × Matched gs

  matched : (gs : List (ℕ × Typed Answer)) (ws : List ℕ) → values (map (λ g. g.1) gs) s ≡ Some ws → all_typed (map (λ g. local_width g.0) gs) s ≡ Some ws → Matched gs
  matched [] ws args held = tt
  matched (g ∷ gs) ws args held =
      let arg = values_rule g.1 (map (λ (e : ℕ × Typed Answer). e.1) gs) ws args in
      let hold = all_rule (local_width g.0) (map (λ (e : ℕ × Typed Answer). local_width e.0) gs) ws held in
      let e : arg.0 ∷ arg.2.0 ≡ hold.0 ∷ hold.2.0 = sym arg.2.2 ∙ hold.2.2 in
      let first : hold.0 ≡ arg.0 = cc in
      let others : hold.2.0 ≡ arg.2.0 = cc in (
        (arg.0, arg.1, hold.1 ∙ ap (λ (w : ℕ). Some w) first),
        matched gs arg.2.0 arg.2.1 (hold.2.1 ∙ ap (λ (rest : List ℕ). Some rest) others),
      )

  pub record Inlining (given : List (ℕ × Typed Answer)) (ss : List (Typed (List Answer))) (a : Answer) : Type 0 where
    pub matched : Matched given
    pub returns : List (List Answer)
    pub typed : all_typed ss s ≡ Some returns
    pub only : list_all (option_eq nat_eq a) (joined returns) ≡ true
    pub some : (w : ℕ) → a ≡ Some w → list_any is_some (joined returns) ≡ true
    pub answer : one_answer (joined returns) ≡ Some a

  pub inlined_rule : (given : List (ℕ × Typed Answer)) (ss : List (Typed (List Answer))) (a : Answer) → expr_step (Expr-F.Inlined given ss) s ≡ Some a → Inlining given ss a
  inlined_rule given ss a h =
      let args = first_of_two (values (map (λ (g : ℕ × Typed Answer). g.1) given) s) _ a h in
      let held = first_of_two (all_typed (map (λ (g : ℕ × Typed Answer). local_width g.0) given) s) _ a args.2 in
      let returns = first_of_two (all_typed ss s) _ a held.2 in
      let answer = first_of_two (one_answer (joined returns.0)) _ a returns.2 in
      let agree = holds (same args.0 held.0) answer.0 a answer.2 in
      let e : args.0 ≡ held.0 = same_text _ _ (sym agree.0) in
      let only = only_answer (joined returns.0) a (answer.1 ∙ ap (λ (b : Answer). Some b) agree.1) in
      record {
        matched = matched given held.0 (args.1 ∙ ap (λ (ws : List ℕ). Some ws) e) held.1;
        returns = returns.0;
        typed = returns.1;
        only = only.0;
        some = only.1;
        answer = answer.1 ∙ ap (λ (b : Answer). Some b) agree.1;
      }

  pub record Touching (t : Touch-F (Typed Answer) (Typed (List Answer)) (Typed Answer)) (a : Answer) : Type 0 where
    pub index : (w : ℕ) × Gives t.index w
    pub get : (w : ℕ) × Gives t.get_arg w
    pub set : (w : ℕ) × Gives t.set_arg w
    pub answer : a ≡ (if t.answers then Some t.get.width else None)
    pub cell : cell_width t.array s ≡ Some t.set.width

  pub touch_rule : (t : Touch-F (Typed Answer) (Typed (List Answer)) (Typed Answer)) (a : Answer) → touch_step t s ≡ Some a → Touching t a
  touch_rule t a h =
      let cell = first_of_two (cell_width t.array s) _ a h in
      let index = first_of_two (value t.index s) _ a cell.2 in
      let get = first_of_two (value t.get_arg s) _ a index.2 in
      let set = first_of_two (value t.set_arg s) _ a get.2 in
      let agree = holds (list_all (nat_eq cell.0) (t.get.width ∷ t.set.width ∷ get.0 ∷ set.0 ∷ [])) (if t.answers then Some cell.0 else None) a set.2 in
      let widths = and_parts _ _ agree.0 in
      let e : cell.0 ≡ t.get.width = eqb-true _ _ widths.0 in
      let f : cell.0 ≡ t.set.width = eqb-true _ _ (and_parts _ _ widths.1).0 in
      record {
        index = (index.0, gives t.index index.0 index.1);
        get = (get.0, gives t.get_arg get.0 get.1);
        set = (set.0, gives t.set_arg set.0 set.1);
        answer = sym agree.1 ∙ ap (λ (w : ℕ). if t.answers then Some w else None) e;
        cell = cell.1 ∙ ap (λ (w : ℕ). Some w) f;
      }

  pub assign_rule : (i : ℕ) (x : Typed Answer) (rs : List Answer) → stmt_step (Stmt-F.Assign i x) s ≡ Some rs → (w : ℕ) × Gives x w × (slice_get s.locals i ≡ Some w) × (rs ≡ [])
  assign_rule i x rs h =
      let first = first_of_two (value x s) _ rs h in
      let held = first_of_two (local_width i s) _ rs first.2 in
      let agree = holds (nat_eq first.0 held.0) [] rs held.2 in
      let e : held.0 ≡ first.0 = sym (eqb-true _ _ agree.0) in
      (first.0, gives x first.0 first.1, held.1 ∙ ap (λ (w : ℕ). Some w) e, sym agree.1)

  pub drop_rule : (x : Typed Answer) (rs : List Answer) → stmt_step (Stmt-F.Drop x) s ≡ Some rs → (a : Answer) × (x s ≡ Some a) × (rs ≡ [])
  drop_rule x rs h = let first = first_of_two (x s) _ rs h in (first.0, first.1, cc)

  pub record Branching (x : Typed Answer) (ss ts : List (Typed (List Answer))) (rs : List Answer) : Type 0 where
    pub condition : Gives x 1
    pub first : List (List Answer)
    pub typed : all_typed ss s ≡ Some first
    pub second : List (List Answer)
    pub typed_too : all_typed ts s ≡ Some second
    pub returns : rs ≡ joined first ++ joined second

  pub if_rule : (x : Typed Answer) (ss ts : List (Typed (List Answer))) (rs : List Answer) → stmt_step (Stmt-F.If x ss ts) s ≡ Some rs → Branching x ss ts rs
  if_rule x ss ts rs h =
      let condition = first_of_two (value x s) _ rs h in
      let first = first_of_two (all_typed ss s) _ rs condition.2 in
      let second = first_of_two (all_typed ts s) _ rs first.2 in
      let agree = holds (nat_eq condition.0 1) (joined first.0 ++ joined second.0) rs second.2 in
      let e : condition.0 ≡ 1 = eqb-true _ _ agree.0 in
      record {
        condition = gives x 1 (condition.1 ∙ ap (λ (w : ℕ). Some w) e);
        first = first.0;
        typed = first.1;
        second = second.0;
        typed_too = second.1;
        returns = sym agree.1;
      }

  -- The arguments have the widths of the event's parameters, and these are values too.
  pub record Sending (event : ℕ) (xs more : List (Typed Answer)) (rs : List Answer) : Type 0 where
    pub params : List ℕ
    pub declared : slice_get s.events event ≡ Some params
    pub typed : values xs s ≡ Some params
    pub others : AllGive more
    pub returns : rs ≡ []

  sent : (event : ℕ) (xs more : List (Typed Answer)) (rs : List Answer) →
      (event_is_given event xs s >>= (λ given. values more s >>= (λ ws. Some []))) ≡ Some rs → Sending event xs more rs
  sent event xs more rs h =
      let given = first_of_two (event_is_given event xs s) _ rs h in
      let others = first_of_two (values more s) _ rs given.2 in
      let params = first_of_two (slice_get s.events event) _ given.0 given.1 in
      let args = first_of_two (values xs s) _ given.0 params.2 in
      let agree = holds {A = List Answer} (same args.0 params.0) [] given.0 args.2 in
      let e : args.0 ≡ params.0 = same_text _ _ (sym agree.0) in
      record { params = params.0; declared = params.1; typed = args.1 ∙ ap (λ (ws : List ℕ). Some ws) e; others = all_give more others.0 others.1; returns = cc }

  pub gen_rule : (event : ℕ) (xs : List (Typed Answer)) (delay to : Option (Typed Answer)) (delay_first : Bool) (rs : List Answer) →
      stmt_step (Stmt-F.Gen event xs delay to delay_first) s ≡ Some rs → Sending event xs (option_to_list delay ++ option_to_list to) rs
  gen_rule event xs delay to delay_first rs h = sent event xs _ rs h

  pub multi_rule : (event : ℕ) (xs : List (Typed Answer)) (delay : Option (Typed Answer)) (members : List ℕ) (rs : List Answer) →
      stmt_step (Stmt-F.Multi event xs delay members) s ≡ Some rs → Sending event xs (option_to_list delay) rs
  multi_rule event xs delay members rs h = sent event xs _ rs h

  pub say_rule : (form : ℕ) (xs : List (Typed Answer)) (rs : List Answer) → stmt_step (Stmt-F.Say form xs) s ≡ Some rs → (ws : List ℕ) × (values xs s ≡ Some ws) × (rs ≡ [])
  say_rule form xs rs h = let first = first_of_two (values xs s) _ rs h in (first.0, first.1, cc)

  pub return_rule : (x : Typed Answer) (rs : List Answer) → stmt_step (Stmt-F.Return (Some x)) s ≡ Some rs → (w : ℕ) × Gives x w × (rs ≡ Some w ∷ [])
  return_rule x rs h = let first = first_of_two (value x s) _ rs h in (first.0, gives x first.0 first.1, cc)

  pub body_rule : (a : Answer) (ss : List (Typed (List Answer))) → gives_only a (all_typed ss s) ≡ true → (rs : List (List Answer)) × (all_typed ss s ≡ Some rs) × (list_all (option_eq nat_eq a) (joined rs) ≡ true)
  body_rule a ss h = of_all (all_typed ss s) h
    where
      of_all : (o : Option (List (List Answer))) → gives_only a o ≡ true → (rs : List (List Answer)) × (o ≡ Some rs) × (list_all (option_eq nat_eq a) (joined rs) ≡ true)
      of_all None g = absurd (cc)
      of_all (Some rs) g = (rs, refl, g)
