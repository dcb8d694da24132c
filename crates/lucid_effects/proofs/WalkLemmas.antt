-- A block that ends in an `if`, gone along by the second branches.
use Rattle.std.proofs.Common.{◌≡◌, ℕ, ◌+◌, ◌<◌, ◌≤◌, ◌⊎◌, inl, inr, Bool, true, false, List, [], ◌∷◌, ◌++◌, if◌then◌else◌, ◌||◌, Option, None, Some, Ok, Err}
use Rattle.std.proofs.Common.{length, map, refl, sym}
use Rattle.std.proofs.Common.{ap, ap₂, subst, ◌∙◌, arith}
use Rattle.std.specs.List.{list_any}
use Rattle.std.specs.Prelude.{Result, IsErr, OnOk}
use Rattle.lucid_base.specs.declared.array.ArrayName.{ArrayName}
use Rattle.lucid_base.specs.declared.memory.Memory.{Memory}
use Rattle.lucid_base.specs.declared.ops.BinOp.{BinOp}
use Rattle.lucid_base.specs.declared.ops.CmpOp.{CmpOp}
use Rattle.lucid_base.specs.declared.ops.UnOp.{UnOp}
use denote.Param.Weighed.{most}
use Rattle.lucid_constraints.specs.declared.pair.Atom.{Atom}
use Rattle.lucid_constraints.specs.Same.{same_atom, joined, join_all}
use Rattle.lucid_constraints.proofs.SameLemmas.{same_atom_is, same_atom_refl}
use Rattle.lucid_core.specs.declared.body.Expr.{Expr}
use Rattle.lucid_core.specs.declared.body.Stmt.{Stmt}
use Rattle.lucid_core.specs.declared.body.Touch.{Touch, out-Touch}
use Rattle.lucid_core.specs.declared.body.Expr.TheViews as v
use Rattle.lucid_core.specs.declared.body.Expr.TheViews.{size-Expr, size-Stmt}
use Rattle.lucid_core.specs.declared.body.Expr.TheVariants as e
use Rattle.lucid_core.specs.declared.body.Stmt.TheVariants as s
use Rattle.lucid_effects.specs.Goes.{Goes, walked}
use Rattle.lucid_effects.specs.Walk.{asked_found, back_from, behind, closed, first, with_more}
use Rattle.lucid_effects.proofs.Forms.{array_is, assign_is, bin_is, call_is, cast_is, cmp_is, drop_is, gen_is, hash_is, if_is, inlined_is}
use Rattle.lucid_effects.proofs.Forms.{multi_is, return_is, say_is, un_is}
use Rattle.lucid_effects.proofs.Rising.{touch_is}
use Rattle.lucid_effects.proofs.Rising.{asked_up, body_up, branch_left, call_left, expr_up, inlined_left, multi_left, sent_left, set_left, stmt_up}
use Rattle.lucid_effects_spec.specs.declared.scheme.Scheme.{Scheme}
use Rattle.lucid_effects_spec.specs.Evaluation.{both as evaluated, sequence}
use Rattle.lucid_effects_spec.specs.Schemes.{Advance, Walked, body_found, either, expr_found, finds, given_found, goes_through, passes}
use Rattle.lucid_effects_spec.specs.Schemes.{stmt_found, touch_found, visit}

-- ---- where a function of the walk ends

pub goes_on : {A : Type 0} (r : Result A Memory) (there whole here : Walked) → there ≡ whole → Goes there here r → Goes whole here r
goes_on r there whole here is h = subst (λ (w : Walked). Goes w here r) is h

pub stops : {A : Type 0} (r : Result A Memory) (whole here : Walked) → IsErr r → here.steps ≤ whole.steps → Goes whole here r
stops (Ok x) whole here err most = absurd (cc)
stops (Err d) whole here err most = most

-- The last call only sets where the walk is.
pub ends_there : {A : Type 0} (r : Result A Memory) (ends : List Atom) (at after : Scheme) (n : ℕ) (whole : Walked) →
    OnOk r (after ≡ record at { ends = ends }) →
    record (walked at n) { ends = ends } ≡ whole → Goes whole (walked after n) r
ends_there (Ok x) ends at after n whole is same = ap (λ (at : Scheme). walked at n) is ∙ same
ends_there (Err d) ends at after n whole is same = let steps = ap (λ (w : Walked). w.steps) same in omega (arith, steps)

-- The walk that goes on ends with the ends of the first branches behind it.
pub closes : {A : Type 0} (r : Result A Memory) (firsts : Option (List Atom)) (there here whole : Walked) → closed firsts there ≡ whole →
    Goes there here r → Goes whole (closed firsts here) r
closes (Ok x) firsts there here whole is h = ap (λ (w : Walked). closed firsts w) h ∙ is
closes (Err d) firsts there here whole is h = subst (λ (w : Walked). here.steps ≤ w.steps) is h

-- No statement is left.
pub none_left : (left : List Stmt) (fs : List Scheme) (w : Walked) (firsts : Option (List Atom)) (whole : Walked) → length left ≡ 0 →
    closed firsts (body_found left fs w) ≡ whole → closed firsts w ≡ whole
none_left [] fs w firsts whole none is = is
none_left (s ∷ ss) fs w firsts whole none is = absurd (omega arith)

-- A first branch that is lent as a slice, after a step.
module _ (x : Expr) (a ss : List Stmt) (fs : List Scheme) (at : Scheme) (n k : ℕ) (is : ss ≡ a) (tick : k ≡ n + 1) where
  pub branch_is : (here : Walked) → here ≡ back_from x ss fs (walked at k) → here ≡ back_from x a fs (walked at (n + 1))
  branch_is here found = found ∙ ap₂ (λ (ss : List Stmt) (k : ℕ). back_from x ss fs (walked at k)) is tick

  pub branch_ends : (ends : List Atom) → ends ≡ (first x ss fs (walked at k)).ends → ends ≡ (first x a fs (walked at (n + 1))).ends
  branch_ends ends found = found ∙ ap₂ (λ (ss : List Stmt) (k : ℕ). (first x ss fs (walked at k)).ends) is tick

  pub branch_most : (j : ℕ) → j ≤ (first x ss fs (walked at k)).steps → j ≤ (first x a fs (walked at (n + 1))).steps
  branch_most j most = subst (λ steps. j ≤ steps) (ap₂ (λ (ss : List Stmt) (k : ℕ). (first x ss fs (walked at k)).steps) is tick) most

-- ---- joining joined places

abbrev In : Atom → List Atom → Type 0
In x xs = list_any (same_atom x) xs ≡ true

in_longer : (x : Atom) (xs ys : List Atom) → In x xs → In x (xs ++ ys)
in_longer x [] ys h = absurd (cc)
in_longer x (y ∷ xs) ys h = of (same_atom x y) refl (λ k. in_longer x xs ys k)
  where
    of : (b : Bool) → same_atom x y ≡ b → (In x xs → In x (xs ++ ys)) → (same_atom x y || list_any (same_atom x) (xs ++ ys)) ≡ true
    of true e again = ap (λ (t : Bool). t || list_any (same_atom x) (xs ++ ys)) e
    of false e again = ap (λ (t : Bool). t || list_any (same_atom x) (xs ++ ys)) e
        ∙ again (sym (ap (λ (t : Bool). t || list_any (same_atom x) xs) e) ∙ h)

in_last : (x : Atom) (xs : List Atom) → In x (xs ++ x ∷ [])
in_last x [] = ap (λ (t : Bool). t || false) (same_atom_refl x)
in_last x (y ∷ xs) = of (same_atom x y) refl (in_last x xs)
  where
    of : (b : Bool) → same_atom x y ≡ b → In x (xs ++ x ∷ []) → (same_atom x y || list_any (same_atom x) (xs ++ x ∷ [])) ≡ true
    of true e again = ap (λ (t : Bool). t || list_any (same_atom x) (xs ++ x ∷ [])) e
    of false e again = ap (λ (t : Bool). t || list_any (same_atom x) (xs ++ x ∷ [])) e ∙ again

in_joined : (x y : Atom) (xs : List Atom) → In x xs → In x (joined same_atom xs y)
in_joined x y xs h = of (list_any (same_atom y) xs) refl
  where
    of : (b : Bool) → list_any (same_atom y) xs ≡ b → In x (if b then xs else xs ++ y ∷ [])
    of true e = h
    of false e = in_longer x xs (y ∷ []) h

joined_in : (x : Atom) (xs : List Atom) → In x (joined same_atom xs x)
joined_in x xs = of (list_any (same_atom x) xs) refl
  where
    of : (b : Bool) → list_any (same_atom x) xs ≡ b → In x (if b then xs else xs ++ x ∷ [])
    of true e = e
    of false e = in_last x xs

stays : (x : Atom) (xs ys : List Atom) → In x xs → In x (join_all same_atom xs ys)
stays x xs [] h = h
stays x xs (y ∷ ys) h = stays x (joined same_atom xs y) ys (in_joined x y xs h)

comes : (x : Atom) (xs ys : List Atom) → In x ys → In x (join_all same_atom xs ys)
comes x xs [] h = absurd (cc)
comes x xs (y ∷ ys) h = of (same_atom x y) refl (λ k. comes x (joined same_atom xs y) ys k)
  where
    of : (b : Bool) → same_atom x y ≡ b → (In x ys → In x (join_all same_atom (joined same_atom xs y) ys)) →
        In x (join_all same_atom (joined same_atom xs y) ys)
    of true e again = stays x (joined same_atom xs y) ys
        (subst (λ (z : Atom). In x (joined same_atom xs z)) (same_atom_is x y e) (joined_in x xs))
    of false e again = again (sym (ap (λ (t : Bool). t || list_any (same_atom x) ys) e) ∙ h)

join_longer : (xs zs : List Atom) (y : Atom) → join_all same_atom xs (zs ++ y ∷ []) ≡ joined same_atom (join_all same_atom xs zs) y
join_longer xs [] y = refl
join_longer xs (z ∷ zs) y = join_longer (joined same_atom xs z) zs y

join_joined : (xs zs : List Atom) (y : Atom) → join_all same_atom xs (joined same_atom zs y) ≡ joined same_atom (join_all same_atom xs zs) y
join_joined xs zs y = of (list_any (same_atom y) zs) refl
  where
    of : (b : Bool) → list_any (same_atom y) zs ≡ b →
        join_all same_atom xs (if b then zs else zs ++ y ∷ []) ≡ joined same_atom (join_all same_atom xs zs) y
    of true e = sym (ap (λ (b : Bool). if b then join_all same_atom xs zs else join_all same_atom xs zs ++ y ∷ []) (comes y xs zs e))
    of false e = join_longer xs zs y

onto : (xs zs ys : List Atom) → join_all same_atom xs (join_all same_atom zs ys) ≡ join_all same_atom (join_all same_atom xs zs) ys
onto xs zs [] = refl
onto xs zs (y ∷ ys) = onto xs (joined same_atom zs y) ys ∙ ap (λ (ps : List Atom). join_all same_atom ps ys) (join_joined xs zs y)

-- ---- a block that ends in an `if`

behind_more : (firsts : Option (List Atom)) (more ends : List Atom) →
    behind firsts (join_all same_atom more ends) ≡ behind (Some (with_more firsts more)) ends
behind_more None more ends = refl
behind_more (Some before) more ends = onto before more ends

last_is : (front : List Stmt) (y : Stmt) (fs : List Scheme) (w : Walked) →
    body_found (front ++ y ∷ []) fs w ≡ stmt_found y fs (body_found front fs w)
last_is [] y fs w = refl
last_is (z ∷ front) y fs w = last_is front y fs (stmt_found z fs w)

module _ (left front : List Stmt) (x : Expr) (a b : List Stmt) (is : left ≡ front ++ s.If x a b ∷ []) (fs : List Scheme) (w : Walked)
    (firsts : Option (List Atom)) (whole : Walked)
    (same : closed firsts (body_found left fs w) ≡ whole) where
  abbrev at : Walked
  at = body_found front fs w

  opened : body_found left fs w ≡ stmt_found (s.If x a b) fs at
  opened = ap (λ (ss : List Stmt). body_found ss fs w) is ∙ last_is front (s.If x a b) fs w

  steps_are : (stmt_found (s.If x a b) fs at).steps ≡ whole.steps
  steps_are = sym (ap (λ (u : Walked). u.steps) opened) ∙ ap (λ (u : Walked). u.steps) same

  -- One step along.
  pub stepped : closed (Some (with_more firsts (first x a fs (visit at)).ends)) (body_found b fs (back_from x a fs (visit at))) ≡ whole
  stepped =
      let rest : Walked = body_found b fs (back_from x a fs (visit at)) in
      sym (ap (λ (ends : List Atom). the rest ends) (behind_more firsts (first x a fs (visit at)).ends rest.ends))
      ∙ sym (ap (λ (u : Walked). closed firsts u) (opened ∙ if_is x a b fs at)) ∙ same
    where
      the : Walked → List Atom → Walked
      the u ends = record u { ends = ends }

  -- The same of a walk that took these turns.
  pub stepped_by : (one two : Walked) (ends : List Atom) (after : Option (List Atom)) (rest : List Stmt) → one ≡ at →
      two ≡ back_from x a fs (visit one) →
      ends ≡ (first x a fs (visit one)).ends → after ≡ Some (with_more firsts ends) → rest ≡ b →
      closed after (body_found rest fs two) ≡ whole
  stepped_by one two ends after rest is_one is_two is_ends is_after is_rest =
      ap₂ (λ (o : Option (List Atom)) (u : Walked). closed o u)
      (is_after ∙ ap (λ (es : List Atom). Some (with_more firsts es)) (is_ends ∙ ap (λ (u : Walked). (first x a fs (visit u)).ends) is_one))
      (ap₂ (λ (ss : List Stmt) (u : Walked). body_found ss fs u) is_rest (is_two ∙ ap (λ (u : Walked). back_from x a fs (visit u)) is_one))
      ∙ stepped

  pub front_left : (k : ℕ) → k ≤ at.steps → k ≤ whole.steps
  front_left k most = let more = stmt_up (s.If x a b) fs at in let eq = steps_are in omega (arith, most, more, eq)

  pub first_left : (one : Walked) (k : ℕ) → one ≡ at → k ≤ (first x a fs (visit one)).steps → k ≤ whole.steps
  first_left one k is_one most =
      let low = subst (λ (u : Walked). k ≤ (first x a fs (visit u)).steps) is_one most in
      let more = branch_left x a b (s.If x a b) fs at k refl low in
      let eq = steps_are in
      omega (arith, more, eq)

-- Both branches, joined.
pub either_joins : (x : Expr) (a b : List Stmt) (fs : List Scheme) (w mid last : Walked) (left : List Atom) →
    left ≡ (first x a fs w).ends → mid ≡ back_from x a fs w → last ≡ body_found b fs mid →
    record last { ends = join_all same_atom left last.ends } ≡ either (body_found a) (body_found b) fs (expr_found x fs w)
either_joins x a b fs w mid last left is_left is_mid is_last =
    ap₂ (λ (ends : List Atom) (u : Walked). record u { ends = join_all same_atom ends u.ends }) is_left
    (is_last ∙ ap (λ (u : Walked). body_found b fs u) is_mid)

-- Both branches, stopped behind the first.
pub either_left : (x : Expr) (a b : List Stmt) (fs : List Scheme) (w : Walked) (k : ℕ) → k ≤ (first x a fs w).steps →
    k ≤ (either (body_found a) (body_found b) fs (expr_found x fs w)).steps
either_left x a b fs w k most = let more = body_up b fs (back_from x a fs w) in omega (arith, most, more)

-- The condition, stopped before the first branch.
pub tested_left : (x : Expr) (a : List Stmt) (fs : List Scheme) (w : Walked) (k : ℕ) → k ≤ (expr_found x fs w).steps →
    k ≤ (first x a fs w).steps
tested_left x a fs w k most = let more = body_up a fs (expr_found x fs w) in omega (arith, most, more)

-- ---- measures

-- The front of a block that ends in an `if` is no deeper than the block, and the parts of the `if` are less deep.
pub parts_are_less : (left front : List Stmt) (x : Expr) (ss ts : List Stmt) → left ≡ front ++ s.If x ss ts ∷ [] →
    (most (λ t. size-Stmt t) front ≤ most (λ t. size-Stmt t) left) × (size-Expr x < most (λ t. size-Stmt t) left)
    × (most (λ t. size-Stmt t) ss < most (λ t. size-Stmt t) left) × (most (λ t. size-Stmt t) ts < most (λ t. size-Stmt t) left)
parts_are_less left front x ss ts is =
    let size = v.sized-If x ss ts in
    let all = within front in
    rw is (omega arith, omega arith, omega arith, omega arith)
  where
    within : (front : List Stmt) →
        (most (λ t. size-Stmt t) front ≤ most (λ t. size-Stmt t) (front ++ s.If x ss ts ∷ [])) ×
        (size-Stmt (s.If x ss ts) ≤ most (λ t. size-Stmt t) (front ++ s.If x ss ts ∷ []))
    within [] = (omega arith, omega arith)
    within (y ∷ ys) = let rest = within ys in (omega arith, omega arith)

-- ---- expressions, from their parts

module _ {A : Type 0} (r : Result A Memory) (fs : List Scheme) (at : Scheme) (n k : ℕ) (tick : k ≡ n + 1) (here : Walked) where
  abbrev from : Walked
  from = walked at n

  -- A form that is a step and then goes as its parts.
  counted : (whole : Walked) (f : Advance) → whole ≡ f fs (visit from) → Goes (f fs (walked at k)) here r → Goes whole here r
  counted whole f is h = goes_on r (f fs (walked at k)) whole here (ap (λ (j : ℕ). f fs (walked at j)) tick ∙ sym is) h

  unrolled : (x y : Expr) → x ≡ y → expr_found x fs from ≡ expr_found y fs from
  unrolled x y is = ap (λ (z : Expr). expr_found z fs from) is

  reached : (y z : Stmt) → y ≡ z → stmt_found y fs from ≡ stmt_found z fs from
  reached y z is = ap (λ (t : Stmt). stmt_found t fs from) is

  as_one : (x a g : Expr) → expr_found x fs from ≡ expr_found a fs (visit from) → g ≡ a → Goes (expr_found g fs (walked at k)) here r →
      Goes (expr_found x fs from) here r
  as_one x a g is part = counted (expr_found x fs from) (expr_found g) (is ∙ ap (λ (z : Expr). expr_found z fs (visit from)) (sym part))

  pub un_goes : (x a g : Expr) → ((op : UnOp) × (x ≡ e.Un op a)) ⊎ ((width : ℕ) × (x ≡ e.Cast width a)) → g ≡ a →
      Goes (expr_found g fs (walked at k)) here r → Goes (expr_found x fs from) here r
  un_goes x a g (inl un) = as_one x a g (unrolled x (e.Un un.0 a) un.1 ∙ un_is un.0 a fs from)
  un_goes x a g (inr cast) = as_one x a g (unrolled x (e.Cast cast.0 a) cast.1 ∙ cast_is cast.0 a fs from)

  as_two : (x a b g h : Expr) → expr_found x fs from ≡ expr_found b fs (expr_found a fs (visit from)) → g ≡ a → h ≡ b →
      Goes (expr_found h fs (expr_found g fs (walked at k))) here r → Goes (expr_found x fs from) here r
  as_two x a b g h is first second = counted (expr_found x fs from) (λ fs w. expr_found h fs (expr_found g fs w))
      (is ∙ ap₂ (λ (y z : Expr). expr_found z fs (expr_found y fs (visit from))) (sym first) (sym second))

  pub bin_goes : (x a b g h : Expr) → ((op : BinOp) × (x ≡ e.Bin op a b)) ⊎ ((op : CmpOp) × (x ≡ e.Cmp op a b)) → g ≡ a → h ≡ b →
      Goes (expr_found h fs (expr_found g fs (walked at k))) here r → Goes (expr_found x fs from) here r
  bin_goes x a b g h (inl bin) = as_two x a b g h (unrolled x (e.Bin bin.0 a b) bin.1 ∙ bin_is bin.0 a b fs from)
  bin_goes x a b g h (inr cmp) = as_two x a b g h (unrolled x (e.Cmp cmp.0 a b) cmp.1 ∙ cmp_is cmp.0 a b fs from)

  pub hash_goes : (bits : ℕ) (x : Expr) (es gs : List Expr) → x ≡ e.Hash bits es → gs ≡ es →
      Goes (sequence finds (map expr_found gs) fs (walked at k)) here r → Goes (expr_found x fs from) here r
  hash_goes bits x es gs is parts = counted (expr_found x fs from) (sequence finds (map expr_found gs))
      (unrolled x (e.Hash bits es) is ∙ hash_is bits es fs from ∙ ap (λ (ys : List Expr). sequence finds (map expr_found ys) fs (visit from)) (sym parts))

  pub array_goes : (x : Expr) (t u : Touch) → x ≡ e.Array t → u ≡ t → Goes (touch_found u fs (walked at k)) here r → Goes (expr_found x fs from) here r
  array_goes x t u is part = counted (expr_found x fs from) (touch_found u)
      (unrolled x (e.Array t) is ∙ array_is t fs from ∙ ap (λ (z : Touch). touch_found z fs (visit from)) (sym part))

  pub inlined_stops : (x : Expr) (given gs : List (ℕ × Expr)) (ss : List Stmt) → x ≡ e.Inlined given ss → gs ≡ given → IsErr r →
      here.steps ≤ (given_found gs fs (walked at k)).steps → Goes (expr_found x fs from) here r
  inlined_stops x given gs ss is parts err most =
      let same = ap (λ (j : ℕ). given_found gs fs (walked at j)) tick ∙ ap (λ (ys : List (ℕ × Expr)). given_found ys fs (visit from)) parts in
      stops r (expr_found x fs from) here err
      (inlined_left given ss x fs from here.steps is (subst (λ (w : Walked). here.steps ≤ w.steps) same most))

  pub inlined_goes : (x : Expr) (given gs : List (ℕ × Expr)) (ss ts : List Stmt) (mid : Walked) → x ≡ e.Inlined given ss → gs ≡ given → ts ≡ ss →
      mid ≡ given_found gs fs (walked at k) → Goes (body_found ts fs mid) here r → Goes (expr_found x fs from) here r
  inlined_goes x given gs ss ts mid is parts body there h =
      let same = there ∙ ap (λ (j : ℕ). given_found gs fs (walked at j)) tick ∙ ap (λ (ys : List (ℕ × Expr)). given_found ys fs (visit from)) parts in
      goes_on r (body_found ts fs mid) (expr_found x fs from) here
      (ap₂ (λ (us : List Stmt) (w : Walked). body_found us fs w) body same ∙ sym (unrolled x (e.Inlined given ss) is ∙ inlined_is given ss fs from)) h

  -- ---- statements

  pub assign_goes : (y : Stmt) (x : Expr) → ((i : ℕ) × (y ≡ s.Assign i x)) ⊎ (y ≡ s.Drop x) →
      Goes (expr_found x fs (walked at k)) here r → Goes (stmt_found y fs from) here r
  assign_goes y x (inl assign) = counted (stmt_found y fs from) (expr_found x) (reached y (s.Assign assign.0 x) assign.1 ∙ assign_is assign.0 x fs from)
  assign_goes y x (inr drop) = counted (stmt_found y fs from) (expr_found x) (reached y (s.Drop x) drop ∙ drop_is x fs from)

  pub return_goes : (y : Stmt) (x : Option Expr) → y ≡ s.Return x → Goes (asked_found x fs (walked at k)) here r → Goes (stmt_found y fs from) here r
  return_goes y x is = counted (stmt_found y fs from) (asked_found x) (reached y (s.Return x) is ∙ return_is x fs from)

  pub say_goes : (form : ℕ) (y : Stmt) (es gs : List Expr) → y ≡ s.Say form es → gs ≡ es →
      Goes (sequence finds (map expr_found gs) fs (walked at k)) here r → Goes (stmt_found y fs from) here r
  say_goes form y es gs is parts = counted (stmt_found y fs from) (sequence finds (map expr_found gs))
      (reached y (s.Say form es) is ∙ say_is form es fs from ∙ ap (λ (ys : List Expr). sequence finds (map expr_found ys) fs (visit from)) (sym parts))

  pub if_goes : (y : Stmt) (x : Expr) (a b c d : List Stmt) → y ≡ s.If x a b → c ≡ a → d ≡ b →
      Goes (either (body_found c) (body_found d) fs (expr_found x fs (walked at k))) here r → Goes (stmt_found y fs from) here r
  if_goes y x a b c d is first second = counted (stmt_found y fs from) (λ fs w. either (body_found c) (body_found d) fs (expr_found x fs w))
      (reached y (s.If x a b) is ∙ if_is x a b fs from
      ∙ ap₂ (λ (ss ts : List Stmt). either (body_found ss) (body_found ts) fs (expr_found x fs (visit from))) (sym first) (sym second))

  module _ (es gs : List Expr) (parts : gs ≡ es) where
    sent : sequence finds (map expr_found gs) fs (walked at k) ≡ sequence finds (map expr_found es) fs (visit from)
    sent = ap (λ (j : ℕ). sequence finds (map expr_found gs) fs (walked at j)) tick
        ∙ ap (λ (ys : List Expr). sequence finds (map expr_found ys) fs (visit from)) parts

    pub gen_stops : (event : ℕ) (y : Stmt) (delay to : Option Expr) (first : Bool) → y ≡ s.Gen event es delay to first → IsErr r →
        here.steps ≤ (sequence finds (map expr_found gs) fs (walked at k)).steps → Goes (stmt_found y fs from) here r
    gen_stops event y delay to first is err most = stops r (stmt_found y fs from) here err
        (sent_left event es delay to y fs from here.steps first is (subst (λ (w : Walked). here.steps ≤ w.steps) sent most))

    pub gen_goes : (event : ℕ) (y : Stmt) (delay to : Option Expr) (flag first : Bool) (mid : Walked) → y ≡ s.Gen event es delay to flag → flag ≡ first →
        mid ≡ sequence finds (map expr_found gs) fs (walked at k) → Goes (evaluated finds first (asked_found delay) (asked_found to) fs mid) here r →
        Goes (stmt_found y fs from) here r
    gen_goes event y delay to flag first mid is same there h =
        goes_on r (evaluated finds first (asked_found delay) (asked_found to) fs mid) (stmt_found y fs from) here
        (ap (λ (w : Walked). evaluated finds first (asked_found delay) (asked_found to) fs w) (there ∙ sent)
        ∙ sym (reached y (s.Gen event es delay to first) (is ∙ ap (λ (b : Bool). s.Gen event es delay to b) same) ∙ gen_is event es delay to first fs from)) h

    pub multi_stops : (event : ℕ) (y : Stmt) (delay : Option Expr) (members : List ℕ) → y ≡ s.Multi event es delay members → IsErr r →
        here.steps ≤ (sequence finds (map expr_found gs) fs (walked at k)).steps → Goes (stmt_found y fs from) here r
    multi_stops event y delay members is err most = stops r (stmt_found y fs from) here err
        (multi_left event es delay members y fs from here.steps is (subst (λ (w : Walked). here.steps ≤ w.steps) sent most))

    pub multi_goes : (event : ℕ) (y : Stmt) (delay : Option Expr) (members : List ℕ) (mid : Walked) → y ≡ s.Multi event es delay members →
        mid ≡ sequence finds (map expr_found gs) fs (walked at k) → Goes (asked_found delay fs mid) here r → Goes (stmt_found y fs from) here r
    multi_goes event y delay members mid is there h =
        goes_on r (asked_found delay fs mid) (stmt_found y fs from) here
        (ap (λ (w : Walked). asked_found delay fs w) (there ∙ sent)
        ∙ sym (reached y (s.Multi event es delay members) is ∙ multi_is event es delay members fs from)) h

-- ---- a call of a function

module _ {A : Type 0} (r : Result A Memory) (fs : List Scheme) (w here : Walked) (x : Expr) (j : ℕ) (names : List ArrayName) (es gs : List Expr)
    (is : x ≡ e.Fun j names es) (parts : gs ≡ es) where
  pub call_stops : IsErr r → here.steps ≤ (sequence finds (map expr_found gs) fs w).steps → Goes (expr_found x fs w) here r
  call_stops err most = stops r (expr_found x fs w) here err
      (call_left j names es x fs w here.steps is (subst (λ (ys : List Expr). here.steps ≤ (sequence finds (map expr_found ys) fs w).steps) parts most))

  pub call_goes : (mid : Walked) (own : List ArrayName) → own ≡ names → mid ≡ sequence finds (map expr_found gs) fs w →
      Goes (goes_through j own fs mid) here r → Goes (expr_found x fs w) here r
  call_goes mid own own_is there h =
      goes_on r (goes_through j own fs mid) (expr_found x fs w) here
      (ap₂ (λ (ns : List ArrayName) (u : Walked). goes_through j ns fs u) own_is
      (there ∙ ap (λ (ys : List Expr). sequence finds (map expr_found ys) fs w) parts)
      ∙ sym (ap (λ (y : Expr). expr_found y fs w) is ∙ call_is j names es fs w)) h

-- ---- a call of an array

module _ {A : Type 0} (r : Result A Memory) (t : Touch) (fs : List Scheme) (w two here : Walked)
    (is : two ≡ expr_found (out-Touch t).get_arg fs (expr_found (out-Touch t).index fs w)) where
  set : expr_found (out-Touch t).set_arg fs two
      ≡ expr_found (out-Touch t).set_arg fs (expr_found (out-Touch t).get_arg fs (expr_found (out-Touch t).index fs w))
  set = ap (λ (u : Walked). expr_found (out-Touch t).set_arg fs u) is

  pub touch_stops : IsErr r → here.steps ≤ (expr_found (out-Touch t).set_arg fs two).steps → Goes (touch_found t fs w) here r
  touch_stops err most = stops r (touch_found t fs w) here err (set_left t fs w here.steps (subst (λ (u : Walked). here.steps ≤ u.steps) set most))

  pub touch_goes : (three : Walked) → three ≡ expr_found (out-Touch t).set_arg fs two → Goes (passes (out-Touch t).array fs three) here r →
      Goes (touch_found t fs w) here r
  touch_goes three last h = goes_on r (passes (out-Touch t).array fs three) (touch_found t fs w) here
      (ap (λ (u : Walked). passes (out-Touch t).array fs u) (last ∙ set) ∙ sym (touch_is t fs w 0)) h

-- ---- two parts, one after the other

module _ {A : Type 0} (r : Result A Memory) (fs : List Scheme) (w mid here : Walked) where
  pub two_stop : (x y : Expr) → IsErr r → here.steps ≤ (expr_found x fs w).steps → Goes (expr_found y fs (expr_found x fs w)) here r
  two_stop x y err most = stops r (expr_found y fs (expr_found x fs w)) here err (let more = expr_up y fs (expr_found x fs w) in omega (arith, most, more))

  pub both_stop : (x y : Option Expr) → IsErr r → here.steps ≤ (asked_found x fs w).steps → Goes (asked_found y fs (asked_found x fs w)) here r
  both_stop x y err most = stops r (asked_found y fs (asked_found x fs w)) here err (let more = asked_up y fs (asked_found x fs w) in omega (arith, most, more))

  pub behind_goes : (f g : Advance) → mid ≡ f fs w → Goes (g fs mid) here r → Goes (g fs (f fs w)) here r
  behind_goes f g is h = goes_on r (g fs mid) (g fs (f fs w)) here (ap (λ (u : Walked). g fs u) is) h

-- ---- one more `if` that ends a block

-- The walk that goes back is no further in its steps than the one that it goes back from.
pub first_back : (x : Expr) (a : List Stmt) (fs : List Scheme) (w here : Walked) → here ≡ back_from x a fs w → here.steps ≤ (first x a fs w).steps
first_back x a fs w here is = let same = ap (λ (w : Walked). w.steps) is in omega (arith, same)

pub no_deeper : (left front all rest : List Stmt) (x : Expr) (ss ts : List Stmt) → left ≡ front ++ s.If x ss ts ∷ [] → rest ≡ ts →
    most (λ t. size-Stmt t) left ≤ most (λ t. size-Stmt t) all →
    (most (λ t. size-Stmt t) rest ≤ most (λ t. size-Stmt t) all) × (most (λ t. size-Stmt t) rest < most (λ t. size-Stmt t) left)
no_deeper left front all rest x ss ts is same whole =
    let less = parts_are_less left front x ss ts is in
    let deep = ap (λ (us : List Stmt). most (λ t. size-Stmt t) us) same in
    (omega (arith, less, deep, whole), omega (arith, less, deep))
