-- Steps never fall along a walk, so that one which memory stops early has taken no more than the whole.
use Rattle.std.proofs.Common.{◌≡◌, ℕ, ◌+◌, ◌≤◌, ◌<◌, List, [], ◌∷◌, Bool, true, false, Option, None, Some, drop, get_or, length, map}
use Rattle.std.proofs.Common.{option_map, slice_get, refl, sym, ap, subst, ◌∙◌, arith}
use Rattle.std.proofs.lemmas.List.{drop_all, drop_more}
use Rattle.lucid_base.specs.declared.array.ArrayName.{ArrayName}
use Rattle.lucid_base.specs.declared.ops.BinOp.{BinOp}
use Rattle.lucid_base.specs.declared.ops.CmpOp.{CmpOp}
use Rattle.lucid_core.specs.declared.body.Expr.{Expr}
use Rattle.lucid_core.specs.declared.body.Stmt.{Stmt}
use Rattle.lucid_core.specs.declared.body.Touch.{Touch, out-Touch, roll-out-Touch}
use Rattle.lucid_core.specs.declared.body.Expr.TheFolds.{fold-roll-Touch}
use Rattle.lucid_core.specs.declared.body.Expr.TheVariants as e
use Rattle.lucid_core.specs.declared.body.Stmt.TheVariants as s
use Rattle.lucid_effects_spec.specs.Evaluation.{both, expr_step, optional, sequence, stmt_step, touch_step}
use Rattle.lucid_effects_spec.proofs.Walks.{expr_relates, stmt_relates}
use Rattle.lucid_effects_spec.specs.declared.scheme.Scheme.{Scheme}
use Rattle.lucid_effects_spec.specs.Schemes.{Advance, Walked, begun, body_found, either, expr_found, finds, given_found, passes, stmt_found}
use Rattle.lucid_effects_spec.specs.Schemes.{through, touch_found, visit}
use Rattle.lucid_effects.proofs.Forms.{bin_is, call_is, cmp_is, gen_is, if_is, inlined_is, multi_is}

abbrev pub Up : Advance → Type 0
Up f = (fs : List Scheme) (w : Walked) → w.steps ≤ (f fs w).steps

nothing : Up finds.nothing
nothing fs w = omega arith

in_turn : (f g : Advance) → Up f → Up g → Up (finds.in_turn f g)
in_turn f g h k fs w = let a = h fs w in let b = k fs (f fs w) in omega (arith, a, b)

branches : (f g : Advance) → Up f → Up g → Up (either f g)
branches f g h k fs w = let a = h fs w in let left : Walked = f fs w in let b = k fs (record left { ends = w.ends }) in omega (arith, a, b)

array : (a : ArrayName) → Up (passes a)
array a fs w = omega arith

function : (k : ℕ) (names : List ArrayName) → Up (finds.function k names)
function k names fs w = of (slice_get fs k)
  where
    of : (o : Option Scheme) → w.steps ≤ (through o names (visit w)).steps
    of None = omega arith
    of (Some f) = omega arith

node : (f : Advance) → Up f → Up (finds.node f)
node f h fs w = let a = h fs (visit w) in omega (arith, a)

pub expr_up : (x : Expr) → Up (expr_found x)
expr_up = expr_relates finds finds (λ f g. Up f) nothing (λ f g c d h k. in_turn f g h k) (λ f g c d h k. branches f g h k) array function
    (λ f g h. node f h)

pub stmt_up : (x : Stmt) → Up (stmt_found x)
stmt_up = stmt_relates finds finds (λ f g. Up f) nothing (λ f g c d h k. in_turn f g h k) (λ f g c d h k. branches f g h k) array function
    (λ f g h. node f h)

list_up : {T : Type 0} (walk : T → Advance) → ((x : T) → Up (walk x)) → (xs : List T) → Up (sequence finds (map walk xs))
list_up walk h [] = nothing
list_up walk h (x ∷ xs) = in_turn (walk x) (sequence finds (map walk xs)) (h x) (list_up walk h xs)

pub body_up : (body : List Stmt) → Up (body_found body)
body_up = list_up stmt_found stmt_up

pub asked_up : (x : Option Expr) → Up (optional finds (option_map expr_found x))
asked_up None = nothing
asked_up (Some x) = expr_up x

-- A body takes the step of its declaration.
pub begun_left : (body : List Stmt) (fs : List Scheme) (n k : ℕ) → k ≡ n + 1 → k ≤ (body_found body fs (begun n)).steps
begun_left body fs n k is = let more = list_up stmt_found stmt_up body fs (begun n) in omega (arith, more, is)

-- ---- loops that go on, and that end

module _ {T : Type 0} (walk : T → Advance) (xs : List T) (i : ℕ) (fs : List Scheme) (w whole : Walked)
    (same : sequence finds (map walk (drop i xs)) fs w ≡ whole) where
  pub next_item : (x : T) (here : Walked) → i < length xs → x ≡ get_or xs i x → here ≡ walk x fs w →
      sequence finds (map walk (drop (i + 1) xs)) fs here ≡ whole
  next_item x here within is one =
      ap (λ (u : Walked). sequence finds (map walk (drop (i + 1) xs)) fs u) one
      ∙ subst (λ ys. sequence finds (map walk ys) fs w ≡ whole) (drop_more xs i x within ∙ ap (λ y. y ∷ drop (i + 1) xs) (sym is)) same

  pub no_item : length xs ≤ i → w ≡ whole
  no_item past = subst (λ ys. sequence finds (map walk ys) fs w ≡ whole) (drop_all i xs past) same

-- ---- loops, stopped at one item

item_left : {T : Type 0} (walk : T → Advance) → ((x : T) → Up (walk x)) →
    (xs : List T) (i : ℕ) (x : T) (fs : List Scheme) (w v : Walked) (k : ℕ) → i < length xs → x ≡ get_or xs i x →
    sequence finds (map walk (drop i xs)) fs w ≡ sequence finds (map walk xs) fs v → k ≤ (walk x fs w).steps →
    k ≤ (sequence finds (map walk xs) fs v).steps
item_left walk up xs i x fs w v k within is same most =
    let rest : sequence finds (map walk (x ∷ drop (i + 1) xs)) fs w ≡ sequence finds (map walk xs) fs v =
    subst (λ ys. sequence finds (map walk ys) fs w ≡ sequence finds (map walk xs) fs v)
    (drop_more xs i x within ∙ ap (λ y. y ∷ drop (i + 1) xs) (sym is)) same in
    let more = list_up walk up (drop (i + 1) xs) fs (walk x fs w) in
    let steps : (sequence finds (map walk (drop (i + 1) xs)) fs (walk x fs w)).steps ≡ (sequence finds (map walk xs) fs v).steps =
    ap (λ (u : Walked). u.steps) rest in
    omega (arith, more, most, steps)

pub expr_left : (xs : List Expr) (i : ℕ) (x : Expr) (fs : List Scheme) (w v : Walked) (k : ℕ) → i < length xs → x ≡ get_or xs i x →
    sequence finds (map expr_found (drop i xs)) fs w ≡ sequence finds (map expr_found xs) fs v → k ≤ (expr_found x fs w).steps →
    k ≤ (sequence finds (map expr_found xs) fs v).steps
expr_left = item_left expr_found expr_up

pub stmt_left : (xs : List Stmt) (i : ℕ) (x : Stmt) (fs : List Scheme) (w v : Walked) (k : ℕ) → i < length xs → x ≡ get_or xs i x →
    body_found (drop i xs) fs w ≡ body_found xs fs v → k ≤ (stmt_found x fs w).steps → k ≤ (body_found xs fs v).steps
stmt_left = item_left stmt_found stmt_up

abbrev argument : ℕ × Expr → Advance
argument g = expr_found g.1

arguments : (gs : List (ℕ × Expr)) → map (λ (g : ℕ × Advance). g.1) (map (λ (g : ℕ × Expr). (g.0, expr_found g.1)) gs) ≡ map argument gs
arguments [] = refl
arguments (g ∷ gs) = ap (λ (fs : List Advance). expr_found g.1 ∷ fs) (arguments gs)

given_is : (gs : List (ℕ × Expr)) (fs : List Scheme) (w : Walked) → given_found gs fs w ≡ sequence finds (map argument gs) fs w
given_is gs fs w = ap (λ (acts : List Advance). sequence finds acts fs w) (arguments gs)

pub given_left : (gs : List (ℕ × Expr)) (i : ℕ) (g : ℕ × Expr) (fs : List Scheme) (w v : Walked) (k : ℕ) → i < length gs →
    g ≡ get_or gs i g → given_found (drop i gs) fs w ≡ given_found gs fs v → k ≤ (expr_found g.1 fs w).steps →
    k ≤ (given_found gs fs v).steps
given_left gs i g fs w v k within is same most =
    let found = item_left argument (λ (h : ℕ × Expr). expr_up h.1) gs i g fs w v k within is
    (sym (given_is (drop i gs) fs w) ∙ same ∙ given_is gs fs v) most in
    subst (λ (u : Walked). k ≤ u.steps) (sym (given_is gs fs v)) found

pub given_next : (gs : List (ℕ × Expr)) (i : ℕ) (fs : List Scheme) (w whole : Walked) → given_found (drop i gs) fs w ≡ whole →
    (g : ℕ × Expr) (here : Walked) → i < length gs → g ≡ get_or gs i g → here ≡ expr_found g.1 fs w →
    given_found (drop (i + 1) gs) fs here ≡ whole
given_next gs i fs w whole same g here within is one =
    given_is (drop (i + 1) gs) fs here ∙ next_item argument gs i fs w whole (sym (given_is (drop i gs) fs w) ∙ same) g here within is one

pub given_all : (gs : List (ℕ × Expr)) (i : ℕ) (fs : List Scheme) (w whole : Walked) → given_found (drop i gs) fs w ≡ whole →
    length gs ≤ i → w ≡ whole
given_all gs i fs w whole same = no_item argument gs i fs w whole (sym (given_is (drop i gs) fs w) ∙ same)

-- ---- forms, stopped at one part

pub bin_left : (op : BinOp) (a b x : Expr) (fs : List Scheme) (w : Walked) (k : ℕ) → x ≡ e.Bin op a b →
    k ≤ (expr_found a fs (visit w)).steps → k ≤ (expr_found x fs w).steps
bin_left op a b x fs w k is most = let more = expr_up b fs (expr_found a fs (visit w)) in
    let eq = ap (λ (y : Expr). (expr_found y fs w).steps) is ∙ ap (λ (u : Walked). u.steps) (bin_is op a b fs w) in
    omega (arith, more, most, eq)

pub cmp_left : (op : CmpOp) (a b x : Expr) (fs : List Scheme) (w : Walked) (k : ℕ) → x ≡ e.Cmp op a b →
    k ≤ (expr_found a fs (visit w)).steps → k ≤ (expr_found x fs w).steps
cmp_left op a b x fs w k is most = let more = expr_up b fs (expr_found a fs (visit w)) in
    let eq = ap (λ (y : Expr). (expr_found y fs w).steps) is ∙ ap (λ (u : Walked). u.steps) (cmp_is op a b fs w) in
    omega (arith, more, most, eq)

pub call_left : (j : ℕ) (names : List ArrayName) (es : List Expr) (x : Expr) (fs : List Scheme) (w : Walked) (k : ℕ) →
    x ≡ e.Fun j names es →
    k ≤ (sequence finds (map expr_found es) fs w).steps → k ≤ (expr_found x fs w).steps
call_left j names es x fs w k is most =
    let more = function j names fs (sequence finds (map expr_found es) fs w) in
    let eq = ap (λ (y : Expr). (expr_found y fs w).steps) is ∙ ap (λ (u : Walked). u.steps) (call_is j names es fs w) in
    omega (arith, more, most, eq)

pub inlined_left : (gs : List (ℕ × Expr)) (ss : List Stmt) (x : Expr) (fs : List Scheme) (w : Walked) (k : ℕ) → x ≡ e.Inlined gs ss →
    k ≤ (given_found gs fs (visit w)).steps → k ≤ (expr_found x fs w).steps
inlined_left gs ss x fs w k is most =
    let more = list_up stmt_found stmt_up ss fs (given_found gs fs (visit w)) in
    let eq = ap (λ (y : Expr). (expr_found y fs w).steps) is ∙ ap (λ (u : Walked). u.steps) (inlined_is gs ss fs w) in
    omega (arith, more, most, eq)

module _ (t : Touch) (fs : List Scheme) (w : Walked) (k : ℕ) where
  abbrev index : Walked
  index = expr_found (out-Touch t).index fs w

  abbrev get : Walked
  get = expr_found (out-Touch t).get_arg fs index

  pub touch_is : touch_found t fs w ≡ passes (out-Touch t).array fs (expr_found (out-Touch t).set_arg fs get)
  touch_is = ap (λ (u : Touch). touch_found u fs w) (sym (roll-out-Touch t))
      ∙ ap (λ (f : Advance). f fs w)
      (fold-roll-Touch Advance Advance Advance (expr_step finds) (stmt_step finds) (touch_step finds) (out-Touch t))

  pub set_left : k ≤ (expr_found (out-Touch t).set_arg fs get).steps → k ≤ (touch_found t fs w).steps
  set_left most =
      let last = array (out-Touch t).array fs (expr_found (out-Touch t).set_arg fs get) in
      let eq = ap (λ (u : Walked). u.steps) touch_is in
      omega (arith, most, last, eq)

  pub get_left : k ≤ get.steps → k ≤ (touch_found t fs w).steps
  get_left most =
      let set = expr_up (out-Touch t).set_arg fs get in
      let last = array (out-Touch t).array fs (expr_found (out-Touch t).set_arg fs get) in
      let eq = ap (λ (u : Walked). u.steps) touch_is in
      omega (arith, most, set, last, eq)

  pub index_left : k ≤ index.steps → k ≤ (touch_found t fs w).steps
  index_left most = let more = expr_up (out-Touch t).get_arg fs index in get_left (omega (arith, most, more))

module _ (x : Expr) (a b : List Stmt) (y : Stmt) (fs : List Scheme) (w : Walked) (k : ℕ) (is : y ≡ s.If x a b) where
  abbrev tested : Walked
  tested = expr_found x fs (visit w)

  abbrev first : Walked
  first = body_found a fs tested

  pub branch_left : k ≤ first.steps → k ≤ (stmt_found y fs w).steps
  branch_left most =
      let more = list_up stmt_found stmt_up b fs (record first { ends = tested.ends }) in
      let eq = ap (λ (z : Stmt). (stmt_found z fs w).steps) is ∙ ap (λ (u : Walked). u.steps) (if_is x a b fs w) in
      omega (arith, more, most, eq)

  -- The second branch is walked last.
  pub last_left : k ≤ (body_found b fs (record first { ends = tested.ends })).steps → k ≤ (stmt_found y fs w).steps
  last_left most =
      let eq = ap (λ (z : Stmt). (stmt_found z fs w).steps) is ∙ ap (λ (u : Walked). u.steps) (if_is x a b fs w) in
      omega (arith, most, eq)

  pub test_left : k ≤ tested.steps → k ≤ (stmt_found y fs w).steps
  test_left most = let more = list_up stmt_found stmt_up a fs tested in branch_left (omega (arith, most, more))

module _ (event : ℕ) (es : List Expr) (delay to : Option Expr) (y : Stmt) (fs : List Scheme) (w : Walked) (k : ℕ) where
  abbrev sent : Walked
  sent = sequence finds (map expr_found es) fs (visit w)

  abbrev one : Option Expr → Advance
  one x = optional finds (option_map expr_found x)

  opened : (first : Bool) → y ≡ s.Gen event es delay to first →
      (stmt_found y fs w).steps ≡ (both finds first (one delay) (one to) fs sent).steps
  opened first is = ap (λ (z : Stmt). (stmt_found z fs w).steps) is ∙ ap (λ (u : Walked). u.steps) (gen_is event es delay to first fs w)

  pub delay_left : y ≡ s.Gen event es delay to true → k ≤ (one delay fs sent).steps → k ≤ (stmt_found y fs w).steps
  delay_left is most = let more = asked_up to fs (one delay fs sent) in let eq = opened true is in omega (arith, more, most, eq)

  pub target_left : y ≡ s.Gen event es delay to false → k ≤ (one to fs sent).steps → k ≤ (stmt_found y fs w).steps
  target_left is most = let more = asked_up delay fs (one to fs sent) in let eq = opened false is in omega (arith, more, most, eq)

  pub sent_left : (first : Bool) → y ≡ s.Gen event es delay to first → k ≤ sent.steps → k ≤ (stmt_found y fs w).steps
  sent_left true is most = let more = asked_up delay fs sent in delay_left is (omega (arith, more, most))
  sent_left false is most = let more = asked_up to fs sent in target_left is (omega (arith, more, most))

pub multi_left : (event : ℕ) (es : List Expr) (delay : Option Expr) (members : List ℕ) (y : Stmt) (fs : List Scheme) (w : Walked) (k : ℕ) →
    y ≡ s.Multi event es delay members → k ≤ (sequence finds (map expr_found es) fs (visit w)).steps →
    k ≤ (stmt_found y fs w).steps
multi_left event es delay members y fs w k is most =
    let more = asked_up delay fs (sequence finds (map expr_found es) fs (visit w)) in
    let eq = ap (λ (z : Stmt). (stmt_found z fs w).steps) is ∙ ap (λ (u : Walked). u.steps) (multi_is event es delay members fs w) in
    omega (arith, more, most, eq)
