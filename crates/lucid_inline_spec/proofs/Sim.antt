-- A part of a body and its flat form, run side by side.
use Rattle.std.proofs.Common.{◌≡◌, ℕ, zero, suc, ◌+◌, ◌<◌, ◌≤◌, List, [], ◌∷◌, ◌++◌, true, Option, Some, length, map, refl, sym, ap, subst, ◌∙◌, arith, append_assoc, append-nil, slice_get}
use Rattle.std.specs.List.{enumerate_from}
use Rattle.lucid_base.specs.declared.bits.Bits.{Bits}
use Rattle.lucid_core.specs.declared.body.Expr.{Expr}
use Rattle.lucid_core.specs.Computations.{Computation, Effect, Frame, Fun, State, Ran, all, block, called}
use Rattle.lucid_core.specs.Meaning.{all_given, holding, effect_of, value_of}
use Rattle.lucid_inline_spec.specs.Flat as f
use Rattle.lucid_inline_spec.specs.Flat.{Flatten, Flattened, Site, PutIn}
use Rattle.lucid_inline_spec.proofs.Fit.{Fit}
use Rattle.lucid_inline_spec.proofs.Locals.{Begins, begins_self, local_at, zeros}

-- Two blocks in a row.
pub block-append : (xs ys : List Effect) (p : Frame) (s : State) → block (xs ++ ys) p s ≡
    (record { gives = tt; after = (block ys p (block xs p s).after).after; calls = (block xs p s).calls ++ (block ys p (block xs p s).after).calls })
block-append [] ys p s = refl
block-append (x ∷ xs) ys p s =
    let one = x p s in
    let e = block-append xs ys p one.after in
    let first = block xs p one.after in
    let second = block ys p first.after in
    ap (λ (r : Ran (Unit {0})). record { gives = tt; after = r.after; calls = one.calls ++ r.calls }) e
    ∙ ap (λ (c : List ℕ). record { gives = tt; after = second.after; calls = c }) (sym (append_assoc one.calls first.calls second.calls))

-- The arguments of an `Inlined`, numbered from b.
abbrev pub numbered : ℕ → Ran (List Bits) → Ran (List (ℕ × Bits))
numbered b r = record { gives = enumerate_from b r.gives; after = r.after; calls = r.calls }

abbrev pub given_acts : ℕ → List Expr → List (ℕ × Computation Bits)
given_acts b xs = map (λ (g : ℕ × Expr). (g.0, value_of g.1)) (enumerate_from b xs)

pub all_given-numbered : (xs : List Expr) (b : ℕ) (p : Frame) (s : State) → all_given (given_acts b xs) p s ≡ numbered b (all (map value_of xs) p s)
all_given-numbered [] b p s = refl
all_given-numbered (x ∷ xs) b p s =
    let one = value_of x p s in
    let e = all_given-numbered xs (b + 1) p one.after in
    let rest = all (map value_of xs) p one.after in
    ap (λ (r : Ran (List (ℕ × Bits))). record { gives = (b, one.gives) ∷ r.gives; after = r.after; calls = (one.calls ++ []) ++ (r.calls ++ []) }) e
    ∙ ap (λ (c : List ℕ). record { gives = (b, one.gives) ∷ enumerate_from (b + 1) rest.gives; after = rest.after; calls = c ++ (rest.calls ++ []) }) (append-nil one.calls)

pub all-length : (xs : List (Computation Bits)) (p : Frame) (s : State) → length (all xs p s).gives ≡ length xs
all-length [] p s = refl
all-length (x ∷ xs) p s = ap suc (all-length xs p (x p s).after)

pub all-append : (xs ys : List (Computation Bits)) (p : Frame) (s : State) → all (xs ++ ys) p s ≡
    (let one = all xs p s in let two = all ys p one.after in record { gives = one.gives ++ two.gives; after = two.after; calls = one.calls ++ two.calls })
all-append [] ys p s = refl
all-append (x ∷ xs) ys p s =
    let first = x p s in
    let one = all xs p first.after in
    let two = all ys p one.after in
    let e : first.calls ++ ((one.calls ++ two.calls) ++ []) ≡ (first.calls ++ (one.calls ++ [])) ++ two.calls =
    ap (λ (c : List ℕ). first.calls ++ c) (append-nil (one.calls ++ two.calls)) ∙ sym (append_assoc first.calls one.calls two.calls) ∙ ap (λ (c : List ℕ). (first.calls ++ c) ++ two.calls) (sym (append-nil one.calls)) in
    ap (λ (r : Ran (List Bits)). record { gives = first.gives ∷ r.gives; after = r.after; calls = first.calls ++ (r.calls ++ []) }) (all-append xs ys p first.after)
    ∙ ap (λ (c : List ℕ). record { gives = first.gives ∷ (one.gives ++ two.gives); after = two.after; calls = c }) e

module _ (W : List ℕ) (now me : ℕ) where
  abbrev pub flat_frame : Frame
  flat_frame = record { now = now; me = me; arrays = []; funs = [] }

  -- A body's state s, whose n locals are those of the handler's state q from `first` on; from `next` to `top` the handler's locals are as they began.
  pub record Same (first n next top : ℕ) (s q : State) : Type 0 where
    pub cells : q.cells ≡ s.cells
    pub outs : q.outs ≡ s.outs
    pub answer : q.answer ≡ s.answer
    pub count : length s.locals ≡ n
    pub long : length q.locals ≡ length W
    pub own : (i : ℕ) → i < n → local_at q.locals (first + i) ≡ local_at s.locals i
    pub rest : (k : ℕ) → next ≤ k → k < top → local_at q.locals k ≡ local_at (zeros W) k

  -- Two runs that give and call the same, and leave the same; of the handler's locals from `next` on each is as it was in `old`.
  pub record Alike {A : Type 0} (first n next top : ℕ) (old : State) (r q : Ran A) : Type 0 where
    pub gives : q.gives ≡ r.gives
    pub calls : q.calls ≡ r.calls
    pub after : Same first n next top r.after q.after
    pub beyond : (k : ℕ) → next ≤ k → local_at q.after.locals k ≡ local_at old.locals k

  pub later : (first n next more top : ℕ) (s q : State) → next ≤ more → Same first n next top s q → Same first n more top s q
  later first n next more top s q h same = record {
    cells = same.cells;
    outs = same.outs;
    answer = same.answer;
    count = same.count;
    long = same.long;
    own = same.own;
    rest = λ k l. same.rest k (omega arith);
  }

  -- A function's inlined body, run as the function.
  pub record Good (room : ℕ) (put : PutIn) (g : Fun) : Type 0 where
    pub grows : (arrays ws : List ℕ) → Begins ws (put arrays ws).locals
    pub runs : (arrays ws : List ℕ) (vs : List Bits) → length vs ≤ room → Begins (put arrays ws).locals W → (first n top : ℕ) (s q : State) → first + n ≤ length ws →
        length (put arrays ws).locals ≤ top → Same first n (length ws) top s q → Alike first n (length (put arrays ws).locals) top q (g arrays vs s)
        (called (holding q.locals (enumerate_from (length ws) vs)) (block (map effect_of (put arrays ws).value)) flat_frame q)

  abbrev pub AllGood : List ℕ → List PutIn → List Fun → Type 0
  AllGood [] [] [] = Unit {0}
  AllGood (r ∷ rs) (p ∷ ps) (g ∷ gs) = Good r p g × AllGood rs ps gs
  AllGood _ _ _ = ⊥

  -- The functions of this number.
  pub record PutInFor (room : ℕ) (put : Option PutIn) (g : Option Fun) : Type 0 where
    pub a_put : PutIn
    pub a_fun : Fun
    pub put_is : put ≡ Some a_put
    pub fun_is : g ≡ Some a_fun
    pub good : Good room a_put a_fun

  pub found : (rs : List ℕ) (ps : List PutIn) (gs : List Fun) → AllGood rs ps gs → (k room : ℕ) → slice_get rs k ≡ Some room → PutInFor room (slice_get ps k) (slice_get gs k)
  found [] [] [] all k room h = absurd (cc)
  found (r ∷ rs) (p ∷ ps) (g ∷ gs) all zero room h =
      let e : r ≡ room = cc in
      record { a_put = p; a_fun = g; put_is = refl; fun_is = refl; good = subst (λ (x : ℕ). Good x p g) e all.0 }
  found (r ∷ rs) (p ∷ ps) (g ∷ gs) all (suc k) room h = found rs ps gs all.1 k room h
  found [] [] (g ∷ gs) all k room h = absurd all
  found [] (p ∷ ps) gs all k room h = absurd all
  found (r ∷ rs) [] gs all k room h = absurd all
  found (r ∷ rs) (p ∷ ps) [] all k room h = absurd all

  -- For any number.
  pub put_grows : (rs : List ℕ) (ps : List PutIn) (gs : List Fun) → AllGood rs ps gs → (k : ℕ) (arrays : List ℕ) (args : List Expr) (ws : List ℕ) →
      Begins ws (f.put_in (slice_get ps k) arrays args ws).locals
  put_grows [] [] [] all k arrays args ws = begins_self ws
  put_grows (r ∷ rs) (p ∷ ps) (g ∷ gs) all zero arrays args ws = all.0.grows arrays ws
  put_grows (r ∷ rs) (p ∷ ps) (g ∷ gs) all (suc k) arrays args ws = put_grows rs ps gs all.1 k arrays args ws
  put_grows [] [] (g ∷ gs) all k arrays args ws = absurd all
  put_grows [] (p ∷ ps) gs all k arrays args ws = absurd all
  put_grows (r ∷ rs) [] gs all k arrays args ws = absurd all
  put_grows (r ∷ rs) (p ∷ ps) [] all k arrays args ws = absurd all

  pub good_more : (rs : List ℕ) (ps : List PutIn) (gs : List Fun) (r : ℕ) (p : PutIn) (g : Fun) → AllGood rs ps gs → Good r p g → AllGood (rs ++ r ∷ []) (ps ++ p ∷ []) (gs ++ g ∷ [])
  good_more [] [] [] r p g all one = (one, tt)
  good_more (r ∷ rs) (p ∷ ps) (g ∷ gs) r2 p2 g2 all one = (all.0, good_more rs ps gs r2 p2 g2 all.1 one)
  good_more [] [] (g ∷ gs) r2 p2 g2 all one = absurd all
  good_more [] (p ∷ ps) gs r2 p2 g2 all one = absurd all
  good_more (r ∷ rs) [] gs r2 p2 g2 all one = absurd all
  good_more (r ∷ rs) (p ∷ ps) [] r2 p2 g2 all one = absurd all

  -- A body at one place.
  module _ (p : Site) (rooms : List ℕ) (fs : List Fun) (good : AllGood rooms p.funs fs) (n : ℕ) where
    abbrev pub core_frame : Frame
    core_frame = record { now = now; me = me; arrays = p.arrays; funs = fs }

    -- A part t becomes flat, and its flat form runs as the part does.
    pub record Sim {A B : Type 0} (flat : A → Computation B) (t : Flatten A) (c : Computation B) (fit : Fit) : Type 0 where
      pub grows : (ws : List ℕ) → Begins ws (t p ws).locals
      pub acts : fit n rooms ≡ true → (ws : List ℕ) → p.first + n ≤ length ws → Begins (t p ws).locals W → (top : ℕ) → length (t p ws).locals ≤ top →
          (s q : State) → Same p.first n (length ws) top s q → Alike p.first n (length (t p ws).locals) top q (c core_frame s) (flat (t p ws).value flat_frame q)
