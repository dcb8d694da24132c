-- One pipe, tick by tick.
use Rattle.std.proofs.Common.{◌≡◌, ℕ, zero, suc, ◌+◌, ◌<◌, ◌≤◌, List, [], ◌∷◌, length, Option, None, Some, option_map, refl, sym, ◌∙◌, ap, arith}
use Rattle.lucid_pipe_laws.specs.Moves.{through, advance, entered_by}
use Rattle.lucid_pipe_laws.specs.Rows.{Row, row, Steps, after_first, empty_pipe, settled, settled_row}
use Rattle.lucid_pipe_laws.specs.Stream.{ran, next, cells_at, ends, late, picture, passed, Advances, Passes, SettlesTo}

module _ {C P : Type 0} where
  -- before the first tick nothing moves
  still : (step : Steps C P) (cs : List C) (run : ℕ → Option P) → advance step None (picture step cs run zero) ≡ (picture step cs run zero, None)
  still step [] run = refl
  still step (c ∷ cs) run = ap (λ (l : List (Row C P) × Option P). (row c None ∷ l.0, l.1)) (still (after_first step) cs (next (step 0) c run))

  pub advances : (step : Steps C P) → Advances step
  advances step [] run t = refl
  advances step (c ∷ cs) run zero = ap (λ (l : List (Row C P) × Option P). (row c (run zero) ∷ l.0, l.1)) (still (after_first step) cs (next (step 0) c run))
  advances step (c ∷ cs) run (suc t) =
      ap (λ (l : List (Row C P) × Option P). (row (ran (step 0) c run (suc t)) (run (suc t)) ∷ l.0, l.1)) (advances (after_first step) cs (next (step 0) c run) t)

  -- a pass by its first stage
  passed-first : (step : Steps C P) (c : C) (cs : List C) (o : Option P) →
      passed step (c ∷ cs) o ≡ (let here = through (step 0) c o in let later = passed (after_first step) cs here.1 in (here.0 ∷ later.0, later.1))
  passed-first step c cs None = refl
  passed-first step c cs (Some p) = refl

  pub passes : (step : Steps C P) → Passes step
  passes step [] run t = none (run t)
    where
      none : (o : Option P) → passed step [] o ≡ ([], o)
      none None = refl
      none (Some p) = refl
  passes step (c ∷ cs) run t =
      passed-first step (ran (step 0) c run t) (cells_at (after_first step) cs (next (step 0) c run) t) (run t)
      ∙ ap (λ (l : List C × Option P). (ran (step 0) c run (suc t) ∷ l.0, l.1)) (passes (after_first step) cs (next (step 0) c run) t)

  pub cells_at-start : (step : Steps C P) (cs : List C) (run : ℕ → Option P) → cells_at step cs run zero ≡ cs
  cells_at-start step [] run = refl
  cells_at-start step (c ∷ cs) run = ap (λ (l : List C). c ∷ l) (cells_at-start (after_first step) cs (next (step 0) c run))

  settled-passed : (step : Steps C P) (c : C) (s : Option P) (older : List C × List P) → (settled_row step c s older).0 ≡ (passed step (c ∷ older.0) s).0
  settled-passed step c None older = refl
  settled-passed step c (Some p) older = refl

  pub settles_to : (step : Steps C P) → SettlesTo step
  settles_to step [] run t = refl
  settles_to step (c ∷ cs) run zero = ap (λ (l : List C). c ∷ l) (settles_to (after_first step) cs (next (step 0) c run) zero)
  settles_to step (c ∷ cs) run (suc t) =
      settled-passed step (ran (step 0) c run t) (run t) (settled (after_first step) (picture (after_first step) cs (next (step 0) c run) t))
      ∙ ap (λ (l : List C). (passed step (ran (step 0) c run t ∷ l) (run t)).0) (settles_to (after_first step) cs (next (step 0) c run) t)
      ∙ ap (λ (l : List C × Option P). l.0) (passes step (c ∷ cs) run t)

  -- entering after the move is moving with the entering packet
  enters_moved : (step : Steps C P) (cs : List C) (run : ℕ → Option P) (t k : ℕ) (came : Option P) → length cs ≡ suc k →
      (let rows = picture step cs run t in (entered_by came (advance step None rows).0 ≡ (advance step came rows).0) × ((advance step None rows).1 ≡ (advance step came rows).1))
  enters_moved step [] run t k came long = cc
  enters_moved step (c ∷ cs) run zero k came long = (refl, refl)
  enters_moved step (c ∷ cs) run (suc t) k came long = (refl, refl)

  -- one pipe's tick
  pub tick_pipe : (step : Steps C P) (cs : List C) (run : ℕ → Option P) (t k : ℕ) (rows : List (Row C P)) → length cs ≡ suc k → rows ≡ picture step cs run t →
      (entered_by (run t) (advance step None rows).0 ≡ picture step cs run (suc t)) × ((advance step None rows).1 ≡ late (ends step cs run) t (suc k))
  tick_pipe step cs run t k rows long is =
      let moved = enters_moved step cs run t k (run t) long in
      let all = advances step cs run t in (
        ap (λ (l : List (Row C P)). entered_by (run t) (advance step None l).0) is ∙ moved.0 ∙ ap (λ (l : List (Row C P) × Option P). l.0) all,
        ap (λ (l : List (Row C P)). (advance step None l).1) is ∙ moved.1 ∙ ap (λ (l : List (Row C P) × Option P). l.1) all ∙ ap (late (ends step cs run) t) long,
      )

  pub picture-start : (step : Steps C P) (cs : List C) (run : ℕ → Option P) → empty_pipe cs ≡ picture step cs run zero
  picture-start step [] run = refl
  picture-start step (c ∷ cs) run = ap (λ (l : List (Row C P)). row c None ∷ l) (picture-start (after_first step) cs (next (step 0) c run))

module _ {P R : Type 0} where
  -- a late packet, turned into something else
  pub late_done : (done : P → R) (es : ℕ → Option P) (g : ℕ → Option R) (t k : ℕ) → ((e : ℕ) → option_map done (es e) ≡ g e) → option_map done (late es t k) ≡ late g t k
  late_done done es g t zero same = same t
  late_done done es g zero (suc k) same = refl
  late_done done es g (suc t) (suc k) same = late_done done es g t k same

module _ {P : Type 0} where
  pub late_at : (run : ℕ → Option P) (t k : ℕ) → late run (k + t) k ≡ run t
  late_at run t zero = ap run (omega arith)
  late_at run t (suc k) = ap (λ (n : ℕ). late run n (suc k)) next ∙ late_at run t k
    where
      next : suc k + t ≡ suc (k + t)
      next = omega arith

  pub late_none : (run : ℕ → Option P) (t k : ℕ) → t < k → late run t k ≡ None
  late_none run t zero lt = absurd (omega (arith, lt))
  late_none run zero (suc k) lt = refl
  late_none run (suc t) (suc k) lt = late_none run t k (omega (arith, lt))

module _ {C P : Type 0} where
  next_over : (f : C → P → C × P) (c : C) (run : ℕ → Option P) (t : ℕ) → run t ≡ None → next f c run t ≡ None
  next_over f c run t none = ap (λ (o : Option P). (through f (ran f c run t) o).1) none

  -- where nothing came for as many ticks as there are stages, the pipe is empty
  pub empties : (step : Steps C P) (cs : List C) (run : ℕ → Option P) (from t : ℕ) → ((e : ℕ) → from ≤ e → run e ≡ None) → from + length cs ≤ t → picture step cs run t ≡ empty_pipe (cells_at step cs run t)
  empties step [] run from t none le = refl
  empties step (c ∷ cs) run from zero none le = absurd (omega (arith, le))
  empties step (c ∷ cs) run from (suc t) none le =
      let here : run t ≡ None = none t (omega (arith, le)) in
      let cells : ran (step 0) c run (suc t) ≡ ran (step 0) c run t = ap (λ (o : Option P). (through (step 0) (ran (step 0) c run t) o).0) here in
      let later : ℕ → Option P = next (step 0) c run in
      let rest : cells_at (after_first step) cs later (suc t) ≡ cells_at (after_first step) cs later t =
      ap (λ (l : List C × Option P). l.0) (sym (passes (after_first step) cs later t)) ∙ ap (λ (o : Option P). (passed (after_first step) (cells_at (after_first step) cs later t) o).0) (next_over (step 0) c run t here) in
      ap (λ (o : Option P). row (ran (step 0) c run t) o ∷ picture (after_first step) cs later t) here
      ∙ ap (λ (x : C). row x None ∷ picture (after_first step) cs later t) (sym cells)
      ∙ ap (λ (l : List (Row C P)). row (ran (step 0) c run (suc t)) None ∷ l) (empties (after_first step) cs later from t (λ e ge. next_over (step 0) c run e (none e ge)) (omega (arith, le)) ∙ ap empty_pipe (sym rest))
