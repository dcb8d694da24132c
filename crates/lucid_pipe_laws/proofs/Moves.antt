-- One move after another, from the last stage to the first, is a move of all.
use Rattle.std.proofs.Common.{◌≡◌, ℕ, zero, suc, ◌+◌, ◌-◌, ◌<◌, ◌≤◌, List, [], ◌∷◌, length, Option, None, slice_get, refl, sym, ◌∙◌, ap, arith, add-one}
use Rattle.std.specs.Option.{option_and_then}
use Rattle.lucid_pipe_laws.specs.Moves.{advance, backs, goes, through}
use Rattle.lucid_pipe_laws.specs.Rows.{Row, Steps, after_first, row}

module _ {C P : Type 0} where
  -- one more
  pub backs_goes : (step : Steps C P) (k : ℕ) (rows : List (Row C P)) → suc k < length rows →
      ((goes step k (backs step (suc k) rows).0).0 ≡ (backs step k rows).0) × ((backs step (suc k) rows).1 ≡ (backs step k rows).1)
  backs_goes step k [] lt = absurd (omega (arith, lt))
  backs_goes step zero (r ∷ []) lt = absurd (omega (arith, lt))
  backs_goes step zero (r ∷ q ∷ rs) lt = (refl, refl)
  backs_goes step (suc k) (r ∷ rs) lt =
      let rest = backs_goes (after_first step) k rs (omega (arith, lt)) in (ap (λ (l : List (Row C P)). r ∷ l) rest.0, rest.1)

  -- the last
  pub backs_last : (step : Steps C P) (k : ℕ) (rows : List (Row C P)) → suc k ≡ length rows →
      ((goes step k rows).0 ≡ (backs step k rows).0) × ((goes step k rows).1 ≡ (backs step k rows).1)
  backs_last step k [] is = absurd (omega (arith, is))
  backs_last step zero (r ∷ []) is = (refl, refl)
  backs_last step zero (r ∷ q ∷ rs) is = absurd (omega (arith, is))
  backs_last step (suc k) (r ∷ rs) is =
      let rest = backs_last (after_first step) k rs (omega (arith, is)) in (ap (λ (l : List (Row C P)). r ∷ l) rest.0, rest.1)

  -- the first move
  pub moves_first : (step : Steps C P) (rows now : List (Row C P)) (out : Option P) (n : ℕ) → length rows ≡ n → 0 < n → now ≡ (goes step (n - 1) rows).0 → out ≡ (goes step (n - 1) rows).1 →
      (now ≡ (backs step (n - 1) rows).0) × (out ≡ (backs step (n - 1) rows).1)
  moves_first step rows now out n long some moved left =
      let last = backs_last step (n - 1) rows (omega (arith, long, some)) in
      (moved ∙ last.0, left ∙ last.1)

  -- each later one
  pub moves_next : (step : Steps C P) (rows now new : List (Row C P)) (out : Option P) (n i : ℕ) → length rows ≡ n → 0 < i → i < n → now ≡ (backs step (n - i) rows).0 → out ≡ (backs step (n - i) rows).1 →
      new ≡ (goes step (n - 1 - i) now).0 → (new ≡ (backs step (n - (i + 1)) rows).0) × (out ≡ (backs step (n - (i + 1)) rows).1)
  moves_next step rows now new out n i long some lt is left moved =
      let k = n - (i + 1) in
      let here : n - 1 - i ≡ k = omega arith in
      let more : n - i ≡ suc k = omega (arith, lt) in
      let one = backs_goes step k rows (omega (arith, some, lt, long)) in (
        moved ∙ ap (λ (j : ℕ). (goes step j now).0) here ∙ ap (λ (l : List (Row C P)). (goes step k l).0) (is ∙ ap (λ (j : ℕ). (backs step j rows).0) more) ∙ one.0,
        left ∙ ap (λ (j : ℕ). (backs step j rows).1) more ∙ one.1,
      )

  -- the end
  pub moves_all : (step : Steps C P) (rows : List (Row C P)) (n i : ℕ) → n ≤ i → backs step (n - i) rows ≡ advance step None rows
  moves_all step rows n i le = ap (λ (j : ℕ). backs step j rows) none
    where
      none : n - i ≡ zero
      none = omega (arith, le)

  -- the slot from which all have moved is free
  pub backs_free : (step : Steps C P) (k : ℕ) (rows : List (Row C P)) → option_and_then (λ r. r.slot) (slice_get (backs step k rows).0 k) ≡ None
  backs_free step zero [] = refl
  backs_free step zero (r ∷ rs) = refl
  backs_free step (suc k) [] = refl
  backs_free step (suc k) (r ∷ rs) = backs_free (after_first step) k rs

  -- if no packet is there and none is ahead, nothing moves
  goes_none_at : (step : Steps C P) (k : ℕ) (rows : List (Row C P)) → option_and_then (λ r. r.slot) (slice_get rows k) ≡ None → option_and_then (λ r. r.slot) (slice_get rows (suc k)) ≡ None →
      goes step k rows ≡ (rows, None)
  goes_none_at step k [] here next = refl
  goes_none_at step zero (r ∷ []) here next = ap (λ (o : Option P). let gone = through (step 0) r.cells o in (row gone.0 None ∷ [], gone.1)) here ∙ ap (λ (o : Option P). (row r.cells o ∷ [], None)) (sym here)
  goes_none_at step zero (r ∷ q ∷ rs) here next =
      ap (λ (o : Option P). let gone = through (step 0) r.cells o in (row gone.0 None ∷ row q.cells gone.1 ∷ rs, None)) here
      ∙ ap (λ (o : Option P). (row r.cells o ∷ row q.cells None ∷ rs, None)) (sym here)
      ∙ ap (λ (o : Option P). (r ∷ row q.cells o ∷ rs, None)) (sym next)
  goes_none_at step (suc k) (r ∷ rs) here next = ap (λ (l : List (Row C P) × Option P). (r ∷ l.0, l.1)) (goes_none_at (after_first step) k rs here next)

  pub goes_none : (step : Steps C P) (k : ℕ) (rows : List (Row C P)) → option_and_then (λ r. r.slot) (slice_get rows k) ≡ None → option_and_then (λ r. r.slot) (slice_get rows (k + 1)) ≡ None →
      goes step k rows ≡ (rows, None)
  goes_none step k rows here next = goes_none_at step k rows here (rw add-one at next)
