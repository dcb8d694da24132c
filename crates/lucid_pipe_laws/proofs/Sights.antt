-- A pipe between two ticks.
use Rattle.std.proofs.Common.{◌≡◌, ℕ, zero, suc, ◌+◌, ◌-◌, List, [], ◌∷◌, length, get_or, Option, None, Some, option_map, sym, ◌∙◌, ap, arith, refl}
use Rattle.lucid_pipe_laws.specs.Moves.{through}
use Rattle.lucid_pipe_laws.specs.Rows.{Steps, after_first}
use Rattle.lucid_pipe_laws.specs.Sights.{pasts, FlightLaw, StageLaw, SnapLaw}
use Rattle.lucid_pipe_laws.specs.Stream.{ran, next, cells_at}
use Rattle.lucid_pipe_laws.proofs.Stream.{settles_to}

module _ {T : Type 0} where
  pasts-same : (f g : ℕ → Option T) (t k : ℕ) → ((e : ℕ) → f e ≡ g e) → pasts f t k ≡ pasts g t k
  pasts-same f g t zero same = refl
  pasts-same f g zero (suc k) same = ap (λ (l : List (Option T)). None ∷ l) (pasts-same f g zero k same)
  pasts-same f g (suc t) (suc k) same = ap (λ (o : Option T). o ∷ pasts f t k) (same t) ∙ ap (λ (l : List (Option T)). g t ∷ l) (pasts-same f g t k same)

module _ {C P T : Type 0} where
  tag_through : (f : C → P → C × P) (tag : P → T) (c : C) (o : Option P) → ((c : C) (p : P) → tag (f c p).1 ≡ tag p) → option_map tag (through f c o).1 ≡ option_map tag o
  tag_through f tag c None keeps = refl
  tag_through f tag c (Some p) keeps = ap (λ (x : T). Some x) (keeps c p)

  pub flight_law : (step : Steps C P) (tag : P → T) → FlightLaw step tag
  flight_law step tag keeps [] run t = refl
  flight_law step tag keeps (c ∷ cs) run zero =
      ap (λ (l : List (Option T)). None ∷ l) (flight_law (after_first step) tag (λ k. keeps (suc k)) cs (next (step 0) c run) zero
      ∙ pasts-same (λ e. option_map tag (next (step 0) c run e)) (λ e. option_map tag (run e)) zero (length cs) (λ e. tag_through (step 0) tag (ran (step 0) c run e) (run e) (keeps 0)))
  flight_law step tag keeps (c ∷ cs) run (suc t) =
      ap (λ (l : List (Option T)). option_map tag (run t) ∷ l) (flight_law (after_first step) tag (λ k. keeps (suc k)) cs (next (step 0) c run) t
      ∙ pasts-same (λ e. option_map tag (next (step 0) c run e)) (λ e. option_map tag (run e)) t (length cs) (λ e. tag_through (step 0) tag (ran (step 0) c run e) (run e) (keeps 0)))

module _ {C P : Type 0} where
  pub stage_law : (step : Steps C P) → StageLaw step
  stage_law step [] run t k d lt = absurd (omega (arith, lt))
  stage_law step (c ∷ cs) run zero zero d lt = ap (ran (step 0) c run) none
    where
      none : zero ≡ zero - suc zero
      none = omega arith
  stage_law step (c ∷ cs) run (suc t) zero d lt = ap (ran (step 0) c run) one
    where
      one : t ≡ suc t - suc zero
      one = omega arith
  stage_law step (c ∷ cs) run zero (suc k) d lt =
      stage_law (after_first step) cs (next (step 0) c run) zero k d (omega (arith, lt)) ∙ ap (λ (j : ℕ). get_or (cells_at (after_first step) cs (next (step 0) c run) j) k d.cells) none
    where
      none : zero - suc k ≡ zero - suc (suc k)
      none = omega arith
  stage_law step (c ∷ cs) run (suc t) (suc k) d lt =
      stage_law (after_first step) cs (next (step 0) c run) t k d (omega (arith, lt)) ∙ ap (λ (j : ℕ). get_or (cells_at (after_first step) cs (next (step 0) c run) j) k d.cells) one
    where
      one : t - suc k ≡ suc t - suc (suc k)
      one = omega arith

module _ {C P : Type 0} where
  pub snap_law : (step : Steps C P) → SnapLaw step
  snap_law step cs run t k d lt =
      stage_law step cs run (t + suc k) k d lt ∙ ap (λ (j : ℕ). get_or (cells_at step cs run j) k d.cells) number
      ∙ ap (λ (l : List C). get_or l k d.cells) (sym (settles_to step cs run t))
    where
      number : t + suc k - suc k ≡ t
      number = omega arith
