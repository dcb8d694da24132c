-- The generator of numbers: a state of 64 bits, and numbers that are drawn one after another.
use Rattle.std.specs.Prelude.{◌≡◌, ℕ, zero, suc, ◌+◌, ◌*◌, ◌/◌, ◌%◌, ◌^◌, List, [], ◌∷◌, ◌++◌}

-- the state behind this one
abbrev pub next : ℕ → ℕ
next state = (6_364_136_223_846_793_005 * state + 1_442_695_040_888_963_407) % 2 ^ 64

-- a drawn value, and the state after it
pub record Drawn (A : Type 0) : Type 0 where
  pub gives : A
  pub after : ℕ

-- a draw from a state on
abbrev pub Draw : Type 0 → Type 0
Draw A = ℕ → Drawn A

-- nothing is drawn
abbrev pub give : {A : Type 0} → A → Draw A
give x = λ state. record { gives = x; after = state }

-- the second after the first
infixl 10 ◌>>=◌
abbrev pub ◌>>=◌ : {A B : Type 0} → Draw A → (A → Draw B) → Draw B
first >>= second = λ state. let drawn = first state in second drawn.gives drawn.after

-- a number below the bound, from the high bits of the next state
abbrev pub below : ℕ → Draw ℕ
below bound = λ state. record { gives = next state / 2 ^ 33 % bound; after = next state }

-- the draws for 0, for 1 and so on, n times in all
unfoldable pub times : {A : Type 0} → ℕ → (ℕ → Draw A) → Draw (List A)
times zero draw = give []
times (suc n) draw = do xs ← times n draw; x ← draw n; give (xs ++ x ∷ [])

-- the draw from a state on is appended to a text
pub record Writes (draw : Draw (List ℕ)) (state : ℕ) (old : List ℕ) (state' : ℕ) (new : List ℕ) : Type 0 where
  pub gives : new ≡ old ++ (draw state).gives
  pub after : state' ≡ (draw state).after
