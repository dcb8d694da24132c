-- The list of pending events.
use Rattle.std.specs.Prelude.{ℕ, List, [], ◌∷◌, Bool, if◌then◌else◌, nat_eq, nat_lt, not, ◌&&◌}
use Rattle.lucid_queue.specs.declared.pending.Pending.{Pending}

-- x inserted at its place
abbrev pub put_in : {X : Type 0} → (X → X → Bool) → X → List X → List X
put_in before x [] = x ∷ []
put_in before x (y ∷ ys) = if before x y then x ∷ y ∷ ys else y ∷ put_in before x ys

-- all but the first that passes
abbrev pub without_first : {X : Type 0} → (X → Bool) → List X → List X
without_first may [] = []
without_first may (x ∷ xs) = if may x then xs else x ∷ without_first may xs

-- p waits at the switch, and may enter at the tick
abbrev pub is_ready : ℕ → ℕ → Pending → Bool
is_ready switch tick p = nat_eq p.switch switch && not (nat_lt tick p.key.ready)
