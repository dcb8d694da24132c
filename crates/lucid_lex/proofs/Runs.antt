-- The longest run of bytes that pass a test.
use Rattle.std.proofs.Common.{◌≡◌, ℕ, ◌<◌, ◌≤◌, Bool, true, false, List, ◌∷◌, ◌++◌, length, take, sym, ◌∙◌, ap, ⊎_elim, arith, refl, length-append, length-take, get_or-take}
use Rattle.std.proofs.str.Laws.{order}
use Rattle.std.proofs.lemmas.Bool.{false≢true}
use Rattle.std.proofs.lemmas.List.{get_or_at, get_or_append_left}
use Rattle.std.proofs.lemmas.List.Elements.{All-get_or, All-from_get_or}
use Rattle.std.proofs.lemmas.List.Sums.{prefix_len_passes, prefix_len_stops, prefix_len_is}
use Rattle.std.specs.List.{prefix_len, AllPass}

-- each byte of the run passes
pub run_passes : (p : ℕ → Bool) (xs : List ℕ) → AllPass p (take (prefix_len p xs) xs)
run_passes p xs = All-from_get_or (λ x. p x ≡ true) (take (prefix_len p xs) xs) 0 (λ i within.
    let below : i < prefix_len p xs = omega (arith, length-take (prefix_len p xs) xs) in
    rw get_or-take (prefix_len_passes p xs i 0 below))

-- no longer front passes
pub run_longest : (p : ℕ → Bool) (front after : List ℕ) → AllPass p front → length front ≤ prefix_len p (front ++ after)
run_longest p front after passes = ⊎_elim
    (λ short. absurd (false≢true (sym (prefix_len_stops p (front ++ after) 0 (omega (arith, length-append front after)))
    ∙ ap p (get_or_append_left front after 0 (prefix_len p (front ++ after)) short)
    ∙ All-get_or (λ x. p x ≡ true) front (prefix_len p (front ++ after)) 0 short passes)))
    (λ enough. enough)
    (order (prefix_len p (front ++ after)) (length front))

-- a front that passes, before a byte that doesn't, is the run
pub run_stopped : (p : ℕ → Bool) (front after : List ℕ) (b : ℕ) → AllPass p front → p b ≡ false → prefix_len p (front ++ b ∷ after) ≡ length front
run_stopped p front after b passes fails = prefix_len_is p (front ++ b ∷ after) (length front) 0
    (omega (arith, length-append front (b ∷ after)))
    (λ k below. ap p (get_or_append_left front (b ∷ after) 0 k below) ∙ All-get_or (λ x. p x ≡ true) front k 0 below passes)
    (λ _. ap p (get_or_at front b after 0 (length front) refl) ∙ fails)
