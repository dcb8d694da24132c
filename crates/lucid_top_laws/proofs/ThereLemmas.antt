-- One part after another: if each part has an answer, so has the whole.
use Rattle.std.proofs.Common.{◌≡◌, Result, Ok, Err, refl}
use Rattle.lucid_top_words.specs.declared.refusal.Refusal.{Refusal}
use Rattle.lucid_top_words.specs.Outcome.{FollowedBy}

-- There is an answer.
abbrev pub There : {X : Type 0} → (Result X Refusal → Type 0) → Type 0
There {X} answers = (o : Result X Refusal) × answers o

-- An outcome that is given.
pub given_there : {X : Type 0} (v : Result X Refusal) → There (λ (o : Result X Refusal). o ≡ v)
given_there v = (v, refl)

-- A second part needs an answer only for the answers of the first.
pub followed_there : {X Y : Type 0} (part : Result X Refusal → Type 0) (rest : X → Result Y Refusal → Type 0) →
    There part → ((x : X) → part (Ok x) → There (rest x)) → There (FollowedBy part rest)
followed_there {X} {Y} part rest first second = at first.0 first.1
  where
    at : (e : Result X Refusal) → part e → There (FollowedBy part rest)
    at (Ok x) is = let next = second x is in (next.0, (Ok x, is, next.1))
    at (Err r) is = (Err r, (Err r, is, refl))
