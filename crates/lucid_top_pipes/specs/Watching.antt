-- The sights of a watch.
use Rattle.std.specs.Prelude.{◌≡◌, ◌⊎◌, List, [], ◌++◌, Option, Result, Ok, Err, IsSome}
use Rattle.lucid_pipe.specs.Sights.{ShowsAll}
use Rattle.lucid_pipe.specs.declared.sight.Sight.{Sight}
use Rattle.lucid_top_words.specs.declared.refusal.Refusal.{Refusal}
use Rattle.lucid_top_words.specs.Outcome.{IsTheAnswer}

-- the sights of a watch so far, if they are specified
abbrev pub Seen : Type 0
Seen = Option (List Sight)

-- specified after only if specified before
abbrev pub ToldBefore : Seen → Seen → Type 0
ToldBefore old new = IsSome new → IsSome old

-- the first of these, and no others, were shown
pub record ShowsSome (old new : Seen) (sights : List Sight) : Type 0 where
  pub first : List Sight
  pub rest : List Sight
  pub parts : sights ≡ first ++ rest
  pub shows : ShowsAll old new first

-- A call showed the sights that are the answer, all of them; or, where it refused, the first of them.
abbrev pub Shown : {P : Type 0} → (Result (List Sight) Refusal → Type 0) → Seen → Seen → Result P Refusal → Type 0
Shown shows old new (Ok u) = (IsTheAnswer shows (Ok []) × (new ≡ old)) ⊎ ((sights : List Sight) × IsTheAnswer shows (Ok sights) × ShowsAll old new sights)
Shown shows old new (Err r) = (new ≡ old) ⊎ ((sights : List Sight) × IsTheAnswer shows (Ok sights) × ShowsSome old new sights)
