-- The windows of two switches in the order of their beginnings, and what they tell of a tick.
use Rattle.std.specs.Prelude.{◌≡◌, ℕ, ◌<◌, List, [], ◌∷◌, Bool, ◌&&◌, ◌||◌, if◌then◌else◌, length, max, nat_eq, nat_le, nat_lt, slice_index_or}
use Rattle.std.specs.List.{list_any}
use Rattle.std.specs.List.Sorted.{IsNonDecreasingBy}
use Rattle.lucid_conf.specs.declared.scene.Down.{Down}
use Rattle.lucid_net_spec.specs.Ways.{is_open}
use Rattle.lucid_net.specs.declared.windows.Span.{Span}

-- The window is one of the link between the two, in either direction.
abbrev pub is_between : ℕ → ℕ → Down → Bool
is_between a b w = (nat_eq w.a a && nat_eq w.b b) || (nat_eq w.a b && nat_eq w.b a)

-- The tick is in the window.
abbrev pub holds : ℕ → Span → Bool
holds tick s = nat_le s.from tick && nat_lt tick s.until

-- Each window with the greatest end of those up to it, and of an end before all.
abbrev pub reaching : ℕ → List Span → List Span
reaching until [] = []
reaching until (s ∷ spans) = record { from = s.from; until = max s.until until } ∷ reaching (max s.until until) spans

-- Whether the tick is before the end that stands at the last of these that began; before this end where none did.
abbrev pub told : ℕ → ℕ → List Span → Bool
told tick until [] = nat_lt tick until
told tick until (s ∷ spans) = if nat_le s.from tick then told tick s.until spans else nat_lt tick until

-- In the order of their beginnings, they tell at which ticks the link between the two is down.
pub record Tells (down : List Down) (a b : ℕ) (spans : List Span) : Type 0 where
  pub rise : IsNonDecreasingBy (λ s. s.from) spans
  pub tells : (tick : ℕ) → told tick 0 spans ≡ list_any (is_open a b tick) down

-- So do those of a switch and each other.
abbrev pub AreOf : List Down → ℕ → List (List Span) → Type 0
AreOf down a row = (b : ℕ) (none : List Span) → b < length row → Tells down a b (slice_index_or row b none)

-- And those of each two.
abbrev pub AreRows : List Down → List (List (List Span)) → Type 0
AreRows down rows = (a : ℕ) (none : List (List Span)) → a < length rows → AreOf down a (slice_index_or rows a none)
