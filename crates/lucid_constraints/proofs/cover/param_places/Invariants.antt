use Rattle.std.proofs.Common.{◌≡◌, ◌<◌}
use Rattle.std.specs.Prelude.{All, length}
use Rattle.lucid_constraints.specs.Cover.{ArePlacesTo}
use Rattle.lucid_constraints.proofs.cover.param_places.Given as goal

abbrev pub invariant-loop-i : goal.invariant-loop-i
invariant-loop-i l = record { len : length l.places ≡ 8; places : ArePlacesTo l.names l.places l.i; few : All (λ n. n < 72) l.places }
