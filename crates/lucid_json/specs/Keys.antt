-- A condition that each key of an object meets.
use Rattle.std.specs.Prelude.{ℕ, List, Bool, true, ◌&&◌}
use Rattle.serde_json.specs.Data.{Members, no_members, member}

abbrev pub every_key : (List ℕ → Bool) → Members → Bool
every_key p no_members = true
every_key p (member k d ms) = p k && every_key p ms
