-- Lists of names of locals, as far as these locals are held. Only contracts inside this crate cite this page.
use Rattle.std.specs.Prelude.{◌≡◌, ℕ, List, ◌++◌, Bool, true, false, ◌&&◌, drop, length, slice_index_or, take}
use Rattle.lucid_base.specs.Numbers.{is_in}

-- All locals that are held here are held there.
pub record AreHeld (here there : List Bool) : Type 0 where
  pub at : (i : ℕ) → slice_index_or here i false ≡ true → slice_index_or there i false ≡ true

-- Two lists with the same of the locals that are held.
pub record IsAlike (held : List Bool) (xs ys : List ℕ) : Type 0 where
  pub at : (i : ℕ) → (slice_index_or held i false && is_in i xs) ≡ (slice_index_or held i false && is_in i ys)

-- A list to which names were added, like these.
pub record Assigns (held : List Bool) (earlier later names : List ℕ) : Type 0 where
  pub added : List ℕ
  pub is : later ≡ earlier ++ added
  pub alike : IsAlike held added names

-- A list to which names were added twice, where from this place on the second were.
pub record AssignsBoth (from : ℕ) (first second : List Bool) (earlier later names more : List ℕ) : Type 0 where
  pub between : List ℕ
  pub from_is : from ≡ length between
  pub one : Assigns first earlier between names
  pub two : Assigns second between later more

-- A list whose names from this place on may have become others, of which the same are held.
pub record Keeps (held : List Bool) (from : ℕ) (earlier later : List ℕ) : Type 0 where
  pub found : List ℕ
  pub is : later ≡ take from earlier ++ found
  pub alike : IsAlike held found (drop from earlier)
