-- Widths, and the types of values, parameters and answers.
use Rattle.std.specs.Prelude.{ℕ, ◌+◌, ◌≤◌, List, [], ◌∷◌, Option, None, Some, Bool, map}
use Rattle.std.specs.Option.{option_map}
use Rattle.lucid_base.specs.declared.array.ArrayName.TheVariants as array_name
use Rattle.lucid_core.specs.declared.ending.Ending.{Ending}
use Rattle.lucid_core.specs.declared.ending.Ending.TheVariants.{Always}
use Rattle.lucid_parse_tree.specs.declared.tree.P.{P}
use Rattle.lucid_parse_tree.specs.declared.tree.P.TheVariants as p
use Rattle.lucid_parse_tree.specs.declared.tree.Ty.{Ty}
use Rattle.lucid_parse_tree.specs.declared.tree.Ty.TheVariants as ty
use Rattle.lucid_types_spec.specs.declared.scope.Entry.TheVariants as entry
use Rattle.lucid_types_spec.specs.declared.scope.Param.{Param}
use Rattle.lucid_types_spec.specs.declared.scope.Param.TheVariants as param
use Rattle.lucid_types_spec.specs.declared.scope.ValueType.{ValueType}
use Rattle.lucid_types_spec.specs.declared.scope.ValueType.TheVariants.{Int}
use Rattle.lucid_types_spec.specs.declared.scope.ValueType.TheVariants as vt
use Rattle.lucid_types_spec.specs.Names.{Names, called}

-- A width is 1 to 64.
abbrev pub IsWidth : ℕ → Type 0
IsWidth w = (1 ≤ w) × (w ≤ 64)

-- `int` is `int<<32>>`.
abbrev pub stated : Option ℕ → ℕ
stated None = 32
stated (Some w) = w

-- The meaning of a written type.
pub data Means : Ty → ValueType → Type 0 where
  int : (w : Option ℕ) → IsWidth (stated w) → Means (ty.Int w) (Int (stated w))
  bool : Means ty.Bool vt.Bool

-- The answer of a function that returns on these paths: with a value it always returns.
pub data Answers : Option Ty → Option ValueType → Ending → Type 0 where
  void : (r : Ending) → Answers None None r
  value : (t : Ty) (v : ValueType) → Means t v → Answers (Some t) (Some v) Always

-- Behind this many value parameters and array parameters, parameters are of these kinds, and give a body these names.
-- A later one hides an earlier one of its name.
pub data Parameters : ℕ → ℕ → Names → List P → List Param → Names → Type 0 where
  none : (i j : ℕ) (s : Names) → Parameters i j s [] [] s
  value : (i j : ℕ) (s k : Names) (t : Ty) (v : ValueType) (n : List ℕ) (ps : List P) (qs : List Param) →
      Means t v → Parameters (i + 1) j (called n (entry.Local i v) ∷ s) ps qs k → Parameters i j s (p.Value t n ∷ ps) (param.Value v ∷ qs) k
  array : (i j : ℕ) (s k : Names) (short : Bool) (w : ℕ) (n : List ℕ) (ps : List P) (qs : List Param) →
      IsWidth w → Parameters i (j + 1) (called n (entry.Array (array_name.Param j) w) ∷ s) ps qs k →
      Parameters i j s (p.Array short w n ∷ ps) (param.Array w ∷ qs) k

-- The parameters of an event: ints of these widths.
abbrev pub ints : List ℕ → List Param
ints ws = map (λ w. param.Value (Int w)) ws

-- ---- in the core

-- A bool has width 1.
abbrev pub width_of : ValueType → ℕ
width_of (Int w) = w
width_of vt.Bool = 1

abbrev pub answer_width : Option ValueType → Option ℕ
answer_width t = option_map width_of t

-- The widths of the value parameters, and those of the cells of the array parameters.
abbrev pub value_widths : List Param → List ℕ
value_widths [] = []
value_widths (param.Value t ∷ ps) = width_of t ∷ value_widths ps
value_widths (param.Array w ∷ ps) = value_widths ps

abbrev pub cell_widths : List Param → List ℕ
cell_widths [] = []
cell_widths (param.Value t ∷ ps) = cell_widths ps
cell_widths (param.Array w ∷ ps) = w ∷ cell_widths ps
