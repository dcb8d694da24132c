-- Names of arrays as a function's callers see them.
use Rattle.std.specs.Prelude.{List, slice_index_or}
use Rattle.lucid_base.specs.declared.array.ArrayName.{ArrayName}
use Rattle.lucid_base.specs.declared.array.ArrayName.TheVariants.{Global, Param}

-- the caller's name of a callee's array, given the arrays of the call
abbrev pub name_at : List ArrayName → ArrayName → ArrayName
name_at names (Global a) = Global a
name_at names (Param i) = slice_index_or names i (Global 0)
