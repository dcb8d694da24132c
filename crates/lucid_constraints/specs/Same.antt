-- When two names, places or pairs are the same, and lists without repeats.
use Rattle.std.specs.Prelude.{Bool, true, false, if◌then◌else◌, ◌&&◌, nat_eq, List, [], ◌∷◌, ◌++◌}
use Rattle.std.specs.List.{list_any}
use Rattle.lucid_base.specs.declared.array.ArrayName.{ArrayName}
use Rattle.lucid_base.specs.declared.array.ArrayName.TheVariants.{Global, Param}
use Rattle.lucid_constraints.specs.declared.pair.Atom.{Atom}
use Rattle.lucid_constraints.specs.declared.pair.Atom.TheVariants.{Start, After}
use Rattle.lucid_constraints.specs.declared.pair.Pair.{Pair}

abbrev pub same_name : ArrayName → ArrayName → Bool
same_name (Global a) (Global b) = nat_eq a b
same_name (Global a) (Param b) = false
same_name (Param a) (Global b) = false
same_name (Param a) (Param b) = nat_eq a b

abbrev pub same_atom : Atom → Atom → Bool
same_atom Start Start = true
same_atom Start (After b) = false
same_atom (After a) Start = false
same_atom (After a) (After b) = same_name a b

abbrev pub same_pair : Pair → Pair → Bool
same_pair p q = same_atom p.atom q.atom && same_name p.array q.array

-- the list with the item, which is put at its end unless it is there
abbrev pub joined : {A : Type 0} → (A → A → Bool) → List A → A → List A
joined same xs x = if list_any (same x) xs then xs else xs ++ x ∷ []

-- the list with each of these items, one after another
abbrev pub join_all : {A : Type 0} → (A → A → Bool) → List A → List A → List A
join_all same xs [] = xs
join_all same xs (y ∷ ys) = join_all same (joined same xs y) ys
