-- Values that the tests call the same are equal.
use Rattle.std.proofs.Common.{◌≡◌, true, refl, ◌∙◌, ap, arith}
use Rattle.std.proofs.lemmas.Bool.{and_parts}
use Rattle.std.proofs.lemmas.Bool.Decides.{nat_tests}
use Rattle.lucid_base.specs.declared.array.ArrayName.{ArrayName}
use Rattle.lucid_base.specs.declared.array.ArrayName.TheVariants.{Global, Param}
use Rattle.lucid_constraints.specs.Same.{same_name, same_atom, same_pair}
use Rattle.lucid_constraints.specs.declared.pair.Atom.{Atom}
use Rattle.lucid_constraints.specs.declared.pair.Atom.TheVariants.{Start, After}
use Rattle.lucid_constraints.specs.declared.pair.Pair.{Pair}

pub same_name_is : (a b : ArrayName) → same_name a b ≡ true → a ≡ b
same_name_is (Global a) (Global b) h = let e : a ≡ b = grind (arith, nat_tests) in ap Global e
same_name_is (Global a) (Param b) h = cc
same_name_is (Param a) (Global b) h = cc
same_name_is (Param a) (Param b) h = let e : a ≡ b = grind (arith, nat_tests) in ap Param e

pub same_name_refl : (x : ArrayName) → same_name x x ≡ true
same_name_refl (Global a) = grind (arith, nat_tests)
same_name_refl (Param a) = grind (arith, nat_tests)

pub same_atom_is : (a b : Atom) → same_atom a b ≡ true → a ≡ b
same_atom_is Start Start h = refl
same_atom_is Start (After b) h = cc
same_atom_is (After a) Start h = cc
same_atom_is (After a) (After b) h = ap After (same_name_is a b h)

pub same_atom_refl : (x : Atom) → same_atom x x ≡ true
same_atom_refl Start = refl
same_atom_refl (After x) = same_name_refl x

pub same_pair_is : (a b : Pair) → same_pair a b ≡ true → a ≡ b
same_pair_is a b h =
    let both = and_parts (same_atom a.atom b.atom) (same_name a.array b.array) h in
    let e = same_atom_is a.atom b.atom both.0 in
    let f = same_name_is a.array b.array both.1 in
    ap (λ (x : Atom). record { atom = x; array = a.array }) e ∙ ap (λ (x : ArrayName). record { atom = b.atom; array = x }) f

pub same_pair_refl : (p : Pair) → same_pair p p ≡ true
same_pair_refl p = rw (same_atom_refl p.atom) (same_name_refl p.array)
