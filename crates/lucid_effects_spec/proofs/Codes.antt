-- Names, places and pairs as numbers, so that those of a number of arrays can be counted.
use Rattle.std.proofs.Common.{◌≡◌, ℕ, ◌+◌, ◌*◌, ◌<◌, ◌≤◌, Bool, true, false, nat_eq, refl, ap, arith}
use Rattle.std.proofs.lemmas.Bool.Decides.{nat_tests}
use Rattle.std.proofs.Math.Nat.{mul-le-mul_left}
use Rattle.lucid_base.specs.declared.array.ArrayName.{ArrayName}
use Rattle.lucid_base.specs.declared.array.ArrayName.TheVariants.{Global, Param}
use Rattle.lucid_constraints.specs.declared.pair.Atom.{Atom}
use Rattle.lucid_constraints.specs.declared.pair.Atom.TheVariants.{Start, After}
use Rattle.lucid_constraints.specs.declared.pair.Pair.{Pair}
use Rattle.lucid_constraints.specs.Same.{same_name, same_atom, same_pair}

-- Of n declared arrays and 8 array parameters; the number n means array 0 if none is declared.
abbrev pub NameIn : ℕ → ArrayName → Type 0
NameIn n (Global a) = a ≤ n
NameIn n (Param i) = i < 8

abbrev pub name_code : ℕ → ArrayName → ℕ
name_code n (Global a) = a
name_code n (Param i) = n + 1 + i

abbrev pub AtomIn : ℕ → Atom → Type 0
AtomIn n Start = Unit {0}
AtomIn n (After x) = NameIn n x

abbrev pub atom_code : ℕ → Atom → ℕ
atom_code n Start = 0
atom_code n (After x) = 1 + name_code n x

abbrev pub PairIn : ℕ → Pair → Type 0
PairIn n p = AtomIn n p.atom × NameIn n p.array

abbrev pub pair_code : ℕ → Pair → ℕ
pair_code n p = atom_code n p.atom * (n + 9) + name_code n p.array

less_by : (a b r s u : ℕ) → a < b → r < u → a * u + r < b * u + s
less_by a b r s u h l =
    let m : (a + 1) ≤ b = omega arith in
    let k : u * (a + 1) ≤ u * b = mul-le-mul_left u m in
    omega (arith, k)

same_parts : (a b r s u : ℕ) → r < u → s < u → a * u + r ≡ b * u + s → (a ≡ b) × (r ≡ s)
same_parts a b r s u h l e = of (nat_eq a b) refl
  where
    of : (t : Bool) → nat_eq a b ≡ t → (a ≡ b) × (r ≡ s)
    of true t = let is : a ≡ b = grind (arith, nat_tests) in let m : a * u ≡ b * u = ap (λ k. k * u) is in (is, omega (arith, m))
    of false t = absurd (grind (arith, nat_tests, less_by a b r s u, less_by b a s r u))

module _ (n : ℕ) where
  name_below : (x : ArrayName) → NameIn n x → name_code n x < n + 9
  name_below (Global a) h = omega arith
  name_below (Param i) h = omega arith

  pub atom_below : (x : Atom) → AtomIn n x → atom_code n x < n + 10
  atom_below Start h = omega arith
  atom_below (After x) h = let l = name_below x h in omega (arith, l)

  pub pair_below : (p : Pair) → PairIn n p → pair_code n p < (n + 10) * (n + 9)
  pair_below p h =
      let a = atom_below p.atom h.0 in
      let b = name_below p.array h.1 in
      let l = less_by (atom_code n p.atom) (n + 10) (name_code n p.array) 0 (n + 9) a b in
      omega (arith, l)

  name_tells : (x y : ArrayName) → NameIn n x → NameIn n y → name_code n y ≡ name_code n x → same_name x y ≡ true
  name_tells (Global a) (Global b) h k e = grind (arith, nat_tests)
  name_tells (Global a) (Param j) h k e = absurd (omega arith)
  name_tells (Param i) (Global b) h k e = absurd (omega arith)
  name_tells (Param i) (Param j) h k e = let s : i ≡ j = omega arith in grind (arith, nat_tests)

  pub atom_tells : (x y : Atom) → AtomIn n x → AtomIn n y → atom_code n y ≡ atom_code n x → same_atom x y ≡ true
  atom_tells Start Start h k e = refl
  atom_tells Start (After y) h k e = absurd (omega arith)
  atom_tells (After x) Start h k e = absurd (omega arith)
  atom_tells (After x) (After y) h k e = let s : name_code n y ≡ name_code n x = omega arith in name_tells x y h k s

  pub pair_tells : (p q : Pair) → PairIn n p → PairIn n q → pair_code n q ≡ pair_code n p → same_pair p q ≡ true
  pair_tells p q h k e =
      let parts = same_parts (atom_code n q.atom) (atom_code n p.atom) (name_code n q.array) (name_code n p.array) (n + 9) (name_below q.array k.1) (name_below p.array h.1) e in
      let a = atom_tells p.atom q.atom h.0 k.0 parts.0 in
      let b = name_tells p.array q.array h.1 k.1 parts.1 in
      rw a b
