-- Where the tables show it, a caller asks for all that a function asks.
use Rattle.std.proofs.Common.{◌≡◌, ◌∙◌, ℕ, ◌+◌, ◌*◌, ◌<◌, Bool, true, false, List, [], ◌∷◌, Option, None, Some, if◌then◌else◌, ◌&&◌, get_or, length, map, nat_lt, refl, sym, ap, ap₂, arith}
use Rattle.std.specs.Prelude.{is_some}
use Rattle.std.specs.List.{list_all, list_any}
use Rattle.std.specs.Option.{option_and_then, option_map}
use Rattle.std.proofs.lemmas.Bool.{and_parts, ltb-true}
use Rattle.std.proofs.lemmas.Bool.Decides.{nat_tests}
use Rattle.lucid_base.specs.Arrays.{name_at}
use Rattle.lucid_base.specs.declared.array.ArrayName.{ArrayName}
use Rattle.lucid_base.specs.declared.array.ArrayName.TheVariants.{Global, Param}
use Rattle.lucid_constraints.specs.declared.pair.Atom.{Atom}
use Rattle.lucid_constraints.specs.declared.pair.Atom.TheVariants.{Start, After}
use Rattle.lucid_constraints.specs.declared.pair.Pair.{Pair}
use Rattle.lucid_constraints.specs.Cover.{ArePlacesTo, RowsHeldTo, StartHeld, StartsHeld, moved}
use Rattle.lucid_constraints.specs.Marks.{Marked, atom_number, name_number, pair_number}
use Rattle.lucid_constraints.specs.Same.{same_pair}
use Rattle.lucid_constraints.specs.Substitution.{needs_from, pair, pairs_at}
use Rattle.lucid_constraints.proofs.Joining.{nothing_new}
use Rattle.lucid_constraints.proofs.MemberLemmas.{or_left, or_right}
use Rattle.lucid_constraints.proofs.SameLemmas.{same_pair_refl}

number_few : (x : ArrayName) (n : ℕ) → name_number x ≡ Some n → n < 72
number_few (Global a) n e = of (nat_lt a 64) refl e
  where
    of : (b : Bool) → nat_lt a 64 ≡ b → (if b then Some (8 + a) else None) ≡ Some n → n < 72
    of true t f = let l = ltb-true a 64 t in let g : 8 + a ≡ n = cc in omega (arith, l, g)
    of false t f = absurd (cc)
number_few (Param i) n e = of (nat_lt i 8) refl e
  where
    of : (b : Bool) → nat_lt i 8 ≡ b → (if b then Some i else None) ≡ Some n → n < 72
    of true t f = let l = ltb-true i 8 t in let g : i ≡ n = cc in omega (arith, l, g)
    of false t f = absurd (cc)

opened_after : (o : Option ℕ) (a : ℕ) → option_map (λ n. 1 + n) o ≡ Some a → (k : ℕ) × (o ≡ Some k) × (1 + k ≡ a)
opened_after None a e = absurd (cc)
opened_after (Some k) a e = let g : 1 + k ≡ a = cc in (k, refl, g)

atom_few : (x : Atom) (r : ℕ) → atom_number x ≡ Some r → r < 73
atom_few Start r e = let g : 0 ≡ r = cc in omega (arith, g)
atom_few (After x) r e =
    let o = opened_after (name_number x) r e in
    let l = number_few x o.0 o.1 in
    let g = o.2 in
    omega (arith, l, g)

numbered : (x : Atom) (y : ArrayName) (a m : ℕ) → atom_number x ≡ Some a → name_number y ≡ Some m → pair_number (pair y x) ≡ Some (a * 72 + m)
numbered x y a m e f = ap₂ (λ (o q : Option ℕ). option_and_then (λ b. option_map (λ n. b * 72 + n) q) o) e f

opened : (x : Atom) (y : ArrayName) → is_some (pair_number (pair y x)) ≡ true → (a : ℕ) × (m : ℕ) × (atom_number x ≡ Some a) × (name_number y ≡ Some m)
opened x y h = of (atom_number x) (name_number y) refl refl h
  where
    of : (o q : Option ℕ) → atom_number x ≡ o → name_number y ≡ q → is_some (option_and_then (λ b. option_map (λ n. b * 72 + n) q) o) ≡ true → (a : ℕ) × (m : ℕ) × (atom_number x ≡ Some a) × (name_number y ≡ Some m)
    of None None e f h = absurd (cc)
    of None (Some m) e f h = absurd (cc)
    of (Some a) None e f h = absurd (cc)
    of (Some a) (Some m) e f h = (a, m, e, f)

within : (a m : ℕ) → a < 73 → m < 72 → a * 72 + m < 5256
within a m l k = omega (arith, l, k)

mono : (x : Pair) (xs ps : List Pair) → list_all (λ q. list_any (same_pair q) xs) ps ≡ true → list_all (λ q. list_any (same_pair q) (x ∷ xs)) ps ≡ true
mono x xs [] h = refl
mono x xs (p ∷ ps) h =
    let both = and_parts (list_any (same_pair p) xs) (list_all (λ q. list_any (same_pair q) xs) ps) h in
    ap₂ (λ (s t : Bool). s && t) (or_right (same_pair p x) (list_any (same_pair p) xs) both.0) (mono x xs ps both.1)

self_in : (ps : List Pair) → list_all (λ q. list_any (same_pair q) ps) ps ≡ true
self_in [] = refl
self_in (p ∷ ps) = ap₂ (λ (s t : Bool). s && t) (or_left (same_pair p p) (list_any (same_pair p) ps) (same_pair_refl p)) (mono p ps ps (self_in ps))

module _ (names : List ArrayName) (places : List ℕ) (are : ArePlacesTo names places 8) where
  moves : (x : ArrayName) (k : ℕ) → name_number x ≡ Some k → name_number (name_at names x) ≡ Some (moved places k)
  moves (Global a) k e = of (nat_lt a 64) refl e
    where
      of : (b : Bool) → nat_lt a 64 ≡ b → (if b then Some (8 + a) else None) ≡ Some k → name_number (Global a) ≡ Some (moved places k)
      of false t f = absurd (cc)
      of true t f =
          let g : 8 + a ≡ k = cc in
          let far : nat_lt (8 + a) 8 ≡ false = grind (arith, nat_tests) in
          let here : moved places (8 + a) ≡ 8 + a = ap (λ (c : Bool). if c then get_or places (8 + a) 0 else 8 + a) far in
          ap (λ (c : Bool). if c then Some (8 + a) else None) t ∙ ap Some (sym here ∙ ap (moved places) g)
  moves (Param i) k e = of (nat_lt i 8) refl e
    where
      of : (b : Bool) → nat_lt i 8 ≡ b → (if b then Some i else None) ≡ Some k → name_number (name_at names (Param i)) ≡ Some (moved places k)
      of false t f = absurd (cc)
      of true t f =
          let g : i ≡ k = cc in
          let here : moved places i ≡ get_or places i 0 = ap (λ (c : Bool). if c then get_or places i 0 else i) t in
          are i (ltb-true i 8 t) ∙ ap Some (sym here ∙ ap (moved places) g)

  module _ (ours theirs : List Bool) (asked more : List Pair) (start : List Atom) (marks : Marked ours asked) (others : Marked theirs more) (full : length ours ≡ 5256) (all : length theirs ≡ 5256)
      (rows : RowsHeldTo places theirs ours 72) (starts : StartsHeld places theirs ours start) where
    there : (x : Atom) (y : ArrayName) (a m : ℕ) → atom_number x ≡ Some a → name_number y ≡ Some m → get_or ours (a * 72 + m) false ≡ true → list_any (same_pair (pair y x)) asked ≡ true
    there x y a m e f h =
        let l = within a m (atom_few x a e) (number_few y m f) in
        sym (marks (pair y x) (a * 72 + m) (numbered x y a m e f) (omega (arith, l, full))) ∙ h

    marked_there : (x : Atom) (y : ArrayName) (a m : ℕ) → atom_number x ≡ Some a → name_number y ≡ Some m → list_any (same_pair (pair y x)) more ≡ true → get_or theirs (a * 72 + m) false ≡ true
    marked_there x y a m e f h =
        let l = within a m (atom_few x a e) (number_few y m f) in
        others (pair y x) (a * 72 + m) (numbered x y a m e f) (omega (arith, l, all)) ∙ h

    from_start : (y : ArrayName) (m : ℕ) → name_number y ≡ Some m → get_or theirs (0 + m) false ≡ true → (xs : List Atom) → StartsHeld places theirs ours xs →
        list_all (λ p. list_any (same_pair p) asked) (map (pair (name_at names y)) xs) ≡ true
    from_start y m f h [] held = refl
    from_start y m f h (x ∷ xs) held =
        let one : StartHeld places theirs ours x = held.0 in
        let here = there x (name_at names y) one.0 (moved places m) one.1 (moves y m f) (one.2 m (number_few y m f) h) in
        ap₂ (λ (s t : Bool). s && t) here (from_start y m f h xs held.1)

    one_in : (x : Atom) (y : ArrayName) → list_any (same_pair (pair y x)) more ≡ true → is_some (pair_number (pair y x)) ≡ true → list_all (λ p. list_any (same_pair p) asked) (pairs_at names start (pair y x)) ≡ true
    one_in Start y h some =
        let o = opened Start y some in
        from_start y o.1 o.3 (marked_there Start y 0 o.1 refl o.3 h) start starts
    one_in (After x) y h some =
        let o = opened (After x) y some in
        let n = opened_after (name_number x) o.0 o.2 in
        let k = n.0 in
        let m = o.1 in
        let here = marked_there (After x) y (1 + k) m (ap (option_map (λ n. 1 + n)) n.1) o.3 h in
        let held = rows k (number_few x k n.1) m (number_few y m o.3) here in
        let one = there (After (name_at names x)) (name_at names y) (1 + moved places k) (moved places m) (ap (option_map (λ n. 1 + n)) (moves x k n.1)) (moves y m o.3) held in
        ap (λ (t : Bool). t && true) one

    each_in : (ps : List Pair) → list_all (λ q. list_any (same_pair q) more) ps ≡ true → list_all (λ q. is_some (pair_number q)) ps ≡ true → list_all (λ q. list_all (λ p. list_any (same_pair p) asked) (pairs_at names start q)) ps ≡ true
    each_in [] h some = refl
    each_in (p ∷ ps) h some =
        let is = and_parts (list_any (same_pair p) more) (list_all (λ q. list_any (same_pair q) more) ps) h in
        let has = and_parts (is_some (pair_number p)) (list_all (λ q. is_some (pair_number q)) ps) some in
        ap₂ (λ (s t : Bool). s && t) (one_in p.atom p.array is.0 has.0) (each_in ps is.1 has.1)

    -- all that the function asks is asked already
    pub covered : list_all (λ q. is_some (pair_number q)) more ≡ true → needs_from names start asked more ≡ asked
    covered some = nothing_new names start asked more (each_in more (self_in more) some)
