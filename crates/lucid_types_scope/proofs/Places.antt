-- What stands at the place of a name, and what is left once the newest entry has ended.
use Rattle.std.proofs.Common.{◌≡◌, ◌<◌, ◌+◌, ◌-◌, ℕ, List, [], ◌∷◌, ◌++◌, Option, None, Some, IsSome, Bool, true, false, bytes_eq, if◌then◌else◌, drop, length, map, reverse, get_or, refl, sym, ap, subst, ◌∙◌, arith}
use Rattle.std.proofs.lemmas.Grind.{common_steps, reverse_onto}
use Rattle.std.proofs.lemmas.List.{reverse-append, reverse-reverse, drop-drop, length-drop, length-reverse}
use Rattle.std.proofs.lemmas.Slice.Eq.{bytes_eq-Decides}
use Rattle.std.specs.HashMap.{HashMap}
use Rattle.lucid_types_spec.specs.Names.{Names, seen}
use Rattle.lucid_types_scope.specs.Places.{place, names_of, newest_of, IsLinked, IsIndexed}
use Rattle.lucid_types_scope.specs.declared.scope.Kept.{Kept}

within : (name : List ℕ) (ks : List Kept) (at : ℕ) → place name ks ≡ Some at → at < length ks
within name [] at is = grind arith
within name (k ∷ ks) at is = grind (arith, common_steps, within name ks at)

found : (name : List ℕ) (ks : List Kept) (at : ℕ) (d : Kept) → place name ks ≡ Some at →
    seen name (map (λ (k : Kept). k.named) ks) ≡ Some (get_or (reverse ks) at d).named.entry
found name [] at d is = grind arith
found name (k ∷ ks) at d is = grind (arith, common_steps, within name ks at, found name ks at d, reverse_onto ks k [], length-reverse ks)

missing : (name : List ℕ) (ks : List Kept) → place name ks ≡ None → seen name (map (λ (k : Kept). k.named) ks) ≡ None
missing name [] is = refl
missing name (k ∷ ks) is = grind (arith, common_steps, missing name ks)

turned : (kept : List Kept) (k : Kept) → reverse (kept ++ k ∷ []) ≡ k ∷ reverse kept
turned kept k = reverse-append kept (k ∷ [])

uncovered : (k : Kept) (ks : List Kept) (name : List ℕ) (b : Bool) → bytes_eq k.named.name name ≡ b → k.hides ≡ place k.named.name ks →
    (if b then k.hides else (if b then Some (length ks) else place name ks)) ≡ place name ks
uncovered k ks name true e hides = hides ∙ ap (λ (n : List ℕ). place n ks) ((bytes_eq-Decides k.named.name name).0 e)
uncovered k ks name false e hides = refl

module _ {S : Type 0} (kept : List Kept) (m : HashMap (List ℕ) (Option ℕ) S) where
  pub place_within : IsIndexed kept m → (name : List ℕ) (at : ℕ) → newest_of m name ≡ Some at → at < length kept
  place_within i name at is = rw (← length-reverse kept) (within name (reverse kept) at (sym (i.1 name) ∙ is))

  pub found_there : IsIndexed kept m → (name : List ℕ) (at : ℕ) (d : Kept) → newest_of m name ≡ Some at →
      Some (get_or kept at d).named.entry ≡ seen name (names_of kept)
  found_there i name at d is =
      sym (found name (reverse kept) at d (sym (i.1 name) ∙ is)
      ∙ ap (λ (ks : List Kept). Some (get_or ks at d).named.entry) (reverse-reverse kept))

  pub not_found : IsIndexed kept m → (name : List ℕ) → newest_of m name ≡ None → None ≡ seen name (names_of kept)
  not_found i name is = sym (missing name (reverse kept) (sym (i.1 name) ∙ is))

  pub has_place : (k : Kept) → IsIndexed (kept ++ k ∷ []) m → IsSome (newest_of m k.named.name)
  has_place k i = rw (i.1 k.named.name, turned kept k, (bytes_eq-Decides k.named.name k.named.name).1 refl) refl

  pub left : (n : HashMap (List ℕ) (Option ℕ) S) (k : Kept) → IsIndexed (kept ++ k ∷ []) m →
      ((name : List ℕ) → newest_of n name ≡ if bytes_eq k.named.name name then k.hides else newest_of m name) → IsIndexed kept n
  left n k i is =
      let linked : IsLinked (k ∷ reverse kept) = subst IsLinked (turned kept k) i.0 in
      let was : (name : List ℕ) → newest_of m name ≡ place name (k ∷ reverse kept) = λ name. i.1 name ∙ ap (place name) (turned kept k) in (
        linked.1,
        λ name. is name ∙ ap (λ (o : Option ℕ). if bytes_eq k.named.name name then k.hides else o) (was name)
            ∙ uncovered k (reverse kept) name (bytes_eq k.named.name name) refl linked.0,
      )

pub one_less : (ns : Names) (len : ℕ) → len < length ns → drop (length (drop 1 ns) - len) (drop 1 ns) ≡ drop (length ns - len) ns
one_less ns len more =
    let e : 1 + (length (drop 1 ns) - len) ≡ length ns - len = omega (arith, length-drop 1 ns, more) in
    drop-drop (length (drop 1 ns) - len) 1 ns ∙ ap (λ (k : ℕ). drop k ns) e
