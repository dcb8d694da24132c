-- Where a comment ends.
use Rattle.std.proofs.Common.{◌≡◌, ◌≢◌, ℕ, suc, ◌+◌, ◌-◌, ◌<◌, ◌≤◌, List, [], ◌∷◌, ◌++◌, length, get_or, drop, cond, eqb, Bool, true, false, Some, None, ◌&&◌, refl, ap, sym, ◌∙◌, arith, add-zero, length-drop}
use Rattle.std.proofs.lemmas.List.{drop_more}
use Rattle.std.proofs.lemmas.Bool.{false≢true, and_parts, and_from, and_right, eqb-true, eq-eqb, false_from_ne_true}
use Rattle.lucid_lex.specs.Front.{end_of_block}

-- one byte on, unless `*/` begins here
end_of_block-drop : (n i : ℕ) (xs : List ℕ) → i + 1 < length xs → end_of_block n (drop i xs) ≡ cond (eqb (get_or xs i 0) 42 && eqb (get_or xs (i + 1) 0) 47) (Some (n + 2)) (end_of_block (n + 1) (drop (i + 1) xs))
end_of_block-drop n i xs within =
    let here : drop i xs ≡ get_or xs i 0 ∷ drop (i + 1) xs = drop_more xs i 0 (omega arith) in
    let next : drop (i + 1) xs ≡ get_or xs (i + 1) 0 ∷ drop (i + 1 + 1) xs = drop_more xs (i + 1) 0 within in
    rw (here, next) refl

-- the same, seen from the byte after
pub end_of_block-turn : (at : ℕ) (xs : List ℕ) → 1 ≤ at → at < length xs → end_of_block (at - 1) (drop (at - 1) xs) ≡ cond (eqb (get_or xs (at - 1) 0) 42 && eqb (get_or xs at 0) 47) (Some (at + 1)) (end_of_block at (drop at xs))
end_of_block-turn at xs after_first within =
    let back : at - 1 + 1 ≡ at = omega arith in
    let two : at - 1 + 2 ≡ at + 1 = omega arith in
    rw (back, two) at (end_of_block-drop (at - 1) (at - 1) xs (omega arith))

-- where none begins at the byte before, it is looked for from here on
pub end_of_block-later : (at : ℕ) (xs : List ℕ) → 1 ≤ at → at < length xs → false ≡ (eqb (get_or xs (at - 1) 0) 42 && eqb (get_or xs at 0) 47) → end_of_block (at + 1 - 1) (drop (at + 1 - 1) xs) ≡ end_of_block (at - 1) (drop (at - 1) xs)
end_of_block-later at xs after_first within none =
    let no_end : (eqb (get_or xs (at - 1) 0) 42 && eqb (get_or xs at 0) 47) ≡ false = sym none in
    let same : at + 1 - 1 ≡ at = omega arith in
    rw same (sym (rw no_end at (end_of_block-turn at xs after_first within)))

-- too few bytes for an end
end_of_block-short : (n : ℕ) (xs : List ℕ) → length xs ≤ 1 → end_of_block n xs ≡ None
end_of_block-short n [] few = refl
end_of_block-short n (x ∷ []) few = refl
end_of_block-short n (x ∷ y ∷ xs) few = absurd (omega arith)

pub end_of_block-all : (at : ℕ) (xs : List ℕ) → length xs ≤ at → end_of_block (at - 1) (drop (at - 1) xs) ≡ None
end_of_block-all at xs past = end_of_block-short (at - 1) (drop (at - 1) xs) (omega (arith, length-drop (at - 1) xs))

-- there is no `*/` (42 and 47) in the body
abbrev pub IsUnbroken : List ℕ → Type 0
IsUnbroken body = (before after : List ℕ) → body ≢ before ++ (42 ∷ 47 ∷ after)

-- the bytes a and b, and more, begin with no `*/` where they are unbroken
no_end : (a b : ℕ) (body : List ℕ) → IsUnbroken (a ∷ b ∷ body) → (eqb a 42 && eqb b 47) ≡ false
no_end a b body unbroken = false_from_ne_true (eqb a 42 && eqb b 47) (λ ends.
    let parts = and_parts (eqb a 42) (eqb b 47) ends in
    let first : a ≡ 42 = eqb-true a 42 parts.0 in
    let second : b ≡ 47 = eqb-true b 47 parts.1 in
    unbroken [] body (cc))

-- the first end after an unbroken body is found
pub end_of_block-unbroken : (at : ℕ) (body after : List ℕ) → IsUnbroken body → end_of_block at (body ++ (42 ∷ 47 ∷ after)) ≡ Some (at + length body + 2)
end_of_block-unbroken at [] after unbroken = ap (λ n. Some (n + 2)) (sym (add-zero at))
end_of_block-unbroken at (a ∷ []) after unbroken =
    let len : at + 1 + 2 ≡ at + 1 + 2 = refl in
    rw (and_right (eqb a 42) (eqb 42 47) refl) refl
end_of_block-unbroken at (a ∷ b ∷ body) after unbroken =
    let later = end_of_block-unbroken (at + 1) (b ∷ body) after (λ before more h. unbroken (a ∷ before) more (ap (λ l. a ∷ l) h)) in
    let len : at + 1 + suc (length body) + 2 ≡ at + suc (suc (length body)) + 2 = omega arith in
    rw (no_end a b body unbroken) (later ∙ ap Some len)

-- the bytes up to an end, the bytes behind it, and where it is
pub record EndsAt (at : ℕ) (xs : List ℕ) (end : ℕ) : Type 0 where
  pub body : List ℕ
  pub rest : List ℕ
  pub whole : xs ≡ body ++ (42 ∷ 47 ∷ rest)
  pub place : end ≡ at + length body + 2
  pub unbroken : IsUnbroken body

nothing_unbroken : IsUnbroken []
nothing_unbroken [] after h = absurd (cc)
nothing_unbroken (x ∷ before) after h = absurd (cc)

-- one byte more keeps the body unbroken where no end begins with it
longer_unbroken : (a b : ℕ) (bs body rest : List ℕ) → (eqb a 42 && eqb b 47) ≡ false → b ∷ bs ≡ body ++ (42 ∷ 47 ∷ rest) → IsUnbroken body → IsUnbroken (a ∷ body)
longer_unbroken a b bs [] rest no_end whole unbroken [] after h = absurd (cc)
longer_unbroken a b bs (c ∷ body) rest no_end whole unbroken [] after h =
    let first : a ≡ 42 = cc in
    let second : b ≡ 47 = cc in
    absurd (false≢true (sym no_end ∙ and_from (eqb a 42) (eqb b 47) (eq-eqb a 42 first) (eq-eqb b 47 second)))
longer_unbroken a b bs body rest no_end whole unbroken (x ∷ before) after h = unbroken before after (cc)

ends_by : (at a b : ℕ) (bs : List ℕ) (end : ℕ) (here : Bool) → (eqb a 42 && eqb b 47) ≡ here → (end_of_block (at + 1) (b ∷ bs) ≡ Some end → EndsAt (at + 1) (b ∷ bs) end) → cond here (Some (at + 2)) (end_of_block (at + 1) (b ∷ bs)) ≡ Some end → EndsAt at (a ∷ b ∷ bs) end
ends_by at a b bs end true test later h =
    let parts = and_parts (eqb a 42) (eqb b 47) test in
    let first : a ≡ 42 = eqb-true a 42 parts.0 in
    let second : b ≡ 47 = eqb-true b 47 parts.1 in
    let same : at + 2 ≡ end = cc in
    record {
      body = [];
      rest = bs;
      whole = cc;
      place = omega arith;
      unbroken = nothing_unbroken;
    }
ends_by at a b bs end false test later h =
    let found = later h in
    record {
      body = a ∷ found.body;
      rest = found.rest;
      whole = ap (λ l. a ∷ l) found.whole;
      place = omega (arith, found.place);
      unbroken = longer_unbroken a b bs found.body found.rest test found.whole found.unbroken;
    }

-- the found end is the first
pub ends_at : (at : ℕ) (xs : List ℕ) (end : ℕ) → end_of_block at xs ≡ Some end → EndsAt at xs end
ends_at at [] end h = absurd (cc)
ends_at at (a ∷ []) end h = absurd (cc)
ends_at at (a ∷ b ∷ bs) end h = ends_by at a b bs end (eqb a 42 && eqb b 47) refl (ends_at (at + 1) (b ∷ bs) end) h
