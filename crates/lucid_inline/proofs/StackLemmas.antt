-- A list that is kept in reverse: it grows at its end, and its first items are its last ones.
use Rattle.std.proofs.Common.{◌≡◌, ℕ, ◌-◌, ◌≤◌, List, [], ◌∷◌, ◌++◌, ap, sym, ◌∙◌, arith, drop, length, reverse, take}
use Rattle.std.proofs.lemmas.List.{drop_at, length-drop, length-reverse, reverse-append, reverse-reverse, take-append-drop, take_at}

pub reverse_push : {A : Type 0} (xs : List A) (x : A) → reverse (xs ++ x ∷ []) ≡ x ∷ reverse xs
reverse_push xs x = reverse-append xs (x ∷ [])

-- The first n items of a list that begins with those of another, in reverse, and the rest.
pub take_reverse : {A : Type 0} (xs made : List A) (n : ℕ) → length xs ≡ n → reverse (take n (reverse xs ++ made)) ≡ xs
take_reverse xs made n is = ap reverse (take_at (reverse xs) made n (length-reverse xs ∙ is)) ∙ reverse-reverse xs

pub drop_reverse : {A : Type 0} (xs made : List A) (n : ℕ) → length xs ≡ n → drop n (reverse xs ++ made) ≡ made
drop_reverse xs made n is = drop_at (reverse xs) made n (length-reverse xs ∙ is)

-- A list in two parts at `at`, of which the second has n items.
parts : {A : Type 0} (xs : List A) (at : ℕ) → reverse (drop at xs) ++ reverse (take at xs) ≡ reverse xs
parts xs at = sym (reverse-append (take at xs) (drop at xs)) ∙ ap reverse (take-append-drop at xs)

many : {A : Type 0} (xs : List A) (n at : ℕ) → n ≤ length xs → at ≡ length xs - n → length (drop at xs) ≡ n
many xs n at l is = length-drop at xs ∙ omega arith

pub last_of : {A : Type 0} (xs : List A) (n at : ℕ) → n ≤ length xs → at ≡ length xs - n → drop at xs ≡ reverse (take n (reverse xs))
last_of {A = A} xs n at l is =
    sym (take_reverse (drop at xs) (reverse (take at xs)) n (many xs n at l is)) ∙ ap (λ (ys : List A). reverse (take n ys)) (parts xs at)

pub rest_of : {A : Type 0} (xs : List A) (n at : ℕ) → n ≤ length xs → at ≡ length xs - n → reverse (take at xs) ≡ drop n (reverse xs)
rest_of xs n at l is =
    sym (drop_reverse (drop at xs) (reverse (take at xs)) n (many xs n at l is)) ∙ ap (drop n) (parts xs at)
