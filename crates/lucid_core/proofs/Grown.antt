-- A list that grows by one item for each item of another, made of those before it: functions, their counts, their ends.
use Rattle.std.proofs.Common.{◌≡◌, ℕ, zero, suc, ◌+◌, ◌<◌, List, [], ◌∷◌, ◌++◌, length, take, Some, refl, ap, arith, length-append}
use Rattle.std.specs.Prelude.{fold, slice_get}
use Rattle.std.specs.Option.{option_map}
use Rattle.std.proofs.lemmas.Option.{slice_get_past, slice_get_within}

abbrev pub grow : {A B : Type 0} → (List B → A → B) → List B → List A → List B
grow g before xs = fold (λ done x. done ++ g done x ∷ []) before xs

pub get_before : {A : Type 0} (xs : List A) (x : A) (i : ℕ) (f : A) → slice_get xs i ≡ Some f → slice_get (xs ++ x ∷ []) i ≡ Some f
get_before [] x i f is = absurd (let past : i < 0 = slice_get_within [] i f is in omega arith)
get_before (y ∷ ys) x zero f is = is
get_before (y ∷ ys) x (suc i) f is = get_before ys x i f is

pub get_last : {A : Type 0} (xs : List A) (x : A) → slice_get (xs ++ x ∷ []) (length xs) ≡ Some x
get_last [] x = refl
get_last (y ∷ ys) x = get_last ys x

module _ {A B : Type 0} (g : List B → A → B) where
  -- The first items are followed by the one that the next one adds.
  pub grown : (before : List B) (xs : List A) (i : ℕ) (x : A) → slice_get xs i ≡ Some x → grow g before (take (suc i) xs) ≡ grow g before (take i xs) ++ g (grow g before (take i xs)) x ∷ []
  grown before [] i x is = absurd (cc)
  grown before (y ∷ ys) zero x is = let e : y ≡ x = cc in ap (λ z. before ++ g before z ∷ []) e
  grown before (y ∷ ys) (suc i) x is = grown (before ++ g before y ∷ []) ys i x is

  -- An existing item stays at its position.
  grow-known : (before : List B) (xs : List A) (i : ℕ) (y : B) → slice_get before i ≡ Some y → slice_get (grow g before xs) i ≡ Some y
  grow-known before [] i y is = is
  grow-known before (x ∷ xs) i y is = grow-known (before ++ g before x ∷ []) xs i y (get_before before (g before x) i y is)

  -- At each position is the result of its item for the items before.
  pub grow-at : (before : List B) (xs : List A) (k : ℕ) → slice_get (grow g before xs) (length before + k) ≡ option_map (λ x. g (grow g before (take k xs)) x) (slice_get xs k)
  grow-at before [] k = slice_get_past before (length before + k) (omega arith)
  grow-at before (x ∷ xs) zero =
      let e : length before + 0 ≡ length before = omega arith in
      rw e (grow-known (before ++ g before x ∷ []) xs (length before) (g before x) (get_last before (g before x)))
  grow-at before (x ∷ xs) (suc k) =
      let more = before ++ g before x ∷ [] in
      let e : length before + suc k ≡ length more + k = simp length-append (omega arith) in
      rw e (grow-at more xs k)
