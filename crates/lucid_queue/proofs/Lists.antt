-- Members of a list that begins with another, its places, and its length.
use Rattle.std.proofs.Common.{◌≡◌, ℕ, suc, ◌<◌, List, [], ◌∷◌, ◌++◌, length, None, Some, Bool, true, false, ◌||◌, if◌then◌else◌, cond, refl, ap, arith}
use Rattle.std.specs.List.{find, list_any}
use Rattle.lucid_queue.specs.Waiting.{put_in, without_first}

pub none_within : (i : ℕ) → i < 0 → ⊥
none_within i is = omega arith

pub find_behind : {X : Type 0} (f : X → Bool) (xs ys : List X) → find f xs ≡ None → find f (xs ++ ys) ≡ find f ys
find_behind f [] ys is = refl
find_behind {X} f (x ∷ xs) ys is = at (f x) is (find_behind f xs ys)
  where
    at : (b : Bool) → cond b (Some x) (find f xs) ≡ None → (find f xs ≡ None → find f (xs ++ ys) ≡ find f ys) → cond b (Some x) (find f (xs ++ ys)) ≡ find f ys
    at true is tail = cc
    at false is tail = tail is

-- where none is found, none leaves
pub unfound : {X : Type 0} (f : X → Bool) (xs : List X) → find f xs ≡ None → without_first f xs ≡ xs
unfound f [] is = refl
unfound {X} f (x ∷ xs) is = at (f x) is (unfound f xs)
  where
    at : (b : Bool) → cond b (Some x) (find f xs) ≡ None → (find f xs ≡ None → without_first f xs ≡ xs) → (if b then xs else x ∷ without_first f xs) ≡ x ∷ xs
    at true is tail = cc
    at false is tail = ap (λ (l : List X). x ∷ l) (tail is)

pub without_behind : {X : Type 0} (f : X → Bool) (xs ys : List X) → find f xs ≡ None → without_first f (xs ++ ys) ≡ xs ++ without_first f ys
without_behind f [] ys is = refl
without_behind {X} f (x ∷ xs) ys is = at (f x) is (without_behind f xs ys)
  where
    at : (b : Bool) → cond b (Some x) (find f xs) ≡ None → (find f xs ≡ None → without_first f (xs ++ ys) ≡ xs ++ without_first f ys) →
        (if b then xs ++ ys else x ∷ without_first f (xs ++ ys)) ≡ x ∷ (xs ++ without_first f ys)
    at true is tail = cc
    at false is tail = ap (λ (l : List X). x ∷ l) (tail is)

pub any_behind : {X : Type 0} (f : X → Bool) (xs ys : List X) → list_any f xs ≡ false → list_any f (xs ++ ys) ≡ list_any f ys
any_behind f [] ys is = refl
any_behind {X} f (x ∷ xs) ys is = at (f x) is (any_behind f xs ys)
  where
    at : (b : Bool) → (b || list_any f xs) ≡ false → (list_any f xs ≡ false → list_any f (xs ++ ys) ≡ list_any f ys) → (b || list_any f (xs ++ ys)) ≡ list_any f ys
    at true is tail = cc
    at false is tail = tail is

pub one_more : {X : Type 0} (before : X → X → Bool) (x : X) (ys : List X) → length (put_in before x ys) ≡ suc (length ys)
one_more before x [] = refl
one_more {X} before x (y ∷ ys) = at (before x y) (one_more before x ys)
  where
    at : (b : Bool) → length (put_in before x ys) ≡ suc (length ys) → length (if b then x ∷ y ∷ ys else y ∷ put_in before x ys) ≡ suc (suc (length ys))
    at true is = refl
    at false is = ap suc is

pub one_less : {X : Type 0} (f : X → Bool) (xs : List X) (x : X) → Some x ≡ find f xs → length xs ≡ suc (length (without_first f xs))
one_less f [] x is = cc
one_less {X} f (y ∷ ys) x is = at (f y) is (one_less f ys x)
  where
    at : (b : Bool) → Some x ≡ cond b (Some y) (find f ys) → (Some x ≡ find f ys → length ys ≡ suc (length (without_first f ys))) →
        suc (length ys) ≡ suc (length (if b then ys else y ∷ without_first f ys))
    at true is tail = refl
    at false is tail = ap suc (tail is)
