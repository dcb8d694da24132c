-- The steps of the search, with the lists as the code has them.
use Rattle.std.proofs.Common.{◌≡◌, ℕ, suc, ◌+◌, ◌<◌, List, [], ◌∷◌, ◌++◌, length, get_or, take, sym, ◌∙◌, ap, subst, arith}
use Rattle.std.specs.List.{remove, insert}
use Rattle.std.proofs.lemmas.List.{nil_from_length, get_or_default}
use Rattle.lucid_base.specs.declared.array.ArrayName.{ArrayName}
use Rattle.lucid_constraints.proofs.CircleWalk.{Walking, walk_end, walk_start, walk_closed, walk_on, walk_off, walk_without}
use Rattle.lucid_constraints.proofs.LookLemmas.{left, shorter, needed_fewer, needed_kept}
use Rattle.lucid_constraints.proofs.SameLemmas.{same_name_is, same_name_refl}
use Rattle.lucid_constraints.specs.Circle.{needed, Finds, IsCircle, Member, OrderOn}
use Rattle.lucid_constraints.specs.Same.{same_name}
use Rattle.lucid_constraints.specs.declared.look.Found.{Found}
use Rattle.lucid_constraints.specs.declared.look.Found.TheVariants.{OnPath, Waiting, Gone, Nowhere}
use Rattle.lucid_constraints.specs.declared.pair.Pair.{Pair}

pub found_in : (path path2 waiting waiting2 : List ArrayName) (qs qs2 : List Pair) (n : ℕ) (x : ArrayName) (f : Found) → path ≡ path2 → waiting ≡ waiting2 → qs ≡ qs2 → Finds path waiting qs n x f → Finds path2 waiting2 qs2 n x f
found_in path path2 waiting waiting2 qs qs2 n x f p w q h =
    subst (λ (rs : List Pair). Finds path2 waiting2 rs n x f) q (subst (λ (xs : List ArrayName). Finds path2 xs qs n x f) w (subst (λ (xs : List ArrayName). Finds xs waiting qs n x f) p h))

module _ (ps qs : List Pair) (n : ℕ) (all path waiting : List ArrayName) (w : Walking (needed ps n) (needed qs n) all path waiting) where
  empty : length path ≡ 0 → Walking (needed ps n) (needed qs n) all [] waiting
  empty p = subst (λ xs. Walking (needed ps n) (needed qs n) all xs waiting) (nil_from_length path p) w

  pub ended : length path ≡ 0 → length waiting ≡ 0 → OrderOn (needed ps n) (λ x. Member x all)
  ended p r = walk_end (needed ps n) (needed qs n) same_name same_name_is same_name_refl all (subst (λ ys. Walking (needed ps n) (needed qs n) all [] ys) (nil_from_length waiting r) (empty p))

  pub started : (x : ArrayName) (path2 waiting2 : List ArrayName) → length path ≡ 0 → waiting ≡ waiting2 ++ x ∷ [] → path2 ≡ insert path 0 x → Walking (needed ps n) (needed qs n) all path2 waiting2
  started x path2 waiting2 p r is =
      let one : path2 ≡ x ∷ [] = is ∙ ap (λ xs. x ∷ xs) (nil_from_length path p) in
      subst (λ xs. Walking (needed ps n) (needed qs n) all xs waiting2) (sym one)
      (walk_start (needed ps n) (needed qs n) same_name same_name_is same_name_refl all waiting2 x (subst (λ ys. Walking (needed ps n) (needed qs n) all [] ys) r (empty p)))

  pub closed : (x : ArrayName) (j : ℕ) (path2 : List ArrayName) → x ≡ get_or path 0 x → Finds path waiting qs n x (OnPath j) → path2 ≡ take (j + 1) path → IsCircle (needed ps n) path2
  closed x j path2 at h is =
      let one : path2 ≡ take (suc j) path = let s : j + 1 ≡ suc j = omega arith in is ∙ ap (λ k. take k path) s in
      subst (λ xs. IsCircle (needed ps n) xs) (sym one) (walk_closed (needed ps n) (needed qs n) same_name same_name_is same_name_refl all path waiting x j w (sym at) h.0 h.1)

  pub went_on : (x y : ArrayName) (i : ℕ) (path2 waiting2 : List ArrayName) → x ≡ get_or path 0 x → Finds path waiting qs n x (Waiting i) → y ≡ get_or waiting i y → path2 ≡ insert path 0 y → waiting2 ≡ remove waiting i → Walking (needed ps n) (needed qs n) all path2 waiting2
  went_on x y i path2 waiting2 at h is p r =
      let same : y ≡ get_or waiting i x = is ∙ get_or_default waiting i y x h.0 in
      let one : path2 ≡ get_or waiting i x ∷ path = p ∙ ap (λ z. z ∷ path) same in
      subst (λ ys. Walking (needed ps n) (needed qs n) all path2 ys) (sym r) (subst (λ xs. Walking (needed ps n) (needed qs n) all xs (remove waiting i)) (sym one)
      (walk_on (needed ps n) (needed qs n) same_name same_name_is same_name_refl all path waiting x i w (sym at) h.0 h.1 h.2))

  pub went_off : (x : ArrayName) (path2 : List ArrayName) → 0 < length path → x ≡ get_or path 0 x → Finds path waiting qs n x Nowhere → path2 ≡ remove path 0 → Walking (needed ps n) (needed qs n) all path2 waiting
  went_off x path2 some at h is =
      subst (λ xs. Walking (needed ps n) (needed qs n) all xs waiting) (sym is) (walk_off (needed ps n) (needed qs n) same_name same_name_is same_name_refl all path waiting x w some (sym at) h)

  pub left_behind : (x y : ArrayName) (qs2 : List Pair) → Finds path waiting qs n x (Gone y) → qs2 ≡ left y qs → Walking (needed ps n) (needed qs2 n) all path waiting
  left_behind x y qs2 h is =
      subst (λ (rs : List Pair). Walking (needed ps n) (needed rs n) all path waiting) (sym is)
      (walk_without (needed ps n) (needed qs n) same_name same_name_is same_name_refl (needed (left y qs) n) all path waiting y w h.1 h.2 (needed_fewer y qs n) (needed_kept y qs n))

  pub fewer_left : (x y : ArrayName) (qs2 : List Pair) → Finds path waiting qs n x (Gone y) → qs2 ≡ left y qs → length qs2 < length qs
  fewer_left x y qs2 h is = subst (λ (rs : List Pair). length rs < length qs) (sym is) (shorter y qs x h.0)
