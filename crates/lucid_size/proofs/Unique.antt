-- A text has one expansion at most.
use Rattle.std.proofs.Common.{◌≡◌, ℕ, zero, suc, ◌+◌, ◌<◌, ◌≤◌, List, [], ◌∷◌, length, get_or, Result, Ok, refl, sym, ◌∙◌, ap, subst, arith}
use Rattle.std.specs.List.{Contains}
use Rattle.lucid_lex.specs.declared.token.Token.{Token}
use Rattle.lucid_lex.specs.Piece.{Piece}
use Rattle.lucid_size.specs.declared.template.Template.{Template}
use Rattle.lucid_size.specs.Expansion.{AreWidths, IsExpansion, written}

-- each element is below those behind it
abbrev pub Rises : List ℕ → Type 0
Rises [] = Unit {0}
Rises (x ∷ xs) = ((k : ℕ) → k < length xs → x < get_or xs k 0) × Rises xs

rises_tail : (x : ℕ) (xs : List ℕ) → ((k : ℕ) → k + 1 < length (x ∷ xs) → get_or (x ∷ xs) k 0 < get_or (x ∷ xs) (k + 1) 0) → (k : ℕ) → k + 1 < length xs → get_or xs k 0 < get_or xs (k + 1) 0
rises_tail x xs h k within =
    let one : suc k + 1 ≡ suc (k + 1) = omega arith in
    subst (λ n. get_or xs k 0 < get_or (x ∷ xs) n 0) one (h (suc k) (omega arith))

rises_first : (x : ℕ) (xs : List ℕ) → ((k : ℕ) → k + 1 < length (x ∷ xs) → get_or (x ∷ xs) k 0 < get_or (x ∷ xs) (k + 1) 0) → (k : ℕ) → k < length xs → x < get_or xs k 0
rises_first x xs h zero within = let one : zero + 1 ≡ suc zero = omega arith in subst (λ n. x < get_or (x ∷ xs) n 0) one (h zero (omega arith))
rises_first x xs h (suc k) within =
    let before = rises_first x xs h k (omega arith) in
    let one : suc k + 1 ≡ suc (suc k) = omega arith in
    let next = subst (λ n. get_or (x ∷ xs) (suc k) 0 < get_or (x ∷ xs) n 0) one (h (suc k) (omega arith)) in
    omega arith

pub rises : (xs : List ℕ) → ((k : ℕ) → k + 1 < length xs → get_or xs k 0 < get_or xs (k + 1) 0) → Rises xs
rises [] h = tt
rises (x ∷ xs) h = (rises_first x xs h, rises xs (rises_tail x xs h))

-- a rising list is determined by its members
first_least : (x y : ℕ) (xs ys : List ℕ) → Rises (y ∷ ys) → Contains (y ∷ ys) x → y ≤ x
first_least x y xs ys rise (zero, within, is) = omega (arith, is)
first_least x y xs ys rise (suc k, within, is) = let low = rise.0 k (omega arith) in omega (arith, low, is, default_get ys k x (omega arith))
  where
    default_get : (zs : List ℕ) (k x : ℕ) → k < length zs → get_or zs k 0 ≡ get_or zs k x
    default_get [] k x within = absurd (omega arith)
    default_get (z ∷ zs) zero x within = refl
    default_get (z ∷ zs) (suc k) x within = default_get zs k x (omega arith)

in_tail : (x y : ℕ) (ys : List ℕ) → Contains (y ∷ ys) x → y < x → Contains ys x
in_tail x y ys (zero, within, is) low = absurd (omega (arith, is))
in_tail x y ys (suc k, within, is) low = (k, omega arith, is)

above : (x z : ℕ) (xs : List ℕ) → Rises (x ∷ xs) → Contains xs z → x < z
above x z xs rise has = let low = rise.0 has.0 has.1 in omega (arith, low, has.2, default_get xs has.0 z has.1)
  where
    default_get : (zs : List ℕ) (k x : ℕ) → k < length zs → get_or zs k 0 ≡ get_or zs k x
    default_get [] k x within = absurd (omega arith)
    default_get (z ∷ zs) zero x within = refl
    default_get (z ∷ zs) (suc k) x within = default_get zs k x (omega arith)

behind_first : (x z : ℕ) (xs : List ℕ) → Contains xs z → Contains (x ∷ xs) z
behind_first x z xs has = (suc has.0, let w = has.1 in omega arith, has.2)

pub same_list : (xs ys : List ℕ) → Rises xs → Rises ys → ((z : ℕ) → Contains xs z → Contains ys z) → ((z : ℕ) → Contains ys z → Contains xs z) → xs ≡ ys
same_list [] [] r s f g = refl
same_list [] (y ∷ ys) r s f g = absurd (let has = (g y (zero, omega arith, refl)).1 in omega arith)
same_list (x ∷ xs) [] r s f g = absurd (let has = (f x (zero, omega arith, refl)).1 in omega arith)
same_list (x ∷ xs) (y ∷ ys) r s f g =
    let low = first_least x y xs ys s (f x (zero, omega arith, refl)) in
    let high = first_least y x ys xs r (g y (zero, omega arith, refl)) in
    let same : x ≡ y = omega arith in
    let rest = same_list xs ys r.1 s.1
    (λ z has. in_tail z y ys (f z (behind_first x z xs has)) (let a = above x z xs r has in omega arith))
    (λ z has. in_tail z x xs (g z (behind_first y z ys has)) (let a = above y z ys s has in omega arith)) in
    ap (λ k. k ∷ xs) same ∙ ap (λ l. y ∷ l) rest

same_widths : (text : List ℕ) (ts : List Token) (xs : List Template) (u w : ℕ → List ℕ) → AreWidths text ts xs u → AreWidths text ts xs w → u ≡ w
same_widths text ts xs u w a b =
    let each : (k : ℕ) → u k ≡ w k = λ k. same_list (u k) (w k) (rises (u k) (a.rising k)) (rises (w k) (b.rising k)) (λ n has. b.all k n (a.used k n has)) (λ n has. a.all k n (b.used k n has)) in
    λ i k. each k i

pub same_ok : (xs ys : List Template) (c : Result (List Template) ℕ) → c ≡ Ok xs → c ≡ Ok ys → xs ≡ ys
same_ok xs ys c h g = let both : ◌≡◌ {A = Result (List Template) ℕ} (Ok xs) (Ok ys) = sym h ∙ g in cc

pub one_expansion : (text : List ℕ) (ts : List Token) (ps qs : List Piece) → IsExpansion text ts ps → IsExpansion text ts qs → ps ≡ qs
one_expansion text ts ps qs a b =
    let xs : a.found ≡ b.found = same_ok a.found b.found _ a.whole b.whole in
    let there : AreWidths text ts b.found a.widths = subst (λ l. AreWidths text ts l a.widths) xs a.are_widths in
    let widths = same_widths text ts b.found a.widths b.widths there b.are_widths in
    a.pieces_are ∙ ap (λ l. written text ts l a.widths) xs ∙ ap (written text ts b.found) widths ∙ sym b.pieces_are
