-- The search for a circle: the walk along the rest, and why it ends in a circle or an order.
use Rattle.std.proofs.Common.{◌⊎◌, inl, inr, ◌≡◌, ℕ, zero, suc, ◌+◌, ◌<◌, Bool, true, false, if◌then◌else◌, List, [], ◌∷◌, ◌++◌, length, get_or, take, drop, refl, sym, ◌∙◌, subst, arith}
use Rattle.std.specs.List.{remove}
use Rattle.lucid_constraints.specs.Circle.{Member, OrderOn, Leads, Distinct, IsCircle}

-- Each comes before the next.
abbrev pub Linked : {A : Type 0} → (A → A → Bool) → List A → Type 0
Linked before [] = Unit {0}
Linked before (x ∷ []) = Unit {0}
Linked before (x ∷ y ∷ xs) = (before x y ≡ true) × Linked before (y ∷ xs)

-- The path continues, the remaining constraints are original ones, and an order of the rest orders all.
pub record Walking {A : Type 0} (before left : A → A → Bool) (all path rest : List A) : Type 0 where
  pub linked : Linked before path
  pub distinct : Distinct path
  pub fewer : (x y : A) → left x y ≡ true → before x y ≡ true
  pub back : OrderOn left (λ x. Member x path ⊎ Member x rest) → OrderOn before (λ x. Member x all)

member-pushed : {A : Type 0} (y x : A) (xs : List A) → Member y (xs ++ x ∷ []) → (x ≡ y) ⊎ Member y xs
member-pushed y x [] (inl e) = inl e
member-pushed y x [] (inr h) = absurd h
member-pushed y x (z ∷ xs) (inl e) = inr (inl e)
member-pushed y x (z ∷ xs) (inr h) = of (member-pushed y x xs h)
  where
    of : (x ≡ y) ⊎ Member y xs → (x ≡ y) ⊎ Member y (z ∷ xs)
    of (inl e) = inl e
    of (inr k) = inr (inr k)

member-removed : {A : Type 0} (y d : A) (xs : List A) (i : ℕ) → i < length xs → Member y xs → (get_or xs i d ≡ y) ⊎ Member y (remove xs i)
member-removed y d [] i h m = absurd m
member-removed y d (x ∷ xs) zero h (inl e) = inl e
member-removed y d (x ∷ xs) zero h (inr m) = inr m
member-removed y d (x ∷ xs) (suc i) h (inl e) = inr (inl e)
member-removed y d (x ∷ xs) (suc i) h (inr m) = of (member-removed y d xs i (omega arith) m)
  where
    of : (get_or xs i d ≡ y) ⊎ Member y (remove xs i) → (get_or xs i d ≡ y) ⊎ Member y (x ∷ remove xs i)
    of (inl e) = inl e
    of (inr k) = inr (inr k)

module _ {A : Type 0} (before left same : A → A → Bool) (same_is : (x y : A) → same x y ≡ true → x ≡ y) (same_refl : (x : A) → same x x ≡ true) where
  less : (P Q : A → Type 0) → ((x : A) → P x → Q x) → OrderOn left Q → OrderOn left P
  less P Q within order = (order.0, λ x y p q. order.1 x y (within x p) (within y q))

  -- a name without predecessors may come first
  first : (P Q : A → Type 0) (x : A) → ((y : A) → P y → (x ≡ y) ⊎ Q y) → ((y : A) → P y → left y x ≡ false) → OrderOn left Q → OrderOn left P
  first P Q x split none order = (N, rises)
    where
      N : A → ℕ
      N y = if same x y then 0 else order.0 y + 1

      other : (y : A) → P y → same x y ≡ false → Q y
      other y p isnt = of (split y p)
        where
          of : (x ≡ y) ⊎ Q y → Q y
          of (inl e) = let yes : same x y ≡ true = subst (λ z. same x z ≡ true) e (same_refl x) in absurd (cc)
          of (inr q) = q

      rises : (y z : A) → P y → P z → left y z ≡ true → N y < N z
      rises y z p q edge = of (same x y) (same x z) refl refl
        where
          of : (b c : Bool) → same x y ≡ b → same x z ≡ c → (if b then 0 else order.0 y + 1) < (if c then 0 else order.0 z + 1)
          of b true e f = let never : left y z ≡ false = subst (λ w. left y w ≡ false) (same_is x z f) (none y p) in absurd (cc)
          of true false e f = omega arith
          of false false e f = let h = order.1 y z (other y p e) (other z q f) edge in omega (arith, h)

  pub walk_end : (all : List A) → Walking before left all [] [] → OrderOn before (λ x. Member x all)
  walk_end all w = w.back ((λ x. 0), (λ x y p. of p))
    where
      of : {B : Type 0} → ⊥ ⊎ ⊥ → B
      of (inl h) = absurd h
      of (inr h) = absurd h

  pub walk_start : (all rest : List A) (x : A) → Walking before left all [] (rest ++ x ∷ []) → Walking before left all (x ∷ []) rest
  walk_start all rest x w = record {
    linked = tt;
    distinct = ((λ h. h), tt);
    fewer = w.fewer;
    back = λ order. w.back (less (λ y. Member y [] ⊎ Member y (rest ++ x ∷ [])) (λ y. Member y (x ∷ []) ⊎ Member y rest) (λ y m. of y m) order);
  }
    where
      of : (y : A) → Member y [] ⊎ Member y (rest ++ x ∷ []) → Member y (x ∷ []) ⊎ Member y rest
      of y (inl h) = absurd h
      of y (inr h) = on (member-pushed y x rest h)
        where
          on : (x ≡ y) ⊎ Member y rest → Member y (x ∷ []) ⊎ Member y rest
          on (inl e) = inl (inl e)
          on (inr m) = inr m

  linked-take : (z : A) (xs : List A) (j : ℕ) → Linked before xs → j < length xs → before (get_or xs j z) z ≡ true → Leads before (take (suc j) xs) z
  linked-take z [] j w h e = tt
  linked-take z (x ∷ xs) zero w h e = (e, tt)
  linked-take z (x ∷ []) (suc j) w h e = absurd (omega arith)
  linked-take z (x ∷ y ∷ xs) (suc j) w h e = (w.0, linked-take z (y ∷ xs) j w.1 (omega arith) e)

  member-take : (y : A) (xs : List A) (j : ℕ) → Member y (take j xs) → Member y xs
  member-take y xs zero m = absurd m
  member-take y [] (suc j) m = m
  member-take y (x ∷ xs) (suc j) (inl e) = inl e
  member-take y (x ∷ xs) (suc j) (inr m) = inr (member-take y xs j m)

  distinct-take : (xs : List A) (j : ℕ) → Distinct xs → Distinct (take j xs)
  distinct-take xs zero h = tt
  distinct-take [] (suc j) h = h
  distinct-take (x ∷ xs) (suc j) h = ((λ m. h.0 (member-take x xs j m)), distinct-take xs j h.1)

  -- one on the path comes before its head
  pub walk_closed : (all path rest : List A) (x : A) (j : ℕ) → Walking before left all path rest → get_or path 0 x ≡ x → j < length path → left (get_or path j x) x ≡ true → IsCircle before (take (suc j) path)
  walk_closed all [] rest x j w is h e = absurd (omega arith)
  walk_closed all (y ∷ path) rest x j w is h e = record {
    some = omega arith;
    distinct = distinct-take (y ∷ path) (suc j) w.distinct;
    closed = λ d. subst (λ z. Leads before (take (suc j) (y ∷ path)) z) (sym is) (linked-take x (y ∷ path) j w.linked h (w.fewer (get_or (y ∷ path) j x) x e));
  }

  linked-cons : (q x : A) (path : List A) → get_or path 0 x ≡ x → before q x ≡ true → Linked before path → Linked before (q ∷ path)
  linked-cons q x [] is e w = tt
  linked-cons q x (y ∷ path) is e w = (subst (λ z. before q z ≡ true) (sym is) e, w)

  -- one that waits comes before the head, and isn't on the path
  pub walk_on : (all path rest : List A) (x : A) (i : ℕ) → Walking before left all path rest → get_or path 0 x ≡ x → i < length rest → left (get_or rest i x) x ≡ true → ¬ Member (get_or rest i x) path → Walking before left all (get_or rest i x ∷ path) (remove rest i)
  walk_on all path rest x i w is h e none = record {
    linked = linked-cons (get_or rest i x) x path is (w.fewer (get_or rest i x) x e) w.linked;
    distinct = (none, w.distinct);
    fewer = w.fewer;
    back = λ order. w.back (less (λ y. Member y path ⊎ Member y rest) (λ y. Member y (get_or rest i x ∷ path) ⊎ Member y (remove rest i)) (λ y m. of y m) order);
  }
    where
      of : (y : A) → Member y path ⊎ Member y rest → Member y (get_or rest i x ∷ path) ⊎ Member y (remove rest i)
      of y (inl m) = inl (inr m)
      of y (inr m) = on (member-removed y x rest i h m)
        where
          on : (get_or rest i x ≡ y) ⊎ Member y (remove rest i) → Member y (get_or rest i x ∷ path) ⊎ Member y (remove rest i)
          on (inl e) = inl (inl e)
          on (inr k) = inr k

  linked-tail : (x : A) (path : List A) → Linked before (x ∷ path) → Linked before path
  linked-tail x [] w = tt
  linked-tail x (y ∷ path) w = w.1

  -- none that is left comes before the head
  pub walk_off : (all path rest : List A) (x : A) → Walking before left all path rest → 0 < length path → get_or path 0 x ≡ x → ((z : A) → Member z path ⊎ Member z rest → left z x ≡ false) → Walking before left all (drop 1 path) rest
  walk_off all [] rest x w some is none = absurd (omega arith)
  walk_off all (y ∷ path) rest x w some is none = record {
    linked = linked-tail y path w.linked;
    distinct = w.distinct.1;
    fewer = w.fewer;
    back = λ order. w.back (first (λ z. Member z (y ∷ path) ⊎ Member z rest) (λ z. Member z path ⊎ Member z rest) x (λ z m. of z m) none order);
  }
    where
      of : (z : A) → Member z (y ∷ path) ⊎ Member z rest → (x ≡ z) ⊎ (Member z path ⊎ Member z rest)
      of z (inl (inl e)) = inl (sym is ∙ e)
      of z (inl (inr m)) = inr (inl m)
      of z (inr m) = inr (inr m)

  -- constraints on one that is neither on the path nor to be visited no longer matter
  pub walk_without : (left2 : A → A → Bool) (all path rest : List A) (x : A) → Walking before left all path rest → ¬ Member x path → ¬ Member x rest → ((y z : A) → left2 y z ≡ true → left y z ≡ true) → ((y z : A) → same x y ≡ false → left y z ≡ true → left2 y z ≡ true) → Walking before left2 all path rest
  walk_without left2 all path rest x w off gone fewer kept = record {
    linked = w.linked;
    distinct = w.distinct;
    fewer = λ y z e. w.fewer y z (fewer y z e);
    back = λ order. w.back (order.0, λ y z p q e. order.1 y z p q (kept y z (other y p (same x y) refl) e));
  }
    where
      is_left : (y : A) → x ≡ y → Member y path ⊎ Member y rest → ⊥
      is_left y e (inl m) = off (subst (λ z. Member z path) (sym e) m)
      is_left y e (inr m) = gone (subst (λ z. Member z rest) (sym e) m)

      other : (y : A) → Member y path ⊎ Member y rest → (b : Bool) → same x y ≡ b → same x y ≡ false
      other y p true e = absurd (is_left y (same_is x y e) p)
      other y p false e = e

pub walk_begin : {A : Type 0} (before : A → A → Bool) (all : List A) → Walking before before all [] all
walk_begin before all = record { linked = tt; distinct = tt; fewer = λ x y e. e; back = λ order. (order.0, λ x y p q e. order.1 x y (inr p) (inr q) e) }

module _ {A : Type 0} (before : A → A → Bool) where
  leads_rise : (N : A → ℕ) → ((x y : A) → before x y ≡ true → N x < N y) → (x z : A) (xs : List A) → Leads before (x ∷ xs) z → N x < N z
  leads_rise N up x z [] h = up x z h.0
  leads_rise N up x z (y ∷ xs) h = let e = up x y h.0 in let f = leads_rise N up y z xs h.1 in omega (arith, e, f)

  -- names in a circle have no order
  pub circle_has_none : (xs : List A) → IsCircle before xs → (N : A → ℕ) → ((x y : A) → before x y ≡ true → N x < N y) → ⊥
  circle_has_none [] c N up = let h = c.some in omega (arith, h)
  circle_has_none (x ∷ xs) c N up = let h = leads_rise N up x x xs (c.closed x) in omega (arith, h)
