-- Guards that are made from where they differ from the one before.
use Rattle.std.proofs.Common.{◌≡◌, ℕ, zero, suc, ◌+◌, ◌-◌, ◌<◌, ◌≤◌, List, [], ◌∷◌, ◌++◌, Bool, true, false, Option, Some, if◌then◌else◌, length, map, take, drop, slice_get, slice_index_or, refl, sym, ap, ap₂, subst, ◌∙◌, ⊎_elim, arith}
use Rattle.std.specs.List.{list_any}
use Rattle.std.proofs.lemmas.Bool.{cases_lt}
use Rattle.std.proofs.lemmas.List.{length-append, length-take-le}
use Rattle.lucid_code.specs.declared.op.Literal.{Literal}
use Rattle.lucid_code.specs.declared.op.Op.{Op}
use Rattle.lucid_pass_spec.specs.declared.direct.Test.{Test}
use Rattle.lucid_pass_spec.specs.Direct.{direct_literal, direct_op, without_repeats}
use Rattle.lucid_pass_spec.specs.Looks.{same_literal}
use Rattle.lucid_pass_rewrites.specs.Covering.{Alike}
use Rattle.lucid_pass_rewrites.specs.Trail.{Trail, TrailBefore, renewed, with_new}
use Rattle.lucid_pass_rewrites.proofs.CoveringLemmas.{all_taken, at_some, take_less, take_one_more, alike_less}
use Rattle.lucid_pass_rewrites.proofs.ComparisonsLemmas.{repeats_end, map_end, at_end, before_end}

-- The result for the front of a list is the front of the result for the list.
front : (before xs ys : List Literal) → take (length (without_repeats before xs)) (without_repeats before (xs ++ ys)) ≡ without_repeats before xs
front before [] ys = none (without_repeats before ys)
  where
    none : (l : List Literal) → take 0 l ≡ []
    none [] = refl
    none (x ∷ l) = refl
front before (x ∷ xs) ys = by (list_any (same_literal x) before) (front before xs ys) (front (x ∷ before) xs ys)
  where
    by : (b : Bool) → take (length (without_repeats before xs)) (without_repeats before (xs ++ ys)) ≡ without_repeats before xs
        → take (length (without_repeats (x ∷ before) xs)) (without_repeats (x ∷ before) (xs ++ ys)) ≡ without_repeats (x ∷ before) xs
        → take (length (if b then without_repeats before xs else x ∷ without_repeats (x ∷ before) xs)) (if b then without_repeats before (xs ++ ys) else x ∷ without_repeats (x ∷ before) (xs ++ ys))
        ≡ (if b then without_repeats before xs else x ∷ without_repeats (x ∷ before) xs)
    by true p q = p
    by false p q = ap (λ l. x ∷ l) q

map_both : {A B : Type 0} (f : A → B) (xs ys : List A) → map f (xs ++ ys) ≡ map f xs ++ map f ys
map_both f [] ys = refl
map_both f (x ∷ xs) ys = ap (λ l. f x ∷ l) (map_both f xs ys)

split : {A : Type 0} (xs : List A) (n : ℕ) → take n xs ++ drop n xs ≡ xs
split [] zero = refl
split [] (suc n) = refl
split (x ∷ xs) zero = refl
split (x ∷ xs) (suc n) = ap (λ l. x ∷ l) (split xs n)

index_taken : (xs : List ℕ) (i n : ℕ) → i < n → slice_index_or (take n xs) i 0 ≡ slice_index_or xs i 0
index_taken xs i zero h = absurd (omega arith)
index_taken [] i (suc n) h = refl
index_taken (x ∷ xs) zero (suc n) h = refl
index_taken (x ∷ xs) (suc i) (suc n) h = index_taken xs i n (omega arith)

module _ (d : ℕ → Option Test) where
  renewed_front : (xs : List Literal) (n : ℕ) → take (length (renewed d (take n xs))) (renewed d xs) ≡ renewed d (take n xs)
  renewed_front xs n =
      ap (λ (l : List Literal). take (length (renewed d (take n xs))) (renewed d l)) (sym (split xs n))
      ∙ ap (λ (l : List Literal). take (length (renewed d (take n xs))) (without_repeats [] l)) (map_both (direct_literal d) (take n xs) (drop n xs))
      ∙ front [] (map (direct_literal d) (take n xs)) (map (direct_literal d) (drop n xs))

  pub trail_begins : (guard : List Literal) → Trail d guard 0 [] (0 ∷ [])
  trail_begins guard = record {
    within = omega arith;
    made_is = sym (ap (renewed d) (none guard));
    long = refl;
    ends_are = λ i h. let first : i ≡ 0 = omega (arith, h) in ap (λ (k : ℕ). slice_index_or (0 ∷ []) k 0) first ∙ sym (ap (λ (k : ℕ). length (renewed d (take k guard))) first ∙ ap (λ (l : List Literal). length (renewed d l)) (none guard));
  }
    where
      none : (l : List Literal) → take 0 l ≡ []
      none [] = refl
      none (x ∷ l) = refl

  -- to where two guards differ
  pub trail_cut : (a b : List Literal) (n m : ℕ) (made : List Literal) (ends : List ℕ) → Alike a b n → n ≤ m → Trail d a m made ends → Trail d b n (take (slice_index_or ends n 0) made) (take (n + 1) ends)
  trail_cut a b n m made ends alike h t = record {
    within = alike.second;
    made_is =
        ap₂ (λ (k : ℕ) (l : List Literal). take k l) (t.ends_are n h ∙ ap (λ (l : List Literal). length (renewed d l)) (sym (take_less a n m h))) t.made_is
        ∙ renewed_front (take m a) n
        ∙ ap (renewed d) (take_less a n m h ∙ alike.same);
    long = length-take-le (n + 1) ends (omega (arith, t.long, h));
    ends_are = λ i le.
        index_taken ends i (n + 1) (omega (arith, le)) ∙ t.ends_are i (omega (arith, le, h)) ∙ ap (λ (l : List Literal). length (renewed d l)) (alike_less a b i n le alike);
  }

  -- one literal more
  pub trail_more : (guard : List Literal) (n : ℕ) (l : Literal) (made made' : List Literal) (ends : List ℕ) → n < length guard → slice_get guard n ≡ Some l → made' ≡ with_new (direct_literal d l) made
      → Trail d guard n made ends → Trail d guard (n + 1) made' (ends ++ length made' ∷ [])
  trail_more guard n l made made' ends h is e t = record {
    within = omega (arith, h);
    made_is = now;
    long = length-append ends (length made' ∷ []) ∙ ap (λ k. k + 1) t.long;
    ends_are = λ i le. ⊎_elim
        (λ lt. before_end ends (length made' ∷ []) i 0 (omega (arith, lt, t.long)) ∙ t.ends_are i (omega (arith, lt)))
        (λ ge.
        let last : i ≡ n + 1 = omega (arith, le, ge) in
        ap (λ (k : ℕ). slice_index_or (ends ++ length made' ∷ []) k 0) (last ∙ sym t.long) ∙ at_end ends (length made') 0 ∙ ap (λ (x : List Literal). length x) now ∙ ap (λ (k : ℕ). length (renewed d (take k guard))) (sym last))
        (cases_lt i (n + 1));
  }
    where
      now : made' ≡ renewed d (take (n + 1) guard)
      now = e ∙ ap (with_new (direct_literal d l)) t.made_is
          ∙ sym (repeats_end [] (map (direct_literal d) (take n guard)) (direct_literal d l))
          ∙ ap (without_repeats []) (sym (ap (map (direct_literal d)) (take_one_more guard n l is) ∙ map_end (direct_literal d) (take n guard) l))

  -- from one operation to the next
  pub trail_next : (ops : List Op) (i j n kept : ℕ) (p : Op) (a b : List Literal) (made made' : List Literal) (ends ends' : List ℕ) → j ≡ i - 1 → j < length ops → p ≡ slice_index_or ops j p → a ≡ p.guard → Alike a b kept → kept ≤ n
      → TrailBefore d ops i n made ends → made' ≡ take (slice_index_or ends kept 0) made → ends' ≡ take (kept + 1) ends → Trail d b kept made' ends'
  trail_next ops i j n kept p a b made made' ends ends' at below is guard alike h before m e =
      let t = trail_cut a b kept n made ends alike h (subst (λ (g : List Literal). Trail d g n made ends) (sym guard) (before p (ap (slice_get ops) (sym at) ∙ at_some ops j p below is))) in
      subst (λ (l : List Literal). Trail d b kept l ends') (sym m) (subst (Trail d b kept (take (slice_index_or ends kept 0) made)) (sym e) t)

  pub trail_long : (ops : List Op) (i j n kept : ℕ) (p : Op) (made : List Literal) (ends : List ℕ) → j ≡ i - 1 → j < length ops → p ≡ slice_index_or ops j p → kept ≤ n → TrailBefore d ops i n made ends → kept < length ends
  trail_long ops i j n kept p made ends at below is h before =
      let t = before p (ap (slice_get ops) (sym at) ∙ at_some ops j p below is) in
      omega (arith, t.long, h)

  pub trail_here : (ops : List Op) (i n : ℕ) (p : Op) (b made : List Literal) (ends : List ℕ) → i < length ops → p ≡ slice_index_or ops i p → b ≡ p.guard → Trail d b n made ends → TrailBefore d ops (i + 1) n made ends
  trail_here ops i n p b made ends below is guard t o e =
      let at : i + 1 - 1 ≡ i = omega arith in
      let one : Some p ≡ Some o = sym (at_some ops i p below is) ∙ ap (slice_get ops) (sym at) ∙ e in
      let same : p ≡ o = cc in
      subst (λ (g : List Literal). Trail d g n made ends) (guard ∙ ap (λ (x : Op). x.guard) same) t

  pub trail_made : (ops : List Op) (i : ℕ) (p : Op) (b made : List Literal) (ends : List ℕ) → i < length ops → p ≡ slice_index_or ops i p → b ≡ p.guard → Trail d b (length b) made ends → (o : Op) → slice_get ops i ≡ Some o → made ≡ renewed d o.guard
  trail_made ops i p b made ends below is guard t o e =
      let one : Some p ≡ Some o = sym (at_some ops i p below is) ∙ e in
      let same : p ≡ o = cc in
      t.made_is ∙ ap (renewed d) (all_taken b ∙ guard ∙ ap (λ (x : Op). x.guard) same)

  pub trail_turn : (guard : List Literal) (n : ℕ) (l new : Literal) (made made' : List Literal) (ends ends' : List ℕ) → n < length guard → l ≡ slice_index_or guard n l → new ≡ direct_literal d l → made' ≡ with_new new made
      → ends' ≡ ends ++ length made' ∷ [] → Trail d guard n made ends → Trail d guard (n + 1) made' ends'
  trail_turn guard n l new made made' ends ends' h is m p e t =
      subst (Trail d guard (n + 1) made') (sym e) (trail_more guard n l made made' ends h (at_some guard n l h is) (p ∙ ap (λ (k : Literal). with_new k made) m) t)

  -- one operation more
  pub directed_more : (ops : List Op) (i : ℕ) (o x : Op) (guard made : List Literal) (new new' : List Op) → i < length ops → o ≡ slice_index_or ops i o → x ≡ record { guard = guard; level = o.level; act = o.act } → guard ≡ made
      → ((p : Op) → slice_get ops i ≡ Some p → made ≡ renewed d p.guard) → new ≡ map (direct_op d) (take i ops) → new' ≡ new ++ x ∷ [] → new' ≡ map (direct_op d) (take (i + 1) ops)
  directed_more ops i o x guard made new new' h is e g m n p =
      let there = at_some ops i o h is in
      let one : x ≡ direct_op d o = e ∙ ap (λ (gs : List Literal). record { guard = gs; level = o.level; act = o.act }) (g ∙ m o there) in
      p ∙ ap₂ (λ (xs : List Op) (y : Op). xs ++ y ∷ []) n one ∙ sym (ap (map (direct_op d)) (take_one_more ops i o there) ∙ map_end (direct_op d) (take i ops) o)
