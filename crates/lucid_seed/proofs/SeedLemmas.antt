-- Where texts are once there is one more.
use Rattle.std.proofs.Common.{◌≡◌, ◌∙◌, ℕ, List, [], ◌∷◌, ◌++◌, None, Some, Bool, true, false, bytes_eq, cond, length, not, position, refl, sym, ap, arith}
use Rattle.std.proofs.lemmas.Grind.{common_steps}
use Rattle.std.proofs.lemmas.List.{length-append}
use Rattle.std.proofs.lemmas.List.Folds.{position_or_len_push}
use Rattle.std.proofs.lemmas.List.Sums.{prefix_len-le-length}
use Rattle.std.proofs.lemmas.Slice.Eq.{bytes_eq-Decides}
use Rattle.std.specs.HashMap.{HashMap, get}
use Rattle.lucid_seed.specs.Seed.{IsIndexed}

module _ {X : Type 0} (p : X → Bool) (xs : List X) (y : X) where
  there : position p xs ≡ None → p y ≡ true → position p (xs ++ y ∷ []) ≡ Some (length xs)
  there is_new passes = grind (arith, common_steps, position_or_len_push p xs y, prefix_len-le-length (λ x. not (p x)) xs, length-append xs (y ∷ []))

  same : p y ≡ false → position p (xs ++ y ∷ []) ≡ position p xs
  same fails = grind (arith, common_steps, position_or_len_push p xs y, prefix_len-le-length (λ x. not (p x)) xs, length-append xs (y ∷ []))

apart : (new text : List ℕ) (b : Bool) → bytes_eq text new ≡ b → bytes_eq new text ≡ false → b ≡ false
apart new text true is differs = sym ((bytes_eq-Decides new text).1 (sym ((bytes_eq-Decides text new).0 is))) ∙ differs
apart new text false is differs = refl

module _ (texts : List (List ℕ)) (new : List ℕ) where
  placed : position (bytes_eq new) texts ≡ None → (text : List ℕ) (b : Bool) → bytes_eq new text ≡ b →
      cond b (Some (length texts)) (position (bytes_eq text) texts) ≡ position (bytes_eq text) (texts ++ new ∷ [])
  placed is_new text true is =
      let e : new ≡ text = (bytes_eq-Decides new text).0 is in
      sym (there (bytes_eq text) texts new (ap (λ (t : List ℕ). position (bytes_eq t) texts) (sym e) ∙ is_new) ((bytes_eq-Decides text new).1 (sym e)))
  placed is_new text false is = sym (same (bytes_eq text) texts new (apart new text (bytes_eq text new) refl is))

  pub indexed : {S : Type 0} (old more : HashMap (List ℕ) ℕ S) (key form : List ℕ) (place : ℕ) → position (bytes_eq new) texts ≡ None → IsIndexed texts old →
      key ≡ new → form ≡ new → place ≡ length texts →
      ((text : List ℕ) → get bytes_eq more text ≡ cond (bytes_eq key text) (Some place) (get bytes_eq old text)) → IsIndexed (texts ++ form ∷ []) more
  indexed old more key form place is_new was key_is form_is place_is is text =
      is text ∙ ap (cond (bytes_eq key text) (Some place)) (was text)
      ∙ ap (λ (k : List ℕ). cond (bytes_eq k text) (Some place) (position (bytes_eq text) texts)) key_is
      ∙ ap (λ (n : ℕ). cond (bytes_eq new text) (Some n) (position (bytes_eq text) texts)) place_is
      ∙ placed is_new text (bytes_eq new text) refl
      ∙ ap (λ (t : List ℕ). position (bytes_eq text) (texts ++ t ∷ [])) (sym form_is)
