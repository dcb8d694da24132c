-- While a pattern is put together, a literal without a mark is not in it.
use Rattle.std.proofs.Common.{◌≡◌, ℕ, List, [], ◌∷◌, ◌++◌, true, false, refl, sym, subst, ◌∙◌}
use Rattle.std.specs.List.{list_all}
use Rattle.std.proofs.lemmas.Bool.{and_parts, and_from, true≢false, false_from_ne_true}
use Rattle.lucid_code.specs.declared.op.Literal.{Literal}
use Rattle.lucid_merge.specs.Marks.{slot, is_marked, AreSeen}
use Rattle.lucid_merge.specs.Product.{has}
use Rattle.lucid_merge.proofs.Literals.{passes}

pub unseen : (seen : List ℕ) (p : List Literal) (l : Literal) → AreSeen seen p → is_marked seen (slot l) ≡ false → has p l ≡ false
unseen seen p l h n = false_from_ne_true (has p l) (λ e. true≢false (sym (passes (λ m. is_marked seen (slot m)) p l h e) ∙ n))

-- one literal more, and its mark
pub one_seen : (seen new : List ℕ) (p after : List Literal) (l : Literal) → ((i : ℕ) → is_marked seen i ≡ true → is_marked new i ≡ true) → is_marked new (slot l) ≡ true → after ≡ p ++ l ∷ [] → AreSeen seen p → AreSeen new after
one_seen seen new p after l more t is h = subst (AreSeen new) (sym is) (pushed p h)
  where
    pushed : (p : List Literal) → AreSeen seen p → AreSeen new (p ++ l ∷ [])
    pushed [] h = and_from (is_marked new (slot l)) true t refl
    pushed (m ∷ p) h =
        let parts = and_parts (is_marked seen (slot m)) (list_all (λ l. is_marked seen (slot l)) p) h in
        and_from (is_marked new (slot m)) (list_all (λ l. is_marked new (slot l)) (p ++ l ∷ [])) (more (slot m) parts.0) (pushed p parts.1)
