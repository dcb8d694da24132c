use Rattle.std.proofs.Common.{◌≡◌, ◌++◌, ◌⊎◌, inl, inr, ℕ, List, [], ◌∷◌, length, refl, sym, ap, ◌∙◌}
use Rattle.std.proofs.lemmas.List.{append-nil}
use Rattle.lucid_base.specs.declared.bits.Bits.{Bits}
use Rattle.lucid_core.specs.Step.{taken_at}
use Rattle.lucid_core_run.proofs.whole.taken.Goals as goal

none_taken : (ws args : List ℕ) → (length ws ≡ 0) ⊎ (length args ≡ 0) → taken_at ws args ≡ []
none_taken [] args e = refl
none_taken (w ∷ ws) [] e = refl
none_taken (w ∷ ws) (a ∷ args) (inl e) = absurd (cc)
none_taken (w ∷ ws) (a ∷ args) (inr e) = absurd (cc)

pub returns : goal.returns
returns c =
    let ends : (length c.loop-width.width-iterator.a.rest.now ≡ 0) ⊎ (length c.loop-width.width-iterator.b.rest.now ≡ 0) = ended c.in-None.ensures.steps in
    sym (append-nil c.loop-width.values) ∙ ap (λ (rest : List Bits). c.loop-width.values ++ rest) (sym (none_taken _ _ ends)) ∙ c.loop-width.invariant
  where
    ended : {A B : Type 0} {P Q : Type 0} {R : A → Type 0} {S : B → Type 0} → ((x : A) × (P × R x)) ⊎ ((x : B) × (Q × S x)) → P ⊎ Q
    ended (inl h) = inl h.1.0
    ended (inr h) = inr h.1.0
