-- Code may replace itself, and replacement is transitive.
use Rattle.std.proofs.Common.{◌≡◌, ℕ, ◌+◌, ◌<◌, ◌≤◌, ◌^◌, zero, suc, List, [], ◌∷◌, length, take, slice_index, refl, sym, ap, ◌∙◌, subst, arith}
use Rattle.lucid_base.specs.declared.event.Event.{Event}
use Rattle.lucid_code.specs.Inputs.{IsInput}
use Rattle.lucid_code.specs.Parts.{CodeParts}
use Rattle.lucid_code.specs.Valid.{IsValid}
use Rattle.lucid_pass_spec.specs.Replace.{MayReplace, input_widths}

pub same_replaces : (code : CodeParts) → IsValid code → MayReplace code code
same_replaces code valid = record {
  valid = valid;
  inputs = refl;
  widths = refl;
  arrays = refl;
  runs = λ cells now me event input. refl;
  few = omega arith;
  small = λ h. h;
}

taken_at : (n k : ℕ) (xs : List ℕ) → k < n → slice_index (take n xs) k ≡ slice_index xs k
taken_at zero k xs h = absurd (omega arith)
taken_at (suc n) k [] h = refl
taken_at (suc n) zero (x ∷ xs) h = refl
taken_at (suc n) (suc k) (x ∷ xs) h = taken_at n k xs (omega arith)

-- An input of code is one of code with the same inputs.
pub stays_input : (code new : CodeParts) (me : ℕ) (event : Event) → new.inputs ≡ code.inputs → input_widths new ≡ input_widths code → IsInput code me event → IsInput new me event
stays_input code new me event inputs widths input = record {
  switch = input.switch;
  id = input.id;
  few = subst (λ i. length event.args ≤ i.args) (sym inputs) input.few;
  fit = λ k h.
      let below : 3 + k < 3 + code.inputs.args = omega (arith, h, input.few) in
      let here = taken_at (3 + code.inputs.args) (3 + k) code.fields below in
      let there = taken_at (3 + new.inputs.args) (3 + k) new.fields (subst (λ i. 3 + k < 3 + i.args) (sym inputs) below) in
      subst (λ w. slice_index event.args k < 2 ^ w) (sym (sym there ∙ ap (λ ws. slice_index ws (3 + k)) widths ∙ here)) (input.fit k h);
}

pub replaces_twice : (code mid new : CodeParts) → MayReplace code mid → MayReplace mid new → MayReplace code new
replaces_twice code mid new a b = record {
  valid = b.valid;
  inputs = b.inputs ∙ a.inputs;
  widths = b.widths ∙ a.widths;
  arrays = b.arrays ∙ a.arrays;
  runs = λ cells now me event input. b.runs cells now me event (stays_input code mid me event a.inputs a.widths input) ∙ a.runs cells now me event input;
  few = omega (arith, a.few, b.few);
  small = λ h. b.small (a.small h);
}
