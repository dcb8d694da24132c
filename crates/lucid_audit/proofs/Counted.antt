-- The items of a list, counted, and facts of an answer that is never Ok.
use Rattle.std.proofs.Common.{◌≡◌, ℕ, Result, Ok, Err, IfOk, List, [], ◌∷◌, length, refl, ap, suc}
use Rattle.serde_json.specs.View.{items_view}
use Rattle.serde_json.specs.declared.value.Value.{Value}
use Rattle.lucid_audit.specs.declared.plan.PlanError.{PlanError}
use Rattle.lucid_audit.specs.PlanFile.{count_of}

pub counted : (vs : List Value) → count_of (items_view vs) ≡ length vs
counted [] = refl
counted (v ∷ vs) = ap suc (counted vs)

pub none_ok : (r : Result (List (ℕ × ℕ)) PlanError) (n : ℕ) → IfOk r (λ _. ⊥) → IfOk r (λ ps. length ps ≡ n)
none_ok (Ok x) n h = absurd h
none_ok (Err e) n h = tt
