-- Two names more.
use Rattle.std.proofs.Common.{◌≡◌, ◌-◌, ◌∷◌, drop, length, ℕ, ap, arith}
use Rattle.lucid_types_spec.specs.declared.scope.Named.{Named}
use Rattle.lucid_types_spec.specs.Names.{Names}
use Rattle.lucid_types_statements.specs.Kept.{Keeps}

pub keeps_two : (s : Names) (d e : Named) → Keeps s (e ∷ d ∷ s)
keeps_two s d e = let two : length (e ∷ d ∷ s) - length s ≡ 2 = omega arith in ap (λ (k : ℕ). drop k (e ∷ d ∷ s)) two
