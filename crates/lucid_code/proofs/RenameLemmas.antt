-- Acts whose written field keeps its number.
use Rattle.std.proofs.Common.{◌≡◌, refl, ◌∙◌, None, Some}
use Rattle.lucid_code.specs.declared.op.Act.{Act}
use Rattle.lucid_code.specs.declared.op.Act.TheVariants as act
use Rattle.lucid_code.specs.declared.op.Operand.{Operand}
use Rattle.lucid_code.specs.Rename.{renamed}
use Rattle.lucid_code.specs.Uses.{with_operands}
use Rattle.lucid_code.proofs.Acting.{with_same}

-- Only its operands are others.
pub keeps_field : (h : Operand → Operand) (a : Act) → renamed h (λ k. k) a ≡ with_operands h a
keeps_field h (act.Un op w a k) = refl
keeps_field h (act.Bin op w a b k) = refl
keeps_field h (act.Cmp op w a b k) = refl
keeps_field h (act.Cast a k) = refl
keeps_field h (act.Hash xs k) = refl
keeps_field h (act.Move a k) = refl
keeps_field h (act.Touch array index get get_arg set set_arg None) = refl
keeps_field h (act.Touch array index get get_arg set set_arg (Some k)) = refl
keeps_field h (act.Gen slot event args delay to) = refl
keeps_field h (act.Say slot form args) = refl

-- An act whose operands stay is the same.
pub keeps_all : (a : Act) → renamed (λ o. o) (λ k. k) a ≡ a
keeps_all a = keeps_field (λ o. o) a ∙ with_same a
