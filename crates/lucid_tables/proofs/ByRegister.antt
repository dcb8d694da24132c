-- What has a register is a field, and acts by register.
use Rattle.std.proofs.Common.{◌≡◌, ℕ, List, [], ◌∷◌, Bool, true, ◌&&◌, length, nat_eq, nat_lt, refl, sym, ap₂, ◌∙◌, IsTrue}
use Rattle.std.specs.List.{list_all}
use Rattle.std.proofs.lemmas.Bool.{or_left, or_right, eq-eqb, lt-ltb}
use Rattle.lucid_code.specs.declared.op.Act.{Act}
use Rattle.lucid_code.specs.declared.op.Act.TheVariants as act
use Rattle.lucid_code.specs.Parts.{CodeParts}
use Rattle.lucid_code.specs.Rename.{renamed}
use Rattle.lucid_code.specs.Valid.{IsValid}
use Rattle.lucid_tables.specs.ByRegister.{place_of, operand_by_register, act_by_register}
use Rattle.lucid_tables.specs.Numbers.{is_in}
use Rattle.lucid_tables.specs.Registers.{carried, registers_of}
use Rattle.lucid_tables.proofs.Carried.{has_register, carried_below}
use Rattle.lucid_tables.proofs.Rising.{in_with_numbers}

all_in : (p : ℕ → Bool) (xs : List ℕ) → ((k : ℕ) → is_in k xs ≡ true → p k ≡ true) → list_all p xs ≡ true
all_in p [] h = refl
all_in p (x ∷ xs) h = ap₂ (λ (a b : Bool). a && b) (h x (or_left (nat_eq x x) (is_in x xs) (eq-eqb x x refl))) (all_in p xs (λ k i. h k (or_right (nat_eq x k) (is_in k xs) i)))

pub registers_below : (code : CodeParts) (fields registers : List ℕ) → IsValid code → fields ≡ code.fields → registers ≡ registers_of code →
    IsTrue (list_all (λ k. nat_lt k (length fields)) registers)
registers_below code fields registers valid f r = ap₂ (λ (xs ks : List ℕ). list_all (λ k. nat_lt k (length xs)) ks) f r
    ∙ all_in (λ k. nat_lt k (length code.fields)) (registers_of code)
    (λ k i. lt-ltb k (length code.fields) (carried_below code k valid (has_register code k ∙ sym (in_with_numbers (carried code) [] k) ∙ i)))

pub renamed_by_register : (code : CodeParts) (a : Act) → renamed (operand_by_register code) (place_of code) a ≡ act_by_register code a
renamed_by_register code (act.Un op w a k) = refl
renamed_by_register code (act.Bin op w a b k) = refl
renamed_by_register code (act.Cmp op w a b k) = refl
renamed_by_register code (act.Cast a k) = refl
renamed_by_register code (act.Hash xs k) = refl
renamed_by_register code (act.Move a k) = refl
renamed_by_register code (act.Touch array index get get_arg set set_arg to) = refl
renamed_by_register code (act.Gen slot event args delay to) = refl
renamed_by_register code (act.Say slot form args) = refl
