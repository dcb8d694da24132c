-- Calls of functions, as their bodies are entered and left.
use Rattle.std.proofs.Common.{◌≡◌, ℕ, ◌+◌, List, [], ◌∷◌, ◌++◌, length, map, drop, take, None, Some, sym, ap, ◌∙◌, arith}
use Rattle.std.specs.Prelude.{slice_get}
use Rattle.std.specs.List.{enumerate_from}
use Rattle.std.specs.Option.{option_map}
use denote.Bor.{Bor}
use Rattle.lucid_base.specs.declared.array.ArrayName.{ArrayName}
use Rattle.lucid_core.specs.declared.body.Expr.{Expr}
use Rattle.lucid_core.specs.declared.body.Expr.TheVariants as e
use Rattle.lucid_core.specs.declared.defs.FunDef.{FunDef}
use Rattle.lucid_core.specs.Computations.{array_of}
use Rattle.lucid_core.proofs.Grown.{grow-at}
use Rattle.lucid_inline_spec.specs.Flat.{Flattened, block, flat_stmt, put_of, puts_of}
use Rattle.lucid_inline.specs.Bodies.{entered, last, left, ran, with_call}
use Rattle.lucid_inline.specs.Sites.{called, flattened}
use Rattle.lucid_inline.specs.declared.machine.Machine.{Machine}

puts_of-at : (fs : List FunDef) (k : ℕ) → slice_get (puts_of fs) k ≡ option_map (λ f. put_of (puts_of (take k fs)) f) (slice_get fs k)
puts_of-at fs k = let z : 0 + k ≡ k = omega arith in rw z at (grow-at put_of [] fs k)

module _ (m : Machine) (k n : ℕ) (names : List ArrayName) (given : List (ℕ × Expr)) where
  abbrev arrays : List ℕ
  arrays = map (array_of m.arrays) names

  abbrev with_result : Flattened Expr → Machine
  with_result r = record m { locals = r.locals; operands = r.value ∷ drop n m.operands }

  -- A number that is no function keeps its arguments.
  pub call_none : slice_get m.funs.now k ≡ None → given ≡ enumerate_from (length m.locals) (last n m.operands) → record m { operands = e.Inlined given [] ∷ drop n m.operands } ≡ with_call k names n m
  call_none is numbered =
      ap (λ (x : Expr). with_result (flattened x m.locals)) (ap (λ (g : List (ℕ × Expr)). e.Inlined g []) numbered ∙ sym (e.rolls-Inlined (enumerate_from (length m.locals) (last n m.operands)) []))
      ∙ sym (ap (λ o. with_result (called o arrays (last n m.operands) m.locals)) (puts_of-at m.funs.now k ∙ ap (option_map (λ f. put_of (puts_of (take k m.funs.now)) f)) is))

  -- A call of a function that is there.
  pub call_some : (before : Bor (List FunDef)) (f : FunDef) → slice_get m.funs.now k ≡ Some f → before.now ≡ take k m.funs.now → given ≡ enumerate_from (length m.locals) (last n m.operands) →
      (let after = ran f.body (entered names given (length m.locals) before f (record m { operands = drop n m.operands })) in left after.callers after) ≡ with_call k names n m
  call_some before f is at numbered =
      let r = block (map flat_stmt f.body) (record { arrays = arrays; first = length m.locals; funs = puts_of before.now }) (m.locals ++ f.locals) in
      let s = block (map flat_stmt f.body) (record { arrays = arrays; first = length m.locals; funs = puts_of (take k m.funs.now) }) (m.locals ++ f.locals) in
      ap (λ (g : List (ℕ × Expr)). with_result (flattened (e.Inlined g r.value) r.locals)) numbered
      ∙ ap (λ (fs : List FunDef). let q = block (map flat_stmt f.body) (record { arrays = arrays; first = length m.locals; funs = puts_of fs }) (m.locals ++ f.locals) in with_result (flattened (e.Inlined (enumerate_from (length m.locals) (last n m.operands)) q.value) q.locals)) at
      ∙ ap (λ (x : Expr). with_result (flattened x s.locals)) (sym (e.rolls-Inlined (enumerate_from (length m.locals) (last n m.operands)) s.value))
      ∙ sym (ap (λ o. with_result (called o arrays (last n m.operands) m.locals)) (puts_of-at m.funs.now k ∙ ap (option_map (λ f. put_of (puts_of (take k m.funs.now)) f)) is))
