-- The effect of a body on the state: computations, and their sequence.
use Rattle.std.specs.Prelude.{ℕ, List, [], ◌∷◌, ◌++◌, Bool, true, false, length, map, drop, slice_index}
use Rattle.lucid_base.specs.Bits.{bits_of}
use Rattle.lucid_base.specs.declared.array.ArrayName.{ArrayName}
use Rattle.lucid_base.specs.declared.array.ArrayName.TheVariants.{Global, Param}
use Rattle.lucid_base.specs.declared.bits.Bits.{Bits}
use Rattle.lucid_base.specs.declared.event.Out.{Out}
use Rattle.lucid_base.specs.Cells.{cell_at, with_cell}
use Rattle.lucid_core.specs.Values.{nothing}

-- The cells by array, the outs so far, the locals of the running body, and its answer.
pub record State : Type 0 where
  pub cells : List (List ℕ)
  pub outs : List Out
  pub locals : List Bits
  pub answer : Bits

-- The result of a run, the state after it, and the numbers of the arrays that it calls, in order.
pub record Ran (A : Type 0) : Type 0 where
  pub gives : A
  pub after : State
  pub calls : List ℕ

-- The effect of a function, given arrays and arguments.
abbrev pub Fun : Type 0
Fun = List ℕ → List Bits → State → Ran Bits

-- The context of a body: the tick, the switch, the arrays passed for its array parameters, and the functions before it.
pub record Frame : Type 0 where
  pub now : ℕ
  pub me : ℕ
  pub arrays : List ℕ
  pub funs : List Fun

abbrev pub Computation : Type 0 → Type 0
Computation A = Frame → State → Ran A

abbrev pub Effect : Type 0
Effect = Computation (Unit {0})

abbrev pub give : {A : Type 0} → A → Computation A
give x = λ p s. record { gives = x; after = s; calls = [] }

-- The second after the first.
infixl 10 ◌>>=◌
abbrev pub ◌>>=◌ : {A B : Type 0} → Computation A → (A → Computation B) → Computation B
m >>= f = λ p s. let first = m p s in let next = f first.gives p first.after in
    record { gives = next.gives; after = next.after; calls = first.calls ++ next.calls }

-- From left to right.
abbrev pub all : {A : Type 0} → List (Computation A) → Computation (List A)
all [] = give []
all (f ∷ fs) = do v ← f; vs ← all fs; give (v ∷ vs)

abbrev pub block : List Effect → Effect
block [] = give tt
block (f ∷ fs) = do _ ← f; block fs

-- Both, the first one first where the test holds.
abbrev pub both : {A B : Type 0} → Bool → Computation A → Computation B → Computation (A × B)
both true f g = do x ← f; y ← g; give (x, y)
both false f g = do y ← g; x ← f; give (x, y)

abbrev pub change : (State → State) → Effect
change f = λ p s. give {A = Unit {0}} (tt {0}) p (f s)

abbrev pub send : List Out → Effect
send outs = change (λ s. record s { outs = s.outs ++ outs })

abbrev pub array_of : List ℕ → ArrayName → ℕ
array_of arrays (Global a) = a
array_of arrays (Param i) = slice_index arrays i

-- A call of an array: it answers and stores by the old value of the cell.
abbrev pub touched : ArrayName → ℕ → (ℕ → Bits) → (ℕ → Bits) → Computation Bits
touched name i answer store = λ p s. let a = array_of p.arrays name in let old = cell_at s.cells a i in
    record { gives = answer old; after = record s { cells = with_cell s.cells a i (store old).value }; calls = a ∷ [] }

-- A body on locals of its own and with an answer of its own, which is its result.
abbrev pub called : List Bits → Effect → Computation Bits
called locals body = λ p s. let ran = body p (record s { locals = locals; answer = nothing }) in
    record { gives = ran.after.answer; after = record ran.after { locals = s.locals; answer = s.answer }; calls = ran.calls }

-- Locals of these widths: the first hold these values, the others 0.
abbrev pub begun_with : List Bits → List ℕ → List Bits
begun_with vs widths = vs ++ map (λ w. bits_of w 0) (drop (length vs) widths)
