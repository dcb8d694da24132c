-- The laws of a memop for the body that has its shape.
use Rattle.std.specs.Prelude.{◌≡◌, ℕ, List, [], ◌∷◌, map}
use Rattle.lucid_base.specs.Bits.{bits_of}
use Rattle.lucid_base.specs.Memop.{memop_value}
use Rattle.lucid_base.specs.declared.memory_alu.MemAlu.{MemAlu}
use Rattle.lucid_core.specs.declared.body.Stmt.{Stmt}
use Rattle.lucid_core.specs.Computations.{Frame, State, block, called, give}
use Rattle.lucid_core.specs.Meaning.{effect_of}

-- For any stored number and argument, the memop has the result of the body that is called on them; and the body has no other effect.
abbrev pub MeansItsBody : ℕ → List Stmt → MemAlu → Type 0
MeansItsBody w body m = (stored argument : ℕ) (p : Frame) (s : State) →
    called (bits_of w stored ∷ bits_of w argument ∷ []) (block (map effect_of body)) p s ≡ give (memop_value m stored argument) p s
