-- The invariants of valid code and the bounds of its outs, for every input.
use Rattle.std.specs.Prelude.{ℕ, ◌≤◌, List, All, IsTrue, length}
use Rattle.lucid_base.specs.Cells.{rows_fit}
use Rattle.lucid_base.specs.declared.event.Event.{Event}
use Rattle.lucid_base.specs.declared.event.Out.{Out}
use Rattle.lucid_base.specs.declared.event.Out.TheVariants as out
use Rattle.lucid_code.specs.Inputs.{IsInput}
use Rattle.lucid_code.specs.Parts.{CodeParts}
use Rattle.lucid_code.specs.Run.{FieldsFit, Machine, begun, run, run_code}

-- The numbers that an event or a print has.
abbrev pub numbers_of : Out → List ℕ
numbers_of (out.Gen event delay target) = event.args
numbers_of (out.Say form args) = args

-- Of all cells, ticks, switches and events: at most 8 are sent out, of at most 8 numbers each. Cells that fit the arrays stay so. The fields of an
-- input are within their widths as it comes, and fields that are within their widths stay so.
pub record RunsFit (code : CodeParts) : Type 0 where
  pub few : (cells : List (List ℕ)) (now me : ℕ) (event : Event) → length (run_code code cells now me event).outs ≤ 8
  pub small : (cells : List (List ℕ)) (now me : ℕ) (event : Event) → All (λ o. length (numbers_of o) ≤ 8) (run_code code cells now me event).outs
  pub cells : (cells : List (List ℕ)) (now me : ℕ) (event : Event) → IsTrue (rows_fit code.arrays cells) → IsTrue (rows_fit code.arrays (run_code code cells now me event).cells)
  pub begins : (cells : List (List ℕ)) (now me : ℕ) (event : Event) → IsInput code me event → FieldsFit code.fields (begun cells now me event).fields
  pub fields : (m : Machine) → FieldsFit code.fields m.fields → FieldsFit code.fields (run code.fields code.ops m).fields
