-- `once P NAME ARG..`: one event, run whole from cells that are all 0, at tick 0 on switch 0.
use Rattle.std.specs.Prelude.{◌≡◌, ℕ, ◌^◌, List, ◌++◌, Option, None, Some, Ok, Err, if◌then◌else◌, nat_lt}
use Rattle.lucid_base.specs.declared.event.Event.{Event}
use Rattle.lucid_base.specs.declared.event.Out.{Out}
use Rattle.lucid_base.specs.Cells.{zero_cells}
use Rattle.lucid_conf.specs.Named.{event_names, last_named}
use Rattle.lucid_core.specs.Fits.{event_fits}
use Rattle.lucid_core.specs.Parts.{CoreParts}
use Rattle.lucid_core.specs.Step.{step}
use Rattle.lucid_log.specs.Block.{block_text}
use Rattle.lucid_log.specs.Cells.{cells_text}
use Rattle.lucid_top_words.specs.declared.refusal.Refusal.TheVariants as refusal
use Rattle.lucid_top_words.specs.Outcome.{Outcome, FollowedBy}
use Rattle.lucid_top_program.specs.Program.{IsProgram}
use Rattle.lucid_top_words.specs.Words.{Bytes}

-- the event, where it fits the program
abbrev pub fitting : CoreParts → Event → Option Event
fitting core event = if event_fits core event then Some event else None

-- the event of this number with these arguments, where it fits the program; the number has 32 bits
abbrev pub event_at : CoreParts → Option (List ℕ) → Option ℕ → Option Event
event_at core arguments None = None
event_at core None (Some id) = None
event_at core (Some args) (Some id) = if nat_lt id (2 ^ 32) then fitting core (record { id = id; args = args }) else None

-- the last declared event of this name with these arguments
abbrev pub event_of : CoreParts → Bytes → Option (List ℕ) → Option Event
event_of core name arguments = event_at core arguments (last_named name (event_names core.events))

-- the block of the event, and the cells after it
abbrev pub shown : CoreParts → Event → List Out → List (List ℕ) → Bytes
shown core event outs cells = block_text core 0 0 event outs 0 ++ cells_text 0 core.arrays cells

-- the effect of the event
abbrev pub ran : CoreParts → Option Event → Outcome
ran core None = Err refusal.Usage
ran core (Some event) = let after = step core (zero_cells core.arrays) 0 0 event in Ok (shown core event after.outs after.cells)

-- the effect of the event of this name with these arguments in the program of this text
abbrev pub OnceAnswers : Bytes → Bytes → Option (List ℕ) → Outcome → Type 0
OnceAnswers text name arguments o = FollowedBy (IsProgram text) (λ core p. p ≡ ran core (event_of core name arguments)) o
