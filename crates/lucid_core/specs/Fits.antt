-- Events, prints and cells that fit a program.
use Rattle.std.specs.Prelude.{ℕ, ◌^◌, List, [], ◌∷◌, Bool, true, false, ◌&&◌, nat_eq, nat_lt, length, slice_get}
use Rattle.std.specs.Option.{option_map_or}
use Rattle.lucid_base.specs.Cells.{rows_fit}
use Rattle.lucid_base.specs.declared.event.Event.{Event}
use Rattle.lucid_base.specs.declared.event.Out.{Out}
use Rattle.lucid_base.specs.declared.event.Out.TheVariants.{Gen, Say}
use Rattle.lucid_core.specs.Parts.{CoreParts}
use Rattle.lucid_core.specs.Texts.{holes_of}

-- As many arguments as parameters, each within its width.
abbrev pub args_fit : List ℕ → List ℕ → Bool
args_fit [] [] = true
args_fit (w ∷ ws) (a ∷ rest) = nat_lt a (2 ^ w) && args_fit ws rest
args_fit _ _ = false

-- The event is declared, and its arguments have the number and the widths of its parameters.
abbrev pub event_fits : CoreParts → Event → Bool
event_fits parts event = option_map_or (λ e. args_fit e.params event.args) (slice_get parts.events event.id) false

-- The text is there, and has a `%d` for each number.
abbrev pub say_fits : CoreParts → ℕ → List ℕ → Bool
say_fits parts form numbers = option_map_or (λ text. nat_eq (holes_of text) (length numbers)) (slice_get parts.forms form) false

-- The numbers that an out carries.
abbrev pub carried : Out → List ℕ
carried (Gen event delay to) = event.args
carried (Say form numbers) = numbers

-- An event that is sent out fits the program, and a print fits its text.
abbrev pub out_fits : CoreParts → Out → Bool
out_fits parts (Gen event delay to) = event_fits parts event
out_fits parts (Say form numbers) = say_fits parts form numbers

-- The cells are those of the program's arrays: lists of the declared sizes, of numbers within the cell widths.
abbrev pub cells_fit : CoreParts → List (List ℕ) → Bool
cells_fit parts cells = rows_fit parts.arrays cells
