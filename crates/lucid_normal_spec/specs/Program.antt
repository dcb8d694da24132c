-- The normal form of a flat core: its handlers' operations, each under the guard that the event is the handler's.
use Rattle.std.specs.Prelude.{ℕ, ◌+◌, max, List, [], ◌∷◌, ◌++◌, Option, None, Some, Bool, true, ◌&&◌, length, map, fold}
use Rattle.lucid_code.specs.declared.op.Op.{Op}
use Rattle.lucid_code.specs.declared.op.Operand.TheVariants.{Field}
use Rattle.lucid_code.specs.Parts as code
use Rattle.lucid_core.specs.declared.defs.EventDef.{EventDef}
use Rattle.lucid_core.specs.declared.defs.HandlerDef.{HandlerDef}
use Rattle.lucid_core.specs.Events.{event_params}
use Rattle.lucid_core.specs.Parts.{CoreParts}
use Rattle.lucid_normal_spec.specs.declared.env.Env.{Env}
use Rattle.lucid_normal_spec.specs.declared.env.Typed.{Typed}
use Rattle.lucid_normal_spec.specs.Translate.{guarded, is, body_code}

-- The greater width at each position, and the rest of the longer list.
abbrev pub widest : List ℕ → List ℕ → List ℕ
widest [] ys = ys
widest (x ∷ xs) [] = x ∷ xs
widest (x ∷ xs) (y ∷ ys) = max x y ∷ widest xs ys

-- Argument k has the greatest width of a k-th parameter, over all declared events.
abbrev pub arg_widths : List EventDef → List ℕ
arg_widths events = fold (λ widths e. widest widths e.params) [] events

-- The event, the tick and the switch, and then the arguments.
abbrev pub input_widths : CoreParts → List ℕ
input_widths parts = 32 ∷ 32 ∷ 32 ∷ arg_widths parts.events

-- The parameters are held by the argument fields from k on, and the other locals by nothing.
abbrev pub held_from : ℕ → List ℕ → List ℕ → List (Option Typed)
held_from k [] locals = map (λ l. None) locals
held_from k (w ∷ ws) [] = []
held_from k (w ∷ ws) (l ∷ ls) = Some (record { operand = Field k; width = l }) ∷ held_from (k + 1) ws ls

abbrev pub start : CoreParts → List ℕ → HandlerDef → Env
start parts widths h = record {
  widths = widths;
  held = held_from 3 (event_params parts.events h.event) h.locals;
  answer = None;
  slot = 0;
  place = 0;
}

-- The code of handlers, one after the other: their operations, and the widths of all fields then.
pub record Codes : Type 0 where
  pub ops : List Op
  pub widths : List ℕ
  pub fine : Bool

abbrev pub codes_of : CoreParts → List ℕ → List HandlerDef → Codes
codes_of parts widths [] = record { ops = []; widths = widths; fine = true }
codes_of parts widths (h ∷ hs) =
    let a = body_code h.body (start parts widths h) in
    let r = codes_of parts a.env.widths hs in
    record { ops = map (guarded (is 0 h.event)) a.ops ++ r.ops; widths = r.widths; fine = a.fine && r.fine }

abbrev pub all_codes : CoreParts → Codes
all_codes parts = codes_of parts (input_widths parts) parts.handlers

abbrev pub translate : CoreParts → code.CodeParts
translate parts = let all = all_codes parts in
    code.made_of all.widths (record { event = 0; now = 1; me = 2; args = length (arg_widths parts.events) }) parts.arrays all.ops
