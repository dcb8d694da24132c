-- Laws of the meaning, each of a program's parts. They hold of all cells, ticks, switches and events.
use Rattle.std.specs.Prelude.{◌≡◌, ◌≤◌, ℕ, List, [], Some, true, All, IsTrue, length, map, take, slice_get, slice_index_or}
use Rattle.lucid_base.specs.Cells.{zero_cells}
use Rattle.lucid_base.specs.declared.bits.Bits.{Bits}
use Rattle.lucid_base.specs.declared.event.Event.{Event}
use Rattle.lucid_core.specs.declared.body.Expr.{Expr}
use Rattle.lucid_core.specs.declared.defs.FunDef.{FunDef}
use Rattle.lucid_core.specs.declared.defs.HandlerDef.{HandlerDef}
use Rattle.lucid_core.specs.Computations.{Frame, Fun, State}
use Rattle.lucid_core.specs.Fits.{carried, cells_fit, out_fits}
use Rattle.lucid_core.specs.Meaning.{fun_of, funs_of, value_of}
use Rattle.lucid_core.specs.Parts.{CoreParts}
use Rattle.lucid_core.specs.Returns.{expr_returns}
use Rattle.lucid_core.specs.Scope.{Scope, fun_scope, handler_scope}
use Rattle.lucid_core.specs.Step.{Entry, after, handler_of, outs, step, steps}
use Rattle.lucid_core.specs.Typing.{answer_of}

-- The outs of an event's handler fit the program, and are at most 8, of at most 8 numbers each; also if the event does not fit.
pub record OutsFit (parts : CoreParts) : Type 0 where
  pub each : (cells : List (List ℕ)) (now me : ℕ) (event : Event) → All (λ out. IsTrue (out_fits parts out)) (step parts cells now me event).outs
  pub small : (cells : List (List ℕ)) (now me : ℕ) (event : Event) → All (λ out. length (carried out) ≤ 8) (step parts cells now me event).outs
  pub few : (cells : List (List ℕ)) (now me : ℕ) (event : Event) → length (step parts cells now me event).outs ≤ 8

-- Cells that are all 0 fit the program; cells that fit stay so at every step; so they fit after any events.
pub record CellsStayFit (parts : CoreParts) : Type 0 where
  pub zero : IsTrue (cells_fit parts (zero_cells parts.arrays))
  pub step : (cells : List (List ℕ)) (now me : ℕ) (event : Event) → IsTrue (cells_fit parts cells) → IsTrue (cells_fit parts (step parts cells now me event).cells)
  pub after : (entries : List Entry) (n : ℕ) → IsTrue (cells_fit parts (after parts entries n))

-- The outs of event j are those that `steps` has at place j, and none where it has no such place.
abbrev pub OutsAreOfSteps : CoreParts → Type 0
OutsAreOfSteps parts = (entries : List Entry) (j : ℕ) → slice_index_or (steps parts entries).outs j [] ≡ outs parts entries j

-- An expression that answers width w in this scope, and in which returns are last, has a value of width w in this frame, if the locals
-- have their widths.
abbrev pub GivesItsWidth : Scope → Frame → Type 0
GivesItsWidth scope frame = (e : Expr) (w : ℕ) (s : State) → answer_of e scope ≡ Some (Some w) → (expr_returns e).last ≡ true → map (λ v. v.width) s.locals ≡ scope.locals →
    (value_of e frame s).gives.width ≡ w

-- A function that is given values of its parameters' widths gives a value of its answer's width.
abbrev pub AnswersItsWidth : FunDef → Fun → Type 0
AnswersItsWidth f g = (arrays : List ℕ) (vs : List Bits) (w : ℕ) (s : State) → map (λ v. v.width) vs ≡ take f.params f.locals → f.answer ≡ Some w → (g arrays vs s).gives.width ≡ w

-- The width by the typing rules is the width of the value, in the body of each handler and of each function, and of the answer of each
-- function.
pub record WidthsAreStatic (parts : CoreParts) : Type 0 where
  pub handlers : (h : HandlerDef) (now me : ℕ) → GivesItsWidth (handler_scope parts h) (record { now = now; me = me; arrays = []; funs = funs_of now me parts.funs })
  pub funs : (k : ℕ) (f : FunDef) → slice_get parts.funs k ≡ Some f → (now me : ℕ) (arrays : List ℕ) →
      GivesItsWidth (fun_scope parts (take k parts.funs) f) (record { now = now; me = me; arrays = arrays; funs = funs_of now me (take k parts.funs) })
  pub answers : (k : ℕ) (f : FunDef) → slice_get parts.funs k ≡ Some f → (now me : ℕ) → AnswersItsWidth f (fun_of now me (funs_of now me (take k parts.funs)) f)

-- An event has one handler: each handler is that of its event, no two are of one event, and an event's handler is one of them.
pub record OneHandler (parts : CoreParts) : Type 0 where
  pub own : (k : ℕ) (h : HandlerDef) → slice_get parts.handlers k ≡ Some h → handler_of parts h.event ≡ Some h
  pub one : (j k : ℕ) (g h : HandlerDef) → slice_get parts.handlers j ≡ Some g → slice_get parts.handlers k ≡ Some h → g.event ≡ h.event → j ≡ k
  pub its_event : (id : ℕ) (h : HandlerDef) → handler_of parts id ≡ Some h → h.event ≡ id
