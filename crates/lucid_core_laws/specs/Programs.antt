-- A program whose bodies keep the rules, and the other rules of a valid program.
use Rattle.std.specs.Prelude.{◌≡◌, ℕ, List, [], ◌∷◌, ◌++◌, Some, None, Bool, true, false, is_some, length, nat_eq, nat_le, slice_get, take}
use Rattle.std.specs.List.{list_all, starts_with}
use Rattle.lucid_core.specs.declared.defs.EventDef.{EventDef}
use Rattle.lucid_core.specs.declared.defs.FunDef.{FunDef}
use Rattle.lucid_core.specs.declared.defs.HandlerDef.{HandlerDef}
use Rattle.lucid_core.specs.Events.{event_params}
use Rattle.lucid_core.specs.Limits.{declarations_keep_limits}
use Rattle.lucid_core.specs.Numbered.{declarations_are_numbered}
use Rattle.lucid_core.specs.Numbers.{places}
use Rattle.lucid_core.specs.OutCount.{outs_are_few}
use Rattle.lucid_core.specs.Parts.{CoreParts}
use Rattle.lucid_core.specs.Scope.{fun_scope, handler_scope}
use Rattle.lucid_core.specs.Uses.{assigns_its_locals, inlined_keep_to_themselves}
use Rattle.lucid_core.specs.Valid.{IsValid, IsValidFlat}
use Rattle.lucid_core.specs.declared.ending.Ending.{Ending}
use Rattle.lucid_core.specs.Endings.{on_every_path}
use Rattle.lucid_core.specs.Few.{arguments_are_few}
use Rattle.lucid_core_laws.specs.Keeps.{KeepsBlock}

-- A function's body, behind the functions before it: its parameters are assigned at its start.
pub record KeepsFun (flat : Bool) (parts : CoreParts) (before : List FunDef) (f : FunDef) : Type 0 where
  pub ending : Ending
  pub body : KeepsBlock (record { scope = fun_scope parts before f; known = places (take f.params f.locals); flat = flat }) f.answer ending f.body
  pub ends : is_some f.answer ≡ true → on_every_path ending ≡ true
  pub params : nat_le f.params (length f.locals) ≡ true
  pub assigns : assigns_its_locals f.params f.locals f.body ≡ true

-- A handler's body: its first locals are its event's parameters.
pub record KeepsHandler (flat : Bool) (parts : CoreParts) (h : HandlerDef) : Type 0 where
  pub ending : Ending
  pub body : KeepsBlock (record { scope = handler_scope parts h; known = places (event_params parts.events h.event); flat = flat }) None ending h.body
  pub begins : starts_with nat_eq h.locals (event_params parts.events h.event) ≡ true
  pub assigns : assigns_its_locals (length (event_params parts.events h.event)) h.locals h.body ≡ true

abbrev pub KeepFuns : Bool → CoreParts → List FunDef → List FunDef → Type 0
KeepFuns flat parts before [] = Unit {0}
KeepFuns flat parts before (f ∷ fs) = KeepsFun flat parts before f × KeepFuns flat parts (before ++ f ∷ []) fs

abbrev pub KeepHandlers : Bool → CoreParts → List HandlerDef → Type 0
KeepHandlers flat parts [] = Unit {0}
KeepHandlers flat parts (h ∷ hs) = KeepsHandler flat parts h × KeepHandlers flat parts hs

-- Events and handlers name each other, and all limits are kept.
pub record IsBuilt (flat : Bool) (parts : CoreParts) : Type 0 where
  pub funs : KeepFuns flat parts [] parts.funs
  pub handlers : KeepHandlers flat parts parts.handlers
  pub handled : (id : ℕ) (e : EventDef) (k : ℕ) → slice_get parts.events id ≡ Some e → e.handler ≡ Some k → (h : HandlerDef) × (slice_get parts.handlers k ≡ Some h) × (h.event ≡ id)
  pub handles : (k : ℕ) (h : HandlerDef) → slice_get parts.handlers k ≡ Some h → (e : EventDef) × (slice_get parts.events h.event ≡ Some e) × (e.handler ≡ Some k)
  pub few_in_funs : list_all (λ f. arguments_are_few f.body) parts.funs ≡ true
  pub few_in_handlers : list_all (λ h. arguments_are_few h.body) parts.handlers ≡ true
  pub declarations : declarations_keep_limits parts ≡ true
  pub numbered : declarations_are_numbered parts ≡ true
  pub outs : outs_are_few parts ≡ true

abbrev pub CoreIsValid : Type 0
CoreIsValid = (parts : CoreParts) → IsBuilt false parts → IsValid parts

abbrev pub FlatIsValid : Type 0
FlatIsValid = (parts : CoreParts) → IsBuilt true parts → parts.funs ≡ [] → inlined_keep_to_themselves parts ≡ true → IsValidFlat parts
