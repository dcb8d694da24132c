-- What the names in scope stand for is there, at a place in a core.
use Rattle.std.proofs.Common.{◌≡◌, ℕ, List, ◌∷◌, Option, Some, Bool, true, false, if◌then◌else◌, bytes_eq, take, subst, slice_get}
use Rattle.lucid_base.proofs.NumbersLemmas.{in_first}
use Rattle.lucid_base.specs.Memop.{memop_fits}
use Rattle.lucid_core.specs.declared.defs.FunDef.{FunDef}
use Rattle.lucid_core.specs.Limits.{are_members}
use Rattle.lucid_base.specs.Numbers.{is_in}
use Rattle.lucid_core.specs.Typing.{cell_width}
use Rattle.lucid_core_laws.specs.Place.{Place, behind}
use Rattle.lucid_core_laws.specs.StmtNodes.{IsEvent}
use Rattle.lucid_types_spec.specs.declared.scope.Entry.{Entry}
use Rattle.lucid_types_spec.specs.declared.scope.Entry.TheVariants as entry
use Rattle.lucid_types_spec.specs.declared.scope.Named.{Named}
use Rattle.lucid_types_spec.specs.declared.scope.Param.{Param}
use Rattle.lucid_types_spec.specs.declared.scope.ValueType.{ValueType}
use Rattle.lucid_types_spec.specs.Names.{Names, seen}
use Rattle.lucid_types_spec.specs.Types.{answer_width, cell_widths, value_widths, width_of}

-- A function with these parameters.
pub record IsFun (funs : List FunDef) (k : ℕ) (ps : List Param) (t : Option ValueType) : Type 0 where
  pub def : FunDef
  pub there : slice_get funs k ≡ Some def
  pub arrays : def.arrays ≡ cell_widths ps
  pub values : take def.params def.locals ≡ value_widths ps
  pub answer : def.answer ≡ answer_width t

pub record IsLocal (p : Place) (i : ℕ) (t : ValueType) : Type 0 where
  pub there : slice_get p.scope.locals i ≡ Some (width_of t)
  pub assigned : is_in i p.known ≡ true

-- What a name stands for is there, and a local is assigned.
abbrev pub Holds : Place → Entry → Type 0
Holds p (entry.Constant b) = Unit {0}
Holds p (entry.Array array w) = cell_width array p.scope ≡ Some w
Holds p (entry.Memop m) = memop_fits m ≡ true
Holds p (entry.Event i ws) = IsEvent p i ws
Holds p (entry.Fun k ps t) = IsFun p.scope.funs k ps t
Holds p (entry.Local i t) = IsLocal p i t
Holds p (entry.Group members) = are_members members ≡ true

-- A place in a core that has what these names stand for.
pub record Suits (p : Place) (s : Names) : Type 0 where
  pub core : p.flat ≡ false
  pub holds : (n : List ℕ) (d : Entry) → seen n s ≡ Some d → Holds p d

-- ---- one name more

pick : (b : Bool) (x : Entry) (o : Option Entry) (e : Entry) (P : Entry → Type 0) → (if b then Some x else o) ≡ Some e → P x → (o ≡ Some e → P e) → P e
pick true x o e P h px po = let same : x ≡ e = cc in subst P same px
pick false x o e P h px po = po h

-- Of any property of what names stand for.
pub seen_more : (P : Entry → Type 0) (s : Names) (d : Named) → ((n : List ℕ) (e : Entry) → seen n s ≡ Some e → P e) → P d.entry →
    (n : List ℕ) (e : Entry) → seen n (d ∷ s) ≡ Some e → P e
seen_more P s d h x n e is = pick (bytes_eq d.name n) d.entry (seen n s) e P is x (h n e)

pub suits_more : (p : Place) (s : Names) (d : Named) → Suits p s → Holds p d.entry → Suits p (d ∷ s)
suits_more p s d h x = record { core = h.core; holds = seen_more (Holds p) s d h.holds x }

-- ---- more is assigned

pub event_still : (p : Place) (k : List ℕ) (i : ℕ) (ws : List ℕ) → IsEvent p i ws → IsEvent (behind p k) i ws
event_still p k i ws h = record { there = h.there; few = h.few }

holds_still : (p : Place) (k : List ℕ) (d : Entry) → Holds p d → Holds (behind p k) d
holds_still p k (entry.Constant b) h = tt
holds_still p k (entry.Array array w) h = h
holds_still p k (entry.Memop m) h = h
holds_still p k (entry.Event i ws) h = event_still p k i ws h
holds_still p k (entry.Fun f ps t) h = h
holds_still p k (entry.Local i t) h = record { there = h.there; assigned = in_first p.known k i h.assigned }
holds_still p k (entry.Group members) h = h

pub suits_behind : (p : Place) (k : List ℕ) (s : Names) → Suits p s → Suits (behind p k) s
suits_behind p k s h = record { core = h.core; holds = λ n d is. holds_still p k d (h.holds n d is) }
