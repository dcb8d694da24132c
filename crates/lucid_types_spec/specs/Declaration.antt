-- The rules of declarations.
use Rattle.std.specs.Prelude.{◌≡◌, ℕ, ◌<◌, ◌≤◌, ◌^◌, List, [], ◌∷◌, ◌++◌, Option, None, Some, Bool, true, length, slice_get, slice_set}
use Rattle.lucid_base.specs.Bits.{bits_of}
use Rattle.lucid_base.specs.declared.array.ArrayDef.{ArrayDef}
use Rattle.lucid_base.specs.declared.array.ArrayName.TheVariants.{Global}
use Rattle.lucid_base.specs.declared.bits.Bits.{Bits}
use Rattle.lucid_base.specs.declared.memory_alu.MemAlu.{MemAlu}
use Rattle.lucid_core.specs.declared.body.Stmt.{Stmt}
use Rattle.lucid_core.specs.declared.defs.EventDef.{EventDef}
use Rattle.lucid_core.specs.declared.defs.FunDef.{FunDef}
use Rattle.lucid_core.specs.declared.defs.HandlerDef.{HandlerDef}
use Rattle.lucid_core.specs.declared.defs.MemopDef.{MemopDef}
use Rattle.lucid_core.specs.Limits.{are_members}
use Rattle.lucid_core.specs.Parts.{CoreParts, made_of}
use Rattle.lucid_memop.specs.Shape.{Shaped}
use Rattle.lucid_parse_tree.specs.declared.tree.DeclKind.{DeclKind}
use Rattle.lucid_parse_tree.specs.declared.tree.DeclKind.TheVariants as d
use Rattle.lucid_parse_tree.specs.declared.tree.P.{P}
use Rattle.lucid_parse_tree.specs.declared.tree.S.{S}
use Rattle.lucid_parse_tree.specs.declared.tree.Size.{Size}
use Rattle.lucid_parse_tree.specs.declared.tree.Size.TheVariants as size
use Rattle.lucid_parse_tree.specs.declared.tree.Ty.{Ty}
use Rattle.lucid_types_spec.specs.declared.body.Body.{Body}
use Rattle.lucid_types_spec.specs.declared.scope.Entry.TheVariants as entry
use Rattle.lucid_types_spec.specs.declared.scope.Param.{Param}
use Rattle.lucid_types_spec.specs.declared.scope.ValueType.{ValueType}
use Rattle.lucid_types_spec.specs.declared.scope.ValueType.TheVariants.{Int}
use Rattle.lucid_types_spec.specs.Block.{Block, Numbered}
use Rattle.lucid_types_spec.specs.Memop.{MemopBody, memop_names}
use Rattle.lucid_types_spec.specs.Names.{Names, called, seen}
use Rattle.lucid_types_spec.specs.Types.{Answers, IsWidth, Means, Parameters, answer_width, cell_widths, ints, value_widths}

-- The definitions of declarations: the names in scope after them, and the parts of a core.
pub record Definitions : Type 0 where
  pub names : Names
  pub arrays : List ArrayDef
  pub memops : List MemopDef
  pub events : List EventDef
  pub funs : List FunDef
  pub handlers : List HandlerDef
  pub forms : List (List ℕ)

abbrev pub start : Definitions
start = record { names = []; arrays = []; memops = []; events = []; funs = []; handlers = []; forms = [] }

abbrev pub parts_of : Definitions → CoreParts
parts_of m = made_of m.arrays m.memops m.events m.funs m.handlers m.forms

-- An array's size: written, or a constant.
pub data Sized (s : Names) : Size → ℕ → Type 0 where
  number : (k : ℕ) → Sized s (size.Number k) k
  constant : (n : List ℕ) (b : Bits) → seen n s ≡ Some (entry.Constant b) → Sized s (size.Named n) b.value

-- Declaration `number`, from 1, which begins on this line, turns the earlier definitions into these.
pub data Declared (number line : ℕ) (m : Definitions) : DeclKind → Definitions → Type 0 where
  constant : (t : Ty) (w : ℕ) (n : List ℕ) (v : ℕ) → Means t (Int w) → v < 2 ^ w →
      Declared number line m (d.Const t n v) (record m { names = called n (entry.Constant (bits_of w v)) ∷ m.names })
  global : (short : Bool) (w : ℕ) (n : List ℕ) (size : Size) (k : ℕ) → IsWidth w → Sized m.names size k → 1 ≤ k → k ≤ 65536 →
      Declared number line m (d.Global short w n size) (record m {
        names = called n (entry.Array (Global (length m.arrays)) w) ∷ m.names;
        arrays = m.arrays ++ record { name = n; width = w; size = k } ∷ [];
      })
  -- its parameters have one width, which is also its answer's
  memop : (t u : Ty) (w : ℕ) (n first second : List ℕ) (body : List S) (steps : List Stmt) (alu : MemAlu) →
      Means t (Int w) → Means u (Int w) → MemopBody (memop_names w first second m.names) w body steps → Shaped w steps alu →
      Declared number line m (d.Memop n (t, first) (u, second) body) (record m {
        names = called n (entry.Memop alu) ∷ m.names;
        memops = m.memops ++ record { name = n; alu = alu } ∷ [];
      })
  event : (n : List ℕ) (ps : List P) (ws : List ℕ) (s : Names) → Parameters 0 0 m.names ps (ints ws) s →
      Declared number line m (d.Event n ps) (record m {
        names = called n (entry.Event (length m.events) ws) ∷ m.names;
        events = m.events ++ record { name = n; params = ws; handler = None } ∷ [];
      })
  -- it names a visible event that has no handler yet, and repeats its parameters' widths
  handle : (n : List ℕ) (ps : List P) (body : List S) (i : ℕ) (ws : List ℕ) (e : EventDef) (s : Names) (b : Body) (k : Numbered) →
      seen n m.names ≡ Some (entry.Event i ws) → slice_get m.events i ≡ Some e → e.handler ≡ None →
      Parameters 0 0 m.names ps (ints ws) s → Block None s (record { locals = ws; forms = m.forms }) body b k →
      Declared number line m (d.Handle n ps body) (record m {
        events = slice_set m.events i (record e { handler = Some (length m.handlers) });
        handlers = m.handlers ++ record { event = i; locals = k.locals; body = b.steps; decl = number; line = line } ∷ [];
        forms = k.forms;
      })
  -- its name is not visible in its body
  fun : (a : Option Ty) (n : List ℕ) (ps : List P) (body : List S) (t : Option ValueType) (qs : List Param) (s : Names) (b : Body)
      (k : Numbered) → Answers a t b.ending → Parameters 0 0 m.names ps qs s →
      Block t s (record { locals = value_widths qs; forms = m.forms }) body b k →
      Declared number line m (d.Fun a n ps body) (record m {
        names = called n (entry.Fun (length m.funs) qs t) ∷ m.names;
        funs = m.funs ++ record {
          name = n;
          arrays = cell_widths qs;
          params = length (value_widths qs);
          locals = k.locals;
          answer = answer_width t;
          body = b.steps;
          decl = number;
          line = line;
        } ∷ [];
        forms = k.forms;
      })
  group : (n : List ℕ) (members : List ℕ) → are_members members ≡ true →
      Declared number line m (d.Group n members) (record m { names = called n (entry.Group members) ∷ m.names })
