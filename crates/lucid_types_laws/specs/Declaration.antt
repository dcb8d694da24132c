-- The rules of declarations as a function.
use Rattle.std.specs.Prelude.{ℕ, ◌+◌, ◌^◌, List, [], ◌∷◌, ◌++◌, Option, None, Some, Bool, true, ◌&&◌, nat_eq, nat_le, nat_lt, length, slice_get, slice_set}
use Rattle.lucid_base.specs.Bits.{bits_of}
use Rattle.lucid_base.specs.declared.array.ArrayName.TheVariants as array_name
use Rattle.lucid_core.specs.Limits.{are_members}
use Rattle.lucid_core.specs.Typing.{◌>>=◌, same}
use Rattle.lucid_memop.specs.Found.{shape_found}
use Rattle.lucid_core.specs.declared.ending.Ending.{Ending}
use Rattle.lucid_core.specs.Endings.{on_every_path}
use Rattle.lucid_parse_tree.specs.declared.tree.DeclKind.{DeclKind}
use Rattle.lucid_parse_tree.specs.declared.tree.DeclKind.TheVariants as d
use Rattle.lucid_parse_tree.specs.declared.tree.P.{P}
use Rattle.lucid_parse_tree.specs.declared.tree.P.TheVariants as p
use Rattle.lucid_parse_tree.specs.declared.tree.S.{S}
use Rattle.lucid_parse_tree.specs.declared.tree.Size.{Size}
use Rattle.lucid_parse_tree.specs.declared.tree.Size.TheVariants as size
use Rattle.lucid_parse_tree.specs.declared.tree.Ty.{Ty}
use Rattle.lucid_types_spec.specs.declared.scope.Entry.{Entry}
use Rattle.lucid_types_spec.specs.declared.scope.Entry.TheVariants as entry
use Rattle.lucid_types_spec.specs.declared.scope.Param.{Param}
use Rattle.lucid_types_spec.specs.declared.scope.Param.TheVariants as param
use Rattle.lucid_types_spec.specs.declared.scope.ValueType.{ValueType}
use Rattle.lucid_types_spec.specs.declared.scope.ValueType.TheVariants.{Int}
use Rattle.lucid_types_spec.specs.Declaration.{Definitions}
use Rattle.lucid_types_spec.specs.Memop.{memop_names}
use Rattle.lucid_types_spec.specs.Names.{Names, called, seen}
use Rattle.lucid_types_spec.specs.Types.{answer_width, cell_widths, value_widths}
use Rattle.lucid_types_laws.specs.Lead.{int_width}
use Rattle.lucid_types_laws.specs.Memop.{memop_body}
use Rattle.lucid_types_laws.specs.Partial.{given, when}
use Rattle.lucid_types_laws.specs.Reading.{is_width}
use Rattle.lucid_types_laws.specs.Sending.{is_none}
use Rattle.lucid_types_laws.specs.Statement.{body_of, type_of}

-- ---- types and parameters

-- The width of a written type that is an int.
abbrev pub int_of : Ty → Option ℕ
int_of t = type_of t >>= int_width

-- The type of a written answer; None is void.
abbrev pub answer_of : Option Ty → Option (Option ValueType)
answer_of None = Some None
answer_of (Some t) = do
  v ← type_of t
  Some (Some v)

-- With a value it always returns.
abbrev pub ends_well : Option ValueType → Ending → Bool
ends_well None r = true
ends_well (Some v) r = on_every_path r

abbrev pub parameters : ℕ → ℕ → Names → List P → Option (List Param × Names)
parameters i j s [] = Some ([], s)
parameters i j s (p.Value t n ∷ ps) = do
  v ← type_of t
  rest ← parameters (i + 1) j (called n (entry.Local i v) ∷ s) ps
  Some (param.Value v ∷ rest.0, rest.1)
parameters i j s (p.Array short w n ∷ ps) = do
  rest ← when (is_width w) (parameters i (j + 1) (called n (entry.Array (array_name.Param j) w) ∷ s) ps)
  Some (param.Array w ∷ rest.0, rest.1)

-- The widths of parameters that are all ints.
abbrev pub int_params : List Param → Option (List ℕ)
int_params [] = Some []
int_params (param.Value (Int w) ∷ ps) = do
  ws ← int_params ps
  Some (w ∷ ws)
int_params _ = None

-- ---- declarations

abbrev pub constant_at : Option Entry → Option ℕ
constant_at (Some (entry.Constant b)) = Some b.value
constant_at _ = None

abbrev pub size_of : Names → Size → Option ℕ
size_of s (size.Number k) = Some k
size_of s (size.Named n) = constant_at (seen n s)

abbrev pub event_at : Option Entry → Option (ℕ × List ℕ)
event_at (Some (entry.Event i ws)) = Some (i, ws)
event_at _ = None

abbrev pub with_constant : List ℕ → ℕ → ℕ → Definitions → Definitions
with_constant n w v m = record m { names = called n (entry.Constant (bits_of w v)) ∷ m.names }

abbrev pub constant : Ty → List ℕ → ℕ → Definitions → Option Definitions
constant t n v m = do
  w ← int_of t
  given (nat_lt v (2 ^ w)) (with_constant n w v m)

abbrev pub is_size : ℕ → Bool
is_size k = nat_le 1 k && nat_le k 65536

abbrev pub global : ℕ → List ℕ → Size → Definitions → Option Definitions
global w n x m = do
  k ← size_of m.names x
  given (is_width w && is_size k) (record m {
    names = called n (entry.Array (array_name.Global (length m.arrays)) w) ∷ m.names;
    arrays = m.arrays ++ record { name = n; width = w; size = k } ∷ [];
  })

abbrev pub memop : List ℕ → Ty × List ℕ → Ty × List ℕ → List S → Definitions → Option Definitions
memop n first second body m = do
  w ← int_of first.0
  v ← int_of second.0
  steps ← when (nat_eq w v) (memop_body w (memop_names w first.1 second.1 m.names) body)
  alu ← shape_found w steps
  Some (record m {
    names = called n (entry.Memop alu) ∷ m.names;
    memops = m.memops ++ record { name = n; alu = alu } ∷ [];
  })

abbrev pub event : List ℕ → List P → Definitions → Option Definitions
event n ps m = do
  qs ← parameters 0 0 m.names ps
  ws ← int_params qs.0
  Some (record m {
    names = called n (entry.Event (length m.events) ws) ∷ m.names;
    events = m.events ++ record { name = n; params = ws; handler = None } ∷ [];
  })

abbrev pub handle : ℕ → ℕ → List ℕ → List P → List S → Definitions → Option Definitions
handle number line n ps body m = do
  y ← event_at (seen n m.names)
  e ← slice_get m.events y.0
  qs ← when (is_none e.handler) (parameters 0 0 m.names ps)
  ws ← int_params qs.0
  b ← when (same ws y.1) (body_of body None qs.1 (record { locals = y.1; forms = m.forms }))
  Some (record m {
    events = slice_set m.events y.0 (record e { handler = Some (length m.handlers) });
    handlers = m.handlers ++ record { event = y.0; locals = b.1.locals; body = b.0.steps; decl = number; line = line } ∷ [];
    forms = b.1.forms;
  })

abbrev pub fun : ℕ → ℕ → Option Ty → List ℕ → List P → List S → Definitions → Option Definitions
fun number line a n ps body m = do
  t ← answer_of a
  qs ← parameters 0 0 m.names ps
  b ← body_of body t qs.1 (record { locals = value_widths qs.0; forms = m.forms })
  given (ends_well t b.0.ending) (record m {
    names = called n (entry.Fun (length m.funs) qs.0 t) ∷ m.names;
    funs = m.funs ++ record {
      name = n;
      arrays = cell_widths qs.0;
      params = length (value_widths qs.0);
      locals = b.1.locals;
      answer = answer_width t;
      body = b.0.steps;
      decl = number;
      line = line;
    } ∷ [];
    forms = b.1.forms;
  })

abbrev pub group : List ℕ → List ℕ → Definitions → Option Definitions
group n members m = given (are_members members) (record m { names = called n (entry.Group members) ∷ m.names })

-- The definitions after declaration `number`, which begins on this line, from those before it.
abbrev pub declaration : ℕ → ℕ → DeclKind → Definitions → Option Definitions
declaration number line (d.Const t n v) m = constant t n v m
declaration number line (d.Global short w n x) m = global w n x m
declaration number line (d.Memop n first second body) m = memop n first second body m
declaration number line (d.Event n ps) m = event n ps m
declaration number line (d.Handle n ps body) m = handle number line n ps body m
declaration number line (d.Fun a n ps body) m = fun number line a n ps body m
declaration number line (d.Group n members) m = group n members m
