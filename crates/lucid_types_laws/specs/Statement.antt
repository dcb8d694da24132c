-- The rules of statements and blocks as a function.
use Rattle.std.specs.Prelude.{ℕ, ◌^◌, List, [], ◌∷◌, Option, None, Some, Bool, true, false, ◌&&◌, not, nat_eq, nat_lt, length, map}
use Rattle.lucid_core.specs.declared.body.Expr.{Expr}
use Rattle.lucid_core.specs.declared.body.Expr.TheVariants as expr
use Rattle.lucid_core.specs.declared.body.Stmt.{Stmt}
use Rattle.lucid_core.specs.declared.body.Stmt.TheVariants as core
use Rattle.lucid_base.specs.Numbers.{all_differ}
use Rattle.lucid_core.specs.Texts.{holes_of}
use Rattle.lucid_core.specs.Typing.{◌>>=◌}
use Rattle.lucid_core.specs.declared.ending.Ending.{Ending}
use Rattle.lucid_core.specs.declared.ending.Ending.TheVariants.{Never, Always}
use Rattle.lucid_core.specs.Endings.{of_either}
use Rattle.lucid_parse_tree.specs.declared.tree.A.{A}
use Rattle.lucid_parse_tree.specs.declared.tree.C.{C, fold-C}
use Rattle.lucid_parse_tree.specs.declared.tree.E.{E}
use Rattle.lucid_parse_tree.specs.declared.tree.No.{No, fold-No}
use Rattle.lucid_parse_tree.specs.declared.tree.No.TheOpen.{No-F, S-F, C-F}
use Rattle.lucid_parse_tree.specs.declared.tree.S.{S, fold-S}
use Rattle.lucid_parse_tree.specs.declared.tree.Ty.{Ty}
use Rattle.lucid_parse_tree.specs.declared.tree.Ty.TheVariants as ty
use Rattle.lucid_parse_tree.specs.declared.tree.V.{V}
use Rattle.lucid_types_spec.specs.declared.body.Body.{Body}
use Rattle.lucid_types_spec.specs.declared.scope.Entry.{Entry}
use Rattle.lucid_types_spec.specs.declared.scope.Entry.TheVariants as entry
use Rattle.lucid_types_spec.specs.declared.scope.ValueType.{ValueType}
use Rattle.lucid_types_spec.specs.declared.scope.ValueType.TheVariants.{Int}
use Rattle.lucid_types_spec.specs.declared.scope.ValueType.TheVariants as vt
use Rattle.lucid_types_spec.specs.Block.{Numbered, before, empty, form_number, is_number, one, one_form, one_local}
use Rattle.lucid_types_spec.specs.Names.{Names, called, seen}
use Rattle.lucid_types_spec.specs.Sends.{sent}
use Rattle.lucid_types_spec.specs.Types.{stated, width_of}
use Rattle.lucid_types_laws.specs.declared.part.Part.{Part}
use Rattle.lucid_types_laws.specs.declared.part.Part.TheVariants.{Does, Guard}
use Rattle.lucid_types_laws.specs.Lead.{or_32}
use Rattle.lucid_types_laws.specs.Partial.{given, when}
use Rattle.lucid_types_laws.specs.Reading as read
use Rattle.lucid_types_laws.specs.Reading.{all_free, core_of, free, is_width, reading, touch_of}
use Rattle.lucid_types_laws.specs.Sending.{sending_of}

-- A statement in its block, and the names, numbered locals and texts after it.
pub record Taken : Type 0 where
  pub part : Part
  pub names : Names
  pub numbered : Numbered

-- The form of a statement, of a block and of the part after the first block of a choice, in a body with this answer.
abbrev pub Taking : Type 0
Taking = Option ValueType → Names → Numbered → Option Taken

abbrev pub Blocking : Type 0
Blocking = Option ValueType → Names → Numbered → Option (Body × Numbered)

abbrev pub Other : Type 0
Other = Option Blocking

-- ---- blocks

abbrev pub goes_on : Ending → Bool
goes_on Never = true
goes_on _ = false

abbrev pub or_empty : Option Body → Body
or_empty None = empty
or_empty (Some b) = b

-- A part before the rest, if there is one. A part that returns on some path is the last.
abbrev pub put : Part → Option Body → Option Body
put (Does d) None = Some d
put (Does d) (Some b) = when (goes_on d.ending) (Some (before d.steps b))
put (Guard c ss) o = Some (one (core.If c ss (or_empty o).steps) (of_either Always (or_empty o).ending))

-- Parts before the rest.
abbrev pub onto : List Part → Option Body → Option (Option Body)
onto [] o = Some o
onto (p ∷ ps) o = do
  rest ← onto ps o
  b ← put p rest
  Some (Some b)

-- The statements of a block, in order.
abbrev pub parts : List Taking → Option ValueType → Names → Numbered → Option (List Part × Numbered)
parts [] a s m = Some ([], m)
parts (f ∷ fs) a s m = do
  x ← f a s m
  rest ← parts fs a x.names x.numbered
  Some (x.part ∷ rest.0, rest.1)

abbrev pub block : List Taking → Blocking
block fs a s m = do
  all ← parts fs a s m
  o ← onto all.0 None
  Some (or_empty o, all.1)

-- ---- statements that declare no name and have no block

abbrev pub type_of : Ty → Option ValueType
type_of (ty.Int w) = given (is_width (stated w)) (Int (stated w))
type_of ty.Bool = Some vt.Bool

abbrev pub stays : Names → Option (Body × Numbered) → Option Taken
stays s o = do
  b ← o
  Some (record { part = Does b.0; names = s; numbered = b.1 })

abbrev pub simple : Names → Numbered → Option Stmt → Option Taken
simple s m o = do
  x ← o
  Some (record { part = Does (one x Never); names = s; numbered = m })

abbrev pub declared : Ty → List ℕ → E → Names → Numbered → Option Taken
declared t n x s m = do
  v ← type_of t
  c ← core_of x s v
  Some (record {
    part = Does (one (core.Assign (length m.locals) c) Never);
    names = called n (entry.Local (length m.locals) v) ∷ s;
    numbered = one_local (width_of v) m;
  })

abbrev pub local_at : Option Entry → Option (ℕ × ValueType)
local_at (Some (entry.Local i t)) = Some (i, t)
local_at _ = None

abbrev pub assigned : List ℕ → E → Names → Option Stmt
assigned n x s = do
  y ← local_at (seen n s)
  c ← core_of x s y.1
  Some (core.Assign y.0 c)

abbrev pub call_dropped : List ℕ → List E → Names → Option Stmt
call_dropped n xs s = do
  y ← read.called n (map reading xs) s
  Some (core.Drop y.1)

abbrev pub touch_dropped : A → Names → Option Stmt
touch_dropped x s = do
  y ← touch_of x s
  Some (core.Drop (expr.Array y.1))

abbrev pub generated : V → Names → Option Stmt
generated x s = do
  g ← sending_of x s
  Some (sent g)

abbrev pub printed : List ℕ → List E → Names → Numbered → Option (Body × Numbered)
printed text xs s m = do
  cs ← all_free (map reading xs) s
  given (nat_eq (length cs) (holes_of text)) (one (core.Say (form_number text m.forms) cs) Never, one_form text m)

abbrev pub returned : Option ValueType → Option E → Names → Numbered → Option (Body × Numbered)
returned None None s m = Some (one (core.Return None) Always, m)
returned (Some t) (Some x) s m = do
  c ← core_of x s t
  Some (one (core.Return (Some c)) Always, m)
returned _ _ s m = None

-- ---- choices

abbrev pub alone : Expr → Body → Ending → Part
alone c b Always = Guard c b.steps
alone c b r = Does (one (core.If c b.steps []) (of_either r Never))

abbrev pub chosen : Expr → Body → Option Body → Part
chosen c b None = alone c b b.ending
chosen c b (Some d) = Does (one (core.If c b.steps d.steps) (of_either b.ending d.ending))

abbrev pub other_of : Other → Option ValueType → Names → Numbered → Option (Option Body × Numbered)
other_of None a s m = Some (None, m)
other_of (Some f) a s m = do
  d ← f a s m
  Some (Some d.0, d.1)

abbrev pub choice_step : C-F Other Taking Taking → Taking
choice_step k a s m = do
  c ← core_of k.test s vt.Bool
  b ← block k.yes a s m
  d ← other_of k.no a s b.1
  Some (record { part = chosen c b.0 d.0; names = s; numbered = d.1 })

abbrev pub other_step : No-F Other Taking Taking → Other
other_step No-F.Absent = None
other_step (No-F.Block fs) = Some (block fs)
other_step (No-F.«No::Cond» f) = Some (block (f ∷ []))

-- ---- matches

abbrev pub last_arm : Option (List Taking) → Blocking
last_arm None a s m = Some (empty, m)
last_arm (Some fs) a s m = block fs a s m

-- The cases on this local of this width.
abbrev pub cases : List (ℕ × List Taking) → Option (List Taking) → ℕ → ℕ → Blocking
cases [] last i w a s m = last_arm last a s m
cases (c ∷ cs) last i w a s m = do
  b ← when (nat_lt c.0 (2 ^ w)) (block c.1 a s m)
  d ← cases cs last i w a s b.1
  Some (one (core.If (is_number i w c.0) b.0.steps d.0.steps) (of_either b.0.ending d.0.ending), d.1)

abbrev pub is_empty : {A : Type 0} → List A → Bool
is_empty [] = true
is_empty (x ∷ xs) = false

-- There is a case, and no number twice.
abbrev pub matched : E → List (ℕ × List Taking) → Option (List Taking) → Blocking
matched x cs last a s m = do
  c ← when (not (is_empty cs) && all_differ (map (λ z. z.0) cs)) (free (reading x) s)
  b ← cases cs last (length m.locals) (or_32 ((reading x).lead s)) a s (one_local (or_32 ((reading x).lead s)) m)
  Some (before (core.Assign (length m.locals) c ∷ []) b.0, b.1)

-- ---- the forms

abbrev pub statement_step : S-F Other Taking Taking → Taking
statement_step (S-F.Declare t n x) a s m = declared t n x s m
statement_step (S-F.Assign n x) a s m = simple s m (assigned n x s)
statement_step (S-F.Call n xs) a s m = simple s m (call_dropped n xs s)
statement_step (S-F.Array x) a s m = simple s m (touch_dropped x s)
statement_step (S-F.«S::Cond» f) a s m = f a s m
statement_step (S-F.Return x) a s m = stays s (returned a x s m)
statement_step (S-F.Generate x) a s m = simple s m (generated x s)
statement_step (S-F.Printf text xs) a s m = stays s (printed text xs s m)
statement_step (S-F.Match x cs last) a s m = stays s (matched x cs last a s m)

abbrev pub taking : S → Taking
taking = fold-S Other Taking Taking other_step statement_step choice_step

abbrev pub choosing : C → Taking
choosing = fold-C Other Taking Taking other_step statement_step choice_step

abbrev pub other : No → Other
other = fold-No Other Taking Taking other_step statement_step choice_step

-- The body of these statements.
abbrev pub body_of : List S → Blocking
body_of xs = block (map taking xs)
