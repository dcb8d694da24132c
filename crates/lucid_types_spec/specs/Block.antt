-- The rules of statements and blocks.
use Rattle.std.specs.Prelude.{◌≡◌, ◌≢◌, ℕ, ◌<◌, ◌^◌, List, [], ◌∷◌, ◌++◌, Option, None, Some, true, if◌then◌else◌, bytes_eq, is_some, length, map, position, unwrap_or}
use Rattle.lucid_base.specs.Bits.{bits_of}
use Rattle.lucid_base.specs.declared.ops.CmpOp.TheVariants.{Eq}
use Rattle.lucid_core.specs.declared.body.Expr.{Expr}
use Rattle.lucid_core.specs.declared.body.Expr.TheVariants as expr
use Rattle.lucid_core.specs.declared.body.Stmt.{Stmt}
use Rattle.lucid_core.specs.declared.body.Stmt.TheVariants as core
use Rattle.lucid_core.specs.declared.body.Touch.{Touch}
use Rattle.lucid_base.specs.Numbers.{all_differ}
use Rattle.lucid_core.specs.Texts.{holes_of}
use Rattle.lucid_core.specs.declared.ending.Ending.{Ending}
use Rattle.lucid_core.specs.declared.ending.Ending.TheVariants.{Never, Always}
use Rattle.lucid_core.specs.Endings.{of_either}
use Rattle.lucid_parse_tree.specs.declared.tree.A.{A}
use Rattle.lucid_parse_tree.specs.declared.tree.C.{C, roll-C}
use Rattle.lucid_parse_tree.specs.declared.tree.E.{E}
use Rattle.lucid_parse_tree.specs.declared.tree.No.{No}
use Rattle.lucid_parse_tree.specs.declared.tree.No.TheVariants as no
use Rattle.lucid_parse_tree.specs.declared.tree.S.{S}
use Rattle.lucid_parse_tree.specs.declared.tree.S.TheVariants as statement
use Rattle.lucid_parse_tree.specs.declared.tree.Ty.{Ty}
use Rattle.lucid_parse_tree.specs.declared.tree.V.{V}
use Rattle.lucid_types_spec.specs.declared.body.Body.{Body}
use Rattle.lucid_types_spec.specs.declared.body.Sending.{Sending}
use Rattle.lucid_types_spec.specs.declared.scope.Entry.TheVariants as entry
use Rattle.lucid_types_spec.specs.declared.scope.ValueType.{ValueType}
use Rattle.lucid_types_spec.specs.declared.scope.ValueType.TheVariants as vt
use Rattle.lucid_types_spec.specs.Names.{Names, called, seen}
use Rattle.lucid_types_spec.specs.Sends.{Sends, sent}
use Rattle.lucid_types_spec.specs.Typed.{Typed, Free, AllFree, Touched, Called}
use Rattle.lucid_types_spec.specs.Types.{Means, width_of}

-- ---- numbered locals and texts

-- The widths of a body's locals so far, and the texts of the program so far. A block's names end with it, these stay.
pub record Numbered : Type 0 where
  pub locals : List ℕ
  pub forms : List (List ℕ)

abbrev pub one_local : ℕ → Numbered → Numbered
one_local w m = record m { locals = m.locals ++ w ∷ [] }

-- Equal texts have one number.
abbrev pub form_number : List ℕ → List (List ℕ) → ℕ
form_number text forms = unwrap_or (position (bytes_eq text) forms) (length forms)

abbrev pub one_form : List ℕ → Numbered → Numbered
one_form text m = record m { forms = if is_some (position (bytes_eq text) m.forms) then m.forms else m.forms ++ text ∷ [] }

-- ---- bodies

abbrev pub empty : Body
empty = record { steps = []; ending = Never }

abbrev pub one : Stmt → Ending → Body
one x r = record { steps = x ∷ []; ending = r }

abbrev pub before : List Stmt → Body → Body
before xs b = record b { steps = xs ++ b.steps }

-- This local of this width equals this number.
abbrev pub is_number : ℕ → ℕ → ℕ → Expr
is_number i w n = expr.Cmp Eq (expr.Local i) (expr.Fixed (bits_of w n))

abbrev pub if_of : E → List S → No → S
if_of test first second = statement.Cond (roll-C (record { test = test; yes = first; no = second }))

-- ---- rules

mutual
  -- In a body with this answer, with these names in scope and these numbered locals and texts, the statement has this core, which returns
  -- on these paths, and these are numbered after it. The value of a call is dropped.
  pub data Statement (a : Option ValueType) : Names → Numbered → S → Body → Numbered → Type 0 where
    assign : (s : Names) (m : Numbered) (n : List ℕ) (i : ℕ) (t : ValueType) (x : E) (c : Expr) →
        seen n s ≡ Some (entry.Local i t) → Typed s t x c → Statement a s m (statement.Assign n x) (one (core.Assign i c) Never) m
    call : (s : Names) (m : Numbered) (n : List ℕ) (xs : List E) (t : Option ValueType) (c : Expr) → Called s n xs t c →
        Statement a s m (statement.Call n xs) (one (core.Drop c) Never) m
    array : (s : Names) (m : Numbered) (x : A) (w : Option ℕ) (c : Touch) → Touched s x w c →
        Statement a s m (statement.Array x) (one (core.Drop (expr.Array c)) Never) m
    generate : (s : Names) (m : Numbered) (x : V) (g : Sending) → Sends s x g →
        Statement a s m (statement.Generate x) (one (sent g) Never) m
    printf : (s : Names) (m : Numbered) (text : List ℕ) (xs : List E) (cs : List Expr) → AllFree s xs cs → length cs ≡ holes_of text →
        Statement a s m (statement.Printf text xs) (one (core.Say (form_number text m.forms) cs) Never) (one_form text m)
    return_nothing : (s : Names) (m : Numbered) → a ≡ None → Statement a s m (statement.Return None) (one (core.Return None) Always) m
    return_value : (s : Names) (m : Numbered) (t : ValueType) (x : E) (c : Expr) → a ≡ Some t → Typed s t x c →
        Statement a s m (statement.Return (Some x)) (one (core.Return (Some c)) Always) m
    choose : (s : Names) (m : Numbered) (x : E) (ys : List S) (other : No) (c : Expr) (b d : Body) (k : Numbered) →
        Typed s vt.Bool x c → Branches a s m ys other b d k →
        Statement a s m (if_of x ys other) (one (core.If c b.steps d.steps) (of_either b.ending d.ending)) k
    -- the test is assigned to a local of its own, which has no name
    matched : (s : Names) (m : Numbered) (x : E) (w : ℕ) (c : Expr) (y : ℕ × List S) (ys : List (ℕ × List S)) (last : Option (List S))
        (b : Body) (k : Numbered) → Free s x w c → all_differ (map (λ z. z.0) (y ∷ ys)) ≡ true →
        Cases a s (one_local w m) (length m.locals) w (y ∷ ys) last b k →
        Statement a s m (statement.Match x (y ∷ ys) last) (before (core.Assign (length m.locals) c ∷ []) b) k

  -- The same of the statements of a block. A name is visible after its declaration only, and to the end of the block.
  pub data Block (a : Option ValueType) : Names → Numbered → List S → Body → Numbered → Type 0 where
    end : (s : Names) (m : Numbered) → Block a s m [] empty m
    declare : (s : Names) (m : Numbered) (t : Ty) (v : ValueType) (n : List ℕ) (x : E) (c : Expr) (xs : List S) (b : Body) (k : Numbered) →
        Means t v → Typed s v x c → Block a (called n (entry.Local (length m.locals) v) ∷ s) (one_local (width_of v) m) xs b k →
        Block a s m (statement.Declare t n x ∷ xs) (before (core.Assign (length m.locals) c ∷ []) b) k
    goes_on : (s : Names) (m : Numbered) (x : S) (d : Body) (l : Numbered) (xs : List S) (b : Body) (k : Numbered) →
        Statement a s m x d l → d.ending ≡ Never → Block a s l xs b k → Block a s m (x ∷ xs) (before d.steps b) k
    -- a statement that returns on some path is the last of its block
    stops : (s : Names) (m : Numbered) (x : S) (d : Body) (k : Numbered) → Statement a s m x d k → d.ending ≢ Never →
        Block a s m (x ∷ []) d k
    -- `if (c) {A} rest`, where A always returns, means `if (c) {A} else {rest}`
    guards : (s : Names) (m : Numbered) (x : E) (c : Expr) (ys : List S) (d : Body) (l : Numbered) (xs : List S) (b : Body) (k : Numbered) →
        Typed s vt.Bool x c → Block a s m ys d l → d.ending ≡ Always → Block a s l xs b k →
        Block a s m (if_of x ys no.Absent ∷ xs) (one (core.If c d.steps b.steps) (of_either d.ending b.ending)) k

  -- The two branches of any other if; one that is absent is empty.
  pub data Branches (a : Option ValueType) : Names → Numbered → List S → No → Body → Body → Numbered → Type 0 where
    alone : (s : Names) (m : Numbered) (ys : List S) (b : Body) (k : Numbered) → Block a s m ys b k → b.ending ≢ Always →
        Branches a s m ys no.Absent b empty k
    block : (s : Names) (m : Numbered) (ys : List S) (b : Body) (l : Numbered) (zs : List S) (d : Body) (k : Numbered) →
        Block a s m ys b l → Block a s l zs d k → Branches a s m ys (no.Block zs) b d k
    chain : (s : Names) (m : Numbered) (ys : List S) (b : Body) (l : Numbered) (z : C) (d : Body) (k : Numbered) →
        Block a s m ys b l → Block a s l (statement.Cond z ∷ []) d k → Branches a s m ys (no.Cond z) b d k

  -- The cases of a match on this local of this width: a choice each, whose second branch is all that follows. A missing last arm is empty.
  pub data Cases (a : Option ValueType) :
      Names → Numbered → ℕ → ℕ → List (ℕ × List S) → Option (List S) → Body → Numbered → Type 0 where
    no_last : (s : Names) (m : Numbered) (i w : ℕ) → Cases a s m i w [] None empty m
    last_arm : (s : Names) (m : Numbered) (i w : ℕ) (zs : List S) (b : Body) (k : Numbered) → Block a s m zs b k →
        Cases a s m i w [] (Some zs) b k
    next : (s : Names) (m : Numbered) (i w n : ℕ) (ys : List S) (b : Body) (l : Numbered) (cases : List (ℕ × List S))
        (last : Option (List S)) (d : Body) (k : Numbered) → n < 2 ^ w → Block a s m ys b l → Cases a s l i w cases last d k →
        Cases a s m i w ((n, ys) ∷ cases) last (one (core.If (is_number i w n) b.steps d.steps) (of_either b.ending d.ending)) k
