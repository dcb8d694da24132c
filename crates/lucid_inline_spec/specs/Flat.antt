-- The flat form of a program: each call of a function is replaced by its body, and each group by its members. The locals that this adds
-- get the next numbers of the handler, in the order of evaluation.
use Rattle.std.specs.Prelude.{ℕ, zero, suc, ◌+◌, if◌then◌else◌, is_some, option_to_list, unwrap_or, List, [], ◌∷◌, ◌++◌, Option, None, Some, Bool}
use Rattle.std.specs.Prelude.{true, false, length, map, fold, slice_get}
use Rattle.std.specs.List.{enumerate_from}
use Rattle.lucid_base.specs.Bits.{bits_of}
use Rattle.lucid_base.specs.declared.array.ArrayName.TheVariants.{Global}
use Rattle.lucid_core.specs.declared.body.Expr.{Expr}
use Rattle.lucid_core.specs.declared.body.Stmt.{Stmt}
use Rattle.lucid_core.specs.declared.body.Touch.{Touch}
use Rattle.lucid_core.specs.declared.body.Expr.TheOpen.{Expr-F, Stmt-F, Touch-F}
use Rattle.lucid_core.specs.declared.body.Expr.TheFolds.{fold-Expr, fold-Stmt, fold-Touch}
use Rattle.lucid_core.specs.declared.body.Expr.TheViews.{roll-Expr, roll-Stmt, roll-Touch}
use Rattle.lucid_core.specs.declared.defs.FunDef.{FunDef}
use Rattle.lucid_core.specs.declared.defs.HandlerDef.{HandlerDef}
use Rattle.lucid_core.specs.Computations.{array_of}
use Rattle.lucid_core.specs.ExamplePrograms.{local}
use Rattle.lucid_core.specs.Parts.{CoreParts}
use Rattle.lucid_core.specs.Width.{expr_width}

-- The flat form of a part, and the widths of the handler's locals after it.
pub record Flattened (A : Type 0) : Type 0 where
  pub value : A
  pub locals : List ℕ

-- The flat form of a function's body, given the arrays passed for its array parameters, and the widths of the handler's locals so far.
abbrev pub PutIn : Type 0
PutIn = List ℕ → List ℕ → Flattened (List Stmt)

-- The position of an inlined body: the arrays passed for its array parameters, the number of its first local, and the functions before
-- it.
pub record Site : Type 0 where
  pub arrays : List ℕ
  pub first : ℕ
  pub funs : List PutIn

-- The flat form of a part at a site, after these locals.
abbrev pub Flatten : Type 0 → Type 0
Flatten A = Site → List ℕ → Flattened A

abbrev pub done : {A : Type 0} → A → Flatten A
done x = λ p ws. record { value = x; locals = ws }

infixl 10 ◌>>=◌
abbrev pub ◌>>=◌ : {A B : Type 0} → Flatten A → (A → Flatten B) → Flatten B
t >>= f = λ p ws. let first = t p ws in f first.value p first.locals

-- From left to right.
abbrev pub each : {A : Type 0} → List (Flatten A) → Flatten (List A)
each [] = done []
each (t ∷ ts) = do x ← t; xs ← each ts; done (x ∷ xs)

abbrev pub block : List (Flatten (List Stmt)) → Flatten (List Stmt)
block [] = done []
block (t ∷ ts) = do ss ← t; rest ← block ts; done (ss ++ rest)

abbrev pub optional : {A : Type 0} → Option (Flatten A) → Flatten (Option A)
optional None = done None
optional (Some t) = do x ← t; done (Some x)

-- Both, the first one first where the test holds.
abbrev pub both : {A B : Type 0} → Bool → Flatten A → Flatten B → Flatten (A × B)
both true t u = do x ← t; y ← u; done (x, y)
both false t u = do y ← u; x ← t; done (x, y)

-- A call of this function, with these arrays and arguments: its locals get the next numbers, and the first of them hold the arguments.
abbrev pub put_in : Option PutIn → List ℕ → List Expr → List ℕ → Flattened (Expr-F Expr Stmt Touch)
put_in None arrays args ws = record { value = Expr-F.Inlined (enumerate_from (length ws) args) []; locals = ws }
put_in (Some f) arrays args ws =
    let body = f arrays ws in record { value = Expr-F.Inlined (enumerate_from (length ws) args) body.value; locals = body.locals }

-- A core has no inlined call.
abbrev pub expr_node : Expr-F (Flatten Expr) (Flatten (List Stmt)) (Flatten Touch) → Flatten (Expr-F Expr Stmt Touch)
expr_node (Expr-F.Fixed n) = done (Expr-F.Fixed n)
expr_node (Expr-F.Local i) = λ p. done (Expr-F.Local (p.first + i)) p
expr_node Expr-F.Now = done Expr-F.Now
expr_node Expr-F.Me = done Expr-F.Me
expr_node (Expr-F.Un op x) = do a ← x; done (Expr-F.Un op a)
expr_node (Expr-F.Bin op x y) = do a ← x; b ← y; done (Expr-F.Bin op a b)
expr_node (Expr-F.Cmp op x y) = do a ← x; b ← y; done (Expr-F.Cmp op a b)
expr_node (Expr-F.Cast w x) = do a ← x; done (Expr-F.Cast w a)
expr_node (Expr-F.Hash w xs) = do args ← each xs; done (Expr-F.Hash w args)
expr_node (Expr-F.Array t) = do a ← t; done (Expr-F.Array a)
expr_node (Expr-F.Fun k names xs) = do args ← each xs; λ p ws. put_in (slice_get p.funs k) (map (array_of p.arrays) names) args ws
expr_node (Expr-F.Inlined given ss) = done (Expr-F.Inlined [] [])

-- An array parameter becomes the array passed for it.
abbrev pub touch_node : Touch-F (Flatten Expr) (Flatten (List Stmt)) (Flatten Touch) → Flatten (Touch-F Expr Stmt Touch)
touch_node t = do
  i ← t.index
  g ← t.get_arg
  v ← t.set_arg
  λ p. done (record {
    array = Global (array_of p.arrays t.array);
    index = i;
    get = t.get;
    get_arg = g;
    set = t.set;
    set_arg = v;
    answers = t.answers;
  }) p

-- The width of the value of a part, if the handler has these locals. In a valid program it has one.
abbrev pub width_in : List ℕ → Expr → ℕ
width_in ws x = unwrap_or (expr_width x ws []) 32

-- This many locals, from b on.
abbrev pub locals_from : ℕ → ℕ → List Expr
locals_from b zero = []
locals_from b (suc n) = local b ∷ locals_from (b + 1) n

-- An event to one member of a group, whose n arguments and delay are held by the locals from b on.
abbrev pub to_member : ℕ → ℕ → ℕ → Bool → ℕ → Stmt-F Expr Stmt Touch
to_member event b n delayed member =
    let delay = if delayed then Some (local (b + n)) else None in
    Stmt-F.Gen event (locals_from b n) delay (Some (roll-Expr (Expr-F.Fixed (bits_of 32 member)))) false

-- A group takes all its calls, and then numbers the locals that hold its arguments and its delay.
abbrev pub stmt_node : Stmt-F (Flatten Expr) (Flatten (List Stmt)) (Flatten Touch) → Flatten (List (Stmt-F Expr Stmt Touch))
stmt_node (Stmt-F.Assign i x) = do a ← x; λ p. done (Stmt-F.Assign (p.first + i) a ∷ []) p
stmt_node (Stmt-F.Drop x) = do a ← x; done (Stmt-F.Drop a ∷ [])
stmt_node (Stmt-F.If x ss ts) = do a ← x; us ← block ss; vs ← block ts; done (Stmt-F.If a us vs ∷ [])
stmt_node (Stmt-F.Gen event xs delay to delay_first) = do
  args ← each xs
  given ← both delay_first (optional delay) (optional to)
  done (Stmt-F.Gen event args given.0 given.1 delay_first ∷ [])
stmt_node (Stmt-F.Multi event xs delay members) = do
  held ← each (xs ++ option_to_list delay)
  λ p ws. record {
    value = map (λ g. Stmt-F.Assign g.0 g.1) (enumerate_from (length ws) held)
        ++ map (to_member event (length ws) (length xs) (is_some delay)) members;
    locals = ws ++ map (width_in ws) held;
  }
stmt_node (Stmt-F.Say form xs) = do args ← each xs; done (Stmt-F.Say form args ∷ [])
stmt_node (Stmt-F.Return None) = done (Stmt-F.Return None ∷ [])
stmt_node (Stmt-F.Return (Some x)) = do a ← x; done (Stmt-F.Return (Some a) ∷ [])

abbrev pub expr_step : Expr-F (Flatten Expr) (Flatten (List Stmt)) (Flatten Touch) → Flatten Expr
expr_step y = do x ← expr_node y; done (roll-Expr x)

abbrev pub touch_step : Touch-F (Flatten Expr) (Flatten (List Stmt)) (Flatten Touch) → Flatten Touch
touch_step y = do x ← touch_node y; done (roll-Touch x)

abbrev pub stmt_step : Stmt-F (Flatten Expr) (Flatten (List Stmt)) (Flatten Touch) → Flatten (List Stmt)
stmt_step y = do xs ← stmt_node y; done (map roll-Stmt xs)

abbrev pub flat_expr : Expr → Flatten Expr
flat_expr = fold-Expr (Flatten Expr) (Flatten (List Stmt)) (Flatten Touch) expr_step stmt_step touch_step

abbrev pub flat_stmt : Stmt → Flatten (List Stmt)
flat_stmt = fold-Stmt (Flatten Expr) (Flatten (List Stmt)) (Flatten Touch) expr_step stmt_step touch_step

abbrev pub flat_touch : Touch → Flatten Touch
flat_touch = fold-Touch (Flatten Expr) (Flatten (List Stmt)) (Flatten Touch) expr_step stmt_step touch_step

-- A function, behind the functions before it: its local i gets the number of the handler's locals so far, plus i.
abbrev pub put_of : List PutIn → FunDef → PutIn
put_of before f = λ arrays ws. block (map flat_stmt f.body) (record { arrays = arrays; first = length ws; funs = before }) (ws ++ f.locals)

-- Functions, in the order of their declarations.
abbrev pub puts_of : List FunDef → List PutIn
puts_of fs = fold (λ before f. before ++ put_of before f ∷ []) [] fs

abbrev pub flat_body : List FunDef → HandlerDef → Flattened (List Stmt)
flat_body funs h = block (map flat_stmt h.body) (record { arrays = []; first = 0; funs = puts_of funs }) h.locals

abbrev pub flat_handler : List FunDef → HandlerDef → HandlerDef
flat_handler funs h = let made = flat_body funs h in record h { locals = made.locals; body = made.value }

-- The flat form of a program.
abbrev pub flat_of : CoreParts → CoreParts
flat_of core = record core { funs = []; handlers = map (flat_handler core.funs) core.handlers }
