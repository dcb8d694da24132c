-- The flat form has the length that is counted over the core.
use Rattle.std.proofs.Common.{◌≡◌, ◌⊎◌, inl, inr, ℕ, zero, suc, ◌+◌, ◌-◌, ◌*◌, ◌<◌, ◌≤◌, List, [], ◌∷◌, ◌++◌, Bool, true, false, ◌&&◌, ◌||◌, if◌then◌else◌, Option, None, Some, length, map, refl, sym, ap, ap₂, subst, ◌∙◌, arith, length-append, nat_eq, nat_lt, slice_get, slice_index, option_map, option_to_list}
use Rattle.std.specs.List.{enumerate_from}
use Rattle.std.specs.Option.{option_map_or}
use Rattle.std.proofs.lemmas.Bool.{and_parts, cases_lt, lt-ltb, le-ltb, ltb-true, eqb-true, eq-eqb, ne_eqb, cases_eq, and_right}
use Rattle.std.proofs.lemmas.List.{length-map, map-append}
use Rattle.lucid_base.specs.Bits.{bits_of}
use Rattle.lucid_core.specs.declared.body.Expr.{Expr}
use Rattle.lucid_core.specs.declared.body.Stmt.{Stmt}
use Rattle.lucid_core.specs.declared.body.Touch.{Touch}
use Rattle.lucid_core.specs.declared.body.Expr.TheOpen.{Expr-F, Stmt-F, Touch-F}
use Rattle.lucid_core.specs.declared.body.Expr.TheViews.{roll-Expr, roll-Stmt, roll-Touch}
use Rattle.lucid_core.specs.declared.body.Expr.TheFolds.{fold-roll-Expr, fold-roll-Stmt, fold-roll-Touch, map-Expr, map-Stmt, map-Touch}
use Rattle.lucid_core.specs.Computations.{array_of}
use Rattle.lucid_core.specs.ExamplePrograms.{local}
use Rattle.lucid_base.specs.Numbers.{is_in}
use Rattle.lucid_core.proofs.Fine.{both_pass}
use Rattle.lucid_inline_spec.specs.Flat as f
use Rattle.lucid_inline_spec.specs.Flat.{Flatten, Flattened, Site, PutIn, flat_expr, flat_stmt, flat_touch}
use Rattle.lucid_core.specs.Length as l
use Rattle.lucid_core.specs.Length.{Around, Measure, Piece, total_ops, with_held, block_ops, any_changes, any_returns, any_value, count_below, expr_measure, stmt_piece, touch_measure, joins}
use Rattle.lucid_core.proofs.Induction.{Cases, body_by, opened3}
use Rattle.lucid_inline_spec.proofs.Fit as r
use Rattle.lucid_inline_spec.proofs.Fit.{Fit, expr_fit, stmt_fit, touch_fit}
use Rattle.lucid_inline_spec.proofs.Grows.{AllGrow, put_grows, expr_grows, exprs_grow, stmt_grows, stmts_grow}
use Rattle.lucid_inline_spec.proofs.Locals.{begins_length}

-- Counting numbers that pass.
count_none : (m : ℕ) (g : ℕ → Bool) → ((k : ℕ) → k < m → g k ≡ false) → count_below m g ≡ 0
count_none zero g h = refl
count_none (suc m) g h =
    let rest = count_none m g (λ k l. h k (omega arith)) in
    ap₂ (λ (a : ℕ) (b : Bool). a + (if b then 1 else 0)) rest (h m (omega arith)) ∙ (let z : 0 + 0 ≡ 0 = omega arith in z)

count_up : (b n : ℕ) (f g : ℕ → Bool) → ((k : ℕ) → k < b → g k ≡ false) → ((i : ℕ) → i < n → g (b + i) ≡ f i) → count_below (b + n) g ≡ count_below n f
count_up b zero f g none same = let e : b + 0 ≡ b = omega arith in ap (λ (m : ℕ). count_below m g) e ∙ count_none b g none
count_up b (suc n) f g none same =
    let e : b + suc n ≡ suc (b + n) = omega arith in
    ap (λ (m : ℕ). count_below m g) e ∙ ap₂ (λ (a : ℕ) (t : Bool). a + (if t then 1 else 0)) (count_up b n f g none (λ i h. same i (omega arith))) (same n (omega arith))

count_more : (m d : ℕ) (g : ℕ → Bool) → ((k : ℕ) → m ≤ k → k < m + d → g k ≡ false) → count_below (m + d) g ≡ count_below m g
count_more m zero g h = let e : m + 0 ≡ m = omega arith in ap (λ (k : ℕ). count_below k g) e
count_more m (suc d) g h =
    let e : m + suc d ≡ suc (m + d) = omega arith in
    ap (λ (k : ℕ). count_below k g) e ∙ ap₂ (λ (a : ℕ) (t : Bool). a + (if t then 1 else 0)) (count_more m d g (λ k a b. h k a (omega arith))) (h (m + d) (omega arith) (omega arith))
    ∙ (let z : count_below m g + 0 ≡ count_below m g = omega arith in z)

count_shift : (b n m : ℕ) (f g : ℕ → Bool) → b + n ≤ m → ((i : ℕ) → i < n → g (b + i) ≡ f i) → ((k : ℕ) → k < m → (k < b) ⊎ (b + n ≤ k) → g k ≡ false) → count_below m g ≡ count_below n f
count_shift b n m f g h same none =
    let e : (b + n) + (m - (b + n)) ≡ m = omega arith in
    ap (λ (k : ℕ). count_below k g) (sym e) ∙ count_more (b + n) (m - (b + n)) g (λ k a c. none k (omega arith) (inr a)) ∙ count_up b n f g (λ k a. none k (omega arith) (inl a)) same

-- The context of the parts after these.
abbrev pub after_all : List Piece → Around → Around
after_all [] a = a
after_all (x ∷ xs) a = after_all xs (with_held a x.sets)

block_ops-append : (xs ys : List Piece) (a : Around) → block_ops (xs ++ ys) a ≡ block_ops xs a + block_ops ys (after_all xs a)
block_ops-append [] ys a = let z : 0 + block_ops ys a ≡ block_ops ys a = omega arith in sym z
block_ops-append (x ∷ xs) ys a = let e = block_ops-append xs ys (with_held a x.sets) in omega arith

after_all-append : (xs ys : List Piece) (a : Around) → after_all (xs ++ ys) a ≡ after_all ys (after_all xs a)
after_all-append [] ys a = refl
after_all-append (x ∷ xs) ys a = after_all-append xs ys (with_held a x.sets)

or-assoc : (x y z : Bool) → ((x || y) || z) ≡ (x || (y || z))
or-assoc true y z = refl
or-assoc false y z = refl

or_false : (x : Bool) → (x || false) ≡ x
or_false true = refl
or_false false = refl

changes-append : (xs ys : List Piece) (k : ℕ) → any_changes (xs ++ ys) k ≡ (any_changes xs k || any_changes ys k)
changes-append [] ys k = refl
changes-append (x ∷ xs) ys k = ap (λ (b : Bool). x.changes k || b) (changes-append xs ys k) ∙ sym (or-assoc (x.changes k) (any_changes xs k) (any_changes ys k))

returns-append : (xs ys : List Piece) → any_returns (xs ++ ys) ≡ (any_returns xs || any_returns ys)
returns-append [] ys = refl
returns-append (x ∷ xs) ys = ap (λ (b : Bool). x.returns || b) (returns-append xs ys) ∙ sym (or-assoc x.returns (any_returns xs) (any_returns ys))

value-append : (xs ys : List Piece) → any_value (xs ++ ys) ≡ (any_value xs || any_value ys)
value-append [] ys = refl
value-append (x ∷ xs) ys = ap (λ (b : Bool). x.value || b) (value-append xs ys) ∙ sym (or-assoc x.value (any_value xs) (any_value ys))

abbrev pub pieces : List Stmt → List Piece
pieces ss = map stmt_piece ss

-- The arguments of an `Inlined`.
args_alone : (b : ℕ) (xs : List Expr) → map (λ (g : ℕ × Measure). g.1) (map (λ (g : ℕ × Expr). (g.0, expr_measure g.1)) (enumerate_from b xs)) ≡ map expr_measure xs
args_alone b [] = refl
args_alone b (x ∷ xs) = ap (λ (ms : List Measure). expr_measure x ∷ ms) (args_alone (b + 1) xs)

abbrev params_of : ℕ → List Expr → List ℕ
params_of b xs = map (λ (g : ℕ × Measure). g.0) (map (λ (g : ℕ × Expr). (g.0, expr_measure g.1)) (enumerate_from b xs))

given_past : (xs : List Expr) (b k : ℕ) → b + length xs ≤ k → is_in k (params_of b xs) ≡ false
given_past [] b k h = refl
given_past (x ∷ xs) b k h = ap (λ (t : Bool). t || is_in k (params_of (b + 1) xs)) (ne_eqb b k (λ q. absurd (omega arith))) ∙ given_past xs (b + 1) k (omega arith)

given_in : (xs : List Expr) (b i : ℕ) → i < length xs → is_in (b + i) (params_of b xs) ≡ true
given_in [] b i h = absurd (omega arith)
given_in (x ∷ xs) b zero h = let e : b + 0 ≡ b = omega arith in ap (λ (t : Bool). t || is_in (b + 0) (params_of (b + 1) xs)) (eq-eqb b (b + 0) (sym e))
given_in (x ∷ xs) b (suc i) h =
    let e : b + suc i ≡ (b + 1) + i = omega arith in
    ap (λ (t : Bool). t || is_in (b + suc i) (params_of (b + 1) xs)) (ne_eqb b (b + suc i) (λ q. absurd (omega arith))) ∙ ap (λ (n : ℕ). is_in n (params_of (b + 1) xs)) e ∙ given_in xs (b + 1) i (omega arith)

given_there : (xs : List Expr) (b i : ℕ) → is_in (b + i) (params_of b xs) ≡ nat_lt i (length xs)
given_there xs b i = either (cases_lt i (length xs))
  where
    either : (i < length xs) ⊎ (length xs ≤ i) → is_in (b + i) (params_of b xs) ≡ nat_lt i (length xs)
    either (inl h) = given_in xs b i h ∙ sym (lt-ltb i (length xs) h)
    either (inr h) = given_past xs b (b + i) (omega arith) ∙ sym (le-ltb i (length xs) h)

-- A body of n locals from `first` on, among N: its context in the core and in the flat core.
pub record Near (N first n : ℕ) (counts : List ℕ) (next top : ℕ) (a b : Around) : Type 0 where
  pub funs : a.funs ≡ counts
  pub locals : a.locals ≡ n
  pub all_locals : b.locals ≡ N
  pub own : (i : ℕ) → i < n → b.held (first + i) ≡ a.held i
  pub rest : (k : ℕ) → next ≤ k → k < top → b.held k ≡ false

-- A function's inlined body has the function's length.
pub record Counts (N count arity : ℕ) (put : PutIn) : Type 0 where
  pub own : ℕ
  pub room : arity ≤ own
  pub ops : (arrays ws : List ℕ) (top : ℕ) → length (put arrays ws).locals ≤ top → length (put arrays ws).locals ≤ N → (b : Around) → b.locals ≡ N →
      ((i : ℕ) → i < own → b.held (length ws + i) ≡ nat_lt i arity) → ((k : ℕ) → length ws + own ≤ k → k < top → b.held k ≡ false) → block_ops (pieces (put arrays ws).value) b ≡ count
  pub above : (arrays ws : List ℕ) → length ws + own ≤ length (put arrays ws).locals

abbrev pub AllCounts : ℕ → List ℕ → List ℕ → List PutIn → Type 0
AllCounts N [] [] [] = Unit {0}
AllCounts N (c ∷ cs) (r ∷ rs) (put ∷ puts) = Counts N c r put × AllCounts N cs rs puts
AllCounts N _ _ _ = ⊥

module _ (N : ℕ) (p : Site) (counts rooms : List ℕ) (all : AllCounts N counts rooms p.funs) (grow : AllGrow p.funs) (n : ℕ) where
  abbrev NearHere : ℕ → ℕ → Around → Around → Type 0
  NearHere next top a b = Near N p.first n counts next top a b

  near_later : (next more top : ℕ) (a b : Around) → next ≤ more → NearHere next top a b → NearHere more top a b
  near_later next more top a b h near = record { funs = near.funs; locals = near.locals; all_locals = near.all_locals; own = near.own; rest = λ k l u. near.rest k (omega arith) u }

  -- A part that becomes expressions.
  pub record Long {A : Type 0} (t : Flatten A) (flat : A → Around → ℕ) (core : Around → ℕ) (fit : Bool) : Type 0 where
    pub ops : fit ≡ true → (ws : List ℕ) → p.first + n ≤ length ws → (top : ℕ) → length (t p ws).locals ≤ top → length (t p ws).locals ≤ N → (a b : Around) → NearHere (length ws) top a b →
        flat (t p ws).value b ≡ core a

  abbrev Outside : ℕ → Type 0
  Outside k = (k < p.first) ⊎ (p.first + n ≤ k)

  -- A part that becomes statements.
  pub record Pieces {A : Type 0} (t : Flatten A) (flat : A → List Piece) (core : Piece) (fit : Bool) : Type 0 where
    pub ops : fit ≡ true → (ws : List ℕ) → p.first + n ≤ length ws → (top : ℕ) → length (t p ws).locals ≤ top → length (t p ws).locals ≤ N → (a b : Around) → NearHere (length ws) top a b →
        block_ops (flat (t p ws).value) b ≡ core.ops a
    pub after : fit ≡ true → (ws : List ℕ) → p.first + n ≤ length ws → (top : ℕ) → length (t p ws).locals ≤ top → (a b : Around) → NearHere (length ws) top a b →
        NearHere (length (t p ws).locals) top (with_held a core.sets) (after_all (flat (t p ws).value) b)
    pub changes : fit ≡ true → (ws : List ℕ) (i : ℕ) → p.first + n ≤ length ws → i < n → any_changes (flat (t p ws).value) (p.first + i) ≡ core.changes i
    pub no_changes : fit ≡ true → (ws : List ℕ) (k : ℕ) → p.first + n ≤ length ws → Outside k → (k < length ws) ⊎ (length (t p ws).locals ≤ k) → any_changes (flat (t p ws).value) k ≡ false
    pub returns : (ws : List ℕ) → any_returns (flat (t p ws).value) ≡ core.returns
    pub value : (ws : List ℕ) → any_value (flat (t p ws).value) ≡ core.value

  -- An expression, which as a condition needs a move exactly where it did.
  pub record ExprLong (t : Flatten Expr) (core : Measure) (fit : Bool) : Type 0 where
    pub ops : fit ≡ true → (ws : List ℕ) → p.first + n ≤ length ws → (top : ℕ) → length (t p ws).locals ≤ top → length (t p ws).locals ≤ N → (a b : Around) → NearHere (length ws) top a b →
        (expr_measure (t p ws).value).ops b ≡ core.ops a
    pub needs_move : (ws : List ℕ) → (expr_measure (t p ws).value).needs_move ≡ core.needs_move

  abbrev pub E : Type 0
  E = (e : Expr) × ExprLong (flat_expr e) (expr_measure e) (expr_fit e n rooms)

  abbrev pub S : Type 0
  S = (e : Stmt) × Pieces (flat_stmt e) pieces (stmt_piece e) (stmt_fit e n rooms)

  abbrev exprs : List E → List Expr
  exprs es = map (λ (e : E). e.0) es

  abbrev stmts : List S → List Stmt
  stmts es = map (λ (e : S). e.0) es

  these : (es : List E) → r.each (map expr_fit (exprs es)) n rooms ≡ true → (ws : List ℕ) → p.first + n ≤ length ws → (top : ℕ) → length (f.each (map flat_expr (exprs es)) p ws).locals ≤ top →
      length (f.each (map flat_expr (exprs es)) p ws).locals ≤ N → (a b : Around) → NearHere (length ws) top a b →
      total_ops (map expr_measure (f.each (map flat_expr (exprs es)) p ws).value) b ≡ total_ops (map expr_measure (exprs es)) a
  these [] fit ws bound top under within a b near = refl
  these (e ∷ es) fit ws bound top under within a b near =
      let fits = and_parts _ _ fit in
      let first = flat_expr e.0 p ws in
      let second = f.each (map flat_expr (exprs es)) p first.locals in
      let l1 = begins_length ws first.locals (expr_grows e.0 p grow ws) in
      let l2 = begins_length first.locals second.locals (exprs_grow (exprs es) p grow first.locals) in
      ap₂ (λ (x y : ℕ). x + y) (e.1.ops fits.0 ws bound top (omega arith) (omega arith) a b near)
      (these es fits.1 first.locals (omega arith) top under within a b (near_later (length ws) (length first.locals) top a b l1 near))

  block_piece : List Stmt → Around → ℕ
  block_piece ss = block_ops (pieces ss)

  -- A block; its assignments don't matter to its context.
  those : (es : List S) → r.each (map stmt_fit (stmts es)) n rooms ≡ true → (ws : List ℕ) → p.first + n ≤ length ws → (top : ℕ) → length (f.block (map flat_stmt (stmts es)) p ws).locals ≤ top →
      length (f.block (map flat_stmt (stmts es)) p ws).locals ≤ N → (a b : Around) → NearHere (length ws) top a b →
      block_ops (pieces (f.block (map flat_stmt (stmts es)) p ws).value) b ≡ block_ops (pieces (stmts es)) a
  those [] fit ws bound top under within a b near = refl
  those (e ∷ es) fit ws bound top under within a b near =
      let fits = and_parts _ _ fit in
      let first = flat_stmt e.0 p ws in
      let second = f.block (map flat_stmt (stmts es)) p first.locals in
      let l1 = begins_length ws first.locals (stmt_grows e.0 p grow ws) in
      let l2 = begins_length first.locals second.locals (stmts_grow (stmts es) p grow first.locals) in
      ap (λ (xs : List Piece). block_ops xs b) (map-append stmt_piece first.value second.value) ∙ block_ops-append (pieces first.value) (pieces second.value) b
      ∙ ap₂ (λ (x y : ℕ). x + y) (e.1.ops fits.0 ws bound top (omega arith) (omega arith) a b near)
      (those es fits.1 first.locals (omega arith) top under within (with_held a (stmt_piece e.0).sets) (after_all (pieces first.value) b) (e.1.after fits.0 ws bound top (omega arith) a b near))

  those_change : (es : List S) → r.each (map stmt_fit (stmts es)) n rooms ≡ true → (ws : List ℕ) (i : ℕ) → p.first + n ≤ length ws → i < n →
      any_changes (pieces (f.block (map flat_stmt (stmts es)) p ws).value) (p.first + i) ≡ any_changes (pieces (stmts es)) i
  those_change [] fit ws i bound h = refl
  those_change (e ∷ es) fit ws i bound h =
      let fits = and_parts _ _ fit in
      let first = flat_stmt e.0 p ws in
      let second = f.block (map flat_stmt (stmts es)) p first.locals in
      let l1 = begins_length ws first.locals (stmt_grows e.0 p grow ws) in
      ap (λ (xs : List Piece). any_changes xs (p.first + i)) (map-append stmt_piece first.value second.value) ∙ changes-append (pieces first.value) (pieces second.value) (p.first + i)
      ∙ ap₂ (λ (x y : Bool). x || y) (e.1.changes fits.0 ws i bound h) (those_change es fits.1 first.locals i (omega arith) h)

  those_leave : (es : List S) → r.each (map stmt_fit (stmts es)) n rooms ≡ true → (ws : List ℕ) (k : ℕ) → p.first + n ≤ length ws → Outside k →
      (k < length ws) ⊎ (length (f.block (map flat_stmt (stmts es)) p ws).locals ≤ k) → any_changes (pieces (f.block (map flat_stmt (stmts es)) p ws).value) k ≡ false
  those_leave [] fit ws k bound out side = refl
  those_leave (e ∷ es) fit ws k bound out side =
      let fits = and_parts _ _ fit in
      let first = flat_stmt e.0 p ws in
      let second = f.block (map flat_stmt (stmts es)) p first.locals in
      let l1 = begins_length ws first.locals (stmt_grows e.0 p grow ws) in
      let l2 = begins_length first.locals second.locals (stmts_grow (stmts es) p grow first.locals) in
      ap (λ (xs : List Piece). any_changes xs k) (map-append stmt_piece first.value second.value) ∙ changes-append (pieces first.value) (pieces second.value) k
      ∙ ap₂ (λ (x y : Bool). x || y) (e.1.no_changes fits.0 ws k bound out (to_first l2 side)) (those_leave es fits.1 first.locals k (omega arith) out (to_second l1 side))
    where
      to_first : {c d w : ℕ} → c ≤ d → (k < w) ⊎ (d ≤ k) → (k < w) ⊎ (c ≤ k)
      to_first h (inl x) = inl x
      to_first h (inr x) = inr (omega arith)

      to_second : {c d w : ℕ} → w ≤ c → (k < w) ⊎ (d ≤ k) → (k < c) ⊎ (d ≤ k)
      to_second h (inl x) = inl (omega arith)
      to_second h (inr x) = inr x

  those_return : (es : List S) (ws : List ℕ) → any_returns (pieces (f.block (map flat_stmt (stmts es)) p ws).value) ≡ any_returns (pieces (stmts es))
  those_return [] ws = refl
  those_return (e ∷ es) ws =
      let first = flat_stmt e.0 p ws in
      let second = f.block (map flat_stmt (stmts es)) p first.locals in
      ap any_returns (map-append stmt_piece first.value second.value) ∙ returns-append (pieces first.value) (pieces second.value) ∙ ap₂ (λ (x y : Bool). x || y) (e.1.returns ws) (those_return es first.locals)

  those_value : (es : List S) (ws : List ℕ) → any_value (pieces (f.block (map flat_stmt (stmts es)) p ws).value) ≡ any_value (pieces (stmts es))
  those_value [] ws = refl
  those_value (e ∷ es) ws =
      let first = flat_stmt e.0 p ws in
      let second = f.block (map flat_stmt (stmts es)) p first.locals in
      ap any_value (map-append stmt_piece first.value second.value) ∙ value-append (pieces first.value) (pieces second.value) ∙ ap₂ (λ (x y : Bool). x || y) (e.1.value ws) (those_value es first.locals)

  -- The joins of an if.
  joins_alike : (es gs : List S) → r.each (map stmt_fit (stmts es)) n rooms ≡ true → r.each (map stmt_fit (stmts gs)) n rooms ≡ true → (ws us : List ℕ) → p.first + n ≤ length ws →
      length us ≡ length (f.block (map flat_stmt (stmts es)) p ws).locals → (start top : ℕ) → start ≤ length ws → p.first + n ≤ start → length (f.block (map flat_stmt (stmts gs)) p us).locals ≤ top →
      length (f.block (map flat_stmt (stmts gs)) p us).locals ≤ N → (a b : Around) → NearHere start top a b →
      joins (pieces (f.block (map flat_stmt (stmts es)) p ws).value) (pieces (f.block (map flat_stmt (stmts gs)) p us).value) b ≡ joins (pieces (stmts es)) (pieces (stmts gs)) a
  joins_alike es gs fit fit2 ws us bound e start top low low2 under within a b near =
      let first = f.block (map flat_stmt (stmts es)) p ws in
      let second = f.block (map flat_stmt (stmts gs)) p us in
      let l1 = begins_length ws first.locals (stmts_grow (stmts es) p grow ws) in
      let l2 = begins_length us second.locals (stmts_grow (stmts gs) p grow us) in
      let test : ℕ → Bool = λ i. a.held i && (any_changes (pieces (stmts es)) i || any_changes (pieces (stmts gs)) i) in
      let flat : ℕ → Bool = λ k. b.held k && (any_changes (pieces first.value) k || any_changes (pieces second.value) k) in
      let same : (i : ℕ) → i < n → flat (p.first + i) ≡ test i = λ i h.
      ap₂ (λ (x y : Bool). x && y) (near.own i h) (ap₂ (λ (x y : Bool). x || y) (those_change es fit ws i bound h) (those_change gs fit2 us i (omega arith) h)) in
      let none : (k : ℕ) → k < N → Outside k → flat k ≡ false = λ k h out. which k h out (cases_lt k start) (cases_lt k (length second.locals)) l1 l2 in
      let count : count_below b.locals flat ≡ count_below a.locals test =
      ap (λ (m : ℕ). count_below m flat) near.all_locals ∙ count_shift p.first n N test flat (omega arith) same none ∙ ap (λ (m : ℕ). count_below m test) (sym near.locals) in
      ap (λ (m : ℕ). if any_returns (pieces first.value) || any_returns (pieces second.value) then (if any_value (pieces first.value) && any_value (pieces second.value) then 2 else 0) else 2 * m) count
      ∙ ap₂ (λ (x y : Bool). if x || y then (if any_value (pieces first.value) && any_value (pieces second.value) then 2 else 0) else 2 * count_below a.locals test) (those_return es ws) (those_return gs us)
      ∙ ap₂ (λ (x y : Bool). if any_returns (pieces (stmts es)) || any_returns (pieces (stmts gs)) then (if x && y then 2 else 0) else 2 * count_below a.locals test) (those_value es ws) (those_value gs us)
    where
      which : (k : ℕ) → k < N → Outside k → (k < start) ⊎ (start ≤ k) → (k < length (f.block (map flat_stmt (stmts gs)) p us).locals) ⊎ (length (f.block (map flat_stmt (stmts gs)) p us).locals ≤ k) →
          length ws ≤ length (f.block (map flat_stmt (stmts es)) p ws).locals → length us ≤ length (f.block (map flat_stmt (stmts gs)) p us).locals →
          (b.held k && (any_changes (pieces (f.block (map flat_stmt (stmts es)) p ws).value) k || any_changes (pieces (f.block (map flat_stmt (stmts gs)) p us).value) k)) ≡ false
      which k h out (inr x) (inl y) l1 l2 = ap (λ (t : Bool). t && (any_changes (pieces (f.block (map flat_stmt (stmts es)) p ws).value) k || any_changes (pieces (f.block (map flat_stmt (stmts gs)) p us).value) k)) (near.rest k x (omega arith))
      which k h out (inl x) y l1 l2 =
          and_right _ _ (ap₂ (λ (c d : Bool). c || d) (those_leave es fit ws k bound out (inl (omega arith))) (those_leave gs fit2 us k (omega arith) out (inl (omega arith))))
      which k h out (inr x) (inr y) l1 l2 =
          and_right _ _ (ap₂ (λ (c d : Bool). c || d) (those_leave es fit ws k bound out (inr (omega arith))) (those_leave gs fit2 us k (omega arith) out (inr y)))

  -- A call has the length of its function, behind that of its arguments.
  put_long : (cs rs : List ℕ) (ps : List PutIn) → AllCounts N cs rs ps → (k : ℕ) (arrays : List ℕ) (args : List Expr) (ws : List ℕ) → option_map_or (nat_eq (length args)) (slice_get rs k) false ≡ true →
      (top : ℕ) → length (f.put_in (slice_get ps k) arrays args ws).locals ≤ top → length (f.put_in (slice_get ps k) arrays args ws).locals ≤ N → (b : Around) → b.locals ≡ N →
      ((j : ℕ) → length ws ≤ j → j < top → b.held j ≡ false) →
      (l.expr_step (map-Expr Expr Stmt Touch Measure Piece Measure expr_measure stmt_piece touch_measure (f.put_in (slice_get ps k) arrays args ws).value)).ops b ≡ total_ops (map expr_measure args) b + slice_index cs k
  put_long [] [] [] h k arrays args ws fit top under within b is rest = absurd (cc)
  put_long (c ∷ cs) (r ∷ rs) (put ∷ ps) h zero arrays args ws fit top under within b is rest =
      let body = put arrays ws in
      let e = eqb-true (length args) r fit in
      let room = h.0.room in
      let above = h.0.above arrays ws in
      let inner = with_held b (λ (n : ℕ). is_in n (params_of (length ws) args)) in
      let own : (i : ℕ) → i < h.0.own → inner.held (length ws + i) ≡ nat_lt i r = λ i j.
      ap₂ (λ (x y : Bool). x || y) (rest (length ws + i) (omega arith) (omega arith)) (given_there args (length ws) i ∙ ap (nat_lt i) e) in
      let past : (j : ℕ) → length ws + h.0.own ≤ j → j < top → inner.held j ≡ false = λ j m u.
      ap₂ (λ (x y : Bool). x || y) (rest j (omega arith) u) (given_past args (length ws) j (omega arith)) in
      ap (λ (ms : List Measure). total_ops ms b + block_ops (pieces body.value) inner) (args_alone (length ws) args)
      ∙ ap (λ (m : ℕ). total_ops (map expr_measure args) b + m) (h.0.ops arrays ws top under within inner is own past)
  put_long (c ∷ cs) (r ∷ rs) (put ∷ ps) h (suc k) arrays args ws fit top under within b is rest = put_long cs rs ps h.1 k arrays args ws fit top under within b is rest
  put_long [] [] (put ∷ ps) h k arrays args ws fit top under within b is rest = absurd h
  put_long [] (r ∷ rs) ps h k arrays args ws fit top under within b is rest = absurd h
  put_long (c ∷ cs) [] ps h k arrays args ws fit top under within b is rest = absurd h
  put_long (c ∷ cs) (r ∷ rs) [] h k arrays args ws fit top under within b is rest = absurd h

  abbrev expr_of : Expr-F Expr Stmt Touch → Measure
  expr_of y = l.expr_step (map-Expr Expr Stmt Touch Measure Piece Measure expr_measure stmt_piece touch_measure y)

  abbrev stmt_of : Stmt-F Expr Stmt Touch → Piece
  stmt_of y = l.stmt_step (map-Stmt Expr Stmt Touch Measure Piece Measure expr_measure stmt_piece touch_measure y)

  abbrev touch_of : Touch-F Expr Stmt Touch → Measure
  touch_of y = l.touch_step (map-Touch Expr Stmt Touch Measure Piece Measure expr_measure stmt_piece touch_measure y)

  abbrev T : Type 0
  T = (e : Touch) × Long (flat_touch e) (λ x. (touch_measure x).ops) (touch_measure e).ops (touch_fit e n rooms)

  abbrev expr_tree : Expr-F E S T → Expr-F Expr Stmt Touch
  expr_tree = map-Expr E S T Expr Stmt Touch (λ e. e.0) (λ e. e.0) (λ e. e.0)

  abbrev touch_tree : Touch-F E S T → Touch-F Expr Stmt Touch
  touch_tree = map-Touch E S T Expr Stmt Touch (λ e. e.0) (λ e. e.0) (λ e. e.0)

  abbrev stmt_tree : Stmt-F E S T → Stmt-F Expr Stmt Touch
  stmt_tree = map-Stmt E S T Expr Stmt Touch (λ e. e.0) (λ e. e.0) (λ e. e.0)

  abbrev node_e : Expr-F Expr Stmt Touch → Flatten (Expr-F Expr Stmt Touch)
  node_e y = f.expr_node (map-Expr Expr Stmt Touch (Flatten Expr) (Flatten (List Stmt)) (Flatten Touch) flat_expr flat_stmt flat_touch y)

  abbrev node_s : Stmt-F Expr Stmt Touch → Flatten (List (Stmt-F Expr Stmt Touch))
  node_s y = f.stmt_node (map-Stmt Expr Stmt Touch (Flatten Expr) (Flatten (List Stmt)) (Flatten Touch) flat_expr flat_stmt flat_touch y)

  abbrev node_t : Touch-F Expr Stmt Touch → Flatten (Touch-F Expr Stmt Touch)
  node_t y = f.touch_node (map-Touch Expr Stmt Touch (Flatten Expr) (Flatten (List Stmt)) (Flatten Touch) flat_expr flat_stmt flat_touch y)

  abbrev fit_e : Expr-F Expr Stmt Touch → Bool
  fit_e y = r.expr_step (map-Expr Expr Stmt Touch Fit Fit Fit expr_fit stmt_fit touch_fit y) n rooms

  abbrev fit_s : Stmt-F Expr Stmt Touch → Bool
  fit_s y = r.stmt_step (map-Stmt Expr Stmt Touch Fit Fit Fit expr_fit stmt_fit touch_fit y) n rooms

  abbrev fit_t : Touch-F Expr Stmt Touch → Bool
  fit_t y = r.touch_step (map-Touch Expr Stmt Touch Fit Fit Fit expr_fit stmt_fit touch_fit y) n rooms

  two_long : (e g : E) (fit : Bool) → (fit ≡ true → (expr_fit e.0 n rooms ≡ true) × (expr_fit g.0 n rooms ≡ true)) →
      Long {A = Expr × Expr} (λ p0 ws. let x = flat_expr e.0 p0 ws in let y = flat_expr g.0 p0 x.locals in record { value = (x.value, y.value); locals = y.locals }) (λ xy a. (expr_measure xy.0).ops a + (expr_measure xy.1).ops a + 1)
      (λ a. (expr_measure e.0).ops a + (expr_measure g.0).ops a + 1) fit
  two_long e g fit parts = record {
    ops = λ fits ws bound top under within a b near.
        let part = parts fits in
        let first = flat_expr e.0 p ws in
        let second = flat_expr g.0 p first.locals in
        let l1 = begins_length ws first.locals (expr_grows e.0 p grow ws) in
        let l2 = begins_length first.locals second.locals (expr_grows g.0 p grow first.locals) in
        ap₂ (λ (x y : ℕ). x + y + 1) (e.1.ops part.0 ws bound top (omega arith) (omega arith) a b near)
        (g.1.ops part.1 first.locals (omega arith) top under within a b (near_later (length ws) (length first.locals) top a b l1 near));
  }

  expr_level : (y : Expr-F E S T) → Long (node_e (expr_tree y)) (λ x. (expr_of x).ops) (expr_of (expr_tree y)).ops (fit_e (expr_tree y))
  expr_level (Expr-F.Fixed i) = record { ops = λ fit ws bound top under within a b near. refl }
  expr_level (Expr-F.Local i) = record { ops = λ fit ws bound top under within a b near. refl }
  expr_level Expr-F.Now = record { ops = λ fit ws bound top under within a b near. refl }
  expr_level Expr-F.Me = record { ops = λ fit ws bound top under within a b near. refl }
  expr_level (Expr-F.Un op e) = record { ops = λ fit ws bound top under within a b near. ap (λ (x : ℕ). x + 1) (e.1.ops (and_parts _ _ fit).0 ws bound top under within a b near) }
  expr_level (Expr-F.Bin op e g) = record { ops = (two_long e g _ (λ fit. let x = and_parts _ _ fit in (x.0, (and_parts _ _ x.1).0))).ops }
  expr_level (Expr-F.Cmp op e g) = record { ops = (two_long e g _ (λ fit. let x = and_parts _ _ fit in (x.0, (and_parts _ _ x.1).0))).ops }
  expr_level (Expr-F.Cast w e) = record { ops = λ fit ws bound top under within a b near. ap (λ (x : ℕ). x + 1) (e.1.ops (and_parts _ _ fit).0 ws bound top under within a b near) }
  expr_level (Expr-F.Hash w es) = record { ops = λ fit ws bound top under within a b near. ap (λ (x : ℕ). x + 1) (these es fit ws bound top under within a b near) }
  expr_level (Expr-F.Array e) = record { ops = λ fit ws bound top under within a b near. e.1.ops (and_parts _ _ fit).0 ws bound top under within a b near }
  expr_level (Expr-F.Fun k names es) = record {
    ops = λ fit ws bound top under within a b near.
        let fits = and_parts _ _ fit in
        let first = f.each (map flat_expr (exprs es)) p ws in
        let whole = f.put_in (slice_get p.funs k) (map (array_of p.arrays) names) first.value first.locals in
        let l1 = begins_length ws first.locals (exprs_grow (exprs es) p grow ws) in
        let l2 = begins_length first.locals whole.locals (put_grows p.funs grow k (map (array_of p.arrays) names) first.value first.locals) in
        let as_many = subst (λ (m : ℕ). option_map_or (nat_eq m) (slice_get rooms k) false ≡ true) (length-map (exprs es) expr_fit ∙ length-map es _ ∙ sym (each_long es ws)) fits.0 in
        put_long counts rooms p.funs all k (map (array_of p.arrays) names) first.value first.locals as_many top under within b near.all_locals (λ j x y. near.rest j (omega arith) y)
        ∙ ap₂ (λ (x : ℕ) (cs : List ℕ). x + slice_index cs k) (these es fits.1 ws bound top (omega arith) (omega arith) a b near) (sym near.funs);
  }
    where
      each_long : (hs : List E) (us : List ℕ) → length (f.each (map flat_expr (exprs hs)) p us).value ≡ length hs
      each_long [] us = refl
      each_long (h ∷ hs) us = ap suc (each_long hs (flat_expr h.0 p us).locals)
  expr_level (Expr-F.Inlined given es) = record { ops = λ fit ws bound top under within a b near. absurd (cc) }

  plain_level : (y : Expr-F E S T) (ws : List ℕ) → (expr_of (node_e (expr_tree y) p ws).value).needs_move ≡ (expr_of (expr_tree y)).needs_move
  plain_level (Expr-F.Fixed i) ws = refl
  plain_level (Expr-F.Local i) ws = refl
  plain_level Expr-F.Now ws = refl
  plain_level Expr-F.Me ws = refl
  plain_level (Expr-F.Un op e) ws = refl
  plain_level (Expr-F.Bin op e g) ws = refl
  plain_level (Expr-F.Cmp op e g) ws = refl
  plain_level (Expr-F.Cast w e) ws = refl
  plain_level (Expr-F.Hash w es) ws = refl
  plain_level (Expr-F.Array e) ws = refl
  plain_level (Expr-F.Fun k names es) ws = at (slice_get p.funs k)
    where
      at : (o : Option PutIn) → (expr_of (f.put_in o (map (array_of p.arrays) names) (f.each (map flat_expr (exprs es)) p ws).value (f.each (map flat_expr (exprs es)) p ws).locals).value).needs_move ≡ true
      at None = refl
      at (Some put) = refl
  plain_level (Expr-F.Inlined given es) ws = refl

  touch_level : (y : Touch-F E S T) → Long (node_t (touch_tree y)) (λ x. (touch_of x).ops) (touch_of (touch_tree y)).ops (fit_t (touch_tree y))
  touch_level y = record {
    ops = λ fit ws bound top under within a b near.
        let fit1 = and_parts _ _ fit in
        let fit2 = and_parts _ _ fit1.1 in
        let first = flat_expr y.index.0 p ws in
        let second = flat_expr y.get_arg.0 p first.locals in
        let third = flat_expr y.set_arg.0 p second.locals in
        let l1 = begins_length ws first.locals (expr_grows y.index.0 p grow ws) in
        let l2 = begins_length first.locals second.locals (expr_grows y.get_arg.0 p grow first.locals) in
        let l3 = begins_length second.locals third.locals (expr_grows y.set_arg.0 p grow second.locals) in
        let near1 = near_later (length ws) (length first.locals) top a b l1 near in
        ap₂ (λ (x : ℕ) (z : ℕ). x + z + 1) (ap₂ (λ (x z : ℕ). x + z) (y.index.1.ops fit1.0 ws bound top (omega arith) (omega arith) a b near) (y.get_arg.1.ops fit2.0 first.locals (omega arith) top (omega arith) (omega arith) a b near1))
        (y.set_arg.1.ops (and_parts _ _ fit2.1).0 second.locals (omega arith) top under within a b (near_later (length first.locals) (length second.locals) top a b l2 near1));
  }

  -- A node that becomes one.
  one : (t : Flatten (List (Stmt-F Expr Stmt Touch))) (core : Piece) (fit : Bool) (x : List ℕ → Piece) → ((ws : List ℕ) → map stmt_of (t p ws).value ≡ x ws ∷ []) → ((ws : List ℕ) → length ws ≤ length (t p ws).locals) →
      (fit ≡ true → (ws : List ℕ) → p.first + n ≤ length ws → (top : ℕ) → length (t p ws).locals ≤ top → length (t p ws).locals ≤ N → (a b : Around) → NearHere (length ws) top a b → (x ws).ops b ≡ core.ops a) →
      (fit ≡ true → (ws : List ℕ) (i : ℕ) → i < n → (x ws).sets (p.first + i) ≡ core.sets i) → (fit ≡ true → (ws : List ℕ) (k : ℕ) → Outside k → (x ws).sets k ≡ false) →
      (fit ≡ true → (ws : List ℕ) (i : ℕ) → p.first + n ≤ length ws → i < n → (x ws).changes (p.first + i) ≡ core.changes i) →
      (fit ≡ true → (ws : List ℕ) (k : ℕ) → p.first + n ≤ length ws → Outside k → (k < length ws) ⊎ (length (t p ws).locals ≤ k) → (x ws).changes k ≡ false) →
      ((ws : List ℕ) → (x ws).returns ≡ core.returns) → ((ws : List ℕ) → (x ws).value ≡ core.value) → Pieces t (map stmt_of) core fit
  one t core fit x is grows ops sets no_sets changes no_changes returns value = record {
    ops = λ fits ws bound top under within a b near. subst (λ (xs : List Piece). block_ops xs b ≡ core.ops a) (sym (is ws)) (let e = ops fits ws bound top under within a b near in omega arith);
    after = λ fits ws bound top under a b near. subst (λ (xs : List Piece). NearHere (length (t p ws).locals) top (with_held a core.sets) (after_all xs b)) (sym (is ws)) (let g = grows ws in record {
      funs = near.funs;
      locals = near.locals;
      all_locals = near.all_locals;
      own = λ i h. ap₂ (λ (c d : Bool). c || d) (near.own i h) (sets fits ws i h);
      rest = λ k l u. ap₂ (λ (c d : Bool). c || d) (near.rest k (omega arith) u) (no_sets fits ws k (inr (omega arith)));
    });
    changes = λ fits ws i bound h. subst (λ (xs : List Piece). any_changes xs (p.first + i) ≡ core.changes i) (sym (is ws)) (or_false ((x ws).changes (p.first + i)) ∙ changes fits ws i bound h);
    no_changes = λ fits ws k bound out side. subst (λ (xs : List Piece). any_changes xs k ≡ false) (sym (is ws)) (or_false ((x ws).changes k) ∙ no_changes fits ws k bound out side);
    returns = λ ws. subst (λ (xs : List Piece). any_returns xs ≡ core.returns) (sym (is ws)) (or_false (x ws).returns ∙ returns ws);
    value = λ ws. subst (λ (xs : List Piece). any_value xs ≡ core.value) (sym (is ws)) (or_false (x ws).value ∙ value ws);
  }

  assign_level : (i : ℕ) (e : E) → Pieces (node_s (Stmt-F.Assign i e.0)) (map stmt_of) (stmt_of (Stmt-F.Assign i e.0)) (fit_s (Stmt-F.Assign i e.0))
  assign_level i e = one (node_s (Stmt-F.Assign i e.0)) _ _ (λ ws. stmt_of (Stmt-F.Assign (p.first + i) (flat_expr e.0 p ws).value)) (λ ws. refl)
      (λ ws. begins_length ws (flat_expr e.0 p ws).locals (expr_grows e.0 p grow ws))
      (λ fit ws bound top under within a b near. ap (λ (x : ℕ). x + 1) (e.1.ops (and_parts _ _ fit).1 ws bound top under within a b near))
      (λ fit ws k h. same k (cases_eq k i))
      (λ fit ws k out. ne_eqb k (p.first + i) (λ q. apart k (ltb-true i n (and_parts _ _ fit).0) q out))
      (λ fit ws k bound h. same k (cases_eq k i))
      (λ fit ws k bound out side. ne_eqb k (p.first + i) (λ q. apart k (ltb-true i n (and_parts _ _ fit).0) q out))
      (λ ws. refl) (λ ws. refl)
    where
      same : (k : ℕ) → (k ≡ i) ⊎ (k ≡ i → ⊥) → nat_eq (p.first + k) (p.first + i) ≡ nat_eq k i
      same k (inl q) = eq-eqb (p.first + k) (p.first + i) (omega arith) ∙ sym (eq-eqb k i q)
      same k (inr q) = ne_eqb (p.first + k) (p.first + i) (λ z. q (omega arith)) ∙ sym (ne_eqb k i q)

      apart : (k : ℕ) → i < n → k ≡ p.first + i → Outside k → ⊥
      apart k h q (inl o) = omega arith
      apart k h q (inr o) = omega arith

  if_level : (e : E) (es gs : List S) → Pieces (node_s (Stmt-F.If e.0 (stmts es) (stmts gs))) (map stmt_of) (stmt_of (Stmt-F.If e.0 (stmts es) (stmts gs))) (fit_s (Stmt-F.If e.0 (stmts es) (stmts gs)))
  if_level e es gs = one (node_s (Stmt-F.If e.0 (stmts es) (stmts gs))) _ _
      (λ ws. stmt_of (Stmt-F.If (flat_expr e.0 p ws).value (us ws).value (vs ws).value)) (λ ws. refl)
      (λ ws. let x = l1 ws in let y = l2 ws in let z = l3 ws in omega arith)
      (λ fit ws bound top under within a b near.
      let fit1 = and_parts _ _ fit in
      let fit2 = both_pass (λ (test : Fit). test n rooms) (map stmt_fit (stmts es)) (map stmt_fit (stmts gs)) fit1.1 in
      let x = l1 ws in let y = l2 ws in let z = l3 ws in
      let first = flat_expr e.0 p ws in
      let near1 = near_later (length ws) (length first.locals) top a b x near in
      let near2 = near_later (length first.locals) (length (us ws).locals) top a b y near1 in
      ap₂ (λ (i j : ℕ). i + j) (ap₂ (λ (i j : ℕ). i + j)
      (ap₂ (λ (i j : ℕ). i + j)
      (ap₂ (λ (i : ℕ) (t : Bool). i + (if t then 1 else 0)) (e.1.ops fit1.0 ws bound top (omega arith) (omega arith) a b near) (e.1.needs_move ws))
      (those es fit2.0 first.locals (omega arith) top (omega arith) (omega arith) a b near1))
      (those gs fit2.1 (us ws).locals (omega arith) top under within a b near2))
      (joins_alike es gs fit2.0 fit2.1 first.locals (us ws).locals (omega arith) refl (length first.locals) top (omega arith) (omega arith) under within a b near1))
      (λ fit ws i h. refl) (λ fit ws k out. refl)
      (λ fit ws i bound h.
      let fit1 = and_parts _ _ fit in
      let fit2 = both_pass (λ (test : Fit). test n rooms) (map stmt_fit (stmts es)) (map stmt_fit (stmts gs)) fit1.1 in
      let x = l1 ws in let y = l2 ws in
      ap₂ (λ (c d : Bool). c || d) (those_change es fit2.0 (flat_expr e.0 p ws).locals i (omega arith) h) (those_change gs fit2.1 (us ws).locals i (omega arith) h))
      (λ fit ws k bound out side.
      let fit1 = and_parts _ _ fit in
      let fit2 = both_pass (λ (test : Fit). test n rooms) (map stmt_fit (stmts es)) (map stmt_fit (stmts gs)) fit1.1 in
      let x = l1 ws in let y = l2 ws in let z = l3 ws in
      ap₂ (λ (c d : Bool). c || d) (those_leave es fit2.0 (flat_expr e.0 p ws).locals k (omega arith) out (to_first ws k side)) (those_leave gs fit2.1 (us ws).locals k (omega arith) out (to_second ws k side)))
      (λ ws. ap₂ (λ (c d : Bool). c || d) (those_return es (flat_expr e.0 p ws).locals) (those_return gs (us ws).locals))
      (λ ws. ap₂ (λ (c d : Bool). c && d) (those_value es (flat_expr e.0 p ws).locals) (those_value gs (us ws).locals))
    where
      us : List ℕ → Flattened (List Stmt)
      us ws = f.block (map flat_stmt (stmts es)) p (flat_expr e.0 p ws).locals

      vs : List ℕ → Flattened (List Stmt)
      vs ws = f.block (map flat_stmt (stmts gs)) p (us ws).locals

      l1 : (ws : List ℕ) → length ws ≤ length (flat_expr e.0 p ws).locals
      l1 ws = begins_length ws (flat_expr e.0 p ws).locals (expr_grows e.0 p grow ws)

      l2 : (ws : List ℕ) → length (flat_expr e.0 p ws).locals ≤ length (us ws).locals
      l2 ws = begins_length (flat_expr e.0 p ws).locals (us ws).locals (stmts_grow (stmts es) p grow (flat_expr e.0 p ws).locals)

      l3 : (ws : List ℕ) → length (us ws).locals ≤ length (vs ws).locals
      l3 ws = begins_length (us ws).locals (vs ws).locals (stmts_grow (stmts gs) p grow (us ws).locals)

      to_first : (ws : List ℕ) (k : ℕ) → (k < length ws) ⊎ (length (vs ws).locals ≤ k) → (k < length (flat_expr e.0 p ws).locals) ⊎ (length (us ws).locals ≤ k)
      to_first ws k (inl x) = let y = l1 ws in inl (omega arith)
      to_first ws k (inr x) = let y = l3 ws in inr (omega arith)

      to_second : (ws : List ℕ) (k : ℕ) → (k < length ws) ⊎ (length (vs ws).locals ≤ k) → (k < length (us ws).locals) ⊎ (length (vs ws).locals ≤ k)
      to_second ws k (inl x) = let y = l1 ws in let z = l2 ws in inl (omega arith)
      to_second ws k (inr x) = inr x

  -- A node that neither assigns nor returns.
  plain : (t : Flatten (List (Stmt-F Expr Stmt Touch))) (ops : Around → ℕ) (fit : Bool) (x : List ℕ → Around → ℕ) → ((ws : List ℕ) → map stmt_of (t p ws).value ≡ l.plainly (x ws) ∷ []) →
      ((ws : List ℕ) → length ws ≤ length (t p ws).locals) →
      (fit ≡ true → (ws : List ℕ) → p.first + n ≤ length ws → (top : ℕ) → length (t p ws).locals ≤ top → length (t p ws).locals ≤ N → (a b : Around) → NearHere (length ws) top a b → x ws b ≡ ops a) →
      Pieces t (map stmt_of) (l.plainly ops) fit
  plain t ops fit x is grows same = one t (l.plainly ops) fit (λ ws. l.plainly (x ws)) is grows same (λ fits ws i h. refl) (λ fits ws k out. refl) (λ fits ws i bound h. refl) (λ fits ws k bound out side. refl) (λ ws. refl) (λ ws. refl)

  total-append : (xs ys : List Measure) (a : Around) → total_ops (xs ++ ys) a ≡ total_ops xs a + total_ops ys a
  total-append [] ys a = let z : 0 + total_ops ys a ≡ total_ops ys a = omega arith in sym z
  total-append (x ∷ xs) ys a = let e = total-append xs ys a in omega arith

  optional : (o : Option E) → r.each (option_to_list (option_map (λ (e : E). expr_fit e.0) o)) n rooms ≡ true → (ws : List ℕ) → p.first + n ≤ length ws → (top : ℕ) →
      length (f.optional (option_map (λ (e : E). flat_expr e.0) o) p ws).locals ≤ top → length (f.optional (option_map (λ (e : E). flat_expr e.0) o) p ws).locals ≤ N → (a b : Around) → NearHere (length ws) top a b →
      total_ops (option_to_list (option_map expr_measure (f.optional (option_map (λ (e : E). flat_expr e.0) o) p ws).value)) b ≡ total_ops (option_to_list (option_map (λ (e : E). expr_measure e.0) o)) a
  optional None fit ws bound top under within a b near = refl
  optional (Some e) fit ws bound top under within a b near = ap (λ (x : ℕ). x + 0) (e.1.ops (and_parts _ _ fit).0 ws bound top under within a b near)

  optional_grows : (o : Option E) (ws : List ℕ) → length ws ≤ length (f.optional (option_map (λ (e : E). flat_expr e.0) o) p ws).locals
  optional_grows None ws = omega arith
  optional_grows (Some e) ws = begins_length ws (flat_expr e.0 p ws).locals (expr_grows e.0 p grow ws)

  both_long : (b0 : Bool) (d t : Option E) → r.each (option_to_list (option_map (λ (e : E). expr_fit e.0) d)) n rooms ≡ true → r.each (option_to_list (option_map (λ (e : E). expr_fit e.0) t)) n rooms ≡ true →
      (ws : List ℕ) → p.first + n ≤ length ws → (top : ℕ) →
      length (f.both b0 (f.optional (option_map (λ (e : E). flat_expr e.0) d)) (f.optional (option_map (λ (e : E). flat_expr e.0) t)) p ws).locals ≤ top →
      length (f.both b0 (f.optional (option_map (λ (e : E). flat_expr e.0) d)) (f.optional (option_map (λ (e : E). flat_expr e.0) t)) p ws).locals ≤ N → (a b : Around) → NearHere (length ws) top a b →
      (let made = f.both b0 (f.optional (option_map (λ (e : E). flat_expr e.0) d)) (f.optional (option_map (λ (e : E). flat_expr e.0) t)) p ws in
      (total_ops (option_to_list (option_map expr_measure made.value.0)) b ≡ total_ops (option_to_list (option_map (λ (e : E). expr_measure e.0) d)) a)
      × (total_ops (option_to_list (option_map expr_measure made.value.1)) b ≡ total_ops (option_to_list (option_map (λ (e : E). expr_measure e.0) t)) a)
      × (length ws ≤ length made.locals))
  both_long true d t fit fit2 ws bound top under within a b near =
      let first = (f.optional (option_map (λ (e : E). flat_expr e.0) d) p ws).locals in
      let l1 = optional_grows d ws in
      let l2 = optional_grows t first in
      (optional d fit ws bound top (omega arith) (omega arith) a b near, optional t fit2 first (omega arith) top under within a b (near_later (length ws) (length first) top a b l1 near), omega arith)
  both_long false d t fit fit2 ws bound top under within a b near =
      let first = (f.optional (option_map (λ (e : E). flat_expr e.0) t) p ws).locals in
      let l1 = optional_grows t ws in
      let l2 = optional_grows d first in
      (optional d fit first (omega arith) top under within a b (near_later (length ws) (length first) top a b l1 near), optional t fit2 ws bound top (omega arith) (omega arith) a b near, omega arith)

  both_grow : (b0 : Bool) (d t : Option E) (ws : List ℕ) → length ws ≤ length (f.both b0 (f.optional (option_map (λ (e : E). flat_expr e.0) d)) (f.optional (option_map (λ (e : E). flat_expr e.0) t)) p ws).locals
  both_grow true d t ws = let l1 = optional_grows d ws in let l2 = optional_grows t (f.optional (option_map (λ (e : E). flat_expr e.0) d) p ws).locals in omega arith
  both_grow false d t ws = let l1 = optional_grows t ws in let l2 = optional_grows d (f.optional (option_map (λ (e : E). flat_expr e.0) t) p ws).locals in omega arith

  gen_piece : (event : ℕ) (args : List Expr) (d t : Option Expr) (b0 : Bool) →
      stmt_of (Stmt-F.Gen event args d t b0) ≡ l.plainly (λ a. total_ops (map expr_measure args ++ option_to_list (option_map expr_measure d) ++ option_to_list (option_map expr_measure t)) a + 1)
  gen_piece event args None None b0 = refl
  gen_piece event args None (Some t) b0 = refl
  gen_piece event args (Some d) None b0 = refl
  gen_piece event args (Some d) (Some t) b0 = refl

  gen_level : (event : ℕ) (es : List E) (d t : Option E) (b0 : Bool) → Pieces
      (f.stmt_node (Stmt-F.Gen event (map flat_expr (exprs es)) (option_map (λ (e : E). flat_expr e.0) d) (option_map (λ (e : E). flat_expr e.0) t) b0)) (map stmt_of)
      (l.stmt_step (Stmt-F.Gen event (map expr_measure (exprs es)) (option_map (λ (e : E). expr_measure e.0) d) (option_map (λ (e : E). expr_measure e.0) t) b0))
      (r.stmt_step (Stmt-F.Gen event (map expr_fit (exprs es)) (option_map (λ (e : E). expr_fit e.0) d) (option_map (λ (e : E). expr_fit e.0) t) b0) n rooms)
  gen_level event es d t b0 = plain (f.stmt_node (Stmt-F.Gen event (map flat_expr (exprs es)) (option_map (λ (e : E). flat_expr e.0) d) (option_map (λ (e : E). flat_expr e.0) t) b0)) _ _
      (λ ws a. total_ops (map expr_measure (first ws).value ++ option_to_list (option_map expr_measure (second ws).value.0) ++ option_to_list (option_map expr_measure (second ws).value.1)) a + 1)
      (λ ws. ap (λ (x : Piece). x ∷ []) (gen_piece event (first ws).value (second ws).value.0 (second ws).value.1 b0))
      (λ ws. let l1 = l1 ws in let l2 = both_grow b0 d t (first ws).locals in omega arith)
      (λ fit ws bound top under within a b near.
      let fit1 = both_pass (λ (test : Fit). test n rooms) (map expr_fit (exprs es) ++ option_to_list (option_map (λ (e : E). expr_fit e.0) d)) (option_to_list (option_map (λ (e : E). expr_fit e.0) t)) fit in
      let fit2 = both_pass (λ (test : Fit). test n rooms) (map expr_fit (exprs es)) (option_to_list (option_map (λ (e : E). expr_fit e.0) d)) fit1.0 in
      let x = l1 ws in
      let y = both_grow b0 d t (first ws).locals in
      let one = these es fit2.0 ws bound top (omega arith) (omega arith) a b near in
      let two = both_long b0 d t fit2.1 fit1.1 (first ws).locals (omega arith) top under within a b (near_later (length ws) (length (first ws).locals) top a b x near) in
      let e1 = total-append (map expr_measure (first ws).value ++ option_to_list (option_map expr_measure (second ws).value.0)) (option_to_list (option_map expr_measure (second ws).value.1)) b in
      let e2 = total-append (map expr_measure (first ws).value) (option_to_list (option_map expr_measure (second ws).value.0)) b in
      let e3 = total-append (map expr_measure (exprs es) ++ option_to_list (option_map (λ (e : E). expr_measure e.0) d)) (option_to_list (option_map (λ (e : E). expr_measure e.0) t)) a in
      let e4 = total-append (map expr_measure (exprs es)) (option_to_list (option_map (λ (e : E). expr_measure e.0) d)) a in
      let e5 = two.0 in let e6 = two.1 in
      omega arith)
    where
      first : List ℕ → Flattened (List Expr)
      first ws = f.each (map flat_expr (exprs es)) p ws

      second : List ℕ → Flattened (Option Expr × Option Expr)
      second ws = f.both b0 (f.optional (option_map (λ (e : E). flat_expr e.0) d)) (f.optional (option_map (λ (e : E). flat_expr e.0) t)) p (first ws).locals

      l1 : (ws : List ℕ) → length ws ≤ length (first ws).locals
      l1 ws = begins_length ws (first ws).locals (exprs_grow (exprs es) p grow ws)

  -- A group: its arguments are assigned to new locals, and its members read these.
  abbrev assigns : ℕ → List Expr → List (Stmt-F Expr Stmt Touch)
  assigns b xs = map (λ (g : ℕ × Expr). Stmt-F.Assign g.0 g.1) (enumerate_from b xs)

  abbrev assigned : ℕ → List Expr → List Piece
  assigned b xs = map stmt_of (assigns b xs)

  abbrev Beside : ℕ → ℕ → ℕ → Type 0
  Beside b len k = (k < b) ⊎ (b + len ≤ k)

  beside_first : (b len k : ℕ) → Beside b (suc len) k → nat_eq k b ≡ false
  beside_first b len k (inl h) = ne_eqb k b (λ q. absurd (omega arith))
  beside_first b len k (inr h) = ne_eqb k b (λ q. absurd (omega arith))

  beside_rest : (b len k : ℕ) → Beside b (suc len) k → Beside (b + 1) len k
  beside_rest b len k (inl h) = inl (omega arith)
  beside_rest b len k (inr h) = inr (omega arith)

  assigned_change : (xs : List Expr) (b k : ℕ) → Beside b (length xs) k → any_changes (assigned b xs) k ≡ false
  assigned_change [] b k h = refl
  assigned_change (x ∷ xs) b k h = ap₂ (λ (c d : Bool). c || d) (beside_first b (length xs) k h) (assigned_change xs (b + 1) k (beside_rest b (length xs) k h))

  assigned_hold : (xs : List Expr) (b k : ℕ) (a : Around) → Beside b (length xs) k → (after_all (assigned b xs) a).held k ≡ a.held k
  assigned_hold [] b k a h = refl
  assigned_hold (x ∷ xs) b k a h =
      assigned_hold xs (b + 1) k (with_held a (λ i. nat_eq i b)) (beside_rest b (length xs) k h) ∙ ap (λ (t : Bool). a.held k || t) (beside_first b (length xs) k h) ∙ or_false (a.held k)

  assigned_return : (xs : List Expr) (b : ℕ) → any_returns (assigned b xs) ≡ false
  assigned_return [] b = refl
  assigned_return (x ∷ xs) b = assigned_return xs (b + 1)

  assigned_value : (xs : List Expr) (b : ℕ) → any_value (assigned b xs) ≡ false
  assigned_value [] b = refl
  assigned_value (x ∷ xs) b = assigned_value xs (b + 1)

  -- Each argument in its context, since its calls precede the new locals.
  assigned_long : (hs : List E) → r.each (map expr_fit (exprs hs)) n rooms ≡ true → (ws : List ℕ) → p.first + n ≤ length ws → (top b : ℕ) → length (f.each (map flat_expr (exprs hs)) p ws).locals ≤ top → top ≤ b →
      length (f.each (map flat_expr (exprs hs)) p ws).locals ≤ N → (a c : Around) → NearHere (length ws) top a c →
      block_ops (assigned b (f.each (map flat_expr (exprs hs)) p ws).value) c ≡ total_ops (map expr_measure (exprs hs)) a + length hs
  assigned_long [] fit ws bound top b under over within a c near = refl
  assigned_long (e ∷ hs) fit ws bound top b under over within a c near =
      let fits = and_parts _ _ fit in
      let first = flat_expr e.0 p ws in
      let second = f.each (map flat_expr (exprs hs)) p first.locals in
      let l1 = begins_length ws first.locals (expr_grows e.0 p grow ws) in
      let l2 = begins_length first.locals second.locals (exprs_grow (exprs hs) p grow first.locals) in
      let one = e.1.ops fits.0 ws bound top (omega arith) (omega arith) a c near in
      let more : NearHere (length first.locals) top a (with_held c (λ i. nat_eq i b)) = record {
        funs = near.funs;
        locals = near.locals;
        all_locals = near.all_locals;
        own = λ i h. ap (λ (t : Bool). c.held (p.first + i) || t) (ne_eqb (p.first + i) b (λ q. absurd (omega arith))) ∙ or_false (c.held (p.first + i)) ∙ near.own i h;
        rest = λ k h u. ap₂ (λ (s t : Bool). s || t) (near.rest k (omega arith) u) (ne_eqb k b (λ q. absurd (omega arith)));
      } in
      let two = assigned_long hs fits.1 first.locals (omega arith) top (b + 1) under (omega arith) within a (with_held c (λ i. nat_eq i b)) more in
      omega arith

  -- Locals and numbers become nothing, so each member is one op.
  local_ops : (i : ℕ) (a : Around) → (expr_measure (local i)).ops a ≡ 0
  local_ops i a = ap (λ (m : Measure). m.ops a) (fold-roll-Expr Measure Piece Measure l.expr_step l.stmt_step l.touch_step (Expr-F.Local i))

  locals_ops : (b m : ℕ) (a : Around) → total_ops (map expr_measure (f.locals_from b m)) a ≡ 0
  locals_ops b zero a = refl
  locals_ops b (suc m) a = let e = local_ops b a in let rest = locals_ops (b + 1) m a in omega arith

  fixed_ops : (i : ℕ) (a : Around) → (expr_measure (roll-Expr (Expr-F.Fixed (bits_of 32 i)))).ops a ≡ 0
  fixed_ops i a = ap (λ (m : Measure). m.ops a) (fold-roll-Expr Measure Piece Measure l.expr_step l.stmt_step l.touch_step (Expr-F.Fixed (bits_of 32 i)))

  member_ops : (event b m : ℕ) (delayed : Bool) (i : ℕ) (a : Around) → (stmt_of (f.to_member event b m delayed i)).ops a ≡ 1
  member_ops event b m true i a =
      let e1 = locals_ops b m a in
      let e2 = local_ops (b + m) a in
      let e3 = fixed_ops i a in
      let e4 = total-append (map expr_measure (f.locals_from b m) ++ expr_measure (local (b + m)) ∷ []) (expr_measure (roll-Expr (Expr-F.Fixed (bits_of 32 i))) ∷ []) a in
      let e5 = total-append (map expr_measure (f.locals_from b m)) (expr_measure (local (b + m)) ∷ []) a in
      omega arith
  member_ops event b m false i a =
      let e1 = locals_ops b m a in
      let e3 = fixed_ops i a in
      let e4 = total-append (map expr_measure (f.locals_from b m) ++ []) (expr_measure (roll-Expr (Expr-F.Fixed (bits_of 32 i))) ∷ []) a in
      let e5 = total-append (map expr_measure (f.locals_from b m)) [] a in
      omega arith

  -- The effects that a member lacks.
  pub record Quiet (x : Piece) : Type 0 where
    pub sets : (k : ℕ) → x.sets k ≡ false
    pub changes : (k : ℕ) → x.changes k ≡ false
    pub returns : x.returns ≡ false
    pub value : x.value ≡ false

  member_quiet : (event b m : ℕ) (delayed : Bool) (i : ℕ) → Quiet (stmt_of (f.to_member event b m delayed i))
  member_quiet event b m true i = record { sets = λ k. refl; changes = λ k. refl; returns = refl; value = refl }
  member_quiet event b m false i = record { sets = λ k. refl; changes = λ k. refl; returns = refl; value = refl }

  abbrev sent : ℕ → ℕ → ℕ → Bool → List ℕ → List Piece
  sent event b m delayed members = map stmt_of (map (f.to_member event b m delayed) members)

  sent_long : (event b m : ℕ) (delayed : Bool) (members : List ℕ) (a : Around) → block_ops (sent event b m delayed members) a ≡ length members
  sent_long event b m delayed [] a = refl
  sent_long event b m delayed (i ∷ members) a =
      let e = member_ops event b m delayed i a in
      let rest = sent_long event b m delayed members (with_held a (stmt_of (f.to_member event b m delayed i)).sets) in
      omega arith

  sent_change : (event b m : ℕ) (delayed : Bool) (members : List ℕ) (k : ℕ) → any_changes (sent event b m delayed members) k ≡ false
  sent_change event b m delayed [] k = refl
  sent_change event b m delayed (i ∷ members) k = ap₂ (λ (c d : Bool). c || d) ((member_quiet event b m delayed i).changes k) (sent_change event b m delayed members k)

  sent_return : (event b m : ℕ) (delayed : Bool) (members : List ℕ) → any_returns (sent event b m delayed members) ≡ false
  sent_return event b m delayed [] = refl
  sent_return event b m delayed (i ∷ members) = ap₂ (λ (c d : Bool). c || d) (member_quiet event b m delayed i).returns (sent_return event b m delayed members)

  sent_value : (event b m : ℕ) (delayed : Bool) (members : List ℕ) → any_value (sent event b m delayed members) ≡ false
  sent_value event b m delayed [] = refl
  sent_value event b m delayed (i ∷ members) = ap₂ (λ (c d : Bool). c || d) (member_quiet event b m delayed i).value (sent_value event b m delayed members)

  sent_hold : (event b m : ℕ) (delayed : Bool) (members : List ℕ) (k : ℕ) (a : Around) → (after_all (sent event b m delayed members) a).held k ≡ a.held k
  sent_hold event b m delayed [] k a = refl
  sent_hold event b m delayed (i ∷ members) k a =
      let x = stmt_of (f.to_member event b m delayed i) in
      sent_hold event b m delayed members k (with_held a x.sets) ∙ ap (λ (t : Bool). a.held k || t) ((member_quiet event b m delayed i).sets k) ∙ or_false (a.held k)

  after-locals : (xs : List Piece) (a : Around) → (after_all xs a).locals ≡ a.locals
  after-locals [] a = refl
  after-locals (x ∷ xs) a = after-locals xs (with_held a x.sets)

  each-length : (hs : List E) (ws : List ℕ) → length (f.each (map flat_expr (exprs hs)) p ws).value ≡ length hs
  each-length [] ws = refl
  each-length (h ∷ hs) ws = ap suc (each-length hs (flat_expr h.0 p ws).locals)

  -- The flat form of a group of these arguments.
  abbrev grouped : ℕ → ℕ → Bool → List ℕ → List (Flatten Expr) → Flatten (List (Stmt-F Expr Stmt Touch))
  grouped event m delayed members held = λ q ws. let first = f.each held q ws in record {
    value = assigns (length first.locals) first.value ++ map (f.to_member event (length first.locals) m delayed) members;
    locals = first.locals ++ map (f.width_in first.locals) first.value;
  }

  group_level : (event m : ℕ) (delayed : Bool) (members : List ℕ) (hs : List E) (held : List (Flatten Expr)) → map flat_expr (exprs hs) ≡ held → (ops : Around → ℕ) →
      ((a : Around) → ops a ≡ total_ops (map expr_measure (exprs hs)) a + length hs + length members) → (fit : Bool) → (fit ≡ true → r.each (map expr_fit (exprs hs)) n rooms ≡ true) →
      Pieces (grouped event m delayed members held) (map stmt_of) (l.plainly ops) fit
  group_level event m delayed members hs held is ops ops_are fit fits = subst (λ (ts : List (Flatten Expr)). Pieces (grouped event m delayed members ts) (map stmt_of) (l.plainly ops) fit) is (record {
    ops = λ h ws bound top under within a b near.
        let l1 = l1 ws in let l2 = l2 ws in
        let own = assigned_long hs (fits h) ws bound (length (first ws).locals) (length (first ws).locals) (omega arith) (omega arith) (omega arith) a b (lower ws top a b (omega arith) near) in
        let e1 = ap (λ (xs : List Piece). block_ops xs b) (split ws) in
        let e2 = block_ops-append (one ws) (two ws) b in
        let e3 = sent_long event (length (first ws).locals) m delayed members (after_all (one ws) b) in
        let e4 = ops_are a in
        omega arith;
    after = λ h ws bound top under a b near. subst (λ (xs : List Piece). NearHere (length (whole ws)) top (with_held a (λ i. false)) (after_all xs b)) (sym (split ws))
        (let l1 = l1 ws in let l2 = l2 ws in record {
          funs = near.funs;
          locals = near.locals;
          all_locals = after-locals (one ws ++ two ws) b ∙ near.all_locals;
          own = λ i j. hold ws b (p.first + i) (inl (omega arith)) ∙ near.own i j ∙ sym (or_false (a.held i));
          rest = λ k j u. hold ws b k (inr (omega arith)) ∙ near.rest k (omega arith) u;
        });
    changes = λ h ws i bound j. let l1 = l1 ws in let l2 = l2 ws in ap (λ (xs : List Piece). any_changes xs (p.first + i)) (split ws) ∙ change ws (p.first + i) (inl (omega arith));
    no_changes = λ h ws k bound out side. ap (λ (xs : List Piece). any_changes xs k) (split ws) ∙ change ws k (past ws k side);
    returns = λ ws. ap any_returns (split ws) ∙ returns-append (one ws) (two ws) ∙ ap₂ (λ (c d : Bool). c || d) (assigned_return (first ws).value (length (first ws).locals)) (sent_return event (length (first ws).locals) m delayed members);
    value = λ ws. ap any_value (split ws) ∙ value-append (one ws) (two ws) ∙ ap₂ (λ (c d : Bool). c || d) (assigned_value (first ws).value (length (first ws).locals)) (sent_value event (length (first ws).locals) m delayed members);
  })
    where
      first : List ℕ → Flattened (List Expr)
      first ws = f.each (map flat_expr (exprs hs)) p ws

      whole : List ℕ → List ℕ
      whole ws = (first ws).locals ++ map (f.width_in (first ws).locals) (first ws).value

      one : List ℕ → List Piece
      one ws = assigned (length (first ws).locals) (first ws).value

      two : List ℕ → List Piece
      two ws = sent event (length (first ws).locals) m delayed members

      split : (ws : List ℕ) → map stmt_of (assigns (length (first ws).locals) (first ws).value ++ map (f.to_member event (length (first ws).locals) m delayed) members) ≡ one ws ++ two ws
      split ws = map-append stmt_of (assigns (length (first ws).locals) (first ws).value) (map (f.to_member event (length (first ws).locals) m delayed) members)

      l1 : (ws : List ℕ) → length ws ≤ length (first ws).locals
      l1 ws = begins_length ws (first ws).locals (exprs_grow (exprs hs) p grow ws)

      l2 : (ws : List ℕ) → length (whole ws) ≡ length (first ws).locals + length (first ws).value
      l2 ws = length-append (first ws).locals (map (f.width_in (first ws).locals) (first ws).value) ∙ ap (λ (k : ℕ). length (first ws).locals + k) (length-map (first ws).value (f.width_in (first ws).locals))

      lower : (ws : List ℕ) (top : ℕ) (a b : Around) → length (first ws).locals ≤ top → NearHere (length ws) top a b → NearHere (length ws) (length (first ws).locals) a b
      lower ws top a b h near = record { funs = near.funs; locals = near.locals; all_locals = near.all_locals; own = near.own; rest = λ k j u. near.rest k j (omega arith) }

      hold : (ws : List ℕ) (b : Around) (k : ℕ) → Beside (length (first ws).locals) (length (first ws).value) k → (after_all (one ws ++ two ws) b).held k ≡ b.held k
      hold ws b k side = ap (λ (c : Around). c.held k) (after_all-append (one ws) (two ws) b) ∙ sent_hold event (length (first ws).locals) m delayed members k (after_all (one ws) b)
          ∙ assigned_hold (first ws).value (length (first ws).locals) k b side

      change : (ws : List ℕ) (k : ℕ) → Beside (length (first ws).locals) (length (first ws).value) k → any_changes (one ws ++ two ws) k ≡ false
      change ws k side = changes-append (one ws) (two ws) k ∙ ap₂ (λ (c d : Bool). c || d) (assigned_change (first ws).value (length (first ws).locals) k side) (sent_change event (length (first ws).locals) m delayed members k)

      past : (ws : List ℕ) (k : ℕ) → (k < length ws) ⊎ (length (whole ws) ≤ k) → Beside (length (first ws).locals) (length (first ws).value) k
      past ws k (inl h) = let l1 = l1 ws in inl (omega arith)
      past ws k (inr h) = let l2 = l2 ws in inr (omega arith)

  joined_flat : (es ds : List E) → map flat_expr (exprs (es ++ ds)) ≡ map flat_expr (exprs es) ++ map flat_expr (exprs ds)
  joined_flat es ds = ap (map flat_expr) (map-append (λ (e : E). e.0) es ds) ∙ map-append flat_expr (exprs es) (exprs ds)

  joined_fit : (es ds : List E) → map expr_fit (exprs (es ++ ds)) ≡ map expr_fit (exprs es) ++ map expr_fit (exprs ds)
  joined_fit es ds = ap (map expr_fit) (map-append (λ (e : E). e.0) es ds) ∙ map-append expr_fit (exprs es) (exprs ds)

  joined_ops : (es ds : List E) → map expr_measure (exprs (es ++ ds)) ≡ map expr_measure (exprs es) ++ map expr_measure (exprs ds)
  joined_ops es ds = ap (map expr_measure) (map-append (λ (e : E). e.0) es ds) ∙ map-append expr_measure (exprs es) (exprs ds)

  measures-length : (hs : List E) → length (map expr_measure (exprs hs)) ≡ length hs
  measures-length hs = length-map (exprs hs) expr_measure ∙ length-map hs (λ (e : E). e.0)

  ops_joined : (es ds : List E) (members : ℕ) (ms : List Measure) → map expr_measure (exprs (es ++ ds)) ≡ ms → (a : Around) →
      total_ops ms a + length ms + members ≡ total_ops (map expr_measure (exprs (es ++ ds))) a + length (es ++ ds) + members
  ops_joined es ds members ms is a = subst (λ (xs : List Measure). total_ops xs a + length xs + members ≡ total_ops (map expr_measure (exprs (es ++ ds))) a + length (es ++ ds) + members) is
      (ap (λ (k : ℕ). total_ops (map expr_measure (exprs (es ++ ds))) a + k + members) (measures-length (es ++ ds)))

  group_none : (event : ℕ) (es : List E) (members : List ℕ) → Pieces (node_s (Stmt-F.Multi event (exprs es) None members)) (map stmt_of) (stmt_of (Stmt-F.Multi event (exprs es) None members)) (fit_s (Stmt-F.Multi event (exprs es) None members))
  group_none event es members = group_level event (length (map flat_expr (exprs es))) false members (es ++ []) (map flat_expr (exprs es) ++ []) (joined_flat es []) _
      (ops_joined es [] (length members) (map expr_measure (exprs es) ++ []) (joined_ops es [])) _ (λ h. subst (λ (xs : List Fit). r.each xs n rooms ≡ true) (sym (joined_fit es [])) (and_parts _ _ h).1)

  group_some : (event : ℕ) (es : List E) (d : E) (members : List ℕ) → Pieces (node_s (Stmt-F.Multi event (exprs es) (Some d.0) members)) (map stmt_of) (stmt_of (Stmt-F.Multi event (exprs es) (Some d.0) members)) (fit_s (Stmt-F.Multi event (exprs es) (Some d.0) members))
  group_some event es d members = group_level event (length (map flat_expr (exprs es))) true members (es ++ d ∷ []) (map flat_expr (exprs es) ++ flat_expr d.0 ∷ []) (joined_flat es (d ∷ [])) _
      (ops_joined es (d ∷ []) (length members) (map expr_measure (exprs es) ++ expr_measure d.0 ∷ []) (joined_ops es (d ∷ []))) _ (λ h. subst (λ (xs : List Fit). r.each xs n rooms ≡ true) (sym (joined_fit es (d ∷ []))) (and_parts _ _ h).1)

  stmt_level : (y : Stmt-F E S T) → Pieces (node_s (stmt_tree y)) (map stmt_of) (stmt_of (stmt_tree y)) (fit_s (stmt_tree y))
  stmt_level (Stmt-F.Assign i e) = assign_level i e
  stmt_level (Stmt-F.Drop e) = plain (node_s (Stmt-F.Drop e.0)) _ _ (λ ws. (expr_measure (flat_expr e.0 p ws).value).ops) (λ ws. refl) (λ ws. begins_length ws (flat_expr e.0 p ws).locals (expr_grows e.0 p grow ws))
      (λ fit ws bound top under within a b near. e.1.ops (and_parts _ _ fit).0 ws bound top under within a b near)
  stmt_level (Stmt-F.If e es gs) = if_level e es gs
  stmt_level (Stmt-F.Gen event es None None b0) = gen_level event es None None b0
  stmt_level (Stmt-F.Gen event es None (Some t) b0) = gen_level event es None (Some t) b0
  stmt_level (Stmt-F.Gen event es (Some d) None b0) = gen_level event es (Some d) None b0
  stmt_level (Stmt-F.Gen event es (Some d) (Some t) b0) = gen_level event es (Some d) (Some t) b0
  stmt_level (Stmt-F.Multi event es None members) = group_none event es members
  stmt_level (Stmt-F.Multi event es (Some d) members) = group_some event es d members
  stmt_level (Stmt-F.Say form es) = plain (node_s (Stmt-F.Say form (exprs es))) _ _ (λ ws a. total_ops (map expr_measure (f.each (map flat_expr (exprs es)) p ws).value) a + 1) (λ ws. refl)
      (λ ws. begins_length ws (f.each (map flat_expr (exprs es)) p ws).locals (exprs_grow (exprs es) p grow ws))
      (λ fit ws bound top under within a b near. ap (λ (x : ℕ). x + 1) (these es fit ws bound top under within a b near))
  stmt_level (Stmt-F.Return None) = one (node_s (Stmt-F.Return None)) _ _ (λ ws. stmt_of (Stmt-F.Return None)) (λ ws. refl) (λ ws. omega arith)
      (λ fit ws bound top under within a b near. refl) (λ fit ws i h. refl) (λ fit ws k out. refl) (λ fit ws i bound h. refl) (λ fit ws k bound out side. refl) (λ ws. refl) (λ ws. refl)
  stmt_level (Stmt-F.Return (Some e)) = one (node_s (Stmt-F.Return (Some e.0))) _ _ (λ ws. stmt_of (Stmt-F.Return (Some (flat_expr e.0 p ws).value))) (λ ws. refl)
      (λ ws. begins_length ws (flat_expr e.0 p ws).locals (expr_grows e.0 p grow ws))
      (λ fit ws bound top under within a b near. e.1.ops (and_parts _ _ fit).0 ws bound top under within a b near) (λ fit ws i h. refl) (λ fit ws k out. refl) (λ fit ws i bound h. refl) (λ fit ws k bound out side. refl) (λ ws. refl) (λ ws. refl)

  -- Where three folds are opened3 at a node.
  abbrev ExprNode : Flatten Expr → Measure → Fit → Type 0
  ExprNode t m fit = ExprLong t m (fit n rooms)

  abbrev StmtLong : Flatten (List Stmt) → Piece → Fit → Type 0
  StmtLong t m fit = Pieces t pieces m (fit n rooms)

  abbrev TouchLong : Flatten Touch → Measure → Fit → Type 0
  TouchLong t m fit = Long t (λ x. (touch_measure x).ops) m.ops (fit n rooms)

  rolled-all : (ys : List (Stmt-F Expr Stmt Touch)) → pieces (map roll-Stmt ys) ≡ map stmt_of ys
  rolled-all [] = refl
  rolled-all (y ∷ ys) = ap₂ (λ (x : Piece) (xs : List Piece). x ∷ xs) (fold-roll-Stmt Measure Piece Measure l.expr_step l.stmt_step l.touch_step y) (rolled-all ys)

  of_expr : (y : Expr-F E S T) → ExprNode (flat_expr (roll-Expr (expr_tree y))) (expr_measure (roll-Expr (expr_tree y))) (expr_fit (roll-Expr (expr_tree y)))
  of_expr y = let tree = expr_tree y in opened3 ExprNode
      (fold-roll-Expr (Flatten Expr) (Flatten (List Stmt)) (Flatten Touch) f.expr_step f.stmt_step f.touch_step tree)
      (fold-roll-Expr Measure Piece Measure l.expr_step l.stmt_step l.touch_step tree)
      (fold-roll-Expr Fit Fit Fit r.expr_step r.stmt_step r.touch_step tree)
      (record {
        ops = λ fit ws bound top under within a b near. ap (λ (m : Measure). m.ops b) (at (node_e tree p ws).value) ∙ (expr_level y).ops fit ws bound top under within a b near;
        needs_move = λ ws. ap (λ (m : Measure). m.needs_move) (at (node_e tree p ws).value) ∙ plain_level y ws;
      })
    where
      at : (x : Expr-F Expr Stmt Touch) → expr_measure (roll-Expr x) ≡ expr_of x
      at x = fold-roll-Expr Measure Piece Measure l.expr_step l.stmt_step l.touch_step x

  of_touch : (y : Touch-F E S T) → TouchLong (flat_touch (roll-Touch (touch_tree y))) (touch_measure (roll-Touch (touch_tree y))) (touch_fit (roll-Touch (touch_tree y)))
  of_touch y = let tree = touch_tree y in opened3 TouchLong
      (fold-roll-Touch (Flatten Expr) (Flatten (List Stmt)) (Flatten Touch) f.expr_step f.stmt_step f.touch_step tree)
      (fold-roll-Touch Measure Piece Measure l.expr_step l.stmt_step l.touch_step tree)
      (fold-roll-Touch Fit Fit Fit r.expr_step r.stmt_step r.touch_step tree)
      (record {
        ops = λ fit ws bound top under within a b near.
            ap (λ (m : Measure). m.ops b) (fold-roll-Touch Measure Piece Measure l.expr_step l.stmt_step l.touch_step (node_t tree p ws).value) ∙ (touch_level y).ops fit ws bound top under within a b near;
      })

  of_stmt : (y : Stmt-F E S T) → StmtLong (flat_stmt (roll-Stmt (stmt_tree y))) (stmt_piece (roll-Stmt (stmt_tree y))) (stmt_fit (roll-Stmt (stmt_tree y)))
  of_stmt y = let tree = stmt_tree y in opened3 StmtLong
      (fold-roll-Stmt (Flatten Expr) (Flatten (List Stmt)) (Flatten Touch) f.expr_step f.stmt_step f.touch_step tree)
      (fold-roll-Stmt Measure Piece Measure l.expr_step l.stmt_step l.touch_step tree)
      (fold-roll-Stmt Fit Fit Fit r.expr_step r.stmt_step r.touch_step tree)
      (let level = stmt_level y in record {
        ops = λ fit ws bound top under within a b near. ap (λ (xs : List Piece). block_ops xs b) (at tree ws) ∙ level.ops fit ws bound top under within a b near;
        after = λ fit ws bound top under a b near. subst (λ (xs : List Piece). NearHere (length (node_s tree p ws).locals) top (with_held a (stmt_of tree).sets) (after_all xs b)) (sym (at tree ws)) (level.after fit ws bound top under a b near);
        changes = λ fit ws i bound h. ap (λ (xs : List Piece). any_changes xs (p.first + i)) (at tree ws) ∙ level.changes fit ws i bound h;
        no_changes = λ fit ws k bound out side. ap (λ (xs : List Piece). any_changes xs k) (at tree ws) ∙ level.no_changes fit ws k bound out side;
        returns = λ ws. ap any_returns (at tree ws) ∙ level.returns ws;
        value = λ ws. ap any_value (at tree ws) ∙ level.value ws;
      })
    where
      at : (x : Stmt-F Expr Stmt Touch) (ws : List ℕ) → pieces (map roll-Stmt (node_s x p ws).value) ≡ map stmt_of (node_s x p ws).value
      at x ws = rolled-all (node_s x p ws).value

  by_nodes : Cases (λ e. ExprNode (flat_expr e) (expr_measure e) (expr_fit e)) (λ e. StmtLong (flat_stmt e) (stmt_piece e) (stmt_fit e)) (λ e. TouchLong (flat_touch e) (touch_measure e) (touch_fit e))
  by_nodes = record { expr = of_expr; stmt = of_stmt; touch = of_touch }

  abbrev BodyLong : List Stmt → Type 0
  BodyLong ss = r.each (map stmt_fit ss) n rooms ≡ true → (ws : List ℕ) → p.first + n ≤ length ws → (top : ℕ) → length (f.block (map flat_stmt ss) p ws).locals ≤ top →
      length (f.block (map flat_stmt ss) p ws).locals ≤ N → (a b : Around) → NearHere (length ws) top a b → block_ops (pieces (f.block (map flat_stmt ss) p ws).value) b ≡ block_ops (pieces ss) a

  pub body_long : (ss : List Stmt) → BodyLong ss
  body_long = body_by BodyLong by_nodes those
