-- The rules of expressions: which core one has at a place that asks for a type, and at a free place, which asks for an int alone.
use Rattle.std.specs.Prelude.{◌≡◌, ℕ, ◌<◌, ◌^◌, List, [], ◌∷◌, Option, None, Some, Bool, true, false, if◌then◌else◌}
use Rattle.lucid_base.specs.Bits.{bits_of}
use Rattle.lucid_base.specs.Bool.{bit_of}
use Rattle.lucid_base.specs.declared.array.ArrayName.{ArrayName}
use Rattle.lucid_base.specs.declared.bits.Bits.{Bits}
use Rattle.lucid_base.specs.declared.memory_alu.MemAlu.{MemAlu}
use Rattle.lucid_base.specs.declared.memory_alu.MemArg.{MemArg}
use Rattle.lucid_base.specs.declared.memory_alu.MemArg.TheVariants.{Stored, Arg}
use Rattle.lucid_base.specs.declared.memory_alu.MemSide.TheVariants.{One}
use Rattle.lucid_base.specs.declared.ops.BinOp.{BinOp}
use Rattle.lucid_base.specs.declared.ops.CmpOp.{CmpOp}
use Rattle.lucid_base.specs.declared.ops.UnOp.TheVariants.{Neg, Flip, Shl, Shr}
use Rattle.lucid_core.specs.declared.body.Expr.{Expr}
use Rattle.lucid_core.specs.declared.body.Expr.TheVariants as core
use Rattle.lucid_core.specs.declared.body.Touch.{Touch, roll-Touch}
use Rattle.lucid_parse_tree.specs.declared.tree.A.{A}
use Rattle.lucid_parse_tree.specs.declared.tree.A.TheVariants as a
use Rattle.lucid_parse_tree.specs.declared.tree.E.{E}
use Rattle.lucid_parse_tree.specs.declared.tree.E.TheVariants as e
use Rattle.lucid_parse_tree.specs.declared.tree.Infix.{Infix}
use Rattle.lucid_parse_tree.specs.declared.tree.Pre.TheVariants.{Minus, Tilde, Not}
use Rattle.lucid_types_spec.specs.declared.scope.Entry.TheVariants as entry
use Rattle.lucid_types_spec.specs.declared.scope.Param.{Param}
use Rattle.lucid_types_spec.specs.declared.scope.Param.TheVariants as param
use Rattle.lucid_types_spec.specs.declared.scope.ValueType.{ValueType}
use Rattle.lucid_types_spec.specs.declared.scope.ValueType.TheVariants.{Int}
use Rattle.lucid_types_spec.specs.declared.scope.ValueType.TheVariants as vt
use Rattle.lucid_types_spec.specs.Leaves.{FreeWidth}
use Rattle.lucid_types_spec.specs.Names.{Names, seen}
use Rattle.lucid_types_spec.specs.Operators.{arithmetic, comparison, logic}
use Rattle.lucid_types_spec.specs.Types.{IsWidth, stated}

-- Where the source names no memop: the one that returns the stored value or its argument, and the argument 0 where none is written.
abbrev pub returning : ℕ → MemArg → MemAlu
returning w x = record { width = w; test = None; yes = One x; no = One x }

abbrev pub zero_of : ℕ → Expr
zero_of w = core.Fixed (bits_of w 0)

-- A call of an array: the memop of its answer, and that of its store.
abbrev pub touching : ArrayName → Expr → MemAlu → Expr → MemAlu → Expr → Bool → Touch
touching array i get x set y answers =
    roll-Touch (record { array = array; index = i; get = get; get_arg = x; set = set; set_arg = y; answers = answers })

mutual
  -- With these names in scope, at a place that asks for this type, the expression has this core.
  pub data Typed (s : Names) : ValueType → E → Expr → Type 0 where
    number : (w n : ℕ) → n < 2 ^ w → Typed s (Int w) (e.Number n) (core.Fixed (bits_of w n))
    truth : (b : Bool) → Typed s vt.Bool (e.Truth b) (core.Fixed (bits_of 1 (bit_of b)))
    me : Typed s (Int 32) e.Me core.Me
    time : Typed s (Int 32) e.Time core.Now
    constant : (n : List ℕ) (b : Bits) → seen n s ≡ Some (entry.Constant b) → Typed s (Int b.width) (e.Name n) (core.Fixed b)
    local : (n : List ℕ) (i : ℕ) (t : ValueType) → seen n s ≡ Some (entry.Local i t) → Typed s t (e.Name n) (core.Local i)
    paren : (t : ValueType) (x : E) (c : Expr) → Typed s t x c → Typed s t (e.Paren x) c
    minus : (w : ℕ) (x : E) (c : Expr) → Typed s (Int w) x c → Typed s (Int w) (e.Prefix Minus x) (core.Un Neg c)
    tilde : (w : ℕ) (x : E) (c : Expr) → Typed s (Int w) x c → Typed s (Int w) (e.Prefix Tilde x) (core.Un Flip c)
    not : (x : E) (c : Expr) → Typed s vt.Bool x c → Typed s vt.Bool (e.Prefix Not x) (core.Un Flip c)
    shift : (w : ℕ) (x : E) (left : Bool) (k : ℕ) (c : Expr) →
        Typed s (Int w) x c → Typed s (Int w) (e.Shift x left k) (core.Un (if left then Shl k else Shr k) c)
    sum : (w : ℕ) (sign : Infix) (op : BinOp) (x y : E) (c d : Expr) → arithmetic sign ≡ Some op →
        Typed s (Int w) x c → Typed s (Int w) y d → Typed s (Int w) (e.Infix sign x y) (core.Bin op c d)
    logical : (sign : Infix) (op : BinOp) (x y : E) (c d : Expr) → logic sign ≡ Some op →
        Typed s vt.Bool x c → Typed s vt.Bool y d → Typed s vt.Bool (e.Infix sign x y) (core.Bin op c d)
    -- the two sides of a comparison are one free place
    compare : (w : ℕ) (sign : Infix) (op : CmpOp) (x y : E) (c d : Expr) → comparison sign ≡ Some op → FreeWidth (x ∷ y ∷ []) w →
        Typed s (Int w) x c → Typed s (Int w) y d → Typed s vt.Bool (e.Infix sign x y) (core.Cmp op c d)
    cast : (w : Option ℕ) (v : ℕ) (x : E) (c : Expr) → IsWidth (stated w) →
        Free s x v c → Typed s (Int (stated w)) (e.Cast w x) (core.Cast (stated w) c)
    hash : (w v : ℕ) (x : E) (xs : List E) (c : Expr) (cs : List Expr) → IsWidth w →
        Free s x v c → AllFree s xs cs → Typed s (Int w) (e.Hash w (x ∷ xs)) (core.Hash w (c ∷ cs))
    call : (t : ValueType) (n : List ℕ) (xs : List E) (c : Expr) → Called s n xs (Some t) c → Typed s t (e.Call n xs) c
    array : (w : ℕ) (x : A) (c : Touch) → Touched s x (Some w) c → Typed s (Int w) (e.Array x) (core.Array c)

  -- At a free place, where it has this width.
  pub data Free (s : Names) : E → ℕ → Expr → Type 0 where
    free : (x : E) (w : ℕ) (c : Expr) → FreeWidth (x ∷ []) w → Typed s (Int w) x c → Free s x w c

  -- At a free place each.
  pub data AllFree (s : Names) : List E → List Expr → Type 0 where
    none : AllFree s [] []
    more : (x : E) (xs : List E) (w : ℕ) (c : Expr) (cs : List Expr) → Free s x w c → AllFree s xs cs → AllFree s (x ∷ xs) (c ∷ cs)

  -- A call of an array, and the width of its value: None where it gives none. A memop argument is a memop of the cells' width.
  pub data Touched (s : Names) : A → Option ℕ → Touch → Type 0 where
    get : (n : List ℕ) (array : ArrayName) (w v : ℕ) (i : E) (j : Expr) →
        seen n s ≡ Some (entry.Array array w) → Free s i v j →
        Touched s (a.Get n i) (Some w) (touching array j (returning w Stored) (zero_of w) (returning w Stored) (zero_of w) true)
    set : (n : List ℕ) (array : ArrayName) (w v : ℕ) (i x : E) (j c : Expr) →
        seen n s ≡ Some (entry.Array array w) → Free s i v j → Typed s (Int w) x c →
        Touched s (a.Set n i x) None (touching array j (returning w Stored) (zero_of w) (returning w Arg) c false)
    getm : (n m : List ℕ) (array : ArrayName) (w v : ℕ) (memop : MemAlu) (i x : E) (j c : Expr) →
        seen n s ≡ Some (entry.Array array w) → Free s i v j → seen m s ≡ Some (entry.Memop memop) → memop.width ≡ w → Typed s (Int w) x c →
        Touched s (a.Getm n i m x) (Some w) (touching array j memop c (returning w Stored) (zero_of w) true)
    setm : (n m : List ℕ) (array : ArrayName) (w v : ℕ) (memop : MemAlu) (i x : E) (j c : Expr) →
        seen n s ≡ Some (entry.Array array w) → Free s i v j → seen m s ≡ Some (entry.Memop memop) → memop.width ≡ w → Typed s (Int w) x c →
        Touched s (a.Setm n i m x) None (touching array j (returning w Stored) (zero_of w) memop c false)
    update : (n m k : List ℕ) (array : ArrayName) (w v : ℕ) (get set : MemAlu) (i x y : E) (j c d : Expr) →
        seen n s ≡ Some (entry.Array array w) → Free s i v j → seen m s ≡ Some (entry.Memop get) → get.width ≡ w → Typed s (Int w) x c →
        seen k s ≡ Some (entry.Memop set) → set.width ≡ w → Typed s (Int w) y d →
        Touched s (a.Update n i m x k y) (Some w) (touching array j get c set d true)

  -- A call of a function, and the type of its value: None where it gives none.
  pub data Called (s : Names) : List ℕ → List E → Option ValueType → Expr → Type 0 where
    fun : (n : List ℕ) (k : ℕ) (ps : List Param) (t : Option ValueType) (xs : List E) (arrays : List ArrayName) (cs : List Expr) →
        seen n s ≡ Some (entry.Fun k ps t) → Given s ps xs arrays cs → Called s n xs t (core.Fun k arrays cs)

  -- The arguments for parameters, one for each: values, and arrays of the same cell width by their bare names.
  pub data Given (s : Names) : List Param → List E → List ArrayName → List Expr → Type 0 where
    nothing : Given s [] [] [] []
    value : (t : ValueType) (ps : List Param) (x : E) (xs : List E) (arrays : List ArrayName) (c : Expr) (cs : List Expr) →
        Typed s t x c → Given s ps xs arrays cs → Given s (param.Value t ∷ ps) (x ∷ xs) arrays (c ∷ cs)
    array_name : (w : ℕ) (ps : List Param) (n : List ℕ) (xs : List E) (array : ArrayName) (arrays : List ArrayName) (cs : List Expr) →
        seen n s ≡ Some (entry.Array array w) → Given s ps xs arrays cs →
        Given s (param.Array w ∷ ps) (e.Name n ∷ xs) (array ∷ arrays) cs
