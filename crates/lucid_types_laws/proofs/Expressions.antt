-- Each expression that is derived keeps the rules of a valid core, at every place that has what the names in scope stand for.
use Rattle.std.proofs.Common.{◌≡◌, ℕ, List, [], ◌∷◌, Option, Some, true, false, if◌then◌else◌, map, slice_get, refl, sym, ap, subst, ◌∙◌}
use Rattle.lucid_base.specs.Bits.{bits_of}
use Rattle.lucid_base.specs.Bool.{bit_of}
use Rattle.lucid_base.specs.declared.array.ArrayName.{ArrayName}
use Rattle.lucid_base.specs.declared.bits.Bits.{Bits}
use Rattle.lucid_base.specs.declared.memory_alu.MemArg.TheVariants.{Stored, Arg}
use Rattle.lucid_base.specs.declared.ops.BinOp.{BinOp}
use Rattle.lucid_base.specs.declared.ops.CmpOp.{CmpOp}
use Rattle.lucid_base.specs.declared.ops.UnOp.{UnOp}
use Rattle.lucid_base.specs.declared.ops.UnOp.TheVariants.{Neg, Flip, Shl, Shr}
use Rattle.lucid_core.specs.declared.body.Expr.{Expr}
use Rattle.lucid_core.specs.declared.body.Expr.TheVariants as core
use Rattle.lucid_core.specs.declared.body.Touch.{Touch}
use Rattle.lucid_base.specs.Numbers.{is_in}
use Rattle.lucid_core.specs.Typing.{Answer, all_typed, cell_width}
use Rattle.lucid_core_laws.specs.Keeps.{KeepsAll, KeepsExpr, KeepsTouch}
use Rattle.lucid_core_laws.specs.Place.{Place}
use Rattle.lucid_core_laws.proofs.Expressions.{expr_nodes}
use Rattle.lucid_parse_tree.specs.declared.tree.A.{A}
use Rattle.lucid_parse_tree.specs.declared.tree.E.{E}
use Rattle.lucid_types_spec.specs.declared.scope.Entry.TheVariants as entry
use Rattle.lucid_types_spec.specs.declared.scope.Param.{Param}
use Rattle.lucid_types_spec.specs.declared.scope.ValueType.{ValueType}
use Rattle.lucid_types_spec.specs.Names.{Names}
use Rattle.lucid_types_spec.specs.Typed.{Typed, Free, AllFree, Touched, Called, Given, returning, zero_of}
use Rattle.lucid_types_spec.specs.Typed as rule
use Rattle.lucid_types_spec.specs.Types.{answer_width, cell_widths, stated, value_widths, width_of}
use Rattle.lucid_types_laws.proofs.Suits.{IsFun, Suits}

-- ---- the laws of nodes at the variants

module _ (p : Place) where
  pub fixed : (n : Bits) → KeepsExpr p (Some n.width) (core.Fixed n)
  fixed n = subst (KeepsExpr p (Some n.width)) (core.rolls-Fixed n) (expr_nodes.fixed p n)

  pub local : (i w : ℕ) → slice_get p.scope.locals i ≡ Some w → is_in i p.known ≡ true → KeepsExpr p (Some w) (core.Local i)
  local i w there assigned = subst (KeepsExpr p (Some w)) (core.rolls-Local i) (expr_nodes.local p i w there assigned)

  un : (w : ℕ) (op : UnOp) (c : Expr) → KeepsExpr p (Some w) c → KeepsExpr p (Some w) (core.Un op c)
  un w op c x = subst (KeepsExpr p (Some w)) (core.rolls-Un op c) (expr_nodes.un p w op c x)

  bin : (w : ℕ) (op : BinOp) (c d : Expr) → KeepsExpr p (Some w) c → KeepsExpr p (Some w) d → KeepsExpr p (Some w) (core.Bin op c d)
  bin w op c d x y = subst (KeepsExpr p (Some w)) (core.rolls-Bin op c d) (expr_nodes.bin p w op c d x y)

  pub cmp : (w : ℕ) (op : CmpOp) (c d : Expr) → KeepsExpr p (Some w) c → KeepsExpr p (Some w) d → KeepsExpr p (Some 1) (core.Cmp op c d)
  cmp w op c d x y = subst (KeepsExpr p (Some 1)) (core.rolls-Cmp op c d) (expr_nodes.cmp p w op c d x y)

  pub array : (a : Answer) (c : Touch) → KeepsTouch p a c → KeepsExpr p a (core.Array c)
  array a c x = subst (KeepsExpr p a) (core.rolls-Array c) (expr_nodes.array p a c x)

  zero_keeps : (w : ℕ) → KeepsExpr p (Some w) (zero_of w)
  zero_keeps w = fixed (bits_of w 0)

  -- What a call of a function gives is of its parameters' widths.
  pub record AreGiven (ps : List Param) (arrays : List ArrayName) (cs : List Expr) : Type 0 where
    pub cells : all_typed (map cell_width arrays) p.scope ≡ Some (cell_widths ps)
    pub values : KeepsAll p (value_widths ps) cs

  call : (k : ℕ) (ps : List Param) (t : Option ValueType) (arrays : List ArrayName) (cs : List Expr) → p.flat ≡ false →
      IsFun p.scope.funs k ps t → AreGiven ps arrays cs → KeepsExpr p (answer_width t) (core.Fun k arrays cs)
  call k ps t arrays cs flat f xs =
      subst (λ (a : Answer). KeepsExpr p a (core.Fun k arrays cs)) f.answer
      (subst (KeepsExpr p f.def.answer) (core.rolls-Fun k arrays cs)
      (expr_nodes.call p k f.def arrays cs flat f.there (xs.cells ∙ ap (λ (ws : List ℕ). Some ws) (sym f.arrays))
      (subst (λ (ws : List ℕ). KeepsAll p ws cs) (sym f.values) xs.values)))

-- ---- rule by rule

mutual
  pub typed : {s : Names} {t : ValueType} {x : E} {c : Expr} → Typed s t x c → (p : Place) → Suits p s → KeepsExpr p (Some (width_of t)) c
  typed (rule.number w n fits) p h = fixed p (bits_of w n)
  typed (rule.truth b) p h = fixed p (bits_of 1 (bit_of b))
  typed rule.me p h = subst (KeepsExpr p (Some 32)) core.rolls-Me (expr_nodes.me p)
  typed rule.time p h = subst (KeepsExpr p (Some 32)) core.rolls-Now (expr_nodes.now p)
  typed (rule.constant n b is) p h = fixed p b
  typed (rule.local n i t is) p h = let l = h.holds n (entry.Local i t) is in local p i (width_of t) l.there l.assigned
  typed (rule.paren t x c of) p h = typed of p h
  typed (rule.minus w x c of) p h = un p w Neg c (typed of p h)
  typed (rule.tilde w x c of) p h = un p w Flip c (typed of p h)
  typed (rule.not x c of) p h = un p 1 Flip c (typed of p h)
  typed (rule.shift w x left k c of) p h = un p w (if left then Shl k else Shr k) c (typed of p h)
  typed (rule.sum w sign op x y c d is of and) p h = bin p w op c d (typed of p h) (typed and p h)
  typed (rule.logical sign op x y c d is of and) p h = bin p 1 op c d (typed of p h) (typed and p h)
  typed (rule.compare w sign op x y c d is ok of and) p h = cmp p w op c d (typed of p h) (typed and p h)
  typed (rule.cast w v x c ok of) p h = subst (KeepsExpr p (Some (stated w))) (core.rolls-Cast (stated w) c) (expr_nodes.cast p (stated w) v c (free of p h))
  typed (rule.hash w v x xs c cs ok of all) p h =
      let rest = all_free all p h in
      subst (KeepsExpr p (Some w)) (core.rolls-Hash w (c ∷ cs)) (expr_nodes.hash p w v rest.0 c cs (free of p h, rest.1))
  typed (rule.call t n xs c of) p h = called of p h
  typed (rule.array w x c of) p h = array p (Some w) c (touched of p h)

  pub free : {s : Names} {x : E} {w : ℕ} {c : Expr} → Free s x w c → (p : Place) → Suits p s → KeepsExpr p (Some w) c
  free (rule.free x w c ok of) p h = typed of p h

  pub all_free : {s : Names} {xs : List E} {cs : List Expr} → AllFree s xs cs → (p : Place) → Suits p s → (ws : List ℕ) × KeepsAll p ws cs
  all_free rule.none p h = ([], tt)
  all_free (rule.more x xs w c cs of all) p h = let rest = all_free all p h in (w ∷ rest.0, (free of p h, rest.1))

  pub touched : {s : Names} {x : A} {o : Option ℕ} {c : Touch} → Touched s x o c → (p : Place) → Suits p s → KeepsTouch p o c
  touched (rule.get n name w v i j is of) p h =
      expr_nodes.touch p w v (record { array = name; index = j; get = returning w Stored; get_arg = zero_of w; set = returning w Stored; set_arg = zero_of w; answers = true })
      (h.holds n (entry.Array name w) is) refl refl refl refl (free of p h) (zero_keeps p w) (zero_keeps p w)
  touched (rule.set n name w v i x j c is of value) p h =
      expr_nodes.touch p w v (record { array = name; index = j; get = returning w Stored; get_arg = zero_of w; set = returning w Arg; set_arg = c; answers = false })
      (h.holds n (entry.Array name w) is) refl refl refl refl (free of p h) (zero_keeps p w) (typed value p h)
  touched (rule.getm n m name w v alu i x j c is of memop aw value) p h =
      expr_nodes.touch p w v (record { array = name; index = j; get = alu; get_arg = c; set = returning w Stored; set_arg = zero_of w; answers = true })
      (h.holds n (entry.Array name w) is) aw refl (h.holds m (entry.Memop alu) memop) refl (free of p h) (typed value p h) (zero_keeps p w)
  touched (rule.setm n m name w v alu i x j c is of memop aw value) p h =
      expr_nodes.touch p w v (record { array = name; index = j; get = returning w Stored; get_arg = zero_of w; set = alu; set_arg = c; answers = false })
      (h.holds n (entry.Array name w) is) refl aw refl (h.holds m (entry.Memop alu) memop) (free of p h) (zero_keeps p w) (typed value p h)
  touched (rule.update n m k name w v one two i x y j c d is of first fw one_value second sw two_value) p h =
      expr_nodes.touch p w v (record { array = name; index = j; get = one; get_arg = c; set = two; set_arg = d; answers = true })
      (h.holds n (entry.Array name w) is) fw sw (h.holds m (entry.Memop one) first) (h.holds k (entry.Memop two) second)
      (free of p h) (typed one_value p h) (typed two_value p h)

  pub called : {s : Names} {n : List ℕ} {xs : List E} {t : Option ValueType} {c : Expr} → Called s n xs t c → (p : Place) → Suits p s → KeepsExpr p (answer_width t) c
  called (rule.fun n k ps t xs arrays cs is all) p h = call p k ps t arrays cs h.core (h.holds n (entry.Fun k ps t) is) (given all p h)

  pub given : {s : Names} {ps : List Param} {xs : List E} {arrays : List ArrayName} {cs : List Expr} → Given s ps xs arrays cs → (p : Place) → Suits p s → AreGiven p ps arrays cs
  given rule.nothing p h = record { cells = refl; values = tt }
  given (rule.value t ps x xs arrays c cs of all) p h = let rest = given all p h in record { cells = rest.cells; values = (typed of p h, rest.values) }
  given (rule.array_name w ps n xs name arrays cs is all) p h =
      let rest = given all p h in
      record { cells = rw (h.holds n (entry.Array name w) is, rest.cells) refl; values = rest.values }
