-- What the rules ask of an expression of a known form: the other way round.
use Rattle.std.proofs.Common.{◌≡◌, ◌⊎◌, inl, inr, ℕ, ◌<◌, ◌^◌, List, [], ◌∷◌, Option, None, Some, refl, sym, ap, subst, ◌∙◌}
use Rattle.lucid_base.specs.declared.array.ArrayName.{ArrayName}
use Rattle.lucid_base.specs.declared.bits.Bits.{Bits}
use Rattle.lucid_base.specs.declared.memory_alu.MemAlu.{MemAlu}
use Rattle.lucid_base.specs.declared.ops.BinOp.{BinOp}
use Rattle.lucid_base.specs.declared.ops.CmpOp.{CmpOp}
use Rattle.lucid_core.specs.declared.body.Expr.{Expr}
use Rattle.lucid_core.specs.declared.body.Touch.{Touch}
use Rattle.lucid_parse_tree.specs.declared.tree.A.{A, roll-A}
use Rattle.lucid_parse_tree.specs.declared.tree.A.TheOpen.{A-F, E-F}
use Rattle.lucid_parse_tree.specs.declared.tree.A.TheVariants as a
use Rattle.lucid_parse_tree.specs.declared.tree.A.TheViews.{out-A, out-E, out-roll-A, out-roll-E}
use Rattle.lucid_parse_tree.specs.declared.tree.E.{E, roll-E}
use Rattle.lucid_parse_tree.specs.declared.tree.E.TheVariants as e
use Rattle.lucid_parse_tree.specs.declared.tree.Infix.{Infix}
use Rattle.lucid_parse_tree.specs.declared.tree.Pre.{Pre}
use Rattle.lucid_parse_tree.specs.declared.tree.Pre.TheVariants.{Minus, Tilde, Not}
use Rattle.lucid_types_spec.specs.declared.scope.Entry.TheVariants as entry
use Rattle.lucid_types_spec.specs.declared.scope.ValueType.{ValueType}
use Rattle.lucid_types_spec.specs.declared.scope.ValueType.TheVariants.{Int}
use Rattle.lucid_types_spec.specs.declared.scope.ValueType.TheVariants as vt
use Rattle.lucid_types_spec.specs.Leaves.{FreeWidth}
use Rattle.lucid_types_spec.specs.Names.{Names, seen}
use Rattle.lucid_types_spec.specs.Operators.{arithmetic, comparison, logic}
use Rattle.lucid_types_spec.specs.Typed.{Typed, Free, AllFree, Touched, Called}
use Rattle.lucid_types_spec.specs.Typed as rule
use Rattle.lucid_types_spec.specs.Types.{IsWidth, stated}

-- At an int place, of some width that the type is.
abbrev pub AtInt : ValueType → (ℕ → Type 0) → Type 0
AtInt t P = (w : ℕ) × (t ≡ Int w) × P w

-- Some core at a type.
abbrev pub Has : Names → ValueType → E → Type 0
Has s t x = (c : Expr) × Typed s t x c

abbrev pub HasFree : Names → E → Type 0
HasFree s x = (w : ℕ) × (c : Expr) × Free s x w c

abbrev AllHaveFree : Names → List E → Type 0
AllHaveFree s xs = (cs : List Expr) × AllFree s xs cs

abbrev OpenPrefix : Names → ValueType → Pre → E → Type 0
OpenPrefix s t Minus x = AtInt t (λ w. Has s (Int w) x)
OpenPrefix s t Tilde x = AtInt t (λ w. Has s (Int w) x)
OpenPrefix s t Not x = (t ≡ vt.Bool) × Has s vt.Bool x

-- One of the three kinds of signs.
abbrev pub OpenInfix : Names → ValueType → Infix → E → E → Type 0
OpenInfix s t sign x y =
    ((op : BinOp) × (arithmetic sign ≡ Some op) × AtInt t (λ w. Has s (Int w) x × Has s (Int w) y))
    ⊎ ((op : BinOp) × (logic sign ≡ Some op) × (t ≡ vt.Bool) × Has s vt.Bool x × Has s vt.Bool y)
    ⊎ ((op : CmpOp) × (comparison sign ≡ Some op) × (t ≡ vt.Bool) × ((w : ℕ) × FreeWidth (x ∷ y ∷ []) w × Has s (Int w) x × Has s (Int w) y))

abbrev pub Opened : Names → ValueType → E-F A E → Type 0
Opened s t (E-F.Number n) = AtInt t (λ w. n < 2 ^ w)
Opened s t (E-F.Truth b) = t ≡ vt.Bool
Opened s t E-F.Me = t ≡ Int 32
Opened s t E-F.Time = t ≡ Int 32
Opened s t (E-F.Name n) = ((b : Bits) × (seen n s ≡ Some (entry.Constant b)) × (t ≡ Int b.width)) ⊎ ((i : ℕ) × (seen n s ≡ Some (entry.Local i t)))
Opened s t (E-F.Paren x) = Has s t x
Opened s t (E-F.Prefix sign x) = OpenPrefix s t sign x
Opened s t (E-F.Shift x left k) = AtInt t (λ w. Has s (Int w) x)
Opened s t (E-F.Infix sign x y) = OpenInfix s t sign x y
Opened s t (E-F.Cast w x) = IsWidth (stated w) × (t ≡ Int (stated w)) × HasFree s x
Opened s t (E-F.Hash w xs) = IsWidth w × (t ≡ Int w) × AllHaveFree s xs
Opened s t (E-F.Call n xs) = (c : Expr) × Called s n xs (Some t) c
Opened s t (E-F.Array x) = AtInt t (λ w. (c : Touch) × Touched s x (Some w) c)

-- With an array of some cell width, and memops of that width.
abbrev pub Cells : Names → List ℕ → (ℕ → Type 0) → Type 0
Cells s n P = (array : ArrayName) × (w : ℕ) × (seen n s ≡ Some (entry.Array array w)) × P w

abbrev IsMemop : Names → List ℕ → ℕ → Type 0
IsMemop s n w = (memop : MemAlu) × (seen n s ≡ Some (entry.Memop memop)) × (memop.width ≡ w)

abbrev pub OpenedCall : Names → Option ℕ → A-F A E → Type 0
OpenedCall s o (A-F.Get n i) = Cells s n (λ w. (o ≡ Some w) × HasFree s i)
OpenedCall s o (A-F.Set n i x) = Cells s n (λ w. (o ≡ None) × HasFree s i × Has s (Int w) x)
OpenedCall s o (A-F.Getm n i m x) = Cells s n (λ w. (o ≡ Some w) × HasFree s i × IsMemop s m w × Has s (Int w) x)
OpenedCall s o (A-F.Setm n i m x) = Cells s n (λ w. (o ≡ None) × HasFree s i × IsMemop s m w × Has s (Int w) x)
OpenedCall s o (A-F.Update n i m x k y) = Cells s n (λ w. (o ≡ Some w) × HasFree s i × IsMemop s m w × Has s (Int w) x × IsMemop s k w × Has s (Int w) y)

pub opened : {s : Names} {t : ValueType} {x : E} {c : Expr} → Typed s t x c → Opened s t (out-E x)
opened (rule.number w n fits) = subst (Opened _ _) (sym (ap out-E (sym (e.rolls-Number n)) ∙ out-roll-E _)) (w, refl, fits)
opened (rule.truth b) = subst (Opened _ _) (sym (ap out-E (sym (e.rolls-Truth b)) ∙ out-roll-E _)) refl
opened rule.me = subst (Opened _ _) (sym (ap out-E (sym e.rolls-Me) ∙ out-roll-E _)) refl
opened rule.time = subst (Opened _ _) (sym (ap out-E (sym e.rolls-Time) ∙ out-roll-E _)) refl
opened (rule.constant n b is) = subst (Opened _ _) (sym (ap out-E (sym (e.rolls-Name n)) ∙ out-roll-E _)) (inl (b, is, refl))
opened (rule.local n i t is) = subst (Opened _ _) (sym (ap out-E (sym (e.rolls-Name n)) ∙ out-roll-E _)) (inr (i, is))
opened (rule.paren t x c of) = subst (Opened _ _) (sym (ap out-E (sym (e.rolls-Paren x)) ∙ out-roll-E _)) (c, of)
opened (rule.minus w x c of) = subst (Opened _ _) (sym (ap out-E (sym (e.rolls-Prefix Minus x)) ∙ out-roll-E _)) (w, refl, (c, of))
opened (rule.tilde w x c of) = subst (Opened _ _) (sym (ap out-E (sym (e.rolls-Prefix Tilde x)) ∙ out-roll-E _)) (w, refl, (c, of))
opened (rule.not x c of) = subst (Opened _ _) (sym (ap out-E (sym (e.rolls-Prefix Not x)) ∙ out-roll-E _)) (refl, (c, of))
opened (rule.shift w x left k c of) = subst (Opened _ _) (sym (ap out-E (sym (e.rolls-Shift x left k)) ∙ out-roll-E _)) (w, refl, (c, of))
opened (rule.sum w sign op x y c d is of and) = subst (Opened _ _) (sym (ap out-E (sym (e.rolls-Infix sign x y)) ∙ out-roll-E _)) (inl (op, is, (w, refl, ((c, of), (d, and)))))
opened (rule.logical sign op x y c d is of and) = subst (Opened _ _) (sym (ap out-E (sym (e.rolls-Infix sign x y)) ∙ out-roll-E _)) (inr (inl (op, is, refl, (c, of), (d, and))))
opened (rule.compare w sign op x y c d is free of and) = subst (Opened _ _) (sym (ap out-E (sym (e.rolls-Infix sign x y)) ∙ out-roll-E _)) (inr (inr (op, is, refl, (w, free, (c, of), (d, and)))))
opened (rule.cast w v x c ok of) = subst (Opened _ _) (sym (ap out-E (sym (e.rolls-Cast w x)) ∙ out-roll-E _)) (ok, refl, (v, c, of))
opened (rule.hash w v x xs c cs ok of all) = subst (Opened _ _) (sym (ap out-E (sym (e.rolls-Hash w (x ∷ xs))) ∙ out-roll-E _)) (ok, refl, (c ∷ cs, rule.more x xs v c cs of all))
opened (rule.call t n xs c of) = subst (Opened _ _) (sym (ap out-E (sym (e.rolls-Call n xs)) ∙ out-roll-E _)) (c, of)
opened (rule.array w x c of) = subst (Opened _ _) (sym (ap out-E (sym (e.rolls-Array x)) ∙ out-roll-E _)) (w, refl, (c, of))

pub opened_call : {s : Names} {o : Option ℕ} {x : A} {c : Touch} → Touched s x o c → OpenedCall s o (out-A x)
opened_call {s} {o} (rule.get n name w v i j is of) = subst (OpenedCall s o) (sym (ap out-A (sym (a.rolls-Get n i)) ∙ out-roll-A _)) (name, w, is, (refl, (v, j, of)))
opened_call {s} {o} (rule.set n name w v i x j c is of value) =
    subst (OpenedCall s o) (sym (ap out-A (sym (a.rolls-Set n i x)) ∙ out-roll-A _)) (name, w, is, (refl, (v, j, of), (c, value)))
opened_call {s} {o} (rule.getm n m name w v alu i x j c is of memop aw value) =
    subst (OpenedCall s o) (sym (ap out-A (sym (a.rolls-Getm n i m x)) ∙ out-roll-A _)) (name, w, is, (refl, (v, j, of), (alu, memop, aw), (c, value)))
opened_call {s} {o} (rule.setm n m name w v alu i x j c is of memop aw value) =
    subst (OpenedCall s o) (sym (ap out-A (sym (a.rolls-Setm n i m x)) ∙ out-roll-A _)) (name, w, is, (refl, (v, j, of), (alu, memop, aw), (c, value)))
opened_call {s} {o} (rule.update n m k name w v one two i x y j c d is of first fw one_value second sw two_value) =
    subst (OpenedCall s o) (sym (ap out-A (sym (a.rolls-Update n i m x k y)) ∙ out-roll-A _))
    (name, w, is, (refl, (v, j, of), (one, first, fw), (c, one_value), (two, second, sw), (d, two_value)))

-- At a form that is known.
pub at_form : {s : Names} {t : ValueType} {x : E} {c : Expr} (y : E-F A E) → roll-E y ≡ x → Typed s t x c → Opened s t y
at_form {s} {t} y is of = subst (Opened s t) (ap out-E (sym is) ∙ out-roll-E y) (opened of)

pub at_call : {s : Names} {o : Option ℕ} {x : A} {c : Touch} (y : A-F A E) → roll-A y ≡ x → Touched s x o c → OpenedCall s o y
at_call {s} {o} y is of = subst (OpenedCall s o) (ap out-A (sym is) ∙ out-roll-A y) (opened_call of)
