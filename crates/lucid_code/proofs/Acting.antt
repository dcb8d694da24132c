-- The fields that an operation leaves unchanged, and when two runs of it agree.
use Rattle.std.proofs.Common.{◌≡◌, ◌≢◌, ℕ, zero, suc, ◌<◌, ◌^◌, List, [], ◌∷◌, ◌++◌, Bool, true, false, not, ◌&&◌, Option, None, Some, if◌then◌else◌, map, slice_index, nat_eq, refl, sym, ap, ap₂, subst, ◌∙◌, ⊎_elim, mod-lt, pow_pos}
use Rattle.std.specs.List.{AllByRecursion, list_any}
use Rattle.std.specs.Option.{option_to_list, option_map}
use Rattle.std.proofs.lemmas.Bool.{and_parts, or_cases, eqb-true, eq-eqb, not-true, cases_eq, true≢false}
use Rattle.lucid_base.specs.Bool.{bit_of}
use Rattle.lucid_base.specs.Cells.{cell_at, with_cell}
use Rattle.lucid_base.specs.Hash.{fnv_1a, bytes_of}
use Rattle.lucid_base.specs.Memop.{memop_of}
use Rattle.lucid_base.specs.Ops.{un_of, bin_of, cmp_of, low_of}
use Rattle.lucid_base.specs.declared.event.Out.{Out}
use Rattle.lucid_base.specs.declared.event.Out.TheVariants as out
use Rattle.lucid_base.specs.declared.event.Target.{Target}
use Rattle.lucid_base.specs.declared.event.Target.TheVariants.{At}
use Rattle.lucid_code.specs.declared.op.Act.{Act}
use Rattle.lucid_code.specs.declared.op.Act.TheVariants as act
use Rattle.lucid_code.specs.declared.op.Literal.{Literal}
use Rattle.lucid_code.specs.declared.op.Op.{Op}
use Rattle.lucid_code.specs.declared.op.Operand.{Operand}
use Rattle.lucid_code.specs.Guards.{Fields, holds, all_hold, opposed, contradict}
use Rattle.lucid_code.specs.Run.{FieldsFit, Machine, value, values, target_of, put, put_out, result, written, run_act, run_op, run}
use Rattle.lucid_code.specs.Uses.{written_by, operands_of, with_operands}

-- ---- fields that are written

pub put_other : (xs : Fields) (k j v : ℕ) → j ≢ k → slice_index (put xs k v) j ≡ slice_index xs j
put_other xs zero zero v h = absurd (h refl)
put_other [] zero (suc j) v h = refl
put_other (x ∷ xs) zero (suc j) v h = refl
put_other [] (suc k) zero v h = refl
put_other (x ∷ xs) (suc k) zero v h = refl
put_other [] (suc k) (suc j) v h = put_other [] k j v (λ e. h (ap suc e))
put_other (x ∷ xs) (suc k) (suc j) v h = put_other xs k j v (λ e. h (ap suc e))

pub put_same : (xs : Fields) (k v : ℕ) → slice_index (put xs k v) k ≡ v
put_same [] zero v = refl
put_same [] (suc k) v = put_same [] k v
put_same (x ∷ xs) zero v = refl
put_same (x ∷ xs) (suc k) v = put_same xs k v

pub written_other : (widths : List ℕ) (to : Option ℕ) (v : ℕ) (fields : Fields) (k : ℕ) → to ≢ Some k → slice_index (written widths to v fields) k ≡ slice_index fields k
written_other widths None v fields k d = refl
written_other widths (Some j) v fields k d = put_other fields j k (low_of (slice_index widths j) v) (λ e. d (ap Some (sym e)))

written_fits : (widths : List ℕ) (to : Option ℕ) (v : ℕ) (fields : Fields) → FieldsFit widths fields → FieldsFit widths (written widths to v fields)
written_fits widths None v fields fit k = fit k
written_fits widths (Some j) v fields fit k = ⊎_elim
    (λ e. subst (λ i. slice_index (put fields j (low_of (slice_index widths j) v)) i < 2 ^ slice_index widths i) (sym e)
    (subst (λ n. n < 2 ^ slice_index widths j) (sym (put_same fields j (low_of (slice_index widths j) v))) (mod-lt v (pow_pos (slice_index widths j)))))
    (λ n. subst (λ m. m < 2 ^ slice_index widths k) (sym (put_other fields j k (low_of (slice_index widths j) v) n)) (fit k))
    (cases_eq k j)

-- ---- an operation acts where its guard holds

pub acts : (widths : List ℕ) (m : Machine) (o : Op) → all_hold m.fields o.guard ≡ true → run_op widths m o ≡ run_act widths o.act m
acts widths m o h = ap (λ b. if b then run_act widths o.act m else m) h

pub rests : (widths : List ℕ) (m : Machine) (o : Op) → all_hold m.fields o.guard ≡ false → run_op widths m o ≡ m
rests widths m o h = ap (λ b. if b then run_act widths o.act m else m) h

pub op_fits : (widths : List ℕ) (m : Machine) (o : Op) → FieldsFit widths m.fields → FieldsFit widths (run_op widths m o).fields
op_fits widths m o fit = by (all_hold m.fields o.guard) refl
  where
    by : (b : Bool) → all_hold m.fields o.guard ≡ b → FieldsFit widths (run_op widths m o).fields
    by true h = subst (λ (n : Machine). FieldsFit widths n.fields) (sym (acts widths m o h)) (written_fits widths (written_by o.act) (result o.act m) m.fields fit)
    by false h = subst (λ (n : Machine). FieldsFit widths n.fields) (sym (rests widths m o h)) fit

pub run_fits : (widths : List ℕ) (ops : List Op) (m : Machine) → FieldsFit widths m.fields → FieldsFit widths (run widths ops m).fields
run_fits widths [] m fit = fit
run_fits widths (o ∷ ops) m fit = run_fits widths ops (run_op widths m o) (op_fits widths m o fit)

-- A field that it doesn't write stays.
pub op_other : (widths : List ℕ) (m : Machine) (o : Op) (k : ℕ) → written_by o.act ≢ Some k → slice_index (run_op widths m o).fields k ≡ slice_index m.fields k
op_other widths m o k d = by (all_hold m.fields o.guard) refl
  where
    by : (b : Bool) → all_hold m.fields o.guard ≡ b → slice_index (run_op widths m o).fields k ≡ slice_index m.fields k
    by true h = ap (λ (n : Machine). slice_index n.fields k) (acts widths m o h) ∙ written_other widths (written_by o.act) (result o.act m) m.fields k d
    by false h = ap (λ (n : Machine). slice_index n.fields k) (rests widths m o h)

-- ---- guards

pub holds_by : (f g : Fields) (l : Literal) → slice_index g l.field ≡ slice_index f l.field → holds g l ≡ holds f l
holds_by f g l e = ap (λ (v : ℕ). if l.equal then nat_eq v l.value else not (nat_eq v l.value)) e

pub guards_by : (f g : Fields) (guard : List Literal) → AllByRecursion (λ (l : Literal). slice_index g l.field ≡ slice_index f l.field) guard → all_hold g guard ≡ all_hold f guard
guards_by f g [] h = refl
guards_by f g (l ∷ guard) h = ap₂ (λ (a b : Bool). a && b) (holds_by f g l h.0) (guards_by f g guard h.1)

clash : (t u : Bool) (x y v w : ℕ) → x ≡ y → (if t then (if u then not (nat_eq v w) else nat_eq v w) else u && nat_eq v w) ≡ true → (if t then nat_eq x v else not (nat_eq x v)) ≡ true → (if u then nat_eq y w else not (nat_eq y w)) ≡ true → ⊥
clash true true x y v w e o h g = true≢false (sym (eq-eqb v w (sym (eqb-true x v h) ∙ e ∙ eqb-true y w g)) ∙ not-true (nat_eq v w) o)
clash true false x y v w e o h g = true≢false (sym (eq-eqb y w (sym e ∙ eqb-true x v h ∙ eqb-true v w o)) ∙ not-true (nat_eq y w) g)
clash false true x y v w e o h g = true≢false (sym (eq-eqb x v (e ∙ eqb-true y w g ∙ sym (eqb-true v w o))) ∙ not-true (nat_eq x v) h)
clash false false x y v w e o h g = true≢false (sym o)

pub opposed_never : (fields : Fields) (l k : Literal) → opposed l k ≡ true → holds fields l ≡ true → holds fields k ≡ true → ⊥
opposed_never fields l k o h g =
    let parts = and_parts (nat_eq l.field k.field) (if l.equal then (if k.equal then not (nat_eq l.value k.value) else nat_eq l.value k.value) else k.equal && nat_eq l.value k.value) o in
    clash l.equal k.equal (slice_index fields l.field) (slice_index fields k.field) l.value k.value (ap (slice_index fields) (eqb-true l.field k.field parts.0)) parts.1 h g

some_never : (fields : Fields) (l : Literal) (ks : List Literal) → list_any (opposed l) ks ≡ true → holds fields l ≡ true → all_hold fields ks ≡ true → ⊥
some_never fields l [] s h g = true≢false (sym s)
some_never fields l (k ∷ ks) s h g =
    let both = and_parts (holds fields k) (all_hold fields ks) g in
    ⊎_elim (λ o. opposed_never fields l k o h both.0) (λ r. some_never fields l ks r h both.1) (or_cases (opposed l k) (list_any (opposed l) ks) s)

-- No fields keep two guards that contradict.
pub contradict_never : (fields : Fields) (g h : List Literal) → contradict g h ≡ true → all_hold fields g ≡ true → all_hold fields h ≡ true → ⊥
contradict_never fields [] h c x y = true≢false (sym c)
contradict_never fields (l ∷ ls) h c x y =
    let both = and_parts (holds fields l) (all_hold fields ls) x in
    ⊎_elim (λ s. some_never fields l h s both.0 y) (λ r. contradict_never fields ls h r both.1 y) (or_cases (list_any (opposed l) h) (contradict ls h) c)

-- An operation whose guard contradicts itself never acts.
pub never_acts : (widths : List ℕ) (m : Machine) (o : Op) → contradict o.guard o.guard ≡ true → run_op widths m o ≡ m
never_acts widths m o c = by (all_hold m.fields o.guard) refl
  where
    by : (b : Bool) → all_hold m.fields o.guard ≡ b → run_op widths m o ≡ m
    by true h = absurd (contradict_never m.fields o.guard o.guard c h h)
    by false h = rests widths m o h

-- ---- the effect of an act, by the values of its operands

abbrev pub Cells : Type 0
Cells = List (List ℕ)

abbrev pub Outs : Type 0
Outs = List (ℕ × Out)

-- a field, a cell and an out
pub record Effect : Type 0 where
  pub made : ℕ
  pub cell : Option (ℕ × ℕ × ℕ)
  pub sent : Option (ℕ × Out)

abbrev cell_of : Act → Fields → Cells → Option (ℕ × ℕ × ℕ)
cell_of (act.Touch array index get get_arg set set_arg to) fields cells =
    Some (array, value fields index, memop_of set (cell_at cells array (value fields index)) (value fields set_arg))
cell_of _ fields cells = None

abbrev out_of : Act → Fields → Option (ℕ × Out)
out_of (act.Gen slot event args delay to) fields = Some (slot, out.Gen (record { id = event; args = values fields args }) (value fields delay) (target_of fields to))
out_of (act.Say slot form args) fields = Some (slot, out.Say form (values fields args))
out_of _ fields = None

abbrev pub effect : Act → Fields → Cells → Effect
effect a fields cells = record { made = result a (record { fields = fields; cells = cells; outs = [] }); cell = cell_of a fields cells; sent = out_of a fields }

abbrev cell_by : Option (ℕ × ℕ × ℕ) → Cells → Cells
cell_by None cells = cells
cell_by (Some p) cells = with_cell cells p.0 p.1 p.2

abbrev out_by : Option (ℕ × Out) → Outs → Outs
out_by None outs = outs
out_by (Some p) outs = put_out p.0 p.1 outs

abbrev pub apply : List ℕ → Option ℕ → Effect → Machine → Machine
apply widths to e m = record { fields = written widths to e.made m.fields; cells = cell_by e.cell m.cells; outs = out_by e.sent m.outs }

pub act_applies : (widths : List ℕ) (m : Machine) (a : Act) → run_act widths a m ≡ apply widths (written_by a) (effect a m.fields m.cells) m
act_applies widths m (act.Touch array index get get_arg set set_arg to) = refl
act_applies widths m (act.Gen slot event args delay to) = refl
act_applies widths m (act.Say slot form args) = refl
act_applies widths m _ = refl

-- other operands have the same values in other fields
abbrev pub Stand : (Operand → Operand) → Fields → Fields → List Operand → Type 0
Stand h f g operands = AllByRecursion (λ (o : Operand). value g (h o) ≡ value f o) operands

values_stand : (h : Operand → Operand) (f g : Fields) (operands : List Operand) → Stand h f g operands → values g (map h operands) ≡ values f operands
values_stand h f g [] e = refl
values_stand h f g (o ∷ operands) e = ap₂ (λ (v : ℕ) (vs : List ℕ). v ∷ vs) e.0 (values_stand h f g operands e.1)

target_stands : (h : Operand → Operand) (f g : Fields) (to : Option Operand) → Stand h f g (option_to_list to) → target_of g (option_map h to) ≡ target_of f to
target_stands h f g None e = refl
target_stands h f g (Some o) e = ap At e.0

pub all_parts : {A : Type 0} (P : A → Type 0) (xs ys : List A) → AllByRecursion P (xs ++ ys) → AllByRecursion P xs × AllByRecursion P ys
all_parts P [] ys h = (tt, h)
all_parts P (x ∷ xs) ys h = let rest = all_parts P xs ys h.1 in ((h.0, rest.0), rest.1)

pub effect_stands : (h : Operand → Operand) (f g : Fields) (cells : Cells) (a : Act) → Stand h f g (operands_of a) → effect (with_operands h a) g cells ≡ effect a f cells
effect_stands h f g cells (act.Un op w a k) e = ap (λ v. record { made = un_of op w (low_of w v); cell = None; sent = None }) e.0
effect_stands h f g cells (act.Bin op w a b k) e = ap₂ (λ (v u : ℕ). record { made = bin_of op w (low_of w v) (low_of w u); cell = None; sent = None }) e.0 e.1.0
effect_stands h f g cells (act.Cmp op w a b k) e = ap₂ (λ (v u : ℕ). record { made = bit_of (cmp_of op (low_of w v) (low_of w u)); cell = None; sent = None }) e.0 e.1.0
effect_stands h f g cells (act.Cast a k) e = ap (λ v. record { made = v; cell = None; sent = None }) e.0
effect_stands h f g cells (act.Hash xs k) e = ap (λ vs. record { made = fnv_1a (bytes_of vs); cell = None; sent = None }) (values_stand h f g xs e)
effect_stands h f g cells (act.Move a k) e = ap (λ v. record { made = v; cell = None; sent = None }) e.0
effect_stands h f g cells (act.Touch array index get get_arg set set_arg to) e =
    let made : ℕ → ℕ → ℕ → Effect
    = λ i a s. record { made = memop_of get (cell_at cells array i) a; cell = Some (array, i, memop_of set (cell_at cells array i) s); sent = None } in
    ap (λ i. made i (value g (h get_arg)) (value g (h set_arg))) e.0
    ∙ ap₂ (λ (a s : ℕ). made (value f index) a s) e.1.0 e.1.1.0
effect_stands h f g cells (act.Gen slot event args delay to) e =
    let parts = all_parts (λ (o : Operand). value g (h o) ≡ value f o) args (delay ∷ option_to_list to) e in
    let made : List ℕ → ℕ → Target → Effect
    = λ vs d t. record { made = 0; cell = None; sent = Some (slot, out.Gen (record { id = event; args = vs }) d t) } in
    ap (λ vs. made vs (value g (h delay)) (target_of g (option_map h to))) (values_stand h f g args parts.0)
    ∙ ap₂ (λ (d : ℕ) (t : Target). made (values f args) d t) parts.1.0 (target_stands h f g to parts.1.1)
effect_stands h f g cells (act.Say slot form args) e = ap (λ vs. record { made = 0; cell = None; sent = Some (slot, out.Say form vs) }) (values_stand h f g args e)

-- the written field, the called array and the slot do not depend on the operands
pub written_with : (h : Operand → Operand) (a : Act) → written_by (with_operands h a) ≡ written_by a
written_with h (act.Un op w a k) = refl
written_with h (act.Bin op w a b k) = refl
written_with h (act.Cmp op w a b k) = refl
written_with h (act.Cast a k) = refl
written_with h (act.Hash xs k) = refl
written_with h (act.Move a k) = refl
written_with h (act.Touch array index get get_arg set set_arg to) = refl
written_with h (act.Gen slot event args delay to) = refl
written_with h (act.Say slot form args) = refl

-- An act has the same effect with operands of the same values.
pub act_stands : (widths : List ℕ) (h : Operand → Operand) (m : Machine) (a : Act) → Stand h m.fields m.fields (operands_of a) → run_act widths (with_operands h a) m ≡ run_act widths a m
act_stands widths h m a e =
    act_applies widths m (with_operands h a)
    ∙ ap₂ (λ (to : Option ℕ) (d : Effect). apply widths to d m) (written_with h a) (effect_stands h m.fields m.fields m.cells a e)
    ∙ sym (act_applies widths m a)

map_same : {A : Type 0} (xs : List A) → map (λ x. x) xs ≡ xs
map_same [] = refl
map_same (x ∷ xs) = ap (λ l. x ∷ l) (map_same xs)

option_same : {A : Type 0} (x : Option A) → option_map (λ y. y) x ≡ x
option_same None = refl
option_same (Some x) = refl

pub with_same : (a : Act) → with_operands (λ o. o) a ≡ a
with_same (act.Un op w a k) = refl
with_same (act.Bin op w a b k) = refl
with_same (act.Cmp op w a b k) = refl
with_same (act.Cast a k) = refl
with_same (act.Hash xs k) = ap (λ l. act.Hash l k) (map_same xs)
with_same (act.Move a k) = refl
with_same (act.Touch array index get get_arg set set_arg to) = refl
with_same (act.Gen slot event args delay to) = ap₂ (λ l t. act.Gen slot event l delay t) (map_same args) (option_same to)
with_same (act.Say slot form args) = ap (λ l. act.Say slot form l) (map_same args)

-- It has the same effect in fields in which its operands have the same values.
pub effect_by : (f g : Fields) (cells : Cells) (a : Act) → AllByRecursion (λ (o : Operand). value g o ≡ value f o) (operands_of a) → effect a g cells ≡ effect a f cells
effect_by f g cells a e = ap (λ (b : Act). effect b g cells) (sym (with_same a)) ∙ effect_stands (λ o. o) f g cells a e
