-- What the function gives, the rules derive.
use Rattle.std.proofs.Common.{◌≡◌, ℕ, ◌^◌, List, [], ◌∷◌, Option, None, Some, Bool, true, false, ◌&&◌, if◌then◌else◌, map, nat_eq, nat_lt, refl, sym, ap, subst, ◌∙◌}
use Rattle.std.specs.List.{AllByRecursion}
use Rattle.std.proofs.lemmas.Bool.{and_parts, eqb-true, ltb-true}
use Rattle.lucid_base.specs.Bits.{bits_of}
use Rattle.lucid_base.specs.Bool.{bit_of}
use Rattle.lucid_base.specs.declared.array.ArrayName.{ArrayName}
use Rattle.lucid_base.specs.declared.memory_alu.MemAlu.{MemAlu}
use Rattle.lucid_base.specs.declared.memory_alu.MemArg.TheVariants.{Stored, Arg}
use Rattle.lucid_base.specs.declared.ops.BinOp.{BinOp}
use Rattle.lucid_base.specs.declared.ops.CmpOp.{CmpOp}
use Rattle.lucid_base.specs.declared.ops.UnOp.TheVariants.{Neg, Flip, Shl, Shr}
use Rattle.lucid_core.specs.declared.body.Expr.{Expr}
use Rattle.lucid_core.specs.declared.body.Expr.TheVariants as core
use Rattle.lucid_core.specs.declared.body.Touch.{Touch}
use Rattle.lucid_memop.proofs.Parts.{bound, same_some}
use Rattle.lucid_parse_tree.specs.declared.tree.A.{A}
use Rattle.lucid_parse_tree.specs.declared.tree.A.TheVariants as a
use Rattle.lucid_parse_tree.specs.declared.tree.E.{E}
use Rattle.lucid_parse_tree.specs.declared.tree.E.TheVariants as e
use Rattle.lucid_parse_tree.specs.declared.tree.Infix.{Infix}
use Rattle.lucid_parse_tree.specs.declared.tree.Pre.{Pre}
use Rattle.lucid_parse_tree.specs.declared.tree.Pre.TheVariants.{Minus, Tilde, Not}
use Rattle.lucid_parse_tree.proofs.Induction.{Cases, array_induction, induction}
use Rattle.lucid_types_spec.specs.declared.scope.Entry.{Entry}
use Rattle.lucid_types_spec.specs.declared.scope.Entry.TheVariants as entry
use Rattle.lucid_types_spec.specs.declared.scope.Param.{Param}
use Rattle.lucid_types_spec.specs.declared.scope.Param.TheVariants as param
use Rattle.lucid_types_spec.specs.declared.scope.ValueType.{ValueType}
use Rattle.lucid_types_spec.specs.declared.scope.ValueType.TheVariants.{Int}
use Rattle.lucid_types_spec.specs.declared.scope.ValueType.TheVariants as vt
use Rattle.lucid_types_spec.specs.Names.{Names, seen}
use Rattle.lucid_types_spec.specs.Operators.{arithmetic, comparison, logic}
use Rattle.lucid_types_spec.specs.Typed.{AllFree, Called, Free, Given, Touched, Typed, returning, touching, zero_of}
use Rattle.lucid_types_spec.specs.Typed as rule
use Rattle.lucid_types_spec.specs.Types.{stated}
use Rattle.lucid_types_laws.specs.declared.arguments.Arguments.{Arguments}
use Rattle.lucid_types_laws.specs.Lead.{or_32}
use Rattle.lucid_types_laws.specs.Reading as read
use Rattle.lucid_types_laws.specs.Reading.{Calling, Elaboration, Touching, core_of, given_all, is_width, reading, same_type, touch_of}
use Rattle.lucid_types_laws.proofs.Forms.{array_is, bare_at, call_is, cast_is, core_at, get_is, getm_is, hash_is, infix_is, me_is, name_is, number_is, paren_is, prefix_is, set_is, setm_is, shift_is, time_is, touch_at, truth_is, update_is}
use Rattle.lucid_types_laws.proofs.Leads.{free_width, shared_width, width_is}
use Rattle.lucid_types_laws.proofs.Parts.{when_parts, was}

type_is : (t u : ValueType) → same_type t u ≡ true → t ≡ u
type_is (Int w) (Int v) h = ap (λ (n : ℕ). Int n) (eqb-true w v h)
type_is vt.Bool vt.Bool h = refl
type_is (Int w) vt.Bool h = absurd (cc)
type_is vt.Bool (Int w) h = absurd (cc)

abbrev P : E → Type 0
P x = (s : Names) (t : ValueType) (c : Expr) → core_of x s t ≡ Some c → Typed s t x c

abbrev Q : A → Type 0
Q x = (s : Names) (o : Option ℕ) (c : Touch) → touch_of x s ≡ Some (o, c) → Touched s x o c

-- ---- leaves

number : (n : ℕ) → P (e.Number n)
number n s (Int w) c h =
    let parts = was (nat_lt n (2 ^ w)) (core.Fixed (bits_of w n)) c (sym (core_at (number_is n) s (Int w)) ∙ h) in
    subst (Typed s (Int w) (e.Number n)) parts.1 (rule.number w n (ltb-true n (2 ^ w) parts.0))
number n s vt.Bool c h = let no : None ≡ Some c = sym (core_at (number_is n) s vt.Bool) ∙ h in absurd (cc)

truth : (b : Bool) → P (e.Truth b)
truth b s vt.Bool c h = subst (Typed s vt.Bool (e.Truth b)) (same_some (core.Fixed (bits_of 1 (bit_of b))) c (sym (core_at (truth_is b) s vt.Bool) ∙ h)) (rule.truth b)
truth b s (Int w) c h = let no : None ≡ Some c = sym (core_at (truth_is b) s (Int w)) ∙ h in absurd (cc)

me : P e.Me
me s t c h =
    let parts = was (same_type (Int 32) t) core.Me c (sym (core_at me_is s t) ∙ h) in
    subst (λ (u : ValueType). Typed s u e.Me c) (type_is (Int 32) t parts.0) (subst (Typed s (Int 32) e.Me) parts.1 rule.me)

time : P e.Time
time s t c h =
    let parts = was (same_type (Int 32) t) core.Now c (sym (core_at time_is s t) ∙ h) in
    subst (λ (u : ValueType). Typed s u e.Time c) (type_is (Int 32) t parts.0) (subst (Typed s (Int 32) e.Time) parts.1 rule.time)

name_by : (n : List ℕ) (s : Names) (t : ValueType) (c : Expr) (o : Option Entry) → seen n s ≡ o → read.name_core t o ≡ Some c → Typed s t (e.Name n) c
name_by n s t c (Some (entry.Constant b)) is h =
    let parts = was (same_type (Int b.width) t) (core.Fixed b) c h in
    subst (λ (u : ValueType). Typed s u (e.Name n) c) (type_is (Int b.width) t parts.0) (subst (Typed s (Int b.width) (e.Name n)) parts.1 (rule.constant n b is))
name_by n s t c (Some (entry.Local i u)) is h =
    let parts = was (same_type u t) (core.Local i) c h in
    subst (λ (u : ValueType). Typed s u (e.Name n) c) (type_is u t parts.0) (subst (Typed s u (e.Name n)) parts.1 (rule.local n i u is))
name_by n s t c _ is h = absurd (cc)

-- ---- operators

prefix : (op : Pre) (x : E) → P x → P (e.Prefix op x)
prefix Minus x of s (Int w) c h =
    let d = bound (core_of x s (Int w)) _ c (sym (core_at (prefix_is Minus x) s (Int w)) ∙ h) in
    subst (Typed s (Int w) (e.Prefix Minus x)) (same_some (core.Un Neg d.0) c d.2) (rule.minus w x d.0 (of s (Int w) d.0 d.1))
prefix Tilde x of s (Int w) c h =
    let d = bound (core_of x s (Int w)) _ c (sym (core_at (prefix_is Tilde x) s (Int w)) ∙ h) in
    subst (Typed s (Int w) (e.Prefix Tilde x)) (same_some (core.Un Flip d.0) c d.2) (rule.tilde w x d.0 (of s (Int w) d.0 d.1))
prefix Not x of s vt.Bool c h =
    let d = bound (core_of x s vt.Bool) _ c (sym (core_at (prefix_is Not x) s vt.Bool) ∙ h) in
    subst (Typed s vt.Bool (e.Prefix Not x)) (same_some (core.Un Flip d.0) c d.2) (rule.not x d.0 (of s vt.Bool d.0 d.1))
prefix Minus x of s vt.Bool c h = let no : None ≡ Some c = sym (core_at (prefix_is Minus x) s vt.Bool) ∙ h in absurd (cc)
prefix Tilde x of s vt.Bool c h = let no : None ≡ Some c = sym (core_at (prefix_is Tilde x) s vt.Bool) ∙ h in absurd (cc)
prefix Not x of s (Int w) c h = let no : None ≡ Some c = sym (core_at (prefix_is Not x) s (Int w)) ∙ h in absurd (cc)

shift : (x : E) (up : Bool) (k : ℕ) → P x → P (e.Shift x up k)
shift x up k of s (Int w) c h =
    let d = bound (core_of x s (Int w)) _ c (sym (core_at (shift_is x up k) s (Int w)) ∙ h) in
    subst (Typed s (Int w) (e.Shift x up k)) (same_some (core.Un (if up then Shl k else Shr k) d.0) c d.2) (rule.shift w x up k d.0 (of s (Int w) d.0 d.1))
shift x up k of s vt.Bool c h = let no : None ≡ Some c = sym (core_at (shift_is x up k) s vt.Bool) ∙ h in absurd (cc)

-- The width of a place that is found, and what stands there.
free : (x : E) → P x → (s : Names) (c : Expr) → read.free (reading x) s ≡ Some c → Free s x (or_32 ((reading x).lead s)) c
free x of s c h =
    let w = or_32 ((reading x).lead s) in
    let parts = when_parts (is_width w) (core_of x s (Int w)) c h in
    let ok = width_is w parts.0 in
    let typed = of s (Int w) c parts.1 in
    rule.free x w c (free_width s x c ((reading x).lead s) refl ok typed) typed

cast : (w : Option ℕ) (x : E) → P x → P (e.Cast w x)
cast w x of s t c h =
    let d = bound (read.free (reading x) s) _ c (sym (core_at (cast_is w x) s t) ∙ h) in
    let parts = was (same_type (Int (stated w)) t && is_width (stated w)) (core.Cast (stated w) d.0) c d.2 in
    let both = and_parts _ _ parts.0 in
    subst (λ (u : ValueType). Typed s u (e.Cast w x) c) (type_is (Int (stated w)) t both.0)
    (subst (Typed s (Int (stated w)) (e.Cast w x)) parts.1 (rule.cast w _ x d.0 (width_is (stated w) both.1) (free x of s d.0 d.1)))

infix_by : (i : Infix) (x y : E) → P x → P y → (s : Names) (t : ValueType) (c : Expr) (ar : Option BinOp) (cm : Option CmpOp) (lo : Option BinOp) → arithmetic i ≡ ar → comparison i ≡ cm → logic i ≡ lo →
    read.infix_core ar cm lo (reading x) (reading y) s t ≡ Some c → Typed s t (e.Infix i x y) c
infix_by i x y of and s (Int w) c (Some op) cm lo is cmp_is lo_is h =
    let f = bound (core_of x s (Int w)) _ c h in
    let g = bound (core_of y s (Int w)) _ c f.2 in
    subst (Typed s (Int w) (e.Infix i x y)) (same_some (core.Bin op f.0 g.0) c g.2) (rule.sum w i op x y f.0 g.0 is (of s (Int w) f.0 f.1) (and s (Int w) g.0 g.1))
infix_by i x y of and s vt.Bool c (Some op) cm lo is cmp_is lo_is h = absurd (cc)
infix_by i x y of and s vt.Bool c None (Some op) lo is cmp_is lo_is h =
    let w = read.shared_width (reading x) (reading y) s in
    let parts = when_parts (is_width w) (read.compared op (core_of x s (Int w)) (core_of y s (Int w))) c h in
    let f = bound (core_of x s (Int w)) _ c parts.1 in
    let g = bound (core_of y s (Int w)) _ c f.2 in
    let first = of s (Int w) f.0 f.1 in
    let second = and s (Int w) g.0 g.1 in
    let width = shared_width s x y f.0 g.0 ((reading x).lead s) ((reading y).lead s) refl refl (width_is w parts.0) first second in
    subst (Typed s vt.Bool (e.Infix i x y)) (same_some (core.Cmp op f.0 g.0) c g.2) (rule.compare w i op x y f.0 g.0 cmp_is width first second)
infix_by i x y of and s (Int w) c None (Some op) lo is cmp_is lo_is h = absurd (cc)
infix_by i x y of and s vt.Bool c None None (Some op) is cmp_is lo_is h =
    let f = bound (core_of x s vt.Bool) _ c h in
    let g = bound (core_of y s vt.Bool) _ c f.2 in
    subst (Typed s vt.Bool (e.Infix i x y)) (same_some (core.Bin op f.0 g.0) c g.2) (rule.logical i op x y f.0 g.0 lo_is (of s vt.Bool f.0 f.1) (and s vt.Bool g.0 g.1))
infix_by i x y of and s (Int w) c None None (Some op) is cmp_is lo_is h = absurd (cc)
infix_by i x y of and s t c None None None is cmp_is lo_is h = absurd (cc)

-- ---- lists

all_free : (xs : List E) → AllByRecursion P xs → (s : Names) (cs : List Expr) → read.all_free (map reading xs) s ≡ Some cs → AllFree s xs cs
all_free [] all s cs h = subst (AllFree s []) (same_some [] cs h) rule.none
all_free (x ∷ xs) all s cs h =
    let f = bound (read.free (reading x) s) _ cs h in
    let fs = bound (read.all_free (map reading xs) s) _ cs f.2 in
    subst (AllFree s (x ∷ xs)) (same_some (f.0 ∷ fs.0) cs fs.2) (rule.more x xs _ f.0 fs.0 (free x all.0 s f.0 f.1) (all_free xs all.1 s fs.0 fs.1))

hash : (w : ℕ) (xs : List E) → AllByRecursion P xs → P (e.Hash w xs)
hash w [] all s t c h = let no : None ≡ Some c = sym (core_at (hash_is w []) s t) ∙ h in absurd (cc)
hash w (x ∷ xs) all s t c h =
    let made = bound (read.all_free (map reading (x ∷ xs)) s) (read.hash_of w t) c (sym (core_at (hash_is w (x ∷ xs)) s t) ∙ h) in
    let f = bound (read.free (reading x) s) _ made.0 made.1 in
    let fs = bound (read.all_free (map reading xs) s) _ made.0 f.2 in
    let at : read.hash_of w t (f.0 ∷ fs.0) ≡ Some c = ap (read.hash_of w t) (same_some (f.0 ∷ fs.0) made.0 fs.2) ∙ made.2 in
    let parts = was (same_type (Int w) t && is_width w) (core.Hash w (f.0 ∷ fs.0)) c at in
    let both = and_parts _ _ parts.0 in
    subst (λ (u : ValueType). Typed s u (e.Hash w (x ∷ xs)) c) (type_is (Int w) t both.0)
    (subst (Typed s (Int w) (e.Hash w (x ∷ xs))) parts.1 (rule.hash w _ x xs f.0 fs.0 (width_is w both.1) (free x all.0 s f.0 f.1) (all_free xs all.1 s fs.0 fs.1)))

-- a bare name
abbrev BareIs : E → Type 0
BareIs x = (n : List ℕ) → (reading x).bare ≡ Some n → x ≡ e.Name n

bare : (x : E) (f : Elaboration) → reading x ≡ f → f.bare ≡ None → BareIs x
bare x f is none n h = let no : None ≡ Some n = sym none ∙ bare_at (sym is) ∙ h in absurd (cc)

name_bare : (m : List ℕ) → BareIs (e.Name m)
name_bare m n h = ap e.Name (same_some m n (sym (bare_at (name_is m)) ∙ h))

pub bare_is : (x : E) → BareIs x
bare_is = induction BareIs (λ x. Unit {0}) (record {
  number = λ n. bare (e.Number n) _ (number_is n) refl;
  truth = λ b. bare (e.Truth b) _ (truth_is b) refl;
  me = bare e.Me _ me_is refl;
  time = bare e.Time _ time_is refl;
  hash = λ w xs all. bare (e.Hash w xs) _ (hash_is w xs) refl;
  name = name_bare;
  call = λ n xs all. bare (e.Call n xs) _ (call_is n xs) refl;
  array = λ x h. bare (e.Array x) _ (array_is x) refl;
  paren = λ x h. bare (e.Paren x) _ (paren_is x) refl;
  prefix = λ op x h. bare (e.Prefix op x) _ (prefix_is op x) refl;
  cast = λ w x h. bare (e.Cast w x) _ (cast_is w x) refl;
  shift = λ x up k h. bare (e.Shift x up k) _ (shift_is x up k) refl;
  infix_of = λ op x y h g. bare (e.Infix op x y) _ (infix_is op x y) refl;
  get = λ n i h. tt;
  set = λ n i x h g. tt;
  getm = λ n i m x h g. tt;
  setm = λ n i m x h g. tt;
  update = λ n i m x k y h g f. tt;
})

array_by : (s : Names) (n : List ℕ) (o : Option Entry) (x : ArrayName × ℕ) → seen n s ≡ o → read.array_at o ≡ Some x → seen n s ≡ Some (entry.Array x.0 x.1)
array_by s n (Some (entry.Array name w)) x is h = is ∙ ap (λ (y : ArrayName × ℕ). Some (entry.Array y.0 y.1)) (same_some (name, w) x h)
array_by s n _ x is h = absurd (cc)

is_array : (s : Names) (n : List ℕ) (x : ArrayName × ℕ) → read.array_at (seen n s) ≡ Some x → seen n s ≡ Some (entry.Array x.0 x.1)
is_array s n x h = array_by s n (seen n s) x refl h

memop_by : (s : Names) (w : ℕ) (m : List ℕ) (o : Option Entry) (x : MemAlu) → seen m s ≡ o → read.memop_at w o ≡ Some x → (seen m s ≡ Some (entry.Memop x)) × (x.width ≡ w)
memop_by s w m (Some (entry.Memop alu)) x is h =
    let parts = was (nat_eq alu.width w) alu x h in
    (is ∙ ap (λ (y : MemAlu). Some (entry.Memop y)) parts.1, ap (λ (y : MemAlu). y.width) (sym parts.1) ∙ eqb-true alu.width w parts.0)
memop_by s w m _ x is h = absurd (cc)

named_by : (s : Names) (w : ℕ) (x : E) (o : Option (List ℕ)) (name : ArrayName) → (reading x).bare ≡ o → read.named_array w o s ≡ Some name → (n : List ℕ) × (x ≡ e.Name n) × (seen n s ≡ Some (entry.Array name w))
named_by s w x None name is h = absurd (cc)
named_by s w x (Some n) name is h =
    let y = bound (read.array_at (seen n s)) _ name h in
    let parts = was (nat_eq y.0.1 w) y.0.0 name y.2 in
    (n, bare_is x n is, is_array s n y.0 y.1 ∙ ap (λ (m : ArrayName). Some (entry.Array m y.0.1)) parts.1 ∙ ap (λ (v : ℕ). Some (entry.Array name v)) (eqb-true y.0.1 w parts.0))

given : (ps : List Param) (xs : List E) → AllByRecursion P xs → (s : Names) (r : Arguments) → given_all ps (map reading xs) s ≡ Some r → Given s ps xs r.names r.values
given [] [] all s r h = subst (λ (q : Arguments). Given s [] [] q.names q.values) (same_some (record { names = []; values = [] }) r h) rule.nothing
given [] (x ∷ xs) all s r h = absurd (cc)
given (param.Value t ∷ ps) [] all s r h = absurd (cc)
given (param.Array w ∷ ps) [] all s r h = absurd (cc)
given (param.Value t ∷ ps) (x ∷ xs) all s r h =
    let f = bound (core_of x s t) _ r h in
    let rest = bound (given_all ps (map reading xs) s) _ r f.2 in
    subst (λ (q : Arguments). Given s (param.Value t ∷ ps) (x ∷ xs) q.names q.values) (same_some (record rest.0 { values = f.0 ∷ rest.0.values }) r rest.2)
    (rule.value t ps x xs rest.0.names f.0 rest.0.values (all.0 s t f.0 f.1) (given ps xs all.1 s rest.0 rest.1))
given (param.Array w ∷ ps) (x ∷ xs) all s r h =
    let f = bound (read.named_array w (reading x).bare s) _ r h in
    let rest = bound (given_all ps (map reading xs) s) _ r f.2 in
    let n = named_by s w x (reading x).bare f.0 refl f.1 in
    subst (λ (y : E). Given s (param.Array w ∷ ps) (y ∷ xs) r.names r.values) (sym n.1)
    (subst (λ (q : Arguments). Given s (param.Array w ∷ ps) (e.Name n.0 ∷ xs) q.names q.values) (same_some (record rest.0 { names = f.0 ∷ rest.0.names }) r rest.2)
    (rule.array_name w ps n.0 xs f.0 rest.0.names rest.0.values n.2 (given ps xs all.1 s rest.0 rest.1)))

called_by : (s : Names) (n : List ℕ) (xs : List E) → AllByRecursion P xs → (o : Option Entry) (r : Calling) → seen n s ≡ o → read.called_at o (map reading xs) s ≡ Some r → Called s n xs r.0 r.1
called_by s n xs all (Some (entry.Fun k ps t)) r is h =
    let args = bound (given_all ps (map reading xs) s) _ r h in
    subst (λ (q : Calling). Called s n xs q.0 q.1) (same_some (t, core.Fun k args.0.names args.0.values) r args.2)
    (rule.fun n k ps t xs args.0.names args.0.values is (given ps xs all s args.0 args.1))
called_by s n xs all _ r is h = absurd (cc)

value_by : (s : Names) (t : ValueType) (n : List ℕ) (xs : List E) (c : Expr) (r : Calling) → Called s n xs r.0 r.1 → read.value_of t r ≡ Some c → Typed s t (e.Call n xs) c
value_by s t n xs c (None, d) of h = absurd (cc)
value_by s t n xs c (Some u, d) of h =
    let parts = was (same_type u t) d c h in
    subst (λ (v : ValueType). Typed s v (e.Call n xs) c) (type_is u t parts.0) (subst (Typed s u (e.Call n xs)) parts.1 (rule.call u n xs d of))

call : (n : List ℕ) (xs : List E) → AllByRecursion P xs → P (e.Call n xs)
call n xs all s t c h =
    let r = bound (read.called n (map reading xs) s) (read.value_of t) c (sym (core_at (call_is n xs) s t) ∙ h) in
    value_by s t n xs c r.0 (called_by s n xs all (seen n s) r.0 refl r.1) r.2

touch_by : (s : Names) (t : ValueType) (x : A) (c : Expr) (r : Touching) → Touched s x r.0 r.1 → read.touch_value t r ≡ Some c → Typed s t (e.Array x) c
touch_by s t x c (None, d) of h = absurd (cc)
touch_by s t x c (Some w, d) of h =
    let parts = was (same_type (Int w) t) (core.Array d) c h in
    subst (λ (v : ValueType). Typed s v (e.Array x) c) (type_is (Int w) t parts.0) (subst (Typed s (Int w) (e.Array x)) parts.1 (rule.array w x d of))

array : (x : A) → Q x → P (e.Array x)
array x of s t c h =
    let r = bound (touch_of x s) (read.touch_value t) c (sym (core_at (array_is x) s t) ∙ h) in
    touch_by s t x c r.0 (of s r.0.0 r.0.1 r.1) r.2

-- ---- calls of arrays

both_same : (o p : Option ℕ) (c d : Touch) (R : Option ℕ → Touch → Type 0) → ◌≡◌ {A = Option Touching} (Some (o, c)) (Some (p, d)) → R o c → R p d
both_same o p c d R h r = subst (λ (q : Touching). R q.0 q.1) (same_some {A = Touching} (o, c) (p, d) h) r

get : (n : List ℕ) (i : E) → P i → Q (a.Get n i)
get n i pi s o c h =
    let x = bound (read.array_at (seen n s)) _ (o, c) (sym (touch_at (get_is n i) s) ∙ h) in
    let j = bound (read.free (reading i) s) _ (o, c) x.2 in
    both_same (Some x.0.1) o (touching x.0.0 j.0 (returning x.0.1 Stored) (zero_of x.0.1) (returning x.0.1 Stored) (zero_of x.0.1) true) c (Touched s (a.Get n i)) j.2 (rule.get n x.0.0 x.0.1 _ i j.0 (is_array s n x.0 x.1) (free i pi s j.0 j.1))

set : (n : List ℕ) (i x : E) → P i → P x → Q (a.Set n i x)
set n i x pi px s o c h =
    let y = bound (read.array_at (seen n s)) _ (o, c) (sym (touch_at (set_is n i x) s) ∙ h) in
    let j = bound (read.free (reading i) s) _ (o, c) y.2 in
    let v = bound (core_of x s (Int y.0.1)) _ (o, c) j.2 in
    both_same None o (touching y.0.0 j.0 (returning y.0.1 Stored) (zero_of y.0.1) (returning y.0.1 Arg) v.0 false) c (Touched s (a.Set n i x)) v.2 (rule.set n y.0.0 y.0.1 _ i x j.0 v.0 (is_array s n y.0 y.1) (free i pi s j.0 j.1) (px s (Int y.0.1) v.0 v.1))

getm : (n : List ℕ) (i : E) (m : List ℕ) (x : E) → P i → P x → Q (a.Getm n i m x)
getm n i m x pi px s o c h =
    let y = bound (read.array_at (seen n s)) _ (o, c) (sym (touch_at (getm_is n i m x) s) ∙ h) in
    let j = bound (read.free (reading i) s) _ (o, c) y.2 in
    let alu = bound (read.memop_at y.0.1 (seen m s)) _ (o, c) j.2 in
    let v = bound (core_of x s (Int y.0.1)) _ (o, c) alu.2 in
    let memop = memop_by s y.0.1 m (seen m s) alu.0 refl alu.1 in
    both_same (Some y.0.1) o (touching y.0.0 j.0 alu.0 v.0 (returning y.0.1 Stored) (zero_of y.0.1) true) c (Touched s (a.Getm n i m x)) v.2
    (rule.getm n m y.0.0 y.0.1 _ alu.0 i x j.0 v.0 (is_array s n y.0 y.1) (free i pi s j.0 j.1) memop.0 memop.1 (px s (Int y.0.1) v.0 v.1))

setm : (n : List ℕ) (i : E) (m : List ℕ) (x : E) → P i → P x → Q (a.Setm n i m x)
setm n i m x pi px s o c h =
    let y = bound (read.array_at (seen n s)) _ (o, c) (sym (touch_at (setm_is n i m x) s) ∙ h) in
    let j = bound (read.free (reading i) s) _ (o, c) y.2 in
    let alu = bound (read.memop_at y.0.1 (seen m s)) _ (o, c) j.2 in
    let v = bound (core_of x s (Int y.0.1)) _ (o, c) alu.2 in
    let memop = memop_by s y.0.1 m (seen m s) alu.0 refl alu.1 in
    both_same None o (touching y.0.0 j.0 (returning y.0.1 Stored) (zero_of y.0.1) alu.0 v.0 false) c (Touched s (a.Setm n i m x)) v.2
    (rule.setm n m y.0.0 y.0.1 _ alu.0 i x j.0 v.0 (is_array s n y.0 y.1) (free i pi s j.0 j.1) memop.0 memop.1 (px s (Int y.0.1) v.0 v.1))

update : (n : List ℕ) (i : E) (m : List ℕ) (x : E) (k : List ℕ) (y : E) → P i → P x → P y → Q (a.Update n i m x k y)
update n i m x k y pi px py s o c h =
    let z = bound (read.array_at (seen n s)) _ (o, c) (sym (touch_at (update_is n i m x k y) s) ∙ h) in
    let j = bound (read.free (reading i) s) _ (o, c) z.2 in
    let one = bound (read.memop_at z.0.1 (seen m s)) _ (o, c) j.2 in
    let v = bound (core_of x s (Int z.0.1)) _ (o, c) one.2 in
    let two = bound (read.memop_at z.0.1 (seen k s)) _ (o, c) v.2 in
    let w = bound (core_of y s (Int z.0.1)) _ (o, c) two.2 in
    let first = memop_by s z.0.1 m (seen m s) one.0 refl one.1 in
    let second = memop_by s z.0.1 k (seen k s) two.0 refl two.1 in
    both_same (Some z.0.1) o (touching z.0.0 j.0 one.0 v.0 two.0 w.0 true) c (Touched s (a.Update n i m x k y)) w.2
    (rule.update n m k z.0.0 z.0.1 _ one.0 two.0 i x y j.0 v.0 w.0 (is_array s n z.0 z.1) (free i pi s j.0 j.1) first.0 first.1 (px s (Int z.0.1) v.0 v.1) second.0 second.1 (py s (Int z.0.1) w.0 w.1))

cases : Cases P Q
cases = record {
  number = number;
  truth = truth;
  me = me;
  time = time;
  hash = hash;
  name = λ n s t c h. name_by n s t c (seen n s) refl (sym (core_at (name_is n) s t) ∙ h);
  call = call;
  array = array;
  paren = λ x of s t c h. rule.paren t x c (of s t c (sym (core_at (paren_is x) s t) ∙ h));
  prefix = prefix;
  cast = cast;
  shift = shift;
  infix_of = λ i x y of and s t c h. infix_by i x y of and s t c (arithmetic i) (comparison i) (logic i) refl refl refl (sym (core_at (infix_is i x y) s t) ∙ h);
  get = get;
  set = set;
  getm = getm;
  setm = setm;
  update = update;
}

pub typed : (x : E) → P x
typed = induction P Q cases

pub touched : (x : A) → Q x
touched = array_induction P Q cases

-- ---- the same of lists and calls

every : (xs : List E) → AllByRecursion P xs
every [] = tt
every (x ∷ xs) = (typed x, every xs)

pub free_is : (x : E) (s : Names) (c : Expr) → read.free (reading x) s ≡ Some c → Free s x (or_32 ((reading x).lead s)) c
free_is x s c h = free x (typed x) s c h

pub all_free_are : (xs : List E) (s : Names) (cs : List Expr) → read.all_free (map reading xs) s ≡ Some cs → AllFree s xs cs
all_free_are xs s cs h = all_free xs (every xs) s cs h

pub given_are : (ps : List Param) (xs : List E) (s : Names) (r : Arguments) → given_all ps (map reading xs) s ≡ Some r → Given s ps xs r.names r.values
given_are ps xs s r h = given ps xs (every xs) s r h

pub called_is : (n : List ℕ) (xs : List E) (s : Names) (r : Calling) → read.called n (map reading xs) s ≡ Some r → Called s n xs r.0 r.1
called_is n xs s r h = called_by s n xs (every xs) (seen n s) r refl h
