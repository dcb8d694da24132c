-- Written fields, the operands of the locals, and the fields that ops leave alone.
use Rattle.std.proofs.Common.{◌≡◌, ℕ, zero, suc, ◌+◌, ◌^◌, ◌<◌, ◌≤◌, List, [], ◌∷◌, ◌++◌, Bool, true, false, ◌&&◌, Option, None, Some, length, map, refl, sym, ap, ap₂, ◌∙◌, arith, length-append, slice_index, slice_index_or, slice_set, nat_eq, nat_lt, if◌then◌else◌, is_some, true≢false, mod-eq_of_lt, le-ltb}
use Rattle.std.specs.List.{AllByRecursion}
use Rattle.std.proofs.lemmas.Bool.{ne_eqb}
use Rattle.std.proofs.lemmas.List.{get_or_append_left}
use Rattle.lucid_base.specs.Ops.{low_of}
use Rattle.lucid_base.specs.declared.bits.Bits.{Bits}
use Rattle.lucid_base.specs.declared.event.Out.{Out}
use Rattle.lucid_code.specs.declared.op.Literal.{Literal}
use Rattle.lucid_code.specs.declared.op.Op.{Op}
use Rattle.lucid_code.specs.declared.op.Operand.{Operand}
use Rattle.lucid_code.specs.declared.op.Operand.TheVariants.{Fixed, Field}
use Rattle.lucid_code.specs.Guards.{Fields, holds, all_hold}
use Rattle.lucid_code.specs.Run.{Machine, put, put_out, value, result, written, run_act, run_op, run}
use Rattle.lucid_code.specs.Uses.{written_by}
use Rattle.lucid_core.specs.Values.{nothing}
use Rattle.lucid_normal_spec.specs.declared.env.Typed.{Typed}
use Rattle.lucid_normal_spec.specs.Translate.{guarded, held_by}
pub use Rattle.lucid_code.proofs.Acting.{put_same}
use Rattle.lucid_code.proofs.Acting.{holds_by, put_other}

-- Fields.
pub put_below : (xs : Fields) (k j v : ℕ) → j < k → slice_index (put xs k v) j ≡ slice_index xs j
put_below xs k j v h = put_other xs k j v (λ e. omega (arith, h, e))

abbrev pub In : ℕ → ℕ → Option ℕ → Type 0
In lo hi None = Unit {0}
In lo hi (Some k) = (lo ≤ k) × (k < hi)

abbrev pub WritesIn : ℕ → ℕ → List Op → Type 0
WritesIn lo hi ops = AllByRecursion (λ (o : Op). In lo hi (written_by o.act)) ops

pub in_wider : (lo lo2 hi hi2 : ℕ) (o : Option ℕ) → lo2 ≤ lo → hi ≤ hi2 → In lo hi o → In lo2 hi2 o
in_wider lo lo2 hi hi2 None l h w = tt
in_wider lo lo2 hi hi2 (Some k) l h w = (omega (arith, w.0), omega (arith, w.1))

pub wider : (lo lo2 hi hi2 : ℕ) (ops : List Op) → lo2 ≤ lo → hi ≤ hi2 → WritesIn lo hi ops → WritesIn lo2 hi2 ops
wider lo lo2 hi hi2 [] l h w = tt
wider lo lo2 hi hi2 (o ∷ ops) l h w = (in_wider lo lo2 hi hi2 (written_by o.act) l h w.0, wider lo lo2 hi hi2 ops l h w.1)

pub writes_append : (lo hi : ℕ) (xs ys : List Op) → WritesIn lo hi xs → WritesIn lo hi ys → WritesIn lo hi (xs ++ ys)
writes_append lo hi [] ys p q = q
writes_append lo hi (x ∷ xs) ys p q = (p.0, writes_append lo hi xs ys p.1 q)

pub writes_guarded : (lo hi : ℕ) (l : Literal) (ops : List Op) → WritesIn lo hi ops → WritesIn lo hi (map (guarded l) ops)
writes_guarded lo hi l [] w = tt
writes_guarded lo hi l (o ∷ ops) w = (w.0, writes_guarded lo hi l ops w.1)

-- The field of an operand exists.
abbrev pub Under : ℕ → Operand → Type 0
Under n (Fixed v) = Unit {0}
Under n (Field k) = k < n

abbrev pub UnderT : ℕ → Option Typed → Type 0
UnderT n None = Unit {0}
UnderT n (Some t) = Under n t.operand

abbrev pub AllUnder : ℕ → List (Option Typed) → Type 0
AllUnder n os = AllByRecursion (UnderT n) os

pub under_more : (n m : ℕ) (o : Operand) → n ≤ m → Under n o → Under m o
under_more n m (Fixed v) h u = tt
under_more n m (Field k) h u = omega (arith, u)

pub underT_more : (n m : ℕ) (o : Option Typed) → n ≤ m → UnderT n o → UnderT m o
underT_more n m None h u = tt
underT_more n m (Some o) h u = under_more n m o.operand h u

pub all_under_more : (n m : ℕ) (os : List (Option Typed)) → n ≤ m → AllUnder n os → AllUnder m os
all_under_more n m [] h u = tt
all_under_more n m (o ∷ os) h u = (underT_more n m o h u.0, all_under_more n m os h u.1)

pub set_under : (n : ℕ) (os : List (Option Typed)) (i : ℕ) (o : Typed) → AllUnder n os → Under n o.operand → AllUnder n (slice_set os i (Some o))
set_under n [] i o u h = tt
set_under n (x ∷ os) zero o u h = (h, u.1)
set_under n (x ∷ os) (suc i) o u h = (u.0, set_under n os i o u.1 h)

pub get_under : (n : ℕ) (os : List (Option Typed)) (i : ℕ) → AllUnder n os → UnderT n (slice_index_or os i None)
get_under n [] i u = tt
get_under n (o ∷ os) zero u = u.0
get_under n (o ∷ os) (suc i) u = get_under n os i u.1

pub needed_under : (n : ℕ) (o : Option Typed) → UnderT n o → Under n (held_by o).operand
needed_under n None u = tt
needed_under n (Some o) u = u

-- Fields below n are the same.
abbrev pub Agree : ℕ → Fields → Fields → Type 0
Agree n f g = (k : ℕ) → k < n → slice_index g k ≡ slice_index f k

pub value_stays : (n : ℕ) (f g : Fields) (o : Operand) → Under n o → Agree n f g → value g o ≡ value f o
value_stays n f g (Fixed v) u same = refl
value_stays n f g (Field k) u same = same k u

written_stays : (ws : List ℕ) (lo hi : ℕ) (o : Option ℕ) (v : ℕ) (f : Fields) → In lo hi o → Agree lo f (written ws o v f)
written_stays ws lo hi None v f w k h = refl
written_stays ws lo hi (Some j) v f w k h = put_below f j k _ (omega (arith, w.0))

chosen : (b : Bool) (x y : Machine) (k : ℕ) → slice_index x.fields k ≡ slice_index y.fields k → slice_index (if b then x else y).fields k ≡ slice_index y.fields k
chosen true x y k e = e
chosen false x y k e = refl

pub op_stays : (ws : List ℕ) (lo hi : ℕ) (o : Op) (m : Machine) → In lo hi (written_by o.act) → Agree lo m.fields (run_op ws m o).fields
op_stays ws lo hi o m w k h = chosen (all_hold m.fields o.guard) (run_act ws o.act m) m k (written_stays ws lo hi (written_by o.act) (result o.act m) m.fields w k h)

pub run_stays : (ws : List ℕ) (lo hi : ℕ) (ops : List Op) (m : Machine) → WritesIn lo hi ops → Agree lo m.fields (run ws ops m).fields
run_stays ws lo hi [] m w k h = refl
run_stays ws lo hi (o ∷ ops) m w k h = run_stays ws lo hi ops (run_op ws m o) w.1 k h ∙ op_stays ws lo hi o m w.0 k h

pub run-append : (ws : List ℕ) (xs ys : List Op) (m : Machine) → run ws (xs ++ ys) m ≡ run ws ys (run ws xs m)
run-append ws [] ys m = refl
run-append ws (x ∷ xs) ys m = run-append ws xs ys (run_op ws m x)

pub run_on : (ws : List ℕ) (l : Literal) (lo hi : ℕ) (ops : List Op) (m : Machine) → l.field < lo → WritesIn lo hi ops → holds m.fields l ≡ true → run ws (map (guarded l) ops) m ≡ run ws ops m
run_on ws l lo hi [] m h w e = refl
run_on ws l lo hi (o ∷ ops) m h w e =
    ap (λ (b : Bool). run ws (map (guarded l) ops) (if (b && all_hold m.fields o.guard) then run_act ws o.act m else m)) e
    ∙ run_on ws l lo hi ops (run_op ws m o) h w.1 (holds_by m.fields (run_op ws m o).fields l (op_stays ws lo hi o m w.0 l.field h) ∙ e)

pub run_off : (ws : List ℕ) (l : Literal) (ops : List Op) (m : Machine) → holds m.fields l ≡ false → run ws (map (guarded l) ops) m ≡ m
run_off ws l [] m e = refl
run_off ws l (o ∷ ops) m e =
    ap (λ (b : Bool). run ws (map (guarded l) ops) (if (b && all_hold m.fields o.guard) then run_act ws o.act m else m)) e ∙ run_off ws l ops m e

-- The operand holds the value.
abbrev pub Is : Fields → Typed → Bits → Type 0
Is f t b = (value f t.operand ≡ b.value) × (t.width ≡ b.width)

abbrev pub Holds1 : Fields → Option Typed → Bits → Type 0
Holds1 f None b = Unit {0}
Holds1 f (Some t) b = Is f t b

abbrev pub Holds : Fields → List (Option Typed) → List Bits → Type 0
Holds f [] vs = Unit {0}
Holds f (h ∷ hs) [] = ⊥
Holds f (h ∷ hs) (v ∷ vs) = Holds1 f h v × Holds f hs vs

pub holds_set : (f : Fields) (hs : List (Option Typed)) (vs : List Bits) (i : ℕ) (o : Typed) (v : Bits) → Is f o v → Holds f hs vs → Holds f (slice_set hs i (Some o)) (slice_set vs i v)
holds_set f [] vs i o v e h = tt
holds_set f (x ∷ hs) [] i o v e h = absurd h
holds_set f (x ∷ hs) (y ∷ vs) zero o v e h = (e, h.1)
holds_set f (x ∷ hs) (y ∷ vs) (suc i) o v e h = (h.0, holds_set f hs vs i o v e h.1)

pub holds_needed : (f : Fields) (o : Option Typed) (v : Bits) → is_some o ≡ true → Holds1 f o v → Is f (held_by o) v
holds_needed f None v e h = absurd (true≢false (sym e))
holds_needed f (Some o) v e h = h

pub holds_get : (f : Fields) (hs : List (Option Typed)) (vs : List Bits) (i : ℕ) → Holds f hs vs → Holds1 f (slice_index_or hs i None) (slice_index_or vs i nothing)
holds_get f [] vs i h = tt
holds_get f (x ∷ hs) [] i h = absurd h
holds_get f (x ∷ hs) (y ∷ vs) zero h = h.0
holds_get f (x ∷ hs) (y ∷ vs) (suc i) h = holds_get f hs vs i h.1

pub is_stays : (n : ℕ) (f g : Fields) (t : Typed) (v : Bits) → Under n t.operand → Agree n f g → Is f t v → Is g t v
is_stays n f g t v u same h = (value_stays n f g t.operand u same ∙ h.0, h.1)

pub one_stays : (n : ℕ) (f g : Fields) (o : Option Typed) (v : Bits) → UnderT n o → Agree n f g → Holds1 f o v → Holds1 g o v
one_stays n f g None v u same h = tt
one_stays n f g (Some o) v u same h = is_stays n f g o v u same h

pub holds_stay : (n : ℕ) (f g : Fields) (hs : List (Option Typed)) (vs : List Bits) → AllUnder n hs → Agree n f g → Holds f hs vs → Holds g hs vs
holds_stay n f g [] vs u same h = tt
holds_stay n f g (x ∷ hs) [] u same h = absurd h
holds_stay n f g (x ∷ hs) (v ∷ vs) u same h = (one_stays n f g x v u.0 same h.0, holds_stay n f g hs vs u.1 same h.1)

-- Outs, in slots below n.
abbrev pub SlotsBelow : ℕ → List (ℕ × Out) → Type 0
SlotsBelow n os = AllByRecursion (λ (o : ℕ × Out). o.0 < n) os

pub slots_more : (n m : ℕ) (os : List (ℕ × Out)) → n ≤ m → SlotsBelow n os → SlotsBelow m os
slots_more n m [] h s = tt
slots_more n m (o ∷ os) h s = (omega (arith, s.0), slots_more n m os h s.1)

pub put_last : (n : ℕ) (o : Out) (os : List (ℕ × Out)) → SlotsBelow n os → put_out n o os ≡ os ++ (n, o) ∷ []
put_last n o [] s = refl
put_last n o (p ∷ ps) s =
    let before : nat_lt n p.0 ≡ false = le-ltb n p.0 (omega (arith, s.0)) in
    let same : nat_eq n p.0 ≡ false = ne_eqb n p.0 (λ e. absurd (omega (arith, s.0, e))) in
    ap₂ (λ (b c : Bool). if b then (n, o) ∷ (p ∷ ps) else if c then (n, o) ∷ ps else p ∷ put_out n o ps) before same ∙ ap (λ (q : List (ℕ × Out)). p ∷ q) (put_last n o ps s.1)

pub slots_push : (n : ℕ) (o : Out) (os : List (ℕ × Out)) → SlotsBelow n os → SlotsBelow (n + 1) (os ++ (n, o) ∷ [])
slots_push n o [] s = (omega arith, tt)
slots_push n o (p ∷ ps) s = (omega (arith, s.0), slots_push n o ps s.1)

pub outs_push : (n : ℕ) (o : Out) (os : List (ℕ × Out)) → map (λ (p : ℕ × Out). p.1) (os ++ (n, o) ∷ []) ≡ map (λ (p : ℕ × Out). p.1) os ++ o ∷ []
outs_push n o [] = refl
outs_push n o (p ∷ ps) = ap (λ (q : List Out). p.1 ∷ q) (outs_push n o ps)

-- Widths.
abbrev pub Agrees : List ℕ → List ℕ → Type 0
Agrees xs ws = (k : ℕ) → k < length xs → slice_index ws k ≡ slice_index xs k

pub length-push : (xs : List ℕ) (w : ℕ) → length (xs ++ w ∷ []) ≡ length xs + 1
length-push xs w = length-append xs (w ∷ [])

pub agrees_push : (xs : List ℕ) (w : ℕ) → Agrees xs (xs ++ w ∷ [])
agrees_push xs w k h = get_or_append_left xs (w ∷ []) 0 k h

pub agrees_then : (xs ys zs : List ℕ) → length xs ≤ length ys → Agrees xs ys → Agrees ys zs → Agrees xs zs
agrees_then xs ys zs l a b k h = b k (omega arith) ∙ a k h

pub push_last : (xs : List ℕ) (w : ℕ) → slice_index (xs ++ w ∷ []) (length xs) ≡ w
push_last [] w = refl
push_last (x ∷ xs) w = push_last xs w

pub new_width : (xs ws : List ℕ) (w : ℕ) → Agrees (xs ++ w ∷ []) ws → slice_index ws (length xs) ≡ w
new_width xs ws w a = let l = length-push xs w in a (length xs) (omega arith) ∙ push_last xs w

pub low_small : (w v : ℕ) → v < 2 ^ w → low_of w v ≡ v
low_small w v h = mod-eq_of_lt h

pub low_is : (w v : ℕ) (b : Bits) → v ≡ b.value → w ≡ b.width → low_of w v ≡ b.value
low_is w v b e k = ap₂ low_of k e ∙ low_small b.width b.value b.fits
