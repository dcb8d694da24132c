-- Declarations: the function gives exactly what the rules derive.
use Rattle.std.proofs.Common.{◌≡◌, ℕ, ◌+◌, ◌^◌, List, [], ◌∷◌, Option, None, Some, Bool, true, ◌&&◌, nat_eq, nat_lt, slice_get, refl, sym, ap, subst, ◌∙◌}
use Rattle.std.specs.Cmp.Lexicographic.{same_text}
use Rattle.std.proofs.lemmas.Bool.{and_parts, eq-eqb, eqb-true, le-leb, leb-true, lt-ltb, ltb-true}
use Rattle.lucid_core.specs.Limits.{are_members}
use Rattle.lucid_core.specs.Typing.{same}
use Rattle.lucid_memop.specs.Found.{shape_found}
use Rattle.lucid_memop.proofs.Finding as shape
use Rattle.lucid_memop.proofs.Parts.{bound, same_some}
use Rattle.lucid_core.specs.declared.ending.Ending.{Ending}
use Rattle.lucid_core.specs.declared.ending.Ending.TheVariants.{Never, Sometimes, Always}
use Rattle.lucid_core.specs.Endings.{on_every_path}
use Rattle.lucid_parse_tree.specs.declared.tree.DeclKind.{DeclKind}
use Rattle.lucid_parse_tree.specs.declared.tree.DeclKind.TheVariants as d
use Rattle.lucid_parse_tree.specs.declared.tree.P.{P}
use Rattle.lucid_parse_tree.specs.declared.tree.P.TheVariants as p
use Rattle.lucid_parse_tree.specs.declared.tree.S.{S}
use Rattle.lucid_parse_tree.specs.declared.tree.Size.{Size}
use Rattle.lucid_parse_tree.specs.declared.tree.Size.TheVariants as size
use Rattle.lucid_parse_tree.specs.declared.tree.Ty.{Ty}
use Rattle.lucid_types_spec.specs.declared.scope.Entry.{Entry}
use Rattle.lucid_types_spec.specs.declared.scope.Entry.TheVariants as entry
use Rattle.lucid_types_spec.specs.declared.scope.Param.{Param}
use Rattle.lucid_types_spec.specs.declared.scope.Param.TheVariants as param
use Rattle.lucid_types_spec.specs.declared.scope.ValueType.{ValueType}
use Rattle.lucid_types_spec.specs.declared.scope.ValueType.TheVariants.{Int}
use Rattle.lucid_types_spec.specs.declared.scope.ValueType.TheVariants as vt
use Rattle.lucid_types_spec.specs.Declaration.{Declared, Definitions, Sized}
use Rattle.lucid_types_spec.specs.Declaration as rule
use Rattle.lucid_types_spec.specs.Found.{Computes}
use Rattle.lucid_types_spec.specs.Memop.{memop_names}
use Rattle.lucid_types_spec.specs.Names.{Names, seen}
use Rattle.lucid_types_spec.specs.Types.{Answers, Means, Parameters, ints, value_widths}
use Rattle.lucid_types_spec.specs.Types as types
use Rattle.lucid_types_laws.specs.Declaration as take
use Rattle.lucid_types_laws.specs.Declaration.{answer_of, constant_at, declaration, ends_well, event_at, int_of, int_params, is_size, parameters, size_of}
use Rattle.lucid_types_laws.specs.Lead.{int_width}
use Rattle.lucid_types_laws.specs.Memop.{memop_body}
use Rattle.lucid_types_laws.specs.Reading.{is_width}
use Rattle.lucid_types_laws.specs.Sending.{is_none}
use Rattle.lucid_types_laws.specs.Statement.{body_of, type_of}
use Rattle.lucid_types_laws.proofs.Leads.{fits_width, width_is}
use Rattle.lucid_types_laws.proofs.Memops.{is_memop}
use Rattle.lucid_types_laws.proofs.Memops as memops
use Rattle.lucid_types_laws.proofs.Parts.{when_parts, was}
use Rattle.lucid_types_laws.proofs.StatementComplete as complete
use Rattle.lucid_types_laws.proofs.StatementSound as sound

-- ---- types and parameters

int : {t : Ty} {w : ℕ} → Means t (Int w) → int_of t ≡ Some w
int of = rw (complete.means of) refl

int_by : (t : Ty) (w : ℕ) (v : ValueType) → type_of t ≡ Some v → int_width v ≡ Some w → Means t (Int w)
int_by t w (Int u) is h = subst (λ (n : ℕ). Means t (Int n)) (same_some u w h) (sound.is_meant t (Int u) is)
int_by t w vt.Bool is h = absurd (cc)

is_int : (t : Ty) (w : ℕ) → int_of t ≡ Some w → Means t (Int w)
is_int t w h = let v = bound (type_of t) int_width w h in int_by t w v.0 v.1 v.2

answer : {a : Option Ty} {t : Option ValueType} {r : Ending} → Answers a t r → (answer_of a ≡ Some t) × (ends_well t r ≡ true)
answer (types.void r) = (refl, refl)
answer (types.value t v of) = (rw (complete.means of) refl, refl)

always : (r : Ending) → on_every_path r ≡ true → r ≡ Always
always Always h = refl
always Never h = absurd (cc)
always Sometimes h = absurd (cc)

is_answer : (a : Option Ty) (t : Option ValueType) (r : Ending) → answer_of a ≡ Some t → ends_well t r ≡ true → Answers a t r
is_answer None t r h ends = subst (λ (o : Option ValueType). Answers None o r) (same_some None t h) (types.void r)
is_answer (Some y) t r h ends =
    let v = bound (type_of y) _ t h in
    let same = same_some (Some v.0) t v.2 in
    subst (λ (o : Option ValueType). Answers (Some y) o r) same
    (subst (λ (q : Ending). Answers (Some y) (Some v.0) q) (sym (always r (subst (λ (o : Option ValueType). ends_well o r ≡ true) (sym same) ends)))
    (types.value y v.0 (sound.is_meant y v.0 v.1)))

params : {i j : ℕ} {s k : Names} {ps : List P} {qs : List Param} → Parameters i j s ps qs k → parameters i j s ps ≡ Some (qs, k)
params (types.none i j s) = refl
params (types.value i j s k t v n ps qs mean of) = rw (complete.means mean, params of) refl
params (types.array i j s k short w n ps qs ok of) = rw (fits_width w ok, params of) refl

are_params : (i j : ℕ) (s : Names) (ps : List P) (r : List Param × Names) → parameters i j s ps ≡ Some r → Parameters i j s ps r.0 r.1
are_params i j s [] r h = subst (λ (z : List Param × Names). Parameters i j s [] z.0 z.1) (same_some ([], s) r h) (types.none i j s)
are_params i j s (p.Value t n ∷ ps) r h =
    let v = bound (type_of t) _ r h in
    let rest = bound (parameters (i + 1) j _ ps) _ r v.2 in
    subst (λ (z : List Param × Names). Parameters i j s (p.Value t n ∷ ps) z.0 z.1) (same_some (param.Value v.0 ∷ rest.0.0, rest.0.1) r rest.2)
    (types.value i j s rest.0.1 t v.0 n ps rest.0.0 (sound.is_meant t v.0 v.1) (are_params (i + 1) j _ ps rest.0 rest.1))
are_params i j s (p.Array short w n ∷ ps) r h =
    let rest = bound _ _ r h in
    let parts = when_parts (is_width w) (parameters i (j + 1) _ ps) rest.0 rest.1 in
    subst (λ (z : List Param × Names). Parameters i j s (p.Array short w n ∷ ps) z.0 z.1) (same_some (param.Array w ∷ rest.0.0, rest.0.1) r rest.2)
    (types.array i j s rest.0.1 short w n ps rest.0.0 (width_is w parts.0) (are_params i (j + 1) _ ps rest.0 parts.1))

int_params_of : (ws : List ℕ) → int_params (ints ws) ≡ Some ws
int_params_of [] = refl
int_params_of (w ∷ ws) = rw (int_params_of ws) refl

are_ints : (qs : List Param) (ws : List ℕ) → int_params qs ≡ Some ws → qs ≡ ints ws
are_ints [] ws h = ap ints (same_some [] ws h)
are_ints (param.Value (Int w) ∷ qs) ws h =
    let rest = bound (int_params qs) _ ws h in
    ap (λ (rs : List Param). param.Value (Int w) ∷ rs) (are_ints qs rest.0 rest.1) ∙ ap ints (same_some (w ∷ rest.0) ws rest.2)
are_ints (param.Value vt.Bool ∷ qs) ws h = absurd (cc)
are_ints (param.Array w ∷ qs) ws h = absurd (cc)

same_itself : (ws : List ℕ) → same ws ws ≡ true
same_itself [] = refl
same_itself (w ∷ ws) = rw (eq-eqb w w refl, same_itself ws) refl

-- ---- what names stand for

sized : {s : Names} {x : Size} {k : ℕ} → Sized s x k → size_of s x ≡ Some k
sized (rule.number k) = refl
sized (rule.constant n b is) = ap constant_at is

constant_by : (n : List ℕ) (s : Names) (k : ℕ) (o : Option Entry) → seen n s ≡ o → constant_at o ≡ Some k → Sized s (size.Named n) k
constant_by n s k (Some (entry.Constant b)) is h = subst (Sized s (size.Named n)) (same_some b.value k h) (rule.constant n b is)
constant_by n s k _ is h = absurd (cc)

is_sized : (s : Names) (x : Size) (k : ℕ) → size_of s x ≡ Some k → Sized s x k
is_sized s (size.Number n) k h = subst (Sized s (size.Number n)) (same_some n k h) (rule.number n)
is_sized s (size.Named n) k h = constant_by n s k (seen n s) refl h

event_by : (n : List ℕ) (s : Names) (y : ℕ × List ℕ) (o : Option Entry) → seen n s ≡ o → event_at o ≡ Some y → seen n s ≡ Some (entry.Event y.0 y.1)
event_by n s y (Some (entry.Event i ws)) is h = is ∙ ap (λ (z : ℕ × List ℕ). Some (entry.Event z.0 z.1)) (same_some (i, ws) y h)
event_by n s y _ is h = absurd (cc)

no_handler : (o : Option ℕ) → is_none o ≡ true → o ≡ None
no_handler None h = refl
no_handler (Some k) h = absurd (cc)

-- ---- from the rules to the function

declared : {number line : ℕ} {m l : Definitions} {x : DeclKind} → Declared number line m x l → declaration number line x m ≡ Some l
declared (rule.constant t w n v of fits) = rw (int of, lt-ltb v (2 ^ w) fits) refl
declared {m = m} (rule.global short w n x k ok of least most) =
    rw (sized of, fits_width w ok, le-leb 1 k least, le-leb k 65536 most) refl
declared (rule.memop t u w n first second body steps alu of and core shaped) =
    rw (int of, int and, eq-eqb w w refl, memops.memop core, shape.shape shaped) refl
declared (rule.event n ps ws s of) = rw (params of, int_params_of ws) refl
declared (rule.handle n ps body i ws e s b k is there none of block) =
    rw (is, there, none, params of, int_params_of ws, same_itself ws, complete.block_made block) refl
declared (rule.fun a n ps body t qs s b k answers of block) =
    let found = answer answers in rw (found.0, params of, complete.block_made block, found.1) refl
declared (rule.group n members ok) = rw ok refl

-- ---- from the function to the rules

constant : (number line : ℕ) (t : Ty) (n : List ℕ) (v : ℕ) (m l : Definitions) → take.constant t n v m ≡ Some l → Declared number line m (d.Const t n v) l
constant number line t n v m l h =
    let w = bound (int_of t) _ l h in
    let parts = was (nat_lt v (2 ^ w.0)) (take.with_constant n w.0 v m) l w.2 in
    subst (Declared number line m (d.Const t n v)) parts.1 (rule.constant t w.0 n v (is_int t w.0 w.1) (ltb-true v (2 ^ w.0) parts.0))

global : (number line : ℕ) (short : Bool) (w : ℕ) (n : List ℕ) (x : Size) (m l : Definitions) → take.global w n x m ≡ Some l → Declared number line m (d.Global short w n x) l
global number line short w n x m l h =
    let k = bound (size_of m.names x) _ l h in
    let parts = was (is_width w && is_size k.0) _ l k.2 in
    let both = and_parts _ _ parts.0 in
    let fits = and_parts _ _ both.1 in
    subst (Declared number line m (d.Global short w n x)) parts.1
    (rule.global short w n x k.0 (width_is w both.0) (is_sized m.names x k.0 k.1) (leb-true 1 k.0 fits.0) (leb-true k.0 65536 fits.1))

memop : (number line : ℕ) (n : List ℕ) (first second : Ty × List ℕ) (body : List S) (m l : Definitions) → take.memop n first second body m ≡ Some l →
    Declared number line m (d.Memop n first second body) l
memop number line n first second body m l h =
    let w = bound (int_of first.0) _ l h in
    let v = bound (int_of second.0) _ l w.2 in
    let steps = bound _ _ l v.2 in
    let alu = bound (shape_found w.0 steps.0) _ l steps.2 in
    let parts = when_parts (nat_eq w.0 v.0) (memop_body w.0 (memop_names w.0 first.1 second.1 m.names) body) steps.0 steps.1 in
    subst (Declared number line m (d.Memop n first second body)) (same_some _ l alu.2)
    (rule.memop first.0 second.0 w.0 n first.1 second.1 body steps.0 alu.0 (is_int first.0 w.0 w.1)
    (subst (λ (u : ℕ). Means second.0 (Int u)) (sym (eqb-true w.0 v.0 parts.0)) (is_int second.0 v.0 v.1))
    (is_memop w.0 (memop_names w.0 first.1 second.1 m.names) body steps.0 parts.1) (shape.is_shape w.0 steps.0 alu.0 alu.1))

event : (number line : ℕ) (n : List ℕ) (ps : List P) (m l : Definitions) → take.event n ps m ≡ Some l → Declared number line m (d.Event n ps) l
event number line n ps m l h =
    let qs = bound (parameters 0 0 m.names ps) _ l h in
    let ws = bound (int_params qs.0.0) _ l qs.2 in
    subst (Declared number line m (d.Event n ps)) (same_some _ l ws.2)
    (rule.event n ps ws.0 qs.0.1
    (subst (λ (rs : List Param). Parameters 0 0 m.names ps rs qs.0.1) (are_ints qs.0.0 ws.0 ws.1) (are_params 0 0 m.names ps qs.0 qs.1)))

handle : (number line : ℕ) (n : List ℕ) (ps : List P) (body : List S) (m l : Definitions) → take.handle number line n ps body m ≡ Some l →
    Declared number line m (d.Handle n ps body) l
handle number line n ps body m l h =
    let y = bound (event_at (seen n m.names)) _ l h in
    let e = bound (slice_get m.events y.0.0) _ l y.2 in
    let qs = bound _ _ l e.2 in
    let ws = bound (int_params qs.0.0) _ l qs.2 in
    let b = bound _ _ l ws.2 in
    let free = when_parts (is_none e.0.handler) (parameters 0 0 m.names ps) qs.0 qs.1 in
    let repeats = when_parts (same ws.0 y.0.1) (body_of body None qs.0.1 (record { locals = y.0.1; forms = m.forms })) b.0 b.1 in
    let widths : ws.0 ≡ y.0.1 = same_text ws.0 y.0.1 (sym repeats.0) in
    let of = subst (λ (rs : List Param). Parameters 0 0 m.names ps rs qs.0.1) (are_ints qs.0.0 ws.0 ws.1 ∙ ap ints widths) (are_params 0 0 m.names ps qs.0 free.1) in
    subst (Declared number line m (d.Handle n ps body)) (same_some _ l b.2)
    (rule.handle n ps body y.0.0 y.0.1 e.0 qs.0.1 b.0.0 b.0.1 (event_by n m.names y.0 (seen n m.names) refl y.1) e.1 (no_handler e.0.handler free.0) of
    (sound.block_of None qs.0.1 _ body b.0.0 b.0.1 repeats.1))

fun : (number line : ℕ) (a : Option Ty) (n : List ℕ) (ps : List P) (body : List S) (m l : Definitions) → take.fun number line a n ps body m ≡ Some l →
    Declared number line m (d.Fun a n ps body) l
fun number line a n ps body m l h =
    let t = bound (answer_of a) _ l h in
    let qs = bound (parameters 0 0 m.names ps) _ l t.2 in
    let b = bound (body_of body t.0 qs.0.1 (record { locals = value_widths qs.0.0; forms = m.forms })) _ l qs.2 in
    let parts = was (ends_well t.0 b.0.0.ending) _ l b.2 in
    subst (Declared number line m (d.Fun a n ps body)) parts.1
    (rule.fun a n ps body t.0 qs.0.0 qs.0.1 b.0.0 b.0.1 (is_answer a t.0 b.0.0.ending t.1 parts.0) (are_params 0 0 m.names ps qs.0 qs.1)
    (sound.block_of t.0 qs.0.1 _ body b.0.0 b.0.1 b.1))

group : (number line : ℕ) (n members : List ℕ) (m l : Definitions) → take.group n members m ≡ Some l → Declared number line m (d.Group n members) l
group number line n members m l h =
    let parts = was (are_members members) _ l h in
    subst (Declared number line m (d.Group n members)) parts.1 (rule.group n members parts.0)

is_declared : (number line : ℕ) (x : DeclKind) (m l : Definitions) → declaration number line x m ≡ Some l → Declared number line m x l
is_declared number line (d.Const t n v) m l h = constant number line t n v m l h
is_declared number line (d.Global short w n x) m l h = global number line short w n x m l h
is_declared number line (d.Memop n first second body) m l h = memop number line n first second body m l h
is_declared number line (d.Event n ps) m l h = event number line n ps m l h
is_declared number line (d.Handle n ps body) m l h = handle number line n ps body m l h
is_declared number line (d.Fun a n ps body) m l h = fun number line a n ps body m l h
is_declared number line (d.Group n members) m l h = group number line n members m l h

pub computes : Computes declaration
computes = record { sound = λ number line m l x h. is_declared number line x m l h; complete = λ number line m l x of. declared of }
