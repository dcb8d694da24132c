-- What the function gives of statements and blocks, the rules derive.
use Rattle.std.proofs.Common.{◌≡◌, ℕ, ◌^◌, List, [], ◌∷◌, Option, None, Some, true, map, option_map, length, nat_eq, nat_lt, refl, sym, ap, subst, ◌∙◌}
use Rattle.std.specs.List.{AllByRecursion}
use Rattle.std.proofs.lemmas.Bool.{eqb-true, ltb-true}
use Rattle.lucid_core.specs.declared.body.Expr.{Expr}
use Rattle.lucid_core.specs.declared.body.Stmt.{Stmt}
use Rattle.lucid_core.specs.declared.body.Stmt.TheVariants as core
use Rattle.lucid_base.specs.Numbers.{all_differ}
use Rattle.lucid_core.specs.Texts.{holes_of}
use Rattle.lucid_memop.proofs.Parts.{bound, same_some}
use Rattle.lucid_core.specs.declared.ending.Ending.{Ending}
use Rattle.lucid_core.specs.declared.ending.Ending.TheVariants.{Never, Sometimes, Always}
use Rattle.lucid_core.specs.Endings.{of_either}
use Rattle.lucid_parse_tree.specs.declared.tree.A.{A}
use Rattle.lucid_parse_tree.specs.declared.tree.E.{E}
use Rattle.lucid_parse_tree.specs.declared.tree.No.{No}
use Rattle.lucid_parse_tree.specs.declared.tree.No.TheVariants as no
use Rattle.lucid_parse_tree.specs.declared.tree.S.{S}
use Rattle.lucid_parse_tree.specs.declared.tree.S.TheVariants as form
use Rattle.lucid_parse_tree.specs.declared.tree.Ty.{Ty}
use Rattle.lucid_parse_tree.specs.declared.tree.Ty.TheVariants as ty
use Rattle.lucid_parse_tree.specs.declared.tree.V.{V}
use Rattle.lucid_parse_tree.proofs.StatementInduction.{InCases, InLast, statement_induction}
use Rattle.lucid_types_spec.specs.declared.body.Body.{Body}
use Rattle.lucid_types_spec.specs.declared.scope.Entry.{Entry}
use Rattle.lucid_types_spec.specs.declared.scope.Entry.TheVariants as entry
use Rattle.lucid_types_spec.specs.declared.scope.ValueType.{ValueType}
use Rattle.lucid_types_spec.specs.declared.scope.ValueType.TheVariants as vt
use Rattle.lucid_types_spec.specs.Block.{Block, Branches, Cases, Numbered, Statement, before, empty, form_number, if_of, is_number, one, one_form, one_local}
use Rattle.lucid_types_spec.specs.Block as rule
use Rattle.lucid_types_spec.specs.Names.{Names, called, seen}
use Rattle.lucid_types_spec.specs.Typed.{Typed}
use Rattle.lucid_types_spec.specs.Types.{Means, stated, width_of}
use Rattle.lucid_types_spec.specs.Types as types
use Rattle.lucid_types_laws.specs.declared.part.Part.{Part}
use Rattle.lucid_types_laws.specs.declared.part.Part.TheVariants.{Does, Guard}
use Rattle.lucid_types_laws.specs.Lead.{or_32}
use Rattle.lucid_types_laws.specs.Reading as read
use Rattle.lucid_types_laws.specs.Reading.{core_of, is_width, reading}
use Rattle.lucid_types_laws.specs.Sending.{sending_of}
use Rattle.lucid_types_laws.specs.Statement as take
use Rattle.lucid_types_laws.specs.Statement.{Other, Taken, Taking, block, chosen, goes_on, is_empty, onto, or_empty, other, other_of, parts, put, taking, type_of}
use Rattle.lucid_types_laws.proofs.Leads.{width_is}
use Rattle.lucid_types_laws.proofs.Parts.{when_parts, was}
use Rattle.lucid_types_laws.proofs.Sendings.{are_sent}
use Rattle.lucid_types_laws.proofs.Sound as sound
use Rattle.lucid_types_laws.proofs.StatementComplete.{numbers_are, put_before}
use Rattle.lucid_types_laws.proofs.StatementForms.{absent_is, array_is, assign_is, block_is, call_is, chain_is, declare_is, generate_is, if_is, match_is, match_last_is, printf_is, return_is, taken_cases}

pub is_meant : (t : Ty) (v : ValueType) → type_of t ≡ Some v → Means t v
is_meant (ty.Int w) v h =
    let parts = was (is_width (stated w)) (vt.Int (stated w)) v h in
    subst (Means (ty.Int w)) parts.1 (types.int w (width_is (stated w) parts.0))
is_meant ty.Bool v h = subst (Means ty.Bool) (same_some vt.Bool v h) types.bool

-- ---- what stands behind a statement

-- The statements behind it, where there are some, are a block.
abbrev Behind : Option ValueType → Names → Numbered → List S → Option Body → Numbered → Type 0
Behind a s m xs None k = (xs ≡ []) × (m ≡ k)
Behind a s m xs (Some b) k = Block a s m xs b k

-- With whatever stands behind it, the statement so taken is a block.
abbrev Begins : Option ValueType → Names → Numbered → S → Taken → Type 0
Begins a s m x r = (xs : List S) (o : Option Body) (b : Body) (k : Numbered) → Behind a r.names r.numbered xs o k → put r.part o ≡ Some b →
    Block a s m (x ∷ xs) b k

rest : (a : Option ValueType) (s : Names) (m : Numbered) (xs : List S) (o : Option Body) (k : Numbered) → Behind a s m xs o k → Block a s m xs (or_empty o) k
rest a s m xs None k h =
    subst (λ (n : Numbered). Block a s m xs empty n) h.1 (subst (λ (ys : List S). Block a s m ys empty m) (sym h.0) (rule.end s m))
rest a s m xs (Some b) k h = h

never : (r : Ending) → goes_on r ≡ true → r ≡ Never
never Never h = refl
never Sometimes h = absurd (cc)
never Always h = absurd (cc)

last : (a : Option ValueType) (s : Names) (m : Numbered) (x : S) (d : Body) (l : Numbered) (r : Ending) → d.ending ≡ r → Statement a s m x d l → Block a s m (x ∷ []) d l
last a s m x d l Never is of =
    subst (λ (b : Body). Block a s m (x ∷ []) b l) (same_some _ d (sym (put_before d None is)))
    (rule.goes_on s m x d l [] empty l of is (rule.end s l))
last a s m x d l Sometimes is of = rule.stops s m x d l of (λ h. let no_way : Sometimes ≡ Never = sym is ∙ h in cc)
last a s m x d l Always is of = rule.stops s m x d l of (λ h. let no_way : Always ≡ Never = sym is ∙ h in cc)

-- A statement with a rule.
begins : (a : Option ValueType) (s : Names) (m : Numbered) (x : S) (d : Body) (l : Numbered) → Statement a s m x d l →
    Begins a s m x (record { part = Does d; names = s; numbered = l })
begins a s m x d l of xs None b k h put_is =
    subst (λ (c : Body). Block a s m (x ∷ xs) c k) (same_some d b put_is)
    (subst (λ (n : Numbered). Block a s m (x ∷ xs) d n) h.1
    (subst (λ (ys : List S). Block a s m (x ∷ ys) d l) (sym h.0) (last a s m x d l d.ending refl of)))
begins a s m x d l of xs (Some c) b k h put_is =
    let parts = when_parts (goes_on d.ending) (Some (before d.steps c)) b put_is in
    subst (λ (e : Body). Block a s m (x ∷ xs) e k) (same_some (before d.steps c) b parts.1) (rule.goes_on s m x d l xs c k of (never d.ending parts.0) h)

-- A guard.
guards : (a : Option ValueType) (s : Names) (m : Numbered) (x : E) (c : Expr) (ys : List S) (d : Body) (l : Numbered) →
    Typed s vt.Bool x c → Block a s m ys d l → d.ending ≡ Always →
    Begins a s m (if_of x ys no.Absent) (record { part = Guard c d.steps; names = s; numbered = l })
guards a s m x c ys d l of first always xs o b k h put_is =
    let whole = rule.guards s m x c ys d l xs (or_empty o) k of first always (rest a s l xs o k h) in
    subst (λ (e : Body). Block a s m (if_of x ys no.Absent ∷ xs) e k)
    (ap (λ (r : Ending). one (core.If c d.steps (or_empty o).steps) (of_either r (or_empty o).ending)) always ∙ same_some _ b put_is) whole

-- ---- statements without blocks

abbrev P : S → Type 0
P x = (a : Option ValueType) (s : Names) (m : Numbered) (r : Taken) → taking x a s m ≡ Some r → Begins a s m x r

at : {f g : Taking} → f ≡ g → (a : Option ValueType) (s : Names) (m : Numbered) (r : Taken) → f a s m ≡ Some r → g a s m ≡ Some r
at is a s m r h = sym (ap (λ (f : Taking). f a s m) is) ∙ h

-- What is one statement of a core.
simple : (a : Option ValueType) (s : Names) (m : Numbered) (x : S) (r : Taken) (o : Option Stmt) → take.simple s m o ≡ Some r →
    ((y : Stmt) → o ≡ Some y → Statement a s m x (one y Never) m) → Begins a s m x r
simple a s m x r o h of =
    let y = bound o _ r h in
    subst (Begins a s m x) (same_some _ r y.2) (begins a s m x (one y.0 Never) m (of y.0 y.1))

stays : (a : Option ValueType) (s : Names) (m : Numbered) (x : S) (r : Taken) (o : Option (Body × Numbered)) → take.stays s o ≡ Some r →
    ((b : Body) (k : Numbered) → o ≡ Some (b, k) → Statement a s m x b k) → Begins a s m x r
stays a s m x r o h of =
    let y = bound o _ r h in
    subst (Begins a s m x) (same_some _ r y.2) (begins a s m x y.0.0 y.0.1 (of y.0.0 y.0.1 y.1))

declare : (t : Ty) (n : List ℕ) (x : E) → P (form.Declare t n x)
declare t n x a s m r h =
    let v = bound (type_of t) _ r (at (declare_is t n x) a s m r h) in
    let c = bound (core_of x s v.0) _ r v.2 in
    let i = length m.locals in
    subst (Begins a s m (form.Declare t n x)) (same_some _ r c.2)
    (λ xs o b k behind put_is.
    subst (λ (e : Body). Block a s m (form.Declare t n x ∷ xs) e k)
    (same_some _ b (sym (put_before (one (core.Assign i c.0) Never) o refl) ∙ put_is))
    (rule.declare s m t v.0 n x c.0 xs (or_empty o) k (is_meant t v.0 v.1) (sound.typed x s v.0 c.0 c.1)
    (rest a (called n (entry.Local i v.0) ∷ s) (one_local (width_of v.0) m) xs o k behind)))

local_by : (n : List ℕ) (s : Names) (y : ℕ × ValueType) (o : Option Entry) → seen n s ≡ o → take.local_at o ≡ Some y → seen n s ≡ Some (entry.Local y.0 y.1)
local_by n s y (Some (entry.Local i t)) is h = is ∙ ap (λ (z : ℕ × ValueType). Some (entry.Local z.0 z.1)) (same_some (i, t) y h)
local_by n s y _ is h = absurd (cc)

assign : (n : List ℕ) (x : E) → P (form.Assign n x)
assign n x a s m r h = simple a s m (form.Assign n x) r (take.assigned n x s) (at (assign_is n x) a s m r h) (λ y is.
    let v = bound (take.local_at (seen n s)) _ y is in
    let c = bound (core_of x s v.0.1) _ y v.2 in
    subst (λ (z : Stmt). Statement a s m (form.Assign n x) (one z Never) m) (same_some _ y c.2)
    (rule.assign s m n v.0.0 v.0.1 x c.0 (local_by n s v.0 (seen n s) refl v.1) (sound.typed x s v.0.1 c.0 c.1)))

call : (n : List ℕ) (xs : List E) → P (form.Call n xs)
call n xs a s m r h = simple a s m (form.Call n xs) r (take.call_dropped n xs s) (at (call_is n xs) a s m r h) (λ y is.
    let c = bound (read.called n (map reading xs) s) _ y is in
    subst (λ (z : Stmt). Statement a s m (form.Call n xs) (one z Never) m) (same_some _ y c.2)
    (rule.call s m n xs c.0.0 c.0.1 (sound.called_is n xs s c.0 c.1)))

array : (x : A) → P (form.Array x)
array x a s m r h = simple a s m (form.Array x) r (take.touch_dropped x s) (at (array_is x) a s m r h) (λ y is.
    let c = bound (read.touch_of x s) _ y is in
    subst (λ (z : Stmt). Statement a s m (form.Array x) (one z Never) m) (same_some _ y c.2)
    (rule.array s m x c.0.0 c.0.1 (sound.touched x s c.0.0 c.0.1 c.1)))

generate : (x : V) → P (form.Generate x)
generate x a s m r h = simple a s m (form.Generate x) r (take.generated x s) (at (generate_is x) a s m r h) (λ y is.
    let g = bound (sending_of x s) _ y is in
    subst (λ (z : Stmt). Statement a s m (form.Generate x) (one z Never) m) (same_some _ y g.2) (rule.generate s m x g.0 (are_sent x s g.0 g.1)))

printf : (text : List ℕ) (xs : List E) → P (form.Printf text xs)
printf text xs a s m r h = stays a s m (form.Printf text xs) r (take.printed text xs s m) (at (printf_is text xs) a s m r h) (λ b k is.
    let cs = bound (read.all_free (map reading xs) s) _ (b, k) is in
    let parts = was (nat_eq (length cs.0) (holes_of text)) (one (core.Say (form_number text m.forms) cs.0) Never, one_form text m) (b, k) cs.2 in
    subst (λ (z : Body × Numbered). Statement a s m (form.Printf text xs) z.0 z.1) parts.1
    (rule.printf s m text xs cs.0 (sound.all_free_are xs s cs.0 cs.1) (eqb-true (length cs.0) (holes_of text) parts.0)))

returned_by : (a t : Option ValueType) (x : Option E) (s : Names) (m : Numbered) (b : Body) (k : Numbered) → a ≡ t → take.returned t x s m ≡ Some (b, k) →
    Statement a s m (form.Return x) b k
returned_by a None None s m b k is h =
    subst (λ (z : Body × Numbered). Statement a s m (form.Return None) z.0 z.1) (same_some (one (core.Return None) Always, m) (b, k) h) (rule.return_nothing s m is)
returned_by a (Some t) (Some x) s m b k is h =
    let c = bound (core_of x s t) _ (b, k) h in
    subst (λ (z : Body × Numbered). Statement a s m (form.Return (Some x)) z.0 z.1) (same_some (one (core.Return (Some c.0)) Always, m) (b, k) c.2)
    (rule.return_value s m t x c.0 is (sound.typed x s t c.0 c.1))
returned_by a None (Some x) s m b k is h = absurd (cc)
returned_by a (Some t) None s m b k is h = absurd (cc)

return : (x : Option E) → P (form.Return x)
return x a s m r h = stays a s m (form.Return x) r (take.returned a x s m) (at (return_is x) a s m r h) (λ b k is. returned_by a a x s m b k refl is)

-- ---- blocks

-- A part before others.
record Together (p : Part) (ps : List Part) (o : Option Body) : Type 0 where
  pub rest : Option Body
  pub body : Body
  pub joined : onto ps None ≡ Some rest
  pub first : put p rest ≡ Some body
  pub all : Some body ≡ o

put_together : (p : Part) (ps : List Part) (o : Option Body) → onto (p ∷ ps) None ≡ Some o → Together p ps o
put_together p ps o h =
    let r = bound (onto ps None) _ o h in
    let b = bound (put p r.0) _ o r.2 in
    record { rest = r.0; body = b.0; joined = r.1; first = b.1; all = same_some (Some b.0) o b.2 }

behind : (xs : List S) → AllByRecursion P xs → (a : Option ValueType) (s : Names) (m : Numbered) (ps : List Part) (o : Option Body) (k : Numbered) →
    parts (map taking xs) a s m ≡ Some (ps, k) → onto ps None ≡ Some o → Behind a s m xs o k
behind [] all a s m ps o k ran joined =
    let none : None ≡ o = same_some None o (ap (λ (z : List Part × Numbered). onto z.0 None) (same_some ([], m) (ps, k) ran) ∙ joined) in
    subst (λ (z : Option Body). Behind a s m [] z k) none (refl, ap (λ (z : List Part × Numbered). z.1) (same_some ([], m) (ps, k) ran))
behind (x ∷ xs) all a s m ps o k ran joined =
    let f = bound (taking x a s m) _ (ps, k) ran in
    let g = bound (parts (map taking xs) a f.0.names f.0.numbered) _ (ps, k) f.2 in
    let same = same_some (f.0.part ∷ g.0.0, g.0.1) (ps, k) g.2 in
    let whole = put_together f.0.part g.0.0 o (ap (λ (z : List Part × Numbered). onto z.0 None) same ∙ joined) in
    let left = behind xs all.1 a f.0.names f.0.numbered g.0.0 whole.rest g.0.1 g.1 whole.joined in
    subst (λ (z : Option Body). Behind a s m (x ∷ xs) z k) whole.all
    (subst (λ (n : Numbered). Block a s m (x ∷ xs) whole.body n) (ap (λ (z : List Part × Numbered). z.1) same)
    (all.0 a s m f.0 f.1 xs whole.rest whole.body g.0.1 left whole.first))

blocks : (xs : List S) → AllByRecursion P xs → (a : Option ValueType) (s : Names) (m : Numbered) (b : Body) (k : Numbered) →
    block (map taking xs) a s m ≡ Some (b, k) → Block a s m xs b k
blocks xs all a s m b k h =
    let ran = bound (parts (map taking xs) a s m) _ (b, k) h in
    let o = bound (onto ran.0.0 None) _ (b, k) ran.2 in
    subst (λ (z : Body × Numbered). Block a s m xs z.0 z.1) (same_some (or_empty o.0, ran.0.1) (b, k) o.2)
    (rest a s m xs o.0 ran.0.1 (behind xs all a s m ran.0.0 o.0 ran.0.1 ran.1 o.1))

-- ---- choices

abbrev After : Option ValueType → Names → Numbered → No → Option Body → Numbered → Type 0
After a s l z None k = (z ≡ no.Absent) × (l ≡ k)
After a s l z (Some d) k = (m : Numbered) (ys : List S) (b : Body) → Block a s m ys b l → Branches a s m ys z b d k

abbrev N : No → Type 0
N z = (a : Option ValueType) (s : Names) (l : Numbered) (o : Option Body) (k : Numbered) → other_of (other z) a s l ≡ Some (o, k) → After a s l z o k

alone : (a : Option ValueType) (s : Names) (m : Numbered) (x : E) (c : Expr) (ys : List S) (b : Body) (l : Numbered) (r : Ending) → b.ending ≡ r →
    Typed s vt.Bool x c → Block a s m ys b l → Begins a s m (if_of x ys no.Absent) (record { part = take.alone c b r; names = s; numbered = l })
alone a s m x c ys b l Always is of first = guards a s m x c ys b l of first is
alone a s m x c ys b l Never is of first =
    begins a s m (if_of x ys no.Absent) (one (core.If c b.steps []) (of_either Never Never)) l
    (subst (λ (r : Ending). Statement a s m (if_of x ys no.Absent) (one (core.If c b.steps []) (of_either r Never)) l) is
    (rule.choose s m x ys no.Absent c b empty l of (rule.alone s m ys b l first (λ h. let no_way : Never ≡ Always = sym is ∙ h in cc))))
alone a s m x c ys b l Sometimes is of first =
    begins a s m (if_of x ys no.Absent) (one (core.If c b.steps []) (of_either Sometimes Never)) l
    (subst (λ (r : Ending). Statement a s m (if_of x ys no.Absent) (one (core.If c b.steps []) (of_either r Never)) l) is
    (rule.choose s m x ys no.Absent c b empty l of (rule.alone s m ys b l first (λ h. let no_way : Sometimes ≡ Always = sym is ∙ h in cc))))

choose : (a : Option ValueType) (s : Names) (m : Numbered) (x : E) (c : Expr) (ys : List S) (z : No) (b : Body) (l : Numbered) (o : Option Body) (k : Numbered) →
    Typed s vt.Bool x c → Block a s m ys b l → After a s l z o k →
    Begins a s m (if_of x ys z) (record { part = chosen c b o; names = s; numbered = k })
choose a s m x c ys z b l None k of first after =
    subst (λ (n : Numbered). Begins a s m (if_of x ys z) (record { part = take.alone c b b.ending; names = s; numbered = n })) after.1
    (subst (λ (y : No). Begins a s m (if_of x ys y) (record { part = take.alone c b b.ending; names = s; numbered = l })) (sym after.0)
    (alone a s m x c ys b l b.ending refl of first))
choose a s m x c ys z b l (Some d) k of first after =
    begins a s m (if_of x ys z) (one (core.If c b.steps d.steps) (of_either b.ending d.ending)) k (rule.choose s m x ys z c b d k of (after m ys b first))

choice : (x : E) (ys : List S) (z : No) → AllByRecursion P ys → N z → P (if_of x ys z)
choice x ys z all others a s m r h =
    let c = bound (core_of x s vt.Bool) _ r (at (if_is x ys z) a s m r h) in
    let b = bound (block (map taking ys) a s m) _ r c.2 in
    let o = bound (other_of (other z) a s b.0.1) _ r b.2 in
    whole c.0 b.0 o.0 (sound.typed x s vt.Bool c.0 c.1) (blocks ys all a s m b.0.0 b.0.1 b.1) (others a s b.0.1 o.0.0 o.0.1 o.1) o.2
  where
    whole : (c : Expr) (b : Body × Numbered) (o : Option Body × Numbered) → Typed s vt.Bool x c → Block a s m ys b.0 b.1 → After a s b.1 z o.0 o.1 →
        Some (record { part = chosen c b.0 o.0; names = s; numbered = o.1 }) ≡ Some r → Begins a s m (if_of x ys z) r
    whole c b o of first after is = subst (Begins a s m (if_of x ys z)) (same_some _ r is) (choose a s m x c ys z b.0 b.1 o.0 o.1 of first after)

absent : N no.Absent
absent a s l o k h =
    let same = same_some (None, l) (o, k) (sym (ap (λ (f : Other). other_of f a s l) absent_is) ∙ h) in
    subst (λ (z : Option Body × Numbered). After a s l no.Absent z.0 z.1) same (refl, refl)

-- Where a second block is there.
second : (z : No) (zs : List S) → other z ≡ Some (block (map taking zs)) → AllByRecursion P zs →
    ((a : Option ValueType) (s : Names) (m l k : Numbered) (ys : List S) (b d : Body) → Block a s m ys b l → Block a s l zs d k → Branches a s m ys z b d k) → N z
second z zs is all branches a s l o k h =
    let d = bound (block (map taking zs) a s l) _ (o, k) (sym (ap (λ (f : Other). other_of f a s l) is) ∙ h) in
    let of = blocks zs all a s l d.0.0 d.0.1 d.1 in
    subst (λ (y : Option Body × Numbered). After a s l z y.0 y.1) (same_some (Some d.0.0, d.0.1) (o, k) d.2)
    (λ m ys b first. branches a s m l d.0.1 ys b d.0.0 first of)

-- ---- matches

cases : (ys : List (ℕ × List S)) (zs : Option (List S)) → InCases P ys → InLast P zs → (a : Option ValueType) (s : Names) (m : Numbered) (i w : ℕ) (b : Body) (k : Numbered) →
    take.cases (taken_cases ys) (option_map (map taking) zs) i w a s m ≡ Some (b, k) → Cases a s m i w ys zs b k
cases [] None all end a s m i w b k h =
    subst (λ (z : Body × Numbered). Cases a s m i w [] None z.0 z.1) (same_some (empty, m) (b, k) h) (rule.no_last s m i w)
cases [] (Some zs) all end a s m i w b k h = rule.last_arm s m i w zs b k (blocks zs end a s m b k h)
cases (y ∷ ys) zs all end a s m i w b k h =
    let first = bound _ _ (b, k) h in
    let others = bound (take.cases (taken_cases ys) (option_map (map taking) zs) i w a s first.0.1) _ (b, k) first.2 in
    let fits = when_parts (nat_lt y.0 (2 ^ w)) (block (map taking y.1) a s m) first.0 first.1 in
    subst (λ (z : Body × Numbered). Cases a s m i w (y ∷ ys) zs z.0 z.1) (same_some _ (b, k) others.2)
    (rule.next s m i w y.0 y.1 first.0.0 first.0.1 ys zs others.0.0 others.0.1 (ltb-true y.0 (2 ^ w) fits.0)
    (blocks y.1 all.0 a s m first.0.0 first.0.1 fits.1) (cases ys zs all.1 end a s first.0.1 i w others.0.0 others.0.1 others.1))

matched : (x : E) (ys : List (ℕ × List S)) (zs : Option (List S)) → InCases P ys → InLast P zs → (a : Option ValueType) (s : Names) (m : Numbered) (b : Body) (k : Numbered) →
    take.matched x (taken_cases ys) (option_map (map taking) zs) a s m ≡ Some (b, k) → Statement a s m (form.Match x ys zs) b k
matched x [] zs all end a s m b k h = absurd (cc)
matched x (y ∷ ys) zs all end a s m b k h =
    let w = or_32 ((reading x).lead s) in
    let c = bound _ _ (b, k) h in
    let chain = bound (take.cases (taken_cases (y ∷ ys)) (option_map (map taking) zs) (length m.locals) w a s (one_local w m)) _ (b, k) c.2 in
    let distinct = when_parts (all_differ (map (λ z. z.0) (taken_cases (y ∷ ys)))) (read.free (reading x) s) c.0 c.1 in
    subst (λ (z : Body × Numbered). Statement a s m (form.Match x (y ∷ ys) zs) z.0 z.1) (same_some _ (b, k) chain.2)
    (rule.matched s m x w c.0 y ys zs chain.0.0 chain.0.1 (sound.free_is x s c.0 distinct.1)
    (sym (ap all_differ (numbers_are (y ∷ ys))) ∙ distinct.0)
    (cases (y ∷ ys) zs all end a s (one_local w m) (length m.locals) w chain.0.0 chain.0.1 chain.1))

match : (x : E) (ys : List (ℕ × List S)) (zs : Option (List S)) → InCases P ys → InLast P zs → P (form.Match x ys zs)
match x ys None all end a s m r h = stays a s m (form.Match x ys None) r (take.matched x (taken_cases ys) None a s m) (at (match_is x ys) a s m r h)
    (λ b k is. matched x ys None all end a s m b k is)
match x ys (Some zs) all end a s m r h =
    stays a s m (form.Match x ys (Some zs)) r (take.matched x (taken_cases ys) (Some (map taking zs)) a s m) (at (match_last_is x ys zs) a s m r h)
    (λ b k is. matched x ys (Some zs) all end a s m b k is)

-- ---- all statements

statement : (x : S) → P x
statement = statement_induction N P (λ c. P (form.Cond c)) (record {
  declare = declare;
  assign = assign;
  call = call;
  array = array;
  cond = λ c of. of;
  returned = return;
  generate = generate;
  printed = printf;
  matched = match;
  chosen = choice;
  absent = absent;
  block = λ zs all. second (no.Block zs) zs (block_is zs) all (λ a s m l k ys b d of and. rule.block s m ys b l zs d k of and);
  chain = λ c of. second (no.Cond c) (form.Cond c ∷ []) (chain_is c) (of, tt) (λ a s m l k ys b d of and. rule.chain s m ys b l c d k of and);
})

every : (xs : List S) → AllByRecursion P xs
every [] = tt
every (x ∷ xs) = (statement x, every xs)

pub block_of : (a : Option ValueType) (s : Names) (m : Numbered) (xs : List S) (b : Body) (k : Numbered) → take.body_of xs a s m ≡ Some (b, k) → Block a s m xs b k
block_of a s m xs b k h = blocks xs (every xs) a s m b k h
