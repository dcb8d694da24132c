-- A block is its statements, put together; a choice is its branches and then its test.
use Rattle.std.proofs.Common.{◌≡◌, ℕ, ◌+◌, ◌<◌, ◌≤◌, List, [], ◌∷◌, ◌++◌, Option, None, Some, Result, Ok, Err, OnOk, drop, length, get_or, map, option_map, append_assoc, append-nil, add-one, drop-cons, suc, refl, sym, ap, subst, ◌∙◌}
use Rattle.std.proofs.Math.ListN.{drop_of_length-le}
use Rattle.lucid_core.specs.declared.body.Expr.{Expr}
use Rattle.lucid_core.specs.Typing.{◌>>=◌}
use Rattle.lucid_memop.proofs.Parts.{same_some}
use Rattle.lucid_parse_tree.specs.declared.tree.C.{C, out-C, roll-out-C}
use Rattle.lucid_parse_tree.specs.declared.tree.No.{No, fold-roll-No}
use Rattle.lucid_parse_tree.specs.declared.tree.No.TheOpen.{No-F, C-F}
use Rattle.lucid_parse_tree.specs.declared.tree.No.TheVariants as no
use Rattle.lucid_parse_tree.specs.declared.tree.S.{S}
use Rattle.lucid_types_spec.specs.declared.body.Body.{Body}
use Rattle.lucid_types_spec.specs.declared.scope.ValueType.{ValueType}
use Rattle.lucid_types_spec.specs.declared.scope.ValueType.TheVariants as vt
use Rattle.lucid_types_spec.specs.Block.{Numbered}
use Rattle.lucid_types_spec.specs.Names.{Names}
use Rattle.lucid_types_laws.specs.declared.part.Part.{Part}
use Rattle.lucid_types_laws.specs.Reading.{core_of}
use Rattle.lucid_types_laws.proofs.StatementForms.{block_is, choice_is}
use Rattle.lucid_types_laws.specs.Statement.{Other, Taken, Taking, block, body_of, choice_step, choosing, chosen, onto, or_empty, other, other_of, other_step, parts, put, statement_step, taking}
use Rattle.lucid_types_expressions.specs.declared.fault.Fault.{Fault}
use Rattle.lucid_types_expressions.specs.declared.fault.Fault.TheVariants.{NoRule, Memory}
use Rattle.lucid_types_expressions.specs.Gives.{Fails, Gives}
use Rattle.lucid_types_statements.specs.Assembly.{HaveTheEffect}
use Rattle.lucid_types_statements.specs.Bodies.{Adds, Leaves, LeavesParts, Takes, alone_of, before_rest}
use Rattle.lucid_types_statements.specs.MatchArms.{with_parts}

-- ---- answers that may be none

pub on_ok_always : {T E P : Type 0} (r : Result T E) → P → OnOk r P
on_ok_always (Ok x) p = p
on_ok_always (Err e) p = tt

-- A part that gives nothing leaves the whole with nothing.
pub fails_with : {A B : Type 0} (f : Fault) (o : Option A) (p : Option B) → (o ≡ None → p ≡ None) → Fails f o → Fails f p
fails_with NoRule o p none fails = none fails
fails_with Memory o p none fails = tt

pub under : {A B : Type 0} (o : Option A) (f g : A → Option B) → ((x : A) → f x ≡ g x) → (o >>= f) ≡ (o >>= g)
under None f g e = refl
under (Some x) f g e = e x

pub none_under : {A B : Type 0} (o : Option A) (f : A → Option B) → ((x : A) → f x ≡ None) → (o >>= f) ≡ None
none_under None f e = refl
none_under (Some x) f e = e x

pub taken_by : (p : Result Part Fault) (o : Option Expr) (f : Expr → Part) (s : Names) (k : Numbered) → Gives p (option_map f o) →
    Takes p s k (o >>= (λ c. Some (record { part = f c; names = s; numbered = k })))
taken_by (Ok p) None f s k g = absurd (cc)
taken_by (Ok p) (Some c) f s k g = ap (λ (q : Part). Some (record { part = q; names = s; numbered = k })) (same_some (f c) p g)
taken_by (Err NoRule) None f s k g = refl
taken_by (Err NoRule) (Some c) f s k g = absurd (cc)
taken_by (Err Memory) o f s k g = tt

pub adds_gives : (r : Result Part Fault) (p : Part) → Adds r p → Gives r (Some p)
adds_gives (Ok q) p h = ap (option_map (λ (t : Taken). t.part)) (h [] (record { locals = []; forms = [] }))
adds_gives (Err NoRule) p h = absurd (let e = h [] (record { locals = []; forms = [] }) in cc)
adds_gives (Err Memory) p h = tt

-- ---- the statements of a block

put_together : (r : Result Body Fault) (o : Option (Option Body)) (m : Numbered) → Gives r (option_map or_empty o) → Leaves r m (o >>= (λ b. Some (or_empty b, m)))
put_together (Ok b) None m g = absurd (cc)
put_together (Ok b) (Some o) m g = ap (λ (d : Body). Some (d, m)) (same_some (or_empty o) b g)
put_together (Err NoRule) None m g = refl
put_together (Err NoRule) (Some o) m g = absurd (cc)
put_together (Err Memory) o m g = tt

-- A block is its parts before nothing.
abbrev as_block : Option (Option Body × Numbered) → Option (Body × Numbered)
as_block o = o >>= (λ q. Some (or_empty q.0, q.1))

before_nothing : (o : Option (List Part × Numbered)) →
    (o >>= (λ all. onto all.0 None >>= (λ b. Some (or_empty b, all.1)))) ≡ as_block (before_rest None o)
before_nothing None = refl
before_nothing (Some q) = by (onto q.0 None)
  where
    by : (o : Option (Option Body)) → (o >>= (λ b. Some (or_empty b, q.1))) ≡ as_block (o >>= (λ b. Some (b, q.1)))
    by None = refl
    by (Some b) = refl

pub assembled : (r : Result Body Fault) (ps : List Part) (fs : List Taking) (a : Option ValueType) (s : Names) (m k : Numbered) →
    LeavesParts (Ok ps) k (parts fs a s m) → Gives r (option_map or_empty (onto ps None)) → Leaves r k (block fs a s m)
assembled r ps fs a s m k h g =
    subst (λ (o : Option (Body × Numbered)). Leaves r k o)
    (before_nothing (Some (ps, k)) ∙ ap as_block (sym (h None)) ∙ sym (before_nothing (parts fs a s m)))
    (put_together r (onto ps None) k g)

pub parts_fail : (f : Fault) (fs : List Taking) (a : Option ValueType) (s : Names) (m : Numbered) →
    Fails f (before_rest None (parts fs a s m)) → Fails f (block fs a s m)
parts_fail f fs a s m =
    fails_with f (before_rest None (parts fs a s m)) (block fs a s m) (λ none. before_nothing (parts fs a s m) ∙ ap as_block none)

-- ---- a statement more

pub first_left : {A : Type 0} (xs : List A) (i : ℕ) (x : A) → i < length xs → x ≡ get_or xs i x → drop i xs ≡ x ∷ drop (i + 1) xs
first_left xs i x h is = drop-cons xs i x h ∙ ap (λ y. y ∷ drop (suc i) xs) (sym is) ∙ ap (λ (k : ℕ). x ∷ drop k xs) (sym (add-one i))

before_more : (front : List Part) (p : Part) (o : Option (List Part × Numbered)) →
    with_parts (front ++ p ∷ []) o ≡ with_parts front (o >>= (λ rest. Some (p ∷ rest.0, rest.1)))
before_more front p None = refl
before_more front p (Some q) = ap (λ (ps : List Part). Some (ps, q.1)) (append_assoc front (p ∷ []) q.0)

-- The statements from one on are it and those after it.
from_one : (xs : List S) (i : ℕ) (x : S) (front : List Part) (a : Option ValueType) (s : Names) (m : Numbered) → i < length xs → x ≡ get_or xs i x →
    with_parts front (parts (map taking (drop i xs)) a s m) ≡ with_parts front (parts (taking x ∷ map taking (drop (i + 1) xs)) a s m)
from_one xs i x front a s m h is = ap (λ (ys : List S). with_parts front (parts (map taking ys) a s m)) (first_left xs i x h is)

-- The parts so far and those that are left have the effect of all.
abbrev pub AreLeft : List Part → Option (List Part × Numbered) → Option (List Part × Numbered) → Type 0
AreLeft front o all = (rest : Option Body) → before_rest rest (with_parts front o) ≡ before_rest rest all

pub all_left : (o : Option (List Part × Numbered)) → AreLeft [] o o
all_left None rest = refl
all_left (Some q) rest = refl

exchanged : (ps qs : List Part) (rest : Option Body) (o : Option (List Part × Numbered)) → HaveTheEffect ps qs →
    before_rest rest (with_parts ps o) ≡ before_rest rest (with_parts qs o)
exchanged ps qs rest None h = refl
exchanged ps qs rest (Some q) h = ap (λ (o : Option (Option Body)). o >>= (λ b. Some (b, q.1))) (h q.0 rest)

pub next_part : (xs : List S) (i : ℕ) (x : S) (front more : List Part) (p : Part) (a : Option ValueType) (s r : Names) (m k : Numbered)
    (all : Option (List Part × Numbered)) → i < length xs → x ≡ get_or xs i x →
    AreLeft front (parts (map taking (drop i xs)) a s m) all → taking x a s m ≡ Some (record { part = p; names = r; numbered = k }) →
    HaveTheEffect more (front ++ p ∷ []) → AreLeft more (parts (map taking (drop (i + 1) xs)) a r k) all
next_part xs i x front more p a s r m k all h is left of effect rest =
    exchanged more (front ++ p ∷ []) rest (parts (map taking (drop (i + 1) xs)) a r k) effect
    ∙ ap (before_rest rest) (before_more front p (parts (map taking (drop (i + 1) xs)) a r k)
    ∙ ap (λ (o : Option Taken). with_parts front (o >>= (λ y. parts (map taking (drop (i + 1) xs)) a y.names y.numbered
    >>= (λ q. Some (y.part ∷ q.0, q.1))))) (sym of)
    ∙ sym (from_one xs i x front a s m h is))
    ∙ left rest

pub no_part : (f : Fault) (xs : List S) (i : ℕ) (x : S) (front : List Part) (a : Option ValueType) (s : Names) (m : Numbered)
    (all : Option (List Part × Numbered)) → i < length xs → x ≡ get_or xs i x →
    AreLeft front (parts (map taking (drop i xs)) a s m) all → Fails f (taking x a s m) → Fails f (before_rest None all)
no_part f xs i x front a s m all h is left =
    fails_with f (taking x a s m) (before_rest None all) (λ none. sym (left None) ∙ ap (before_rest None) (from_one xs i x front a s m h is
    ∙ ap (λ (o : Option Taken). with_parts front (o >>= (λ y. parts (map taking (drop (i + 1) xs)) a y.names y.numbered
    >>= (λ q. Some (y.part ∷ q.0, q.1))))) none))

pub last_part : (xs : List S) (i : ℕ) (front : List Part) (a : Option ValueType) (s : Names) (m : Numbered)
    (all : Option (List Part × Numbered)) → length xs ≤ i → AreLeft front (parts (map taking (drop i xs)) a s m) all →
    LeavesParts (Ok front) m all
last_part xs i front a s m all h left rest =
    sym (left rest) ∙ ap (before_rest rest) (ap (λ (ys : List S). with_parts front (parts (map taking ys) a s m)) (drop_of_length-le xs h)
    ∙ ap (λ (ps : List Part). Some (ps, m)) (append-nil front))

-- ---- choices

abbrev branches_of : C-F Other Taking Taking → Option ValueType → Names → Numbered → Expr → Option Taken
branches_of k a s m c = block k.yes a s m >>= (λ b. other_of k.no a s b.1
    >>= (λ d. Some (record { part = chosen c b.0 d.0; names = s; numbered = d.1 })))

first_fails : (f : Fault) (k : C-F Other Taking Taking) (a : Option ValueType) (s : Names) (m : Numbered) →
    Fails f (block k.yes a s m) → Fails f (choice_step k a s m)
first_fails f k a s m =
    fails_with f (block k.yes a s m) (choice_step k a s m) (λ none. none_under (core_of k.test s vt.Bool) (branches_of k a s m)
    (λ c. ap (λ (o : Option (Body × Numbered)). o >>= (λ b. other_of k.no a s b.1
    >>= (λ d. Some (record { part = chosen c b.0 d.0; names = s; numbered = d.1 })))) none))

second_fails : (f : Fault) (k : C-F Other Taking Taking) (a : Option ValueType) (s : Names) (m l : Numbered) (b : Body) →
    block k.yes a s m ≡ Some (b, l) → Fails f (other_of k.no a s l) → Fails f (choice_step k a s m)
second_fails f k a s m l b h =
    fails_with f (other_of k.no a s l) (choice_step k a s m) (λ none. none_under (core_of k.test s vt.Bool) (branches_of k a s m)
    (λ c. ap (λ (o : Option (Body × Numbered)). o >>= (λ z. other_of k.no a s z.1
    >>= (λ d. Some (record { part = chosen c z.0 d.0; names = s; numbered = d.1 })))) h
    ∙ ap (λ (o : Option (Option Body × Numbered)). o >>= (λ d. Some (record { part = chosen c b d.0; names = s; numbered = d.1 }))) none))

choice_at : (p : Result Part Fault) (k : C-F Other Taking Taking) (a : Option ValueType) (s : Names) (m l n : Numbered) (b : Body)
    (d : Option Body) → block k.yes a s m ≡ Some (b, l) → other_of k.no a s l ≡ Some (d, n) →
    Gives p (option_map (λ c. chosen c b d) (core_of k.test s vt.Bool)) → Takes p s n (choice_step k a s m)
choice_at p k a s m l n b d h there g =
    subst (λ (o : Option Taken). Takes p s n o) (sym (under (core_of k.test s vt.Bool) (branches_of k a s m) _ (λ c.
    ap (λ (o : Option (Body × Numbered)). o >>= (λ z. other_of k.no a s z.1
    >>= (λ e. Some (record { part = chosen c z.0 e.0; names = s; numbered = e.1 })))) h
    ∙ ap (λ (o : Option (Option Body × Numbered)). o >>= (λ e. Some (record { part = chosen c b e.0; names = s; numbered = e.1 }))) there)))
    (taken_by p (core_of k.test s vt.Bool) (λ c. chosen c b d) s n g)

-- With its names as they were left.
abbrev parts_of : C → C-F Other Taking Taking
parts_of c = record { test = (out-C c).test; yes = map taking (out-C c).yes; no = other (out-C c).no }

choosing_is : (c : C) → choosing c ≡ choice_step (parts_of c)
choosing_is c = ap choosing (sym (roll-out-C c)) ∙ choice_is (out-C c).test (out-C c).yes (out-C c).no

yes_is : (c : C) (xs : List S) (a : Option ValueType) (s : Names) (m : Numbered) → xs ≡ (out-C c).yes →
    block (parts_of c).yes a s m ≡ body_of xs a s m
yes_is c xs a s m is = ap (λ (ys : List S). body_of ys a s m) (sym is)

pub yes_fails : (f : Fault) (c : C) (xs : List S) (a : Option ValueType) (s : Names) (m : Numbered) → xs ≡ (out-C c).yes →
    Fails f (body_of xs a s m) → Fails f (choosing c a s m)
yes_fails f c xs a s m is fails =
    subst (λ (g : Taking). Fails f (g a s m)) (sym (choosing_is c))
    (first_fails f (parts_of c) a s m (subst (λ (o : Option (Body × Numbered)). Fails f o) (sym (yes_is c xs a s m is)) fails))

pub no_fails : (f : Fault) (c : C) (xs : List S) (a : Option ValueType) (s r : Names) (m l : Numbered) (b : Body) → xs ≡ (out-C c).yes →
    body_of xs a s m ≡ Some (b, l) → r ≡ s → Fails f (other_of (other (out-C c).no) a r l) → Fails f (choosing c a s m)
no_fails f c xs a s r m l b is of rs fails =
    subst (λ (g : Taking). Fails f (g a s m)) (sym (choosing_is c))
    (second_fails f (parts_of c) a s m l b (yes_is c xs a s m is ∙ of)
    (subst (λ (z : Names). Fails f (other_of (other (out-C c).no) a z l)) rs fails))

pub choice_done : (p : Result Part Fault) (c : C) (xs : List S) (a : Option ValueType) (s r q : Names) (m l n : Numbered) (b : Body)
    (d : Option Body) → xs ≡ (out-C c).yes → body_of xs a s m ≡ Some (b, l) → r ≡ s → other_of (other (out-C c).no) a r l ≡ Some (d, n) →
    q ≡ r → Gives p (option_map (λ e. chosen e b d) (core_of (out-C c).test q vt.Bool)) → Takes p q n (choosing c a s m)
choice_done p c xs a s r q m l n b d is of rs and qr g =
    subst (λ (z : Names). Takes p z n (choosing c a s m)) (sym (qr ∙ rs))
    (subst (λ (f : Taking). Takes p s n (f a s m)) (sym (choosing_is c))
    (choice_at p (parts_of c) a s m l n b d (yes_is c xs a s m is ∙ of)
    (ap (λ (z : Names). other_of (other (out-C c).no) a z l) (sym rs) ∙ and)
    (subst (λ (z : Names). Gives p (option_map (λ e. chosen e b d) (core_of (out-C c).test z vt.Bool))) (qr ∙ rs) g)))

-- ---- the part after the first block

chain_form : (c : C) → other (no.Cond c) ≡ Some (block (choosing c ∷ []))
chain_form c = ap other (sym (no.rolls-Cond c)) ∙ fold-roll-No Other Taking Taking other_step statement_step choice_step (No-F.«No::Cond» c)

abbrev some_of : Option (Body × Numbered) → Option (Option Body × Numbered)
some_of o = o >>= (λ d. Some (Some d.0, d.1))

abbrev one_part : Taken → Option (List Part × Numbered)
one_part x = Some (x.part ∷ [], x.numbered)

abbrev alone : Option Taken → Option (Option Body × Numbered)
alone o = some_of ((o >>= one_part) >>= (λ all. onto all.0 None >>= (λ b. Some (or_empty b, all.1))))

block_form : (z : No) (zs xs : List S) (a : Option ValueType) (s : Names) (m : Numbered) → z ≡ no.Block zs → xs ≡ zs →
    other_of (other z) a s m ≡ some_of (body_of xs a s m)
block_form z zs xs a s m is xs_is = ap (λ (y : No). other_of (other y) a s m) is ∙ ap (λ (o : Other). other_of o a s m) (block_is zs)
    ∙ ap (λ (ys : List S). some_of (body_of ys a s m)) (sym xs_is)

pub block_done : (z : No) (zs xs : List S) (a : Option ValueType) (s : Names) (m k : Numbered) (b : Body) → z ≡ no.Block zs → xs ≡ zs →
    body_of xs a s m ≡ Some (b, k) → other_of (other z) a s m ≡ Some (Some b, k)
block_done z zs xs a s m k b is xs_is of = block_form z zs xs a s m is xs_is ∙ ap some_of of

pub block_fails : (f : Fault) (z : No) (zs xs : List S) (a : Option ValueType) (s : Names) (m : Numbered) → z ≡ no.Block zs → xs ≡ zs →
    Fails f (body_of xs a s m) → Fails f (other_of (other z) a s m)
block_fails f z zs xs a s m is xs_is =
    fails_with f (body_of xs a s m) (other_of (other z) a s m) (λ none. block_form z zs xs a s m is xs_is ∙ ap some_of none)

choice_form : (z : No) (c d : C) (a : Option ValueType) (s : Names) (m : Numbered) → z ≡ no.Cond c → d ≡ c →
    other_of (other z) a s m ≡ alone (choosing d a s m)
choice_form z c d a s m is d_is = ap (λ (y : No). other_of (other y) a s m) is ∙ ap (λ (o : Other). other_of o a s m) (chain_form c)
    ∙ ap (λ (e : C). alone (choosing e a s m)) (sym d_is)

pub chain_fails : (f : Fault) (z : No) (c d : C) (a : Option ValueType) (s : Names) (m : Numbered) → z ≡ no.Cond c → d ≡ c →
    Fails f (choosing d a s m) → Fails f (other_of (other z) a s m)
chain_fails f z c d a s m is d_is =
    fails_with f (choosing d a s m) (other_of (other z) a s m) (λ none. choice_form z c d a s m is d_is ∙ ap alone none)

pub chain_done : (r : Result (Option Body) Fault) (z : No) (c d : C) (p : Part) (a : Option ValueType) (s q : Names) (m k : Numbered) →
    z ≡ no.Cond c → d ≡ c → choosing d a s m ≡ Some (record { part = p; names = q; numbered = k }) → Gives r (option_map Some (put p None)) →
    Leaves r k (other_of (other z) a s m)
chain_done r z c d p a s q m k is d_is of g =
    subst (λ (o : Option (Option Body × Numbered)). Leaves r k o) (sym (choice_form z c d a s m is d_is ∙ ap alone of)) (by r (put p None) g)
  where
    by : (r : Result (Option Body) Fault) (o : Option Body) → Gives r (option_map Some o) →
        Leaves r k (some_of ((o >>= (λ b. Some (Some b))) >>= (λ b. Some (or_empty b, k))))
    by (Ok x) None g = absurd (cc)
    by (Ok x) (Some b) g = ap (λ (d : Option Body). Some (d, k)) (same_some (Some b) x g)
    by (Err NoRule) None g = refl
    by (Err NoRule) (Some b) g = absurd (cc)
    by (Err Memory) o g = tt

-- An `else if` whose branches and test are typed.
pub chain_chosen : (r : Result (Option Body) Fault) (z : No) (c d : C) (xs : List S) (a : Option ValueType) (s t q : Names) (m l n : Numbered)
    (b : Body) (o : Option Body) → z ≡ no.Cond c → d ≡ c → xs ≡ (out-C d).yes → body_of xs a s m ≡ Some (b, l) → t ≡ s →
    other_of (other (out-C d).no) a t l ≡ Some (o, n) → q ≡ t →
    Gives r (alone_of (option_map (λ e. chosen e b o) (core_of (out-C d).test q vt.Bool))) → Leaves r n (other_of (other z) a s m)
chain_chosen r z c d xs a s t q m l n b o is d_is yes_is of ts and qt =
    by r (option_map (λ e. chosen e b o) (core_of (out-C d).test q vt.Bool)) refl
  where
    by : (r : Result (Option Body) Fault) (x : Option Part) → option_map (λ e. chosen e b o) (core_of (out-C d).test q vt.Bool) ≡ x →
        Gives r (alone_of x) → Leaves r n (other_of (other z) a s m)
    by (Ok y) None e g = absurd (cc)
    by (Ok y) (Some p) e g =
        chain_done (Ok y) z c d p a s q m n is d_is (choice_done (Ok p) d xs a s t q m l n b o yes_is of ts and qt e) g
    by (Err NoRule) None e g =
        chain_fails NoRule z c d a s m is d_is (choice_done (Err NoRule) d xs a s t q m l n b o yes_is of ts and qt e)
    by (Err NoRule) (Some p) e g =
        chain_done (Err NoRule) z c d p a s q m n is d_is (choice_done (Ok p) d xs a s t q m l n b o yes_is of ts and qt e) g
    by (Err Memory) x e g = tt
