-- What the rules ask of a statement and of an event of a known form, and of the first statement of a block: the other way round.
use Rattle.std.proofs.Common.{◌≡◌, ◌≢◌, ◌⊎◌, inl, inr, ℕ, List, [], ◌∷◌, Option, None, Some, true, length, map, refl, sym, ap, subst, ◌∙◌}
use Rattle.lucid_core.specs.declared.body.Expr.{Expr}
use Rattle.lucid_core.specs.declared.body.Touch.{Touch}
use Rattle.lucid_base.specs.Numbers.{all_differ}
use Rattle.lucid_core.specs.Texts.{holes_of}
use Rattle.lucid_core.specs.declared.ending.Ending.TheVariants.{Never, Always}
use Rattle.lucid_parse_tree.specs.declared.tree.C.{C, roll-C}
use Rattle.lucid_parse_tree.specs.declared.tree.E.{E}
use Rattle.lucid_parse_tree.specs.declared.tree.E.TheVariants as e
use Rattle.lucid_parse_tree.specs.declared.tree.No.{No}
use Rattle.lucid_parse_tree.specs.declared.tree.No.TheOpen.{S-F}
use Rattle.lucid_parse_tree.specs.declared.tree.No.TheVariants as no
use Rattle.lucid_parse_tree.specs.declared.tree.No.TheViews.{out-S, out-roll-S}
use Rattle.lucid_parse_tree.specs.declared.tree.S.{S, roll-S}
use Rattle.lucid_parse_tree.specs.declared.tree.S.TheVariants as statement
use Rattle.lucid_parse_tree.specs.declared.tree.V.{V, out-V, out-roll-V, roll-V}
use Rattle.lucid_parse_tree.specs.declared.tree.V.TheOpen.{V-F}
use Rattle.lucid_parse_tree.specs.declared.tree.V.TheVariants as v
use Rattle.lucid_types_spec.specs.declared.body.Body.{Body}
use Rattle.lucid_types_spec.specs.declared.body.Destination.TheVariants.{Here, Switch, Group}
use Rattle.lucid_types_spec.specs.declared.body.Sending.{Sending}
use Rattle.lucid_types_spec.specs.declared.scope.Entry.TheVariants as entry
use Rattle.lucid_types_spec.specs.declared.scope.ValueType.{ValueType}
use Rattle.lucid_types_spec.specs.declared.scope.ValueType.TheVariants as vt
use Rattle.lucid_types_spec.specs.Block.{Block, Branches, Cases, Numbered, Statement, if_of, one_local}
use Rattle.lucid_types_spec.specs.Block as rule
use Rattle.lucid_types_spec.specs.Names.{Names, seen}
use Rattle.lucid_types_spec.specs.Sends.{Sends}
use Rattle.lucid_types_spec.specs.Sends as sends
use Rattle.lucid_types_spec.specs.Typed.{Typed, Free, AllFree, Touched, Called, Given}
use Rattle.lucid_types_spec.specs.Types.{Means, ints}

-- ---- events

abbrev pub OpenLocate : Names → V → E → Type 0
OpenLocate s x y =
    (g : Sending) × Sends s x g × (g.to ≡ Here)
    × (((w : ℕ) × (c : Expr) × Free s y w c) ⊎ ((n : List ℕ) × (members : List ℕ) × (e.Name n ≡ y) × (seen n s ≡ Some (entry.Group members))))

-- Of a delay or a locate also that one is there then.
abbrev pub OpenedEvent : Names → V-F V → Sending → Type 0
OpenedEvent s (V-F.Paren x) g = Sends s x g
OpenedEvent s (V-F.Call n xs) g = (i : ℕ) × (ws : List ℕ) × (cs : List Expr) × (seen n s ≡ Some (entry.Event i ws)) × Given s (ints ws) xs [] cs
OpenedEvent s (V-F.Delay x y) g = ((h : Sending) × Sends s x h × (h.delay ≡ None)) × (g.delay ≢ None)
OpenedEvent s (V-F.Locate x y) g = OpenLocate s x y × (g.to ≢ Here)

some_not_none : {A : Type 0} (x : A) → Some x ≢ None
some_not_none x is = cc

switch_not_here : (c : Expr) → Switch c ≢ Here
switch_not_here c is = cc

group_not_here : (members : List ℕ) → Group members ≢ Here
group_not_here members is = cc

event_back : (s : Names) (x : V) (g : Sending) (y : V-F V) → out-V x ≡ y → OpenedEvent s y g → OpenedEvent s (out-V x) g
event_back s x g y is h = subst (λ (z : V-F V). OpenedEvent s z g) (sym is) h

opened_event : {s : Names} {x : V} {g : Sending} → Sends s x g → OpenedEvent s (out-V x) g
opened_event (sends.call n i ws xs cs is given) = event_back _ _ _ _ (ap out-V (sym (v.rolls-Call n xs)) ∙ out-roll-V _) (i, ws, cs, is, given)
opened_event (sends.paren x g of) = event_back _ _ _ _ (ap out-V (sym (v.rolls-Paren x)) ∙ out-roll-V _) of
opened_event (sends.delay x g y w c of none free) =
    event_back _ _ _ _ (ap out-V (sym (v.rolls-Delay x y)) ∙ out-roll-V _) ((g, of, none), some_not_none c)
opened_event (sends.locate x g y w c of here free) =
    event_back _ _ _ _ (ap out-V (sym (v.rolls-Locate x y)) ∙ out-roll-V _) ((g, of, here, inl (w, c, free)), switch_not_here c)
opened_event (sends.group x g n members of here is) =
    event_back _ _ _ _ (ap out-V (sym (v.rolls-Locate x (e.Name n))) ∙ out-roll-V _) ((g, of, here, inr (n, members, refl, is)), group_not_here members)

pub at_event : {s : Names} {x : V} {g : Sending} (y : V-F V) → roll-V y ≡ x → Sends s x g → OpenedEvent s y g
at_event {s} {g = g} y is of = subst (λ (z : V-F V). OpenedEvent s z g) (ap out-V (sym is) ∙ out-roll-V y) (opened_event of)

-- ---- statements

abbrev pub OpenReturn : Option ValueType → Names → Option E → Type 0
OpenReturn a s None = a ≡ None
OpenReturn a s (Some x) = (t : ValueType) × (a ≡ Some t) × ((c : Expr) × Typed s t x c)

abbrev pub OpenedStatement : Option ValueType → Names → Numbered → S-F No S C → Body → Type 0
OpenedStatement a s m (S-F.Declare t n x) b = ⊥
OpenedStatement a s m (S-F.Assign n x) b = (i : ℕ) × (t : ValueType) × (seen n s ≡ Some (entry.Local i t)) × ((c : Expr) × Typed s t x c)
OpenedStatement a s m (S-F.Call n xs) b = (t : Option ValueType) × (c : Expr) × Called s n xs t c
OpenedStatement a s m (S-F.Array x) b = (w : Option ℕ) × (c : Touch) × Touched s x w c
OpenedStatement a s m (S-F.«S::Cond» z) b =
    (x : E) × (ys : List S) × (other : No) × (roll-C (record { test = x; yes = ys; no = other }) ≡ z) × ((c : Expr) × Typed s vt.Bool x c)
    × ((d : Body) × (f : Body) × (k : Numbered) × Branches a s m ys other d f k)
OpenedStatement a s m (S-F.Return x) b = OpenReturn a s x × (b.ending ≡ Always)
OpenedStatement a s m (S-F.Generate x) b = (g : Sending) × Sends s x g
OpenedStatement a s m (S-F.Printf text xs) b = (cs : List Expr) × AllFree s xs cs × (length cs ≡ holes_of text)
OpenedStatement a s m (S-F.Match x cases last) b =
    (w : ℕ) × (c : Expr) × Free s x w c × (all_differ (map (λ z. z.0) cases) ≡ true)
    × ((i : ℕ) × (d : Body) × (k : Numbered) × Cases a s (one_local w m) i w cases last d k) × (cases ≢ [])

back : (a : Option ValueType) (s : Names) (m : Numbered) (x : S) (b : Body) (y : S-F No S C) → out-S x ≡ y → OpenedStatement a s m y b → OpenedStatement a s m (out-S x) b
back a s m x b y is h = subst (λ (z : S-F No S C). OpenedStatement a s m z b) (sym is) h

some_case : (y : ℕ × List S) (ys : List (ℕ × List S)) → y ∷ ys ≢ []
some_case y ys is = cc

opened_statement : {a : Option ValueType} {s : Names} {m : Numbered} {x : S} {b : Body} {k : Numbered} → Statement a s m x b k → OpenedStatement a s m (out-S x) b
opened_statement (rule.assign s m n i t x c is of) =
    back _ _ _ _ _ _ (ap out-S (sym (statement.rolls-Assign n x)) ∙ out-roll-S _) (i, t, is, (c, of))
opened_statement (rule.call s m n xs t c of) = back _ _ _ _ _ _ (ap out-S (sym (statement.rolls-Call n xs)) ∙ out-roll-S _) (t, c, of)
opened_statement (rule.array s m x w c of) = back _ _ _ _ _ _ (ap out-S (sym (statement.rolls-Array x)) ∙ out-roll-S _) (w, c, of)
opened_statement (rule.generate s m x g of) = back _ _ _ _ _ _ (ap out-S (sym (statement.rolls-Generate x)) ∙ out-roll-S _) (g, of)
opened_statement (rule.printf s m text xs cs all filled) =
    back _ _ _ _ _ _ (ap out-S (sym (statement.rolls-Printf text xs)) ∙ out-roll-S _) (cs, all, filled)
opened_statement (rule.return_nothing s m is) = back _ _ _ _ _ _ (ap out-S (sym (statement.rolls-Return None)) ∙ out-roll-S _) (is, refl)
opened_statement (rule.return_value s m t x c is of) =
    back _ _ _ _ _ _ (ap out-S (sym (statement.rolls-Return (Some x))) ∙ out-roll-S _) ((t, is, (c, of)), refl)
opened_statement (rule.choose s m x ys other c b d k of both) =
    back _ _ _ _ _ _ (ap out-S (sym (statement.rolls-Cond _)) ∙ out-roll-S _) (x, ys, other, refl, (c, of), (b, d, k, both))
opened_statement (rule.matched s m x w c y ys last b k of far all) =
    back _ _ _ _ _ _ (ap out-S (sym (statement.rolls-Match x (y ∷ ys) last)) ∙ out-roll-S _) (w, c, of, far, (length m.locals, b, k, all), λ is. some_case y ys is)

-- ---- blocks

-- The first statement is a declaration; or it has a rule, and is the last or returns nowhere; or it guards what follows.
abbrev pub OpenedFirst : Option ValueType → Names → Numbered → S-F No S C → List S → Type 0
OpenedFirst a s m (S-F.Declare t n x) xs = (v : ValueType) × Means t v × ((c : Expr) × Typed s v x c)
OpenedFirst a s m (S-F.«S::Cond» z) xs =
    (x : E) × (ys : List S) × (other : No) × (roll-C (record { test = x; yes = ys; no = other }) ≡ z) × ((c : Expr) × Typed s vt.Bool x c)
OpenedFirst a s m y xs = (b : Body) × OpenedStatement a s m y b × ((b.ending ≡ Never) ⊎ (xs ≡ []))

first_of : (a : Option ValueType) (s : Names) (m : Numbered) (y : S-F No S C) (b : Body) (xs : List S) → OpenedStatement a s m y b → (b.ending ≡ Never) ⊎ (xs ≡ []) →
    OpenedFirst a s m y xs
first_of a s m (S-F.Declare t n x) b xs h last = absurd h
first_of a s m (S-F.Assign n x) b xs h last = (b, h, last)
first_of a s m (S-F.Call n ys) b xs h last = (b, h, last)
first_of a s m (S-F.Array x) b xs h last = (b, h, last)
first_of a s m (S-F.«S::Cond» z) b xs h last = (h.0, h.1, h.2, h.3, h.4)
first_of a s m (S-F.Return x) b xs h last = (b, h, last)
first_of a s m (S-F.Generate x) b xs h last = (b, h, last)
first_of a s m (S-F.Printf text ys) b xs h last = (b, h, last)
first_of a s m (S-F.Match x cases arm) b xs h last = (b, h, last)

opened_block : {a : Option ValueType} {s : Names} {m : Numbered} {x : S} {xs : List S} {b : Body} {k : Numbered} → Block a s m (x ∷ xs) b k → OpenedFirst a s m (out-S x) xs
opened_block {a} {xs = xs} (rule.declare s m t v n x c ys b k ok of rest) =
    subst (λ (y : S-F No S C). OpenedFirst a s m y xs) (sym (ap out-S (sym (statement.rolls-Declare t n x)) ∙ out-roll-S _)) (v, ok, (c, of))
opened_block (rule.goes_on s m x d l xs b k of is rest) = first_of _ s m (out-S x) d xs (opened_statement of) (inl is)
opened_block (rule.stops s m x d k of is) = first_of _ s m (out-S x) d [] (opened_statement of) (inr refl)
opened_block {a} {xs = xs} (rule.guards s m x c ys d l zs b k of first is rest) =
    subst (λ (y : S-F No S C). OpenedFirst a s m y xs) (sym (ap out-S (sym (statement.rolls-Cond _)) ∙ out-roll-S _)) (x, ys, no.Absent, refl, (c, of))

pub at_first : {a : Option ValueType} {s : Names} {m : Numbered} {x : S} {xs : List S} {b : Body} {k : Numbered} (y : S-F No S C) → roll-S y ≡ x → Block a s m (x ∷ xs) b k →
    OpenedFirst a s m y xs
at_first {a} {s} {m} {xs = xs} y is of = subst (λ (z : S-F No S C). OpenedFirst a s m z xs) (ap out-S (sym is) ∙ out-roll-S y) (opened_block of)
