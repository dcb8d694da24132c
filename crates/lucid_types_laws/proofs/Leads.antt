-- The first leaf that is no number tells the width of a free place as well as any.
use Rattle.std.proofs.Common.{◌≡◌, ℕ, List, [], ◌∷◌, Option, None, Some, true, ◌⊎◌, inl, inr, refl, sym, ap, ◌∙◌, lit≤}
use Rattle.std.proofs.lemmas.Bool.{and_from, and_parts, le-leb, leb-true}
use Rattle.lucid_core.specs.declared.body.Expr.{Expr}
use Rattle.lucid_core.specs.declared.body.Touch.{Touch}
use Rattle.lucid_parse_tree.specs.declared.tree.A.{A}
use Rattle.lucid_parse_tree.specs.declared.tree.E.{E}
use Rattle.lucid_parse_tree.specs.declared.tree.E.TheVariants as e
use Rattle.lucid_parse_tree.specs.declared.tree.Pre.TheVariants.{Minus, Tilde}
use Rattle.lucid_types_spec.specs.declared.scope.Entry.TheVariants as entry
use Rattle.lucid_types_spec.specs.declared.scope.ValueType.{ValueType}
use Rattle.lucid_types_spec.specs.declared.scope.ValueType.TheVariants.{Int}
use Rattle.lucid_types_spec.specs.declared.scope.ValueType.TheVariants as vt
use Rattle.lucid_types_spec.specs.Leaves.{FreeWidth, OnlyNumbers}
use Rattle.lucid_types_spec.specs.Leaves as leaf
use Rattle.lucid_types_spec.specs.Names.{Names, seen}
use Rattle.lucid_types_spec.specs.Typed.{Called, Touched, Typed}
use Rattle.lucid_types_spec.specs.Typed as rule
use Rattle.lucid_types_spec.specs.Types.{IsWidth}
use Rattle.lucid_types_laws.specs.Lead.{cell_width, either_lead, or_32, value_width}
use Rattle.lucid_types_laws.specs.Partial.{first_some}
use Rattle.lucid_types_laws.specs.Reading.{is_width, reading, reading_call}
use Rattle.lucid_types_laws.proofs.Forms.{array_is, call_is, call_lead_at, cast_is, get_is, getm_is, hash_is, infix_is, lead_at, me_is, name_is, number_is, paren_is, prefix_is, set_is, setm_is, shift_is, time_is, update_is}

pub width_is : (w : ℕ) → is_width w ≡ true → IsWidth w
width_is w h = let parts = and_parts _ _ h in (leb-true 1 w parts.0, leb-true w 64 parts.1)

pub fits_width : (w : ℕ) → IsWidth w → is_width w ≡ true
fits_width w h = and_from _ _ (le-leb 1 w h.0) (le-leb w 64 h.1)

-- ---- leaves that are numbers

pub numbers : {x : E} → OnlyNumbers x → (s : Names) → (reading x).lead s ≡ None
numbers (leaf.number n) s = lead_at (number_is n) s
numbers (leaf.paren x of) s = lead_at (paren_is x) s ∙ numbers of s
numbers (leaf.minus x of) s = lead_at (prefix_is Minus x) s ∙ numbers of s
numbers (leaf.tilde x of) s = lead_at (prefix_is Tilde x) s ∙ numbers of s
numbers (leaf.shift x left k of) s = lead_at (shift_is x left k) s ∙ numbers of s
numbers (leaf.sum sign op x y is of and) s = lead_at (infix_is sign x y) s ∙ rw (is, numbers of s) (numbers and s)

-- ---- leaves of an expression that has a rule

-- The first leaf that is no number has the width that is asked for, where there is one.
abbrev pub Leads : Names → ℕ → E → Type 0
Leads s w x = ((reading x).lead s ≡ Some w) ⊎ (((reading x).lead s ≡ None) × OnlyNumbers x)

abbrev LeadsAt : Names → ValueType → E → Type 0
LeadsAt s (Int w) x = Leads s w x
LeadsAt s vt.Bool x = Unit {0}

local_leads : (s : Names) (n : List ℕ) (i : ℕ) (t : ValueType) → seen n s ≡ Some (entry.Local i t) → LeadsAt s t (e.Name n)
local_leads s n i (Int w) is = inl (lead_at (name_is n) s ∙ ap value_width is)
local_leads s n i vt.Bool is = tt

-- Where the form has the leaves of its operand.
same_leads : (s : Names) (t : ValueType) (x y : E) → (reading y).lead s ≡ (reading x).lead s → (OnlyNumbers x → OnlyNumbers y) → LeadsAt s t x → LeadsAt s t y
same_leads s (Int w) x y is only (inl of) = inl (is ∙ of)
same_leads s (Int w) x y is only (inr of) = inr (is ∙ of.0, only of.1)
same_leads s vt.Bool x y is only of = tt

sum_leads : (s : Names) (w : ℕ) (x y z : E) → (reading z).lead s ≡ first_some ((reading x).lead s) ((reading y).lead s) →
    (OnlyNumbers x → OnlyNumbers y → OnlyNumbers z) → Leads s w x → Leads s w y → Leads s w z
sum_leads s w x y z is only (inl of) and = inl (is ∙ rw of refl)
sum_leads s w x y z is only (inr of) (inl and) = inl (is ∙ rw of.0 and)
sum_leads s w x y z is only (inr of) (inr and) = inr (is ∙ rw of.0 and.0, only of.1 and.1)

called_leads : (s : Names) (n : List ℕ) (xs : List E) (t : ValueType) (c : Expr) → Called s n xs (Some t) c → LeadsAt s t (e.Call n xs)
called_leads s n xs (Int w) c (rule.fun _ k ps _ _ arrays cs is of) = inl (lead_at (call_is n xs) s ∙ ap value_width is)
called_leads s n xs vt.Bool c of = tt

touched_leads : {s : Names} {x : A} {o : Option ℕ} {c : Touch} → Touched s x o c → (reading_call x).lead s ≡ o
touched_leads {s} (rule.get n array w v i j is of) = call_lead_at (get_is n i) s ∙ ap cell_width is
touched_leads {s} (rule.set n array w v i x j c is of value) = call_lead_at (set_is n i x) s
touched_leads {s} (rule.getm n m array w v memop i x j c is of named fits value) = call_lead_at (getm_is n i m x) s ∙ ap cell_width is
touched_leads {s} (rule.setm n m array w v memop i x j c is of named fits value) = call_lead_at (setm_is n i m x) s
touched_leads {s} (rule.update n m k array w v get set i x y j c d is of first fits value second fits_too other) =
    call_lead_at (update_is n i m x k y) s ∙ ap cell_width is

leads_at : {s : Names} {t : ValueType} {x : E} {c : Expr} → Typed s t x c → LeadsAt s t x
leads_at {s} (rule.number w n fits) = inr (lead_at (number_is n) s, leaf.number n)
leads_at (rule.truth b) = tt
leads_at {s} rule.me = inl (lead_at me_is s)
leads_at {s} rule.time = inl (lead_at time_is s)
leads_at {s} (rule.constant n b is) = inl (lead_at (name_is n) s ∙ ap value_width is)
leads_at {s} (rule.local n i t is) = local_leads s n i t is
leads_at {s} (rule.paren t x c of) = same_leads s t x (e.Paren x) (lead_at (paren_is x) s) (leaf.paren x) (leads_at of)
leads_at {s} (rule.minus w x c of) = same_leads s (Int w) x (e.Prefix Minus x) (lead_at (prefix_is Minus x) s) (leaf.minus x) (leads_at of)
leads_at {s} (rule.tilde w x c of) = same_leads s (Int w) x (e.Prefix Tilde x) (lead_at (prefix_is Tilde x) s) (leaf.tilde x) (leads_at of)
leads_at (rule.not x c of) = tt
leads_at {s} (rule.shift w x left k c of) = same_leads s (Int w) x (e.Shift x left k) (lead_at (shift_is x left k) s) (leaf.shift x left k) (leads_at of)
leads_at {s} (rule.sum w sign op x y c d is of and) =
    sum_leads s w x y (e.Infix sign x y) (lead_at (infix_is sign x y) s ∙ rw is refl) (leaf.sum sign op x y is) (leads_at of) (leads_at and)
leads_at (rule.logical sign op x y c d is of and) = tt
leads_at (rule.compare w sign op x y c d is width of and) = tt
leads_at {s} (rule.cast w v x c fits of) = inl (lead_at (cast_is w x) s)
leads_at {s} (rule.hash w v x xs c cs fits of all) = inl (lead_at (hash_is w (x ∷ xs)) s)
leads_at {s} (rule.call t n xs c of) = called_leads s n xs t c of
leads_at {s} (rule.array w x c of) = inl (lead_at (array_is x) s ∙ touched_leads of)

pub leads : {s : Names} {w : ℕ} {x : E} {c : Expr} → Typed s (Int w) x c → Leads s w x
leads of = leads_at of

-- ---- free places

not_none : (w : ℕ) → ◌≡◌ {A = Option ℕ} (Some w) None → ⊥
not_none w h = cc

thirty_two : IsWidth 32
thirty_two = (lit≤ tt, lit≤ tt)

-- The width that a rule has is the one that is found.
pub free_found : {s : Names} {x : E} {w : ℕ} {c : Expr} → FreeWidth (x ∷ []) w → Typed s (Int w) x c → (or_32 ((reading x).lead s) ≡ w) × IsWidth w
free_found {s} {x} (leaf.of_leaves _ w ok some) of = (elim (leads of) [ inl is ↦ ap or_32 is | inr none ↦ absurd (some (none.1, tt)) ], ok)
free_found {s} {x} (leaf.of_numbers _ only) of = (ap or_32 (numbers only.0 s), thirty_two)

pub shared_found : {s : Names} {x y : E} {w : ℕ} {c d : Expr} → FreeWidth (x ∷ y ∷ []) w → Typed s (Int w) x c → Typed s (Int w) y d →
    (or_32 (either_lead (reading x).lead (reading y).lead s) ≡ w) × IsWidth w
shared_found {s} {x} {y} (leaf.of_leaves _ w ok some) of and = (
  elim (leads of) [
    | inl is ↦ rw is refl
    | inr none ↦ elim (leads and) [ inl is ↦ rw (none.0, is) refl | inr too ↦ absurd (some (none.1, (too.1, tt))) ]
  ],
  ok,
)
shared_found {s} {x} {y} (leaf.of_numbers _ only) of and = (rw (numbers only.0 s, numbers only.1.0 s) refl, thirty_two)

-- The width that is found is one that a rule has.
pub free_width : (s : Names) (x : E) (c : Expr) (o : Option ℕ) → (reading x).lead s ≡ o → IsWidth (or_32 o) → Typed s (Int (or_32 o)) x c → FreeWidth (x ∷ []) (or_32 o)
free_width s x c (Some w) is ok of = leaf.of_leaves (x ∷ []) w ok (λ only. not_none w (sym is ∙ numbers only.0 s))
free_width s x c None is ok of = elim (leads of) [
  | inl some ↦ absurd (not_none 32 (sym some ∙ is))
  | inr only ↦ leaf.of_numbers (x ∷ []) (only.1, tt)
]

pub shared_width : (s : Names) (x y : E) (c d : Expr) (o p : Option ℕ) → (reading x).lead s ≡ o → (reading y).lead s ≡ p → IsWidth (or_32 (first_some o p)) →
    Typed s (Int (or_32 (first_some o p))) x c → Typed s (Int (or_32 (first_some o p))) y d → FreeWidth (x ∷ y ∷ []) (or_32 (first_some o p))
shared_width s x y c d (Some w) p is and ok of other = leaf.of_leaves (x ∷ y ∷ []) w ok (λ only. not_none w (sym is ∙ numbers only.0 s))
shared_width s x y c d None (Some w) is and ok of other = leaf.of_leaves (x ∷ y ∷ []) w ok (λ only. not_none w (sym and ∙ numbers only.1.0 s))
shared_width s x y c d None None is and ok of other = elim (leads of) [
  | inl some ↦ absurd (not_none 32 (sym some ∙ is))
  | inr only ↦ elim (leads other) [ inl some ↦ absurd (not_none 32 (sym some ∙ and)) | inr too ↦ leaf.of_numbers (x ∷ y ∷ []) (only.1, (too.1, tt)) ]
]
