-- What each form of an expression is read as.
use Rattle.std.proofs.Common.{◌≡◌, ℕ, List, Option, Bool, map, sym, ap, ◌∙◌}
use Rattle.lucid_parse_tree.specs.declared.tree.A.{A, fold-roll-A}
use Rattle.lucid_parse_tree.specs.declared.tree.A.TheOpen.{A-F, E-F}
use Rattle.lucid_parse_tree.specs.declared.tree.A.TheVariants as a
use Rattle.lucid_parse_tree.specs.declared.tree.E.{E, fold-roll-E}
use Rattle.lucid_parse_tree.specs.declared.tree.E.TheVariants as e
use Rattle.lucid_parse_tree.specs.declared.tree.Infix.{Infix}
use Rattle.lucid_parse_tree.specs.declared.tree.Pre.{Pre}
use Rattle.lucid_types_spec.specs.declared.scope.ValueType.{ValueType}
use Rattle.lucid_types_spec.specs.Names.{Names}
use Rattle.lucid_types_laws.specs.Reading.{Elaboration, CallElaboration, call_step, reading, reading_call, step}

pub number_is : (n : ℕ) → reading (e.Number n) ≡ step (E-F.Number n)
number_is n = ap reading (sym (e.rolls-Number n)) ∙ fold-roll-E CallElaboration Elaboration call_step step (E-F.Number n)

pub truth_is : (b : Bool) → reading (e.Truth b) ≡ step (E-F.Truth b)
truth_is b = ap reading (sym (e.rolls-Truth b)) ∙ fold-roll-E CallElaboration Elaboration call_step step (E-F.Truth b)

pub me_is : reading e.Me ≡ step E-F.Me
me_is = ap reading (sym e.rolls-Me) ∙ fold-roll-E CallElaboration Elaboration call_step step E-F.Me

pub time_is : reading e.Time ≡ step E-F.Time
time_is = ap reading (sym e.rolls-Time) ∙ fold-roll-E CallElaboration Elaboration call_step step E-F.Time

pub hash_is : (w : ℕ) (xs : List E) → reading (e.Hash w xs) ≡ step (E-F.Hash w (map reading xs))
hash_is w xs = ap reading (sym (e.rolls-Hash w xs)) ∙ fold-roll-E CallElaboration Elaboration call_step step (E-F.Hash w xs)

pub name_is : (n : List ℕ) → reading (e.Name n) ≡ step (E-F.Name n)
name_is n = ap reading (sym (e.rolls-Name n)) ∙ fold-roll-E CallElaboration Elaboration call_step step (E-F.Name n)

pub call_is : (n : List ℕ) (xs : List E) → reading (e.Call n xs) ≡ step (E-F.Call n (map reading xs))
call_is n xs = ap reading (sym (e.rolls-Call n xs)) ∙ fold-roll-E CallElaboration Elaboration call_step step (E-F.Call n xs)

pub array_is : (x : A) → reading (e.Array x) ≡ step (E-F.Array (reading_call x))
array_is x = ap reading (sym (e.rolls-Array x)) ∙ fold-roll-E CallElaboration Elaboration call_step step (E-F.Array x)

pub paren_is : (x : E) → reading (e.Paren x) ≡ step (E-F.Paren (reading x))
paren_is x = ap reading (sym (e.rolls-Paren x)) ∙ fold-roll-E CallElaboration Elaboration call_step step (E-F.Paren x)

pub prefix_is : (sign : Pre) (x : E) → reading (e.Prefix sign x) ≡ step (E-F.Prefix sign (reading x))
prefix_is sign x = ap reading (sym (e.rolls-Prefix sign x)) ∙ fold-roll-E CallElaboration Elaboration call_step step (E-F.Prefix sign x)

pub cast_is : (w : Option ℕ) (x : E) → reading (e.Cast w x) ≡ step (E-F.Cast w (reading x))
cast_is w x = ap reading (sym (e.rolls-Cast w x)) ∙ fold-roll-E CallElaboration Elaboration call_step step (E-F.Cast w x)

pub shift_is : (x : E) (left : Bool) (k : ℕ) → reading (e.Shift x left k) ≡ step (E-F.Shift (reading x) left k)
shift_is x left k = ap reading (sym (e.rolls-Shift x left k)) ∙ fold-roll-E CallElaboration Elaboration call_step step (E-F.Shift x left k)

pub infix_is : (sign : Infix) (x y : E) → reading (e.Infix sign x y) ≡ step (E-F.Infix sign (reading x) (reading y))
infix_is sign x y = ap reading (sym (e.rolls-Infix sign x y)) ∙ fold-roll-E CallElaboration Elaboration call_step step (E-F.Infix sign x y)

pub get_is : (n : List ℕ) (i : E) → reading_call (a.Get n i) ≡ call_step (A-F.Get n (reading i))
get_is n i = ap reading_call (sym (a.rolls-Get n i)) ∙ fold-roll-A CallElaboration Elaboration call_step step (A-F.Get n i)

pub set_is : (n : List ℕ) (i x : E) → reading_call (a.Set n i x) ≡ call_step (A-F.Set n (reading i) (reading x))
set_is n i x = ap reading_call (sym (a.rolls-Set n i x)) ∙ fold-roll-A CallElaboration Elaboration call_step step (A-F.Set n i x)

pub getm_is : (n : List ℕ) (i : E) (m : List ℕ) (x : E) → reading_call (a.Getm n i m x) ≡ call_step (A-F.Getm n (reading i) m (reading x))
getm_is n i m x = ap reading_call (sym (a.rolls-Getm n i m x)) ∙ fold-roll-A CallElaboration Elaboration call_step step (A-F.Getm n i m x)

pub setm_is : (n : List ℕ) (i : E) (m : List ℕ) (x : E) → reading_call (a.Setm n i m x) ≡ call_step (A-F.Setm n (reading i) m (reading x))
setm_is n i m x = ap reading_call (sym (a.rolls-Setm n i m x)) ∙ fold-roll-A CallElaboration Elaboration call_step step (A-F.Setm n i m x)

pub update_is : (n : List ℕ) (i : E) (m : List ℕ) (x : E) (k : List ℕ) (y : E) → reading_call (a.Update n i m x k y) ≡ call_step (A-F.Update n (reading i) m (reading x) k (reading y))
update_is n i m x k y = ap reading_call (sym (a.rolls-Update n i m x k y)) ∙ fold-roll-A CallElaboration Elaboration call_step step (A-F.Update n i m x k y)

-- The parts of what is read.

pub lead_at : {q r : Elaboration} → q ≡ r → (s : Names) → q.lead s ≡ r.lead s
lead_at is s = ap (λ (r : Elaboration). r.lead s) is

pub bare_at : {q r : Elaboration} → q ≡ r → q.bare ≡ r.bare
bare_at is = ap (λ (r : Elaboration). r.bare) is

pub core_at : {q r : Elaboration} → q ≡ r → (s : Names) (t : ValueType) → q.core s t ≡ r.core s t
core_at is s t = ap (λ (r : Elaboration). r.core s t) is

pub condition_at : {q r : Elaboration} → q ≡ r → (s : Names) (w : ℕ) → q.condition s w ≡ r.condition s w
condition_at is s w = ap (λ (r : Elaboration). r.condition s w) is

pub call_lead_at : {q r : CallElaboration} → q ≡ r → (s : Names) → q.lead s ≡ r.lead s
call_lead_at is s = ap (λ (r : CallElaboration). r.lead s) is

pub touch_at : {q r : CallElaboration} → q ≡ r → (s : Names) → q.touch s ≡ r.touch s
touch_at is s = ap (λ (r : CallElaboration). r.touch s) is
