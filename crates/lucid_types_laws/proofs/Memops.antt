-- The bodies of memops: the function gives exactly what the rules derive.
use Rattle.std.proofs.Common.{◌≡◌, ℕ, List, [], ◌∷◌, Option, None, Some, refl, sym, ap, subst, ◌∙◌}
use Rattle.lucid_base.specs.declared.ops.CmpOp.{CmpOp}
use Rattle.lucid_core.specs.declared.body.Expr.{Expr}
use Rattle.lucid_core.specs.declared.body.Stmt.{Stmt}
use Rattle.lucid_core.specs.declared.body.Stmt.TheVariants as core
use Rattle.lucid_memop.proofs.Parts.{bound, same_some}
use Rattle.lucid_parse_tree.specs.declared.tree.C.{C, out-C, out-roll-C, roll-C, roll-out-C}
use Rattle.lucid_parse_tree.specs.declared.tree.E.{E}
use Rattle.lucid_parse_tree.specs.declared.tree.E.TheVariants as e
use Rattle.lucid_parse_tree.specs.declared.tree.Infix.{Infix}
use Rattle.lucid_parse_tree.specs.declared.tree.No.{No, out-No, roll-No, roll-out-No}
use Rattle.lucid_parse_tree.specs.declared.tree.No.TheOpen.{No-F, S-F, C-F}
use Rattle.lucid_parse_tree.specs.declared.tree.No.TheVariants as no
use Rattle.lucid_parse_tree.specs.declared.tree.S.{S, out-S, roll-S, roll-out-S}
use Rattle.lucid_parse_tree.specs.declared.tree.S.TheVariants as form
use Rattle.lucid_parse_tree.proofs.Induction.{induction}
use Rattle.lucid_types_spec.specs.declared.scope.ValueType.TheVariants.{Int}
use Rattle.lucid_types_spec.specs.Block.{if_of}
use Rattle.lucid_types_spec.specs.Memop.{Compared, MemopBody, Returned}
use Rattle.lucid_types_spec.specs.Memop as rule
use Rattle.lucid_types_spec.specs.Names.{Names}
use Rattle.lucid_types_spec.specs.Operators.{comparison}
use Rattle.lucid_types_laws.specs.Memop.{choice_form, memop_body, memop_form, one_return, return_form, second_form}
use Rattle.lucid_types_laws.specs.Reading.{Elaboration, condition_core, core_of, reading}
use Rattle.lucid_types_laws.proofs.Complete as complete
use Rattle.lucid_types_laws.proofs.Forms.{array_is, call_is, cast_is, condition_at, hash_is, infix_is, me_is, name_is, number_is, paren_is, prefix_is, shift_is, time_is, truth_is}
use Rattle.lucid_types_laws.proofs.Sound as sound

-- ---- from the rules to the function

condition : {s : Names} {w : ℕ} {x : E} {c : Expr} → Compared s w x c → (reading x).condition s w ≡ Some c
condition {s} {w} (rule.paren x c of) = condition_at (paren_is x) s w ∙ condition of
condition {s} {w} (rule.compare sign op x y c d is of and) =
    condition_at (infix_is sign x y) s w ∙ rw (is, complete.typed of, complete.typed and) refl

returns : {s : Names} {w : ℕ} {ys : List S} {cs : List Stmt} → Returned s w ys cs → one_return w s ys ≡ Some cs
returns {s} {w} (rule.returned x c of) = ap (return_form w s) (form.outs-Return (Some x)) ∙ rw (complete.typed of) refl

-- An if, by its parts.
if_is : (w : ℕ) (s : Names) (x : E) (ys : List S) (z : No) (zs : List S) → memop_body w s (if_of x ys z ∷ zs) ≡ choice_form w s (record { test = x; yes = ys; no = z }) zs
if_is w s x ys z zs =
    ap (λ (f : S-F No S C). memop_form w s (if_of x ys z) f zs) (form.outs-Cond (roll-C (record { test = x; yes = ys; no = z })))
    ∙ ap (λ (k : C-F No S C). choice_form w s k zs) (out-roll-C (record { test = x; yes = ys; no = z }))

plain_is : {s : Names} {w : ℕ} {ys : List S} {cs : List Stmt} → Returned s w ys cs → memop_body w s ys ≡ Some cs
plain_is {s} {w} (rule.returned x c of) =
    ap (λ (f : S-F No S C). memop_form w s (form.Return (Some x)) f []) (form.outs-Return (Some x)) ∙ returns (rule.returned x c of)

pub memop : {s : Names} {w : ℕ} {ys : List S} {cs : List Stmt} → MemopBody s w ys cs → memop_body w s ys ≡ Some cs
memop (rule.plain ys cs of) = plain_is of
memop {s} {w} (rule.choice x ys zs c cs ds of first second) =
    if_is w s x ys (no.Block zs) [] ∙ rw (condition of, returns first, no.outs-Block zs, returns second) refl
memop {s} {w} (rule.guard x ys zs c cs ds of first second) =
    if_is w s x ys no.Absent zs ∙ rw (condition of, returns first, no.outs-Absent, returns second) refl

-- ---- from the function to the rules

abbrev P : E → Type 0
P x = (s : Names) (w : ℕ) (c : Expr) → (reading x).condition s w ≡ Some c → Compared s w x c

none : (x : E) (r : Elaboration) → reading x ≡ r → ((s : Names) (w : ℕ) → r.condition s w ≡ None) → P x
none x r is no_condition s w c h = let none : None ≡ Some c = sym (no_condition s w) ∙ sym (condition_at is s w) ∙ h in absurd (cc)

compare_by : (sign : Infix) (x y : E) (s : Names) (w : ℕ) (c : Expr) (o : Option CmpOp) → comparison sign ≡ o → condition_core o (reading x) (reading y) s w ≡ Some c →
    Compared s w (e.Infix sign x y) c
compare_by sign x y s w c (Some op) is h =
    let f = bound (core_of x s (Int w)) _ c h in
    let g = bound (core_of y s (Int w)) _ c f.2 in
    subst (Compared s w (e.Infix sign x y)) (same_some _ c g.2)
    (rule.compare sign op x y f.0 g.0 is (sound.typed x s (Int w) f.0 f.1) (sound.typed y s (Int w) g.0 g.1))
compare_by sign x y s w c None is h = absurd (cc)

is_condition : (x : E) → P x
is_condition = induction P (λ x. Unit {0}) (record {
  number = λ n. none (e.Number n) _ (number_is n) (λ s w. refl);
  truth = λ b. none (e.Truth b) _ (truth_is b) (λ s w. refl);
  me = none e.Me _ me_is (λ s w. refl);
  time = none e.Time _ time_is (λ s w. refl);
  hash = λ w xs all. none (e.Hash w xs) _ (hash_is w xs) (λ s v. refl);
  name = λ n. none (e.Name n) _ (name_is n) (λ s w. refl);
  call = λ n xs all. none (e.Call n xs) _ (call_is n xs) (λ s w. refl);
  array = λ x h. none (e.Array x) _ (array_is x) (λ s w. refl);
  paren = λ x of s w c h. rule.paren x c (of s w c (sym (condition_at (paren_is x) s w) ∙ h));
  prefix = λ sign x h. none (e.Prefix sign x) _ (prefix_is sign x) (λ s w. refl);
  cast = λ w x h. none (e.Cast w x) _ (cast_is w x) (λ s v. refl);
  shift = λ x left k h. none (e.Shift x left k) _ (shift_is x left k) (λ s w. refl);
  infix_of = λ sign x y h g s w c is. compare_by sign x y s w c (comparison sign) refl (sym (condition_at (infix_is sign x y) s w) ∙ is);
  get = λ n i h. tt;
  set = λ n i x h g. tt;
  getm = λ n i m x h g. tt;
  setm = λ n i m x h g. tt;
  update = λ n i m x k y h g f. tt;
})

return_at : (w : ℕ) (s : Names) (y : S) (f : S-F No S C) (cs : List Stmt) → roll-S f ≡ y → return_form w s f ≡ Some cs → Returned s w (y ∷ []) cs
return_at w s y (S-F.Return (Some x)) cs is h =
    let c = bound (core_of x s (Int w)) _ cs h in
    subst (λ (z : S). Returned s w (z ∷ []) cs) (sym (form.rolls-Return (Some x)) ∙ is)
    (subst (Returned s w (form.Return (Some x) ∷ [])) (same_some _ cs c.2) (rule.returned x c.0 (sound.typed x s (Int w) c.0 c.1)))
return_at w s y _ cs is h = absurd (cc)

is_return : (w : ℕ) (s : Names) (ys : List S) (cs : List Stmt) → one_return w s ys ≡ Some cs → Returned s w ys cs
is_return w s (y ∷ []) cs h = return_at w s y (out-S y) cs (roll-out-S y) h
is_return w s _ cs h = absurd (cc)

second_at : (w : ℕ) (s : Names) (x : E) (ys zs : List S) (z : No) (f : No-F No S C) (c : Expr) (cs ds : List Stmt) → roll-No f ≡ z →
    Compared s w x c → Returned s w ys cs → second_form w s f zs ≡ Some ds → MemopBody s w (if_of x ys z ∷ zs) (core.If c cs ds ∷ [])
second_at w s x ys zs z No-F.Absent c cs ds is of first h =
    subst (λ (o : No). MemopBody s w (if_of x ys o ∷ zs) (core.If c cs ds ∷ [])) (sym no.rolls-Absent ∙ is)
    (rule.guard x ys zs c cs ds of first (is_return w s zs ds h))
second_at w s x ys [] z (No-F.Block us) c cs ds is of first h =
    subst (λ (o : No). MemopBody s w (if_of x ys o ∷ []) (core.If c cs ds ∷ [])) (sym (no.rolls-Block us) ∙ is)
    (rule.choice x ys us c cs ds of first (is_return w s us ds h))
second_at w s x ys _ z _ c cs ds is of first h = absurd (cc)

choice_at : (w : ℕ) (s : Names) (k : C-F No S C) (zs : List S) (cs : List Stmt) → choice_form w s k zs ≡ Some cs →
    MemopBody s w (form.Cond (roll-C k) ∷ zs) cs
choice_at w s k zs cs h =
    let c = bound ((reading k.test).condition s w) _ cs h in
    let first = bound (one_return w s k.yes) _ cs c.2 in
    let second = bound (second_form w s (out-No k.no) zs) _ cs first.2 in
    subst (MemopBody s w (form.Cond (roll-C k) ∷ zs)) (same_some _ cs second.2)
    (second_at w s k.test k.yes zs k.no (out-No k.no) c.0 first.0 second.0 (roll-out-No k.no) (is_condition k.test s w c.0 c.1)
    (is_return w s k.yes first.0 first.1) second.1)

memop_at : (w : ℕ) (s : Names) (y : S) (f : S-F No S C) (zs : List S) (cs : List Stmt) → roll-S f ≡ y → memop_form w s y f zs ≡ Some cs → MemopBody s w (y ∷ zs) cs
memop_at w s y (S-F.«S::Cond» k) zs cs is h =
    subst (λ (z : S). MemopBody s w (z ∷ zs) cs) (sym (form.rolls-Cond k) ∙ is)
    (subst (λ (c : C). MemopBody s w (form.Cond c ∷ zs) cs) (roll-out-C k) (choice_at w s (out-C k) zs cs h))
memop_at w s y _ zs cs is h = rule.plain (y ∷ zs) cs (is_return w s (y ∷ zs) cs h)

pub is_memop : (w : ℕ) (s : Names) (ys : List S) (cs : List Stmt) → memop_body w s ys ≡ Some cs → MemopBody s w ys cs
is_memop w s [] cs h = absurd (cc)
is_memop w s (y ∷ zs) cs h = memop_at w s y (out-S y) zs cs (roll-out-S y) h
