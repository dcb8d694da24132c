-- What a `generate` sends: the function gives exactly what the rules derive.
use Rattle.std.proofs.Common.{◌≡◌, ℕ, List, [], ◌∷◌, Option, None, Some, true, map, refl, sym, ap, subst, ◌∙◌}
use Rattle.lucid_base.specs.declared.array.ArrayName.{ArrayName}
use Rattle.lucid_core.specs.declared.body.Expr.{Expr}
use Rattle.lucid_memop.proofs.Parts.{bound, same_some}
use Rattle.lucid_parse_tree.specs.declared.tree.E.{E}
use Rattle.lucid_parse_tree.specs.declared.tree.E.TheVariants as e
use Rattle.lucid_parse_tree.specs.declared.tree.V.{V}
use Rattle.lucid_parse_tree.specs.declared.tree.V.TheVariants as v
use Rattle.lucid_parse_tree.proofs.StatementInduction.{event_induction}
use Rattle.lucid_types_spec.specs.declared.body.Destination.{Destination}
use Rattle.lucid_types_spec.specs.declared.body.Destination.TheVariants.{Here}
use Rattle.lucid_types_spec.specs.declared.body.Sending.{Sending}
use Rattle.lucid_types_spec.specs.declared.scope.Entry.{Entry}
use Rattle.lucid_types_spec.specs.declared.scope.Entry.TheVariants as entry
use Rattle.lucid_types_spec.specs.declared.scope.ValueType.TheVariants.{Int}
use Rattle.lucid_types_spec.specs.Names.{Names, seen}
use Rattle.lucid_types_spec.specs.Sends.{Sends}
use Rattle.lucid_types_spec.specs.Sends as rule
use Rattle.lucid_types_spec.specs.Typed.{Given}
use Rattle.lucid_types_spec.specs.Typed as typed
use Rattle.lucid_types_spec.specs.Types.{ints}
use Rattle.lucid_types_laws.specs.Reading as read
use Rattle.lucid_types_laws.specs.Reading.{core_of, given_all, reading}
use Rattle.lucid_types_laws.specs.Sending as take
use Rattle.lucid_types_laws.specs.Sending.{event_at, group_at, is_here, is_none, named_group, sending_of}
use Rattle.lucid_types_laws.proofs.Complete as complete
use Rattle.lucid_types_laws.proofs.Forms.{bare_at, core_at, name_is}
use Rattle.lucid_types_laws.proofs.Parts.{when_parts, was}
use Rattle.lucid_types_laws.proofs.Sound as sound
use Rattle.lucid_types_laws.proofs.StatementForms.{delay_is, event_is, locate_is, paren_is}

-- Ints are given no arrays.
no_arrays : {s : Names} {xs : List E} {names : List ArrayName} {cs : List Expr} (ws : List ℕ) → Given s (ints ws) xs names cs → names ≡ []
no_arrays [] typed.nothing = refl
no_arrays (w ∷ ws) (typed.value _ _ x xs names c cs of all) = no_arrays ws all

-- ---- groups

bare_group : (n : List ℕ) (s : Names) (w : ℕ) (c : Expr) (o : Option Entry) → seen n s ≡ o → core_of (e.Name n) s (Int w) ≡ Some c → group_at o ≡ None
bare_group n s w c (Some (entry.Group members)) is h =
    let none : None ≡ Some c = ap (read.name_core (Int w)) (sym is) ∙ sym (core_at (name_is n) s (Int w)) ∙ h in absurd (cc)
bare_group n s w c _ is h = refl

-- What has a value is no group.
no_group : (y : E) (s : Names) (w : ℕ) (c : Expr) (o : Option (List ℕ)) → (reading y).bare ≡ o → core_of y s (Int w) ≡ Some c → named_group o s ≡ None
no_group y s w c None is h = refl
no_group y s w c (Some n) is h = bare_group n s w c (seen n s) refl (subst (λ (z : E). core_of z s (Int w) ≡ Some c) (sound.bare_is y n is) h)

group_by : (n : List ℕ) (s : Names) (members : List ℕ) (o : Option Entry) → seen n s ≡ o → group_at o ≡ Some members → seen n s ≡ Some (entry.Group members)
group_by n s members (Some (entry.Group ms)) is h = is ∙ ap (λ (xs : List ℕ). Some (entry.Group xs)) (same_some ms members h)
group_by n s members _ is h = absurd (cc)

-- ---- from the rules to the function

pub sends : {s : Names} {x : V} {g : Sending} → Sends s x g → sending_of x s ≡ Some g
sends {s} (rule.call n i ws xs cs is of) = ap (λ (f : take.Sends). f s) (event_is n xs) ∙ rw (is, complete.given of) refl
sends {s} (rule.paren x g of) = ap (λ (f : take.Sends). f s) (paren_is x) ∙ sends of
sends {s} (rule.delay x g y w c of none place) = ap (λ (f : take.Sends). f s) (delay_is x y) ∙ rw (sends of, complete.free place, none) refl
sends {s} (rule.locate x g y w c of here (typed.free _ _ _ width value)) =
    let alone = no_group y s w c (reading y).bare refl (complete.typed value) in
    ap (λ (f : take.Sends). f s) (locate_is x y) ∙ rw (sends of, here, alone, complete.free (typed.free y w c width value)) refl
sends {s} (rule.group x g n members of here is) =
    ap (λ (f : take.Sends). f s) (locate_is x (e.Name n)) ∙ rw (sends of, here, bare_at (name_is n), is) refl

-- ---- from the function to the rules

abbrev P : V → Type 0
P x = (s : Names) (g : Sending) → sending_of x s ≡ Some g → Sends s x g

event_by : (n : List ℕ) (xs : List E) (s : Names) (g : Sending) (o : Option Entry) → seen n s ≡ o → event_at o (map reading xs) s ≡ Some g → Sends s (v.Call n xs) g
event_by n xs s g (Some (entry.Event i ws)) is h =
    let all = bound (given_all (ints ws) (map reading xs) s) _ g h in
    let of = sound.given_are (ints ws) xs s all.0 all.1 in
    subst (Sends s (v.Call n xs)) (same_some _ g all.2)
    (rule.call n i ws xs all.0.values is (subst (λ (names : List ArrayName). Given s (ints ws) xs names all.0.values) (no_arrays ws of) of))
event_by n xs s g _ is h = absurd (cc)

no_delay : (o : Option Expr) → is_none o ≡ true → o ≡ None
no_delay None h = refl
no_delay (Some c) h = absurd (cc)

here_is : (d : Destination) → is_here d ≡ true → d ≡ Here
here_is Here h = refl
here_is _ h = absurd (cc)

delay : (x : V) (y : E) → P x → P (v.Delay x y)
delay x y of s g h =
    let inner = bound (sending_of x s) _ g (sym (ap (λ (f : take.Sends). f s) (delay_is x y)) ∙ h) in
    let c = bound (read.free (reading y) s) _ g inner.2 in
    let parts = was (is_none inner.0.delay) (record inner.0 { delay = Some c.0 }) g c.2 in
    subst (Sends s (v.Delay x y)) parts.1
    (rule.delay x inner.0 y _ c.0 (of s inner.0 inner.1) (no_delay inner.0.delay parts.0) (sound.free_is y s c.0 c.1))

target_by : (x : V) (y : E) (s : Names) (f g : Sending) (bare : Option (List ℕ)) (o : Option (List ℕ)) → (reading y).bare ≡ bare → named_group bare s ≡ o →
    Sends s x f → f.to ≡ Here → take.target_of o (reading y) s f ≡ Some g → Sends s (v.Locate x y) g
target_by x y s f g bare None is named of here h =
    let c = bound (read.free (reading y) s) _ g h in
    subst (Sends s (v.Locate x y)) (same_some _ g c.2) (rule.locate x f y _ c.0 of here (sound.free_is y s c.0 c.1))
target_by x y s f g (Some n) (Some members) is named of here h =
    subst (λ (z : E). Sends s (v.Locate x z) g) (sym (sound.bare_is y n is))
    (subst (Sends s (v.Locate x (e.Name n))) (same_some _ g h) (rule.group x f n members of here (group_by n s members (seen n s) refl named)))
target_by x y s f g None (Some members) is named of here h = absurd (cc)

locate : (x : V) (y : E) → P x → P (v.Locate x y)
locate x y of s g h =
    let inner = bound (sending_of x s) _ g (sym (ap (λ (f : take.Sends). f s) (locate_is x y)) ∙ h) in
    let parts = when_parts (is_here inner.0.to) (take.target_of (named_group (reading y).bare s) (reading y) s inner.0) g inner.2 in
    target_by x y s inner.0 g (reading y).bare (named_group (reading y).bare s) refl refl (of s inner.0 inner.1) (here_is inner.0.to parts.0) parts.1

pub are_sent : (x : V) → P x
are_sent = event_induction P (record {
  paren = λ x of s g h. rule.paren x g (of s g (sym (ap (λ (f : take.Sends). f s) (paren_is x)) ∙ h));
  call = λ n xs s g h. event_by n xs s g (seen n s) refl (sym (ap (λ (f : take.Sends). f s) (event_is n xs)) ∙ h);
  delay = delay;
  locate = locate;
})
