-- An event that is put into a free slot, or taken out of its own, leaves the others where they are.
use Rattle.std.proofs.Common.{◌≡◌, ◌≢◌, ℕ, ◌<◌, ◌≤◌, List, [], ◌∷◌, Option, None, Some, is_some, IsSome, Bool, true, false, ◌||◌, if◌then◌else◌, not, nat_lt, cond, is_eq, slice_get, refl, sym, ◌∙◌, ap, subst, arith}
use Rattle.std.specs.BTreeMap.{insert_entry}
use Rattle.std.specs.List.{list_any}
use Rattle.std.specs.Map.{keys_of, lookup}
use Rattle.std.specs.Option.{unwrap_or}
use Rattle.std.specs.Ordering.{match_ordering}
use Rattle.std.specs.declared.cmp.Ordering.{Ordering}
use Rattle.std.specs.declared.cmp.Ordering.TheVariants.{Less, Equal, Greater}
use Rattle.std.proofs.lemmas.Bool.Decides.{nat_tests}
use Rattle.slab.specs.Slab.{Slab, Updates, get}
use Rattle.lucid_base.specs.declared.event.Event.{Event}
use Rattle.lucid_queue.specs.Kept.{behind_front, front, has_key}
use Rattle.lucid_queue.specs.Order.{key_cmp}
use Rattle.lucid_queue.specs.Turns.{AreKept, HaveNot, event_in, with_event, with_events}
use Rattle.lucid_queue.specs.declared.pending.PendKey.{PendKey}

abbrev Slotted : Type 0
Slotted = List (PendKey × ℕ)

-- the answer of the map for a key
pub taken : (events : Slab Event) (key : PendKey) (es : Slotted) → is_some (lookup (λ q. is_eq (key_cmp key q)) es) ≡ list_any (has_key key) (with_events events es)
taken events key [] = refl
taken events key (e ∷ es) = at (is_eq (key_cmp key e.0)) (taken events key es)
  where
    rest : Option ℕ
    rest = lookup (λ q. is_eq (key_cmp key q)) es

    at : (b : Bool) → is_some rest ≡ list_any (has_key key) (with_events events es) → is_some (cond b (Some e.1) rest) ≡ (b || list_any (has_key key) (with_events events es))
    at true is = refl
    at false is = is

pub same_keys : (events : Slab Event) (es : Slotted) → keys_of (with_events events es) ≡ keys_of es
same_keys events [] = refl
same_keys events (e ∷ es) = ap (λ (ks : List PendKey). e.0 ∷ ks) (same_keys events es)

some_none : (o : Option Event) → IsSome o → o ≡ None → ⊥
some_none None some is = cc
some_none (Some e) some is = cc

-- a free slot is none of theirs
pub free : (events : Slab Event) (slot : ℕ) (es : Slotted) → get events slot ≡ None → AreKept events es → HaveNot slot es
free events slot [] none kept = tt
free events slot (e ∷ es) none kept = (
  λ is. some_none (get events e.1) kept.0 (ap (get events) is ∙ none),
  free events slot es none kept.2,
)

-- the same values in more room
module _ (events later : Slab Event) (same : (slot : ℕ) → get later slot ≡ get events slot) where
  pub kept_same : (es : Slotted) → AreKept events es → AreKept later es
  kept_same [] kept = tt
  kept_same (e ∷ es) kept = (subst IsSome (sym (same e.1)) kept.0, kept.1, kept_same es kept.2)

  pub seen_same : (es : Slotted) → with_events later es ≡ with_events events es
  seen_same [] = refl
  seen_same (e ∷ es) =
      ap (λ (v : Option Event). (e.0, unwrap_or v (record { id = 0; args = [] })) ∷ with_events later es) (same e.1)
      ∙ ap (λ (l : List (PendKey × Event)). with_event events e ∷ l) (seen_same es)

module _ (events later : Slab Event) (slot : ℕ) (o : Option Event) (updates : Updates events later slot o) where
  pub still : (es : Slotted) → HaveNot slot es → with_events later es ≡ with_events events es
  still [] not = refl
  still (e ∷ es) not =
      ap (λ (v : Option Event). (e.0, unwrap_or v (record { id = 0; args = [] })) ∷ with_events later es) (updates.others e.1 not.0)
      ∙ ap (λ (l : List (PendKey × Event)). with_event events e ∷ l) (still es not.1)

  pub kept_still : (es : Slotted) → HaveNot slot es → AreKept events es → AreKept later es
  kept_still [] not kept = tt
  kept_still (e ∷ es) not kept = (subst IsSome (sym (updates.others e.1 not.0)) kept.0, kept.1, kept_still es not.1 kept.2)

have_not_with : (s slot : ℕ) (key : PendKey) (es : Slotted) → slot ≢ s → HaveNot s es → HaveNot s (insert_entry key_cmp es key slot)
have_not_with s slot key [] off not = (off, tt)
have_not_with s slot key (e ∷ es) off not = at (key_cmp key e.0) (have_not_with s slot key es off not.1)
  where
    at : (c : Ordering) → HaveNot s (insert_entry key_cmp es key slot) →
        HaveNot s (match_ordering c ((key, slot) ∷ e ∷ es) ((e.0, slot) ∷ es) (e ∷ insert_entry key_cmp es key slot))
    at Less tail = (off, not)
    at Equal tail = (off, not.1)
    at Greater tail = (not.0, tail)

module _ (events later : Slab Event) (slot : ℕ) (key : PendKey) (event : Event) (updates : Updates events later slot (Some event)) (none : get events slot ≡ None) where
  in_slot : event_in later slot ≡ event
  in_slot = ap (λ (v : Option Event). unwrap_or v (record { id = 0; args = [] })) updates.changed

  has_some : IsSome (get later slot)
  has_some = subst IsSome (sym updates.changed) refl

  pub inserted : (es : Slotted) → AreKept events es → with_events later (insert_entry key_cmp es key slot) ≡ insert_entry key_cmp (with_events events es) key event
  inserted [] kept = ap (λ (v : Event). (key, v) ∷ []) in_slot
  inserted (e ∷ es) kept = at (key_cmp key e.0) (inserted es kept.2)
    where
      not : HaveNot slot (e ∷ es)
      not = free events slot (e ∷ es) none kept

      at : (c : Ordering) → with_events later (insert_entry key_cmp es key slot) ≡ insert_entry key_cmp (with_events events es) key event →
          with_events later (match_ordering c ((key, slot) ∷ e ∷ es) ((e.0, slot) ∷ es) (e ∷ insert_entry key_cmp es key slot))
          ≡ match_ordering c ((key, event) ∷ with_events events (e ∷ es)) ((e.0, event) ∷ with_events events es) (with_event events e ∷ insert_entry key_cmp (with_events events es) key event)
      at Less tail =
          ap (λ (v : Event). (key, v) ∷ with_events later (e ∷ es)) in_slot
          ∙ ap (λ (l : List (PendKey × Event)). (key, event) ∷ l) (still events later slot (Some event) updates (e ∷ es) not)
      at Equal tail =
          ap (λ (v : Event). (e.0, v) ∷ with_events later es) in_slot
          ∙ ap (λ (l : List (PendKey × Event)). (e.0, event) ∷ l) (still events later slot (Some event) updates es not.1)
      at Greater tail =
          ap (λ (v : Option Event). (e.0, unwrap_or v (record { id = 0; args = [] })) ∷ with_events later (insert_entry key_cmp es key slot)) (updates.others e.1 not.0)
          ∙ ap (λ (l : List (PendKey × Event)). with_event events e ∷ l) tail

  pub kept_with : (es : Slotted) → AreKept events es → AreKept later (insert_entry key_cmp es key slot)
  kept_with [] kept = (has_some, tt, tt)
  kept_with (e ∷ es) kept = at (key_cmp key e.0) (kept_with es kept.2)
    where
      not : HaveNot slot (e ∷ es)
      not = free events slot (e ∷ es) none kept

      at : (c : Ordering) → AreKept later (insert_entry key_cmp es key slot) →
          AreKept later (match_ordering c ((key, slot) ∷ e ∷ es) ((e.0, slot) ∷ es) (e ∷ insert_entry key_cmp es key slot))
      at Less tail = (has_some, not, kept_still events later slot (Some event) updates (e ∷ es) not kept)
      at Equal tail = (has_some, not.1, kept_still events later slot (Some event) updates es not.1 kept.2)
      at Greater tail = (
        subst IsSome (sym (updates.others e.1 not.0)) kept.0,
        have_not_with e.1 slot key es (λ is. not.0 (sym is)) kept.1,
        tail,
      )

-- ---- the first

inside : (x y : PendKey × ℕ) → Some x ≡ Some y → x ≡ y
inside x y e = cc

same_first : (es rest : Slotted) (x y : PendKey × ℕ) → es ≡ x ∷ rest → slice_get es 0 ≡ Some y → x.0.ready ≡ y.0.ready
same_first es rest x y is first = ap (λ (e : PendKey × ℕ). e.0.ready) (inside x y (ap (λ (l : Slotted). slice_get l 0) (sym is) ∙ first))

too_late : (t a b : ℕ) → a ≡ b → t < b → nat_lt t a ≡ true
too_late t a b is lt = grind (arith, nat_tests)

ripe : (t a b : ℕ) → a ≡ b → b ≤ t → nat_lt t a ≡ false
ripe t a b is le = grind (arith, nat_tests)

pub late_first : (events : Slab Event) (tick : ℕ) (es : Slotted) (y : PendKey × ℕ) → slice_get es 0 ≡ Some y → tick < y.0.ready → front tick (with_events events es) ≡ None
late_first events tick [] y first lt = refl
late_first events tick (e ∷ es) y first lt =
    ap (λ (b : Bool). if not b then Some (with_event events e) else None) (too_late tick e.0.ready y.0.ready (same_first (e ∷ es) es e y refl first) lt)

pub late_others : (events : Slab Event) (tick : ℕ) (es : Slotted) (y : PendKey × ℕ) → slice_get es 0 ≡ Some y → tick < y.0.ready →
    with_events events es ≡ behind_front tick (with_events events es)
late_others events tick [] y first lt = refl
late_others events tick (e ∷ es) y first lt =
    sym (ap (λ (b : Bool). if not b then with_events events es else with_events events (e ∷ es)) (too_late tick e.0.ready y.0.ready (same_first (e ∷ es) es e y refl first) lt))

pub popped : (events later : Slab Event) (tick : ℕ) (es rest : Slotted) (x y : PendKey × ℕ) → es ≡ x ∷ rest → slice_get es 0 ≡ Some y → y.0.ready ≤ tick → AreKept events es →
    Updates events later x.1 None → with_events later rest ≡ behind_front tick (with_events events es)
popped events later tick es rest x y is first le kept updates =
    let all : AreKept events (x ∷ rest) = subst (AreKept events) is kept in
    still events later x.1 None updates rest all.1
    ∙ sym (ap (λ (b : Bool). if not b then with_events events rest else with_events events (x ∷ rest)) (ripe tick x.0.ready y.0.ready (same_first es rest x y is first) le))
    ∙ sym (ap (λ (l : Slotted). behind_front tick (with_events events l)) is)

pub kept_popped : (events later : Slab Event) (es rest : Slotted) (x : PendKey × ℕ) → es ≡ x ∷ rest → AreKept events es → Updates events later x.1 None → AreKept later rest
kept_popped events later es rest x is kept updates =
    let all : AreKept events (x ∷ rest) = subst (AreKept events) is kept in
    kept_still events later x.1 None updates rest all.1 all.2
