-- The rules that an item keeps, given that it is read.
use Rattle.std.proofs.Common.{◌≡◌, ◌<◌, ◌≤◌, ℕ, List, [], ◌∷◌, ◌++◌, length, Bool, true, false, ◌&&◌, not, nat_eq, nat_lt, nat_le, bytes_eq, codes, if◌then◌else◌}
use Rattle.std.proofs.Common.{Option, None, Some, option_and_then, refl, subst, arith, length-append}
use Rattle.std.proofs.lemmas.Bool.{and_parts, not-true, leb-true, ltb-true, eqb-false}
use Rattle.std.specs.List.{All, AllPairs}
use Rattle.std.proofs.lemmas.List.Elements.{All-push}
use Rattle.std.proofs.lemmas.List.Quantifiers.{all_pairs_push}
use Rattle.serde_json.specs.Data.{Data}
use Rattle.serde_json.specs.Find.{as_object, get}
use Rattle.lucid_base.specs.declared.array.ArrayDef.{ArrayDef}
use Rattle.lucid_core.specs.Fits.{event_fits}
use Rattle.lucid_core.specs.Parts.{CoreParts}
use Rattle.lucid_conf.specs.declared.scene.Down.{Down}
use Rattle.lucid_conf.specs.declared.scene.FileEvent.{FileEvent}
use Rattle.lucid_conf.specs.declared.scene.Link.{Link}
use Rattle.lucid_conf.specs.declared.scene.Step.{Step}
use Rattle.lucid_conf.specs.declared.scene.Step.TheVariants.{Enter, Go, Look}
use Rattle.lucid_conf.specs.Fields.{◌>>=◌, must, number_at, number_of, text_at, text_of, ends_at, args_of}
use Rattle.lucid_conf.specs.Items.{are_event_keys, are_linked, enter, event, go, joins, last_stage, link, look, most_latency, most_windows, step, window}
use Rattle.lucid_conf.specs.Kept.{AreApart, IsFileEvent, IsLink, IsStep, IsWindow}
use Rattle.lucid_conf.specs.Named.{array_names, event_names, last_named}
use Rattle.lucid_conf.proofs.Apart.{none_at}
use Rattle.lucid_conf.proofs.LastNamed.{within}

pub same_some : {A : Type 0} (x y : A) → Some x ≡ Some y → x ≡ y
same_some x y h = cc

pub found : {A B : Type 0} (o : Option A) (f : A → Option B) (y : B) → (o >>= f) ≡ Some y → (x : A) × (o ≡ Some x) × (f x ≡ Some y)
found (Some x) f y h = (x, refl, h)
found None f y h = absurd (cc)

holds : (b : Bool) (u : Unit {0}) → must b ≡ Some u → b ≡ true
holds true u h = refl
holds false u h = absurd (cc)

-- ---- links

link_of : (switches a b latency : ℕ) (before : List Link) → (nat_lt a switches && nat_lt b switches && not (nat_eq a b)) ≡ true →
    (nat_le 1 latency && nat_le latency most_latency) ≡ true → not (are_linked before a b) ≡ true →
    IsLink switches (record { a = a; b = b; latency = latency }) × (are_linked before a b ≡ false)
link_of switches a b latency before there near free =
    let ends = and_parts (nat_lt a switches && nat_lt b switches) (not (nat_eq a b)) there in
    let both = and_parts (nat_lt a switches) (nat_lt b switches) ends.0 in
    let range = and_parts (nat_le 1 latency) (nat_le latency most_latency) near in (
      record {
        a = ltb-true a switches both.0;
        b = ltb-true b switches both.1;
        differ = eqb-false a b (not-true (nat_eq a b) ends.1);
        latency = (leb-true 1 latency range.0, leb-true latency most_latency range.1);
      },
      not-true (are_linked before a b) free,
    )

link_is : (switches : ℕ) (before : List Link) (d : Data) (l : Link) → link switches before d ≡ Some l →
    IsLink switches l × (are_linked before l.a l.b ≡ false)
link_is switches before d l h =
    let a = found (number_at 0 d) _ l h in
    let b = found (number_at 1 d) _ l a.2 in
    let latency = found (number_at 2 d) _ l b.2 in
    let end = found (ends_at 3 d) _ l latency.2 in
    let there = found (must (nat_lt a.0 switches && nat_lt b.0 switches && not (nat_eq a.0 b.0))) _ l end.2 in
    let near = found (must (nat_le 1 latency.0 && nat_le latency.0 most_latency)) _ l there.2 in
    let free = found (must (not (are_linked before a.0 b.0))) _ l near.2 in
    subst (λ (l : Link). IsLink switches l × (are_linked before l.a l.b ≡ false)) (same_some _ l free.2)
    (link_of switches a.0 b.0 latency.0 before (holds _ there.0 there.1) (holds _ near.0 near.1) (holds _ free.0 free.1))

pub links_keep : (switches : ℕ) (before : List Link) (d : Data) (l : Link) → All (IsLink switches) before × AllPairs AreApart before →
    link switches before d ≡ Some l → All (IsLink switches) (before ++ l ∷ []) × AllPairs AreApart (before ++ l ∷ [])
links_keep switches before d l all h =
    let is = link_is switches before d l h in
    (All-push (IsLink switches) before l all.0 is.0, all_pairs_push AreApart before l all.1 (λ k other less. none_at (joins l.a l.b) before k other is.1 less))

-- ---- windows

window_is : (links : List Link) (before : List Down) (d : Data) (w : Down) → window links before d ≡ Some w →
    IsWindow links w × (length before < most_windows)
window_is links before d w h =
    let a = found (number_at 0 d) _ w h in
    let b = found (number_at 1 d) _ w a.2 in
    let begin = found (number_at 2 d) _ w b.2 in
    let until = found (number_at 3 d) _ w begin.2 in
    let end = found (ends_at 4 d) _ w until.2 in
    let linked = found (must (are_linked links a.0 b.0)) _ w end.2 in
    let order = found (must (nat_lt begin.0 until.0)) _ w linked.2 in
    let few = found (must (nat_lt (length before) most_windows)) _ w order.2 in (
      subst (IsWindow links) (same_some _ w few.2) (record {
        linked = holds _ linked.0 linked.1;
        order = ltb-true begin.0 until.0 (holds _ order.0 order.1);
      }),
      ltb-true (length before) most_windows (holds _ few.0 few.1),
    )

pub windows_keep : (links : List Link) (before : List Down) (d : Data) (w : Down) →
    All (IsWindow links) before × (length before ≤ most_windows) → window links before d ≡ Some w →
    All (IsWindow links) (before ++ w ∷ []) × (length (before ++ w ∷ []) ≤ most_windows)
windows_keep links before d w all h =
    let is = window_is links before d w h in
    (All-push (IsWindow links) before w all.0 is.0, omega (arith, is.1, length-append before (w ∷ [])))

-- ---- events

event_is : (parts : CoreParts) (switches : ℕ) (before : List FileEvent) (d : Data) (e : FileEvent) → event parts switches before d ≡ Some e →
    IsFileEvent parts switches e
event_is parts switches before d e h =
    let members = found (as_object d) _ e h in
    let known = found (must (are_event_keys members.0)) _ e members.2 in
    let at = found (number_of (codes "at") d) _ e known.2 in
    let switch = found (number_of (codes "switch") d) _ e at.2 in
    let there = found (must (nat_lt switch.0 switches)) _ e switch.2 in
    let name = found (text_of (codes "name") d) _ e there.2 in
    let id = found (last_named name.0 (event_names parts.events)) _ e name.2 in
    let args = found (option_and_then args_of (get (codes "args") d)) _ e id.2 in
    let fits = found (must (event_fits parts (record { id = id.0; args = args.0 }))) _ e args.2 in
    subst (IsFileEvent parts switches) (same_some _ e fits.2) (record {
      switch = ltb-true switch.0 switches (holds _ there.0 there.1);
      fits = holds _ fits.0 fits.1;
    })

pub events_keep : (parts : CoreParts) (switches : ℕ) (before : List FileEvent) (d : Data) (e : FileEvent) → All (IsFileEvent parts switches) before →
    event parts switches before d ≡ Some e → All (IsFileEvent parts switches) (before ++ e ∷ [])
events_keep parts switches before d e all h = All-push (IsFileEvent parts switches) before e all (event_is parts switches before d e h)

-- ---- steps

enter_is : (parts : CoreParts) (d : Data) (s : Step) → enter d ≡ Some s → IsStep parts s
enter_is parts d s h = let end = found (ends_at 1 d) _ s h in subst (IsStep parts) (same_some Enter s end.2) tt

go_is : (parts : CoreParts) (d : Data) (s : Step) → go d ≡ Some s → IsStep parts s
go_is parts d s h =
    let k = found (number_at 1 d) _ s h in
    let end = found (ends_at 2 d) _ s k.2 in
    let few = found (must (nat_le k.0 last_stage)) _ s end.2 in
    subst (IsStep parts) (same_some (Go k.0) s few.2) (leb-true k.0 last_stage (holds _ few.0 few.1))

look_is : (parts : CoreParts) (d : Data) (s : Step) → look parts d ≡ Some s → IsStep parts s
look_is parts d s h =
    let name = found (text_at 1 d) _ s h in
    let cell = found (number_at 2 d) _ s name.2 in
    let end = found (ends_at 3 d) _ s cell.2 in
    let array = found (last_named name.0 (array_names parts.arrays)) _ s end.2 in
    subst (IsStep parts) (same_some (Look array.0 cell.0) s array.2) (within (λ (a : ArrayDef). a.name) name.0 parts.arrays array.0 array.1)

either : (b : Bool) (o p : Option Step) (s : Step) (Is : Type 0) → (o ≡ Some s → Is) → (p ≡ Some s → Is) → (if b then o else p) ≡ Some s → Is
either true o p s Is one other h = one h
either false o p s Is one other h = other h

step_is : (parts : CoreParts) (before : List Step) (d : Data) (s : Step) → step parts before d ≡ Some s → IsStep parts s
step_is parts before d s h =
    let word = found (text_at 0 d) _ s h in
    let Is = IsStep parts s in
    either (bytes_eq word.0 (codes "enter")) _ _ s Is (enter_is parts d s)
    (either (bytes_eq word.0 (codes "go")) _ _ s Is (go_is parts d s)
    (either (bytes_eq word.0 (codes "look")) _ _ s Is (look_is parts d s) (λ none. absurd (cc)))) word.2

pub steps_keep : (parts : CoreParts) (before : List Step) (d : Data) (s : Step) → All (IsStep parts) before → step parts before d ≡ Some s →
    All (IsStep parts) (before ++ s ∷ [])
steps_keep parts before d s all h = All-push (IsStep parts) before s all (step_is parts before d s h)
