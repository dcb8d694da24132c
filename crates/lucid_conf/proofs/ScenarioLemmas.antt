-- A scenario that is read keeps the ranges and the sums of its table.
use Rattle.std.proofs.Common.{◌≡◌, ℕ, ◌*◌, ◌≤◌, List, [], length, ◌||◌, not, nat_eq, nat_le, Ok, Err, IfOk, Result, is_some, subst, arith}
use Rattle.std.proofs.lemmas.Bool.{leb-true}
use Rattle.std.specs.List.{All, AllPairs}
use Rattle.std.proofs.lemmas.List.Elements.{All-nil}
use Rattle.serde_json.specs.Data.{Data}
use Rattle.serde_json.specs.Find.{get}
use Rattle.lucid_core.specs.Parts.{CoreParts}
use Rattle.lucid_conf.specs.declared.error.ConfError.{ConfError}
use Rattle.lucid_conf.specs.declared.key.Key.TheVariants as key
use Rattle.lucid_conf.specs.declared.key.Key.TheVariants.{Version, Switches, Stop, Links, Events, Steps}
use Rattle.lucid_conf.specs.declared.scene.Down.{Down}
use Rattle.lucid_conf.specs.declared.scene.Link.{Link}
use Rattle.lucid_conf.specs.declared.scene.Scene.{Scene}
use Rattle.lucid_conf.specs.Answers.{Gives}
use Rattle.lucid_conf.specs.Items.{event, link, most_windows, step, window}
use Rattle.lucid_conf.specs.Keys.{name_of, scene_keys}
use Rattle.lucid_conf.specs.Kept.{AreApart, IsFileEvent, IsLink, IsScene, IsStep, IsWindow}
use Rattle.lucid_conf.specs.Reading.{IsBetween, check, file, list, number, required}
use Rattle.lucid_conf.specs.Tables.{cells, down_read, most_cells, most_ticks, scene_read, stop_read, switches_read}
use Rattle.lucid_conf.proofs.ItemsLemmas.{events_keep, links_keep, steps_keep, windows_keep}
use Rattle.lucid_conf.proofs.ReadingLemmas.{bound, checked, list_keeps, number_between, same_ok}

switches_are : (parts : CoreParts) (d : Data) (n : ℕ) → switches_read parts d ≡ Ok n → IsBetween 1 64 n × (cells parts.arrays * n ≤ most_cells)
switches_are parts d n h =
    let read = bound (number d Switches 1 64 1) _ n h in
    let few = bound (check Switches (nat_le (cells parts.arrays * read.0) most_cells)) _ n read.2 in
    subst (λ (n : ℕ). IsBetween 1 64 n × (cells parts.arrays * n ≤ most_cells)) (same_ok read.0 n few.2) (
      number_between d Switches 1 64 1 read.0 (omega arith, omega arith) read.1,
      leb-true (cells parts.arrays * read.0) most_cells (checked Switches _ few.0 few.1),
    )

stop_is : (switches : ℕ) (d : Data) (n : ℕ) → stop_read switches d ≡ Ok n → n * switches ≤ most_ticks
stop_is switches d n h =
    let read = bound (required d Stop) _ n h in
    let few = bound (check Stop (nat_le (read.0 * switches) most_ticks)) _ n read.2 in
    subst (λ (n : ℕ). n * switches ≤ most_ticks) (same_ok read.0 n few.2) (leb-true (read.0 * switches) most_ticks (checked Stop _ few.0 few.1))

none_apart : AllPairs AreApart []
none_apart i j d less small = absurd (omega (arith, small))

links_are : (switches : ℕ) (d : Data) (links : List Link) → list d Links (link switches) ≡ Ok links →
    All (IsLink switches) links × AllPairs AreApart links
links_are switches d links h =
    list_keeps (λ (links : List Link). All (IsLink switches) links × AllPairs AreApart links) d Links (link switches) links
    (links_keep switches) (All-nil (IsLink switches), none_apart) h

down_is : (version : ℕ) (links : List Link) (d : Data) (down : List Down) → down_read version links d ≡ Ok down →
    All (IsWindow links) down × (length down ≤ most_windows)
down_is version links d down h =
    let allowed = bound (check key.Down (nat_eq version 2 || not (is_some (get (name_of key.Down) d)))) _ down h in
    list_keeps (λ (down : List Down). All (IsWindow links) down × (length down ≤ most_windows)) d key.Down (window links) down
    (windows_keep links) (All-nil (IsWindow links), omega arith) allowed.2

is_scene : (parts : CoreParts) (d : Data) (s : Scene) → scene_read parts d ≡ Ok s → IsScene parts s
is_scene parts d s h =
    let keys = bound (file d scene_keys) _ s h in
    let version = bound (number d Version 1 2 1) _ s keys.2 in
    let switches = bound (switches_read parts d) _ s version.2 in
    let stop = bound (stop_read switches.0 d) _ s switches.2 in
    let links = bound (list d Links (link switches.0)) _ s stop.2 in
    let down = bound (down_read version.0 links.0 d) _ s links.2 in
    let events = bound (list d Events (event parts switches.0)) _ s down.2 in
    let steps = bound (list d Steps (step parts)) _ s events.2 in
    let few = switches_are parts d switches.0 switches.1 in
    let joined = links_are switches.0 d links.0 links.1 in
    let closed = down_is version.0 links.0 d down.0 down.1 in
    let scene : Scene = record { switches = switches.0; stop = stop.0; links = links.0; down = down.0; events = events.0; steps = steps.0 } in
    subst (IsScene parts) {x = scene} (same_ok scene s steps.2) (record {
      switches = few.0;
      cells = few.1;
      stop = stop_is switches.0 d stop.0 stop.1;
      links = joined.0;
      apart = joined.1;
      down = closed.0;
      windows = closed.1;
      events = list_keeps (All (IsFileEvent parts switches.0)) d Events (event parts switches.0) events.0 (events_keep parts switches.0)
          (All-nil (IsFileEvent parts switches.0)) events.1;
      steps = list_keeps (All (IsStep parts)) d Steps (step parts) steps.0 (steps_keep parts) (All-nil (IsStep parts)) steps.1;
    })

pub scene_kept : (parts : CoreParts) (d : Data) (r : Result Scene ConfError) → Gives r (scene_read parts d) → IfOk r (IsScene parts)
scene_kept parts d (Ok s) given = is_scene parts d s given
scene_kept parts d (Err e) given = tt
