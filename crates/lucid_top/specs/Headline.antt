-- The text of a run on pipelines is that of handlers that run whole, one event after another, in the order in which the events entered.
use Rattle.std.specs.Prelude.{◌≡◌, ℕ, ◌≤◌, ◌⊎◌, true, List, [], ◌∷◌, Option, Some, Ok, codes, fold, length}
use Rattle.std.specs.Io.KnownBytes.{Keeps}
use Rattle.lucid_audit.specs.declared.plan.Plan.{Plan}
use Rattle.lucid_code.specs.Nodes.{nodes}
use Rattle.lucid_code.specs.Parts.{CodeParts}
use Rattle.lucid_conf.specs.declared.limits.Limits.{Limits}
use Rattle.lucid_conf.specs.declared.scene.Scene.{Scene}
use Rattle.lucid_conf.specs.Tables.{limits_read, scene_read}
use Rattle.lucid_core.specs.Parts.{CoreParts}
use Rattle.lucid_drive.specs.Drive.{Drive, drive_log}
use Rattle.lucid_drive.specs.Sights.{sights}
use Rattle.lucid_gen.specs.Limits.{limits_text}
use Rattle.lucid_gen.specs.Program.{program_text}
use Rattle.lucid_gen.specs.Scene.{scene_text}
use Rattle.lucid_io.specs.Counts.{Rose}
use Rattle.lucid_io.specs.History.{Heard}
use Rattle.lucid_io.specs.Puts.{PutsAll}
use Rattle.lucid_stages.specs.declared.stage.Pair.{Pair}
use Rattle.lucid_stages.specs.Counts.{CountsFit}
use Rattle.lucid_layout.specs.Fit.{IsFirstFit}
use Rattle.lucid_layout.specs.Layout.{stages_of}
use Rattle.lucid_stages.specs.NodeWorks.{works}
use Rattle.lucid_net.specs.Sights.{sights_to}
use Rattle.lucid_net.specs.Wanting.{StopsAt}
use Rattle.lucid_net_spec.specs.Log.{log, whole}
use Rattle.lucid_net_spec.specs.Ways.{Network}
use Rattle.lucid_pipe.specs.declared.sight.Sight.{Sight}
use Rattle.lucid_snap.specs.Log.{snap_log}
use Rattle.lucid_tables.specs.Placed.{PlacedParts, placed_of}
use Rattle.lucid_top.specs.Premises.{HasCore, HasValue}
use Rattle.lucid_top_fit.specs.Fit.{HasNormal, normal_of}
use Rattle.lucid_top_fit.specs.Placing.{IsAudited, IsPlan}
use Rattle.lucid_top_words.specs.declared.status.Status.{Status}
use Rattle.lucid_top_words.specs.declared.status.Status.TheVariants as status
use Rattle.lucid_top_words.specs.Views.{Faults, Held}
use Rattle.lucid_top_words.specs.Words.{Bytes}
use Rattle.lucid_top_words.specs.Writing.{PutsSome}

-- a program, the limits of a target, and a scenario: the names of their files, or their texts
pub record Three : Type 0 where
  pub program : Bytes
  pub limits : Bytes
  pub scenario : Bytes

-- the words of each command over them
abbrev pub run_whole : Three → List Bytes
run_whole names = codes "run" ∷ codes "whole" ∷ names.program ∷ names.limits ∷ names.scenario ∷ []

abbrev pub run_pipe : Three → List Bytes
run_pipe names = codes "run" ∷ codes "pipe" ∷ names.program ∷ names.limits ∷ names.scenario ∷ []

abbrev pub drive : Three → List Bytes
drive names = codes "drive" ∷ names.program ∷ names.limits ∷ names.scenario ∷ []

-- with the name of a placement file
abbrev pub run_placed : Three → Bytes → List Bytes
run_placed names placement = codes "run" ∷ codes "placed" ∷ names.program ∷ names.limits ∷ names.scenario ∷ placement ∷ []

-- with the number of steps before a snapshot
abbrev pub snap : Three → Bytes → List Bytes
snap names steps = codes "snap" ∷ names.program ∷ names.limits ∷ names.scenario ∷ steps ∷ []

-- the texts that `bench` generates from these numbers
abbrev pub bench_texts : ℕ → ℕ → Three
bench_texts seed n = record { program = program_text seed; limits = limits_text; scenario = scene_text seed n }

-- the name has this content, of at most `most` bytes
abbrev pub Holds : Held → Bytes → Bytes → ℕ → Type 0
Holds held name text limit = (held name ≡ Some text) × (length text ≤ limit)

-- the three names hold the three texts
pub record Hold (held : Held) (names texts : Three) : Type 0 where
  pub program : Holds held names.program texts.program 1048576
  pub limits : Holds held names.limits texts.limits 1048576
  pub scenario : Holds held names.scenario texts.scenario 8388608

-- the history after the three files were read whole, with these texts
abbrev pub read_three : Three → Three → List Heard → List Heard
read_three names texts all =
    record { name = names.scenario; bytes = texts.scenario; ended = true }
    ∷ record { name = names.limits; bytes = texts.limits; ended = true }
    ∷ record { name = names.program; bytes = texts.program; ended = true } ∷ all

-- no read of the three files failed: none of their counts of faults rose
pub record NoneFailed (faults faults' : Faults) (names : Three) : Type 0 where
  pub program : ¬ Rose (faults names.program) (faults' names.program)
  pub limits : ¬ Rose (faults names.limits) (faults' names.limits)
  pub scenario : ¬ Rose (faults names.scenario) (faults' names.scenario)

-- the rules accept the three texts: they are a program, limits, and a scenario for this program
pub record Accepted (texts : Three) : Type 0 where
  pub core : CoreParts
  pub program_is : HasCore texts.program core
  pub limits : Limits
  pub limits_are : HasValue limits_read texts.limits limits
  pub scene : Scene
  pub scenario_is : HasValue (scene_read core) texts.scenario scene

-- what passes with these functions make of the normal form of a program, one after another
abbrev pub code_by : List (CodeParts → CodeParts) → CoreParts → CodeParts
code_by makes core = fold (λ now (make : CodeParts → CodeParts). make now) (normal_of core) makes

-- first fit places this code: its counts keep their limits, and each of its nodes in turn has the least place that it may have
pub record FirstFitPlaces (makes : List (CodeParts → CodeParts)) {texts : Three} (a : Accepted texts) : Type 0 where
  pub normal : HasNormal a.core
  pub counts : CountsFit (code_by makes a.core) a.limits
  pub places : List Pair
  pub least : IsFirstFit (code_by makes a.core).ops a.limits [] (works (code_by makes a.core).ops) places

-- the audit accepts the places that a file assigns to the nodes of this code
pub record AuditAccepts (makes : List (CodeParts → CodeParts)) {texts : Three} (a : Accepted texts) (placement : Bytes) : Type 0 where
  pub normal : HasNormal a.core
  pub counts : CountsFit (code_by makes a.core) a.limits
  pub plan : Plan
  pub plan_is : IsPlan placement (length (nodes (code_by makes a.core).ops)) (Ok plan)
  pub placed : PlacedParts
  pub accepts : IsAudited a.limits (code_by makes a.core) plan (Ok placed)

-- the placed code that first fit makes
abbrev pub placed_by : {makes : List (CodeParts → CodeParts)} {texts : Three} {a : Accepted texts} → FirstFitPlaces makes a → PlacedParts
placed_by {makes} {texts} {a} f = placed_of (code_by makes a.core) (stages_of (code_by makes a.core) a.limits f.places)

-- the network whose handlers run whole
abbrev pub whole_network : {texts : Three} → Accepted texts → Network
whole_network a = whole a.core a.scene a.limits

-- the log of the network whose handlers run whole, one event after another, in the order in which the events enter
abbrev pub network_log : {texts : Three} → Accepted texts → Bytes
network_log a = log (whole_network a)

-- the sights of pipes with this placed code, by handlers that run whole: after each tick the pipe of each switch
abbrev pub network_sights : {texts : Three} → Accepted texts → PlacedParts → List Sight
network_sights a placed = sights_to (whole_network a) (Some placed) a.scene.stop

-- the steps on one pipeline
abbrev pub driven_by : {makes : List (CodeParts → CodeParts)} {texts : Three} {a : Accepted texts} → FirstFitPlaces makes a → Drive
driven_by {makes} {texts} {a} f = record { parts = a.core; stages = (placed_by f).stages; scene = a.scene }

-- their log, by handlers that run whole
abbrev pub steps_log : {makes : List (CodeParts → CodeParts)} {texts : Three} {a : Accepted texts} → FirstFitPlaces makes a → Bytes
steps_log f = drive_log (driven_by f)

-- the pipe after each step, by handlers that run whole
abbrev pub steps_sights : {makes : List (CodeParts → CodeParts)} {texts : Three} {a : Accepted texts} → FirstFitPlaces makes a → List Sight
steps_sights f = sights (driven_by f)

-- the log of the steps, and then the cells of the handlers of all events that had entered by the first steps
abbrev pub snapshot_log : {makes : List (CodeParts → CodeParts)} {texts : Three} {a : Accepted texts} → FirstFitPlaces makes a → ℕ → Bytes
snapshot_log f steps = snap_log (driven_by f) steps

-- the call wrote the text and ended with 0; or memory ran out, and then a prefix was written
abbrev pub Wrote : {T : Type 0} → (T → Option Bytes) → (T → ℕ) → T → T → Status → Bytes → Type 0
Wrote written faults old new result text =
    ((result ≡ status.Ok) × PutsAll written faults old new text) ⊎ ((result ≡ status.Memory) × PutsSome written faults old new text)

-- memory ran out: nothing was written, or at a tick an event had to wait, and the log of all ticks before it was written, and a part of its own
abbrev pub OutOfMemory : {T : Type 0} → (T → Option Bytes) → (T → ℕ) → T → T → Network → Type 0
OutOfMemory written faults old new net = Keeps (written old) (written new) ⊎ ((text : Bytes) × StopsAt net text × PutsAll written faults old new text)
