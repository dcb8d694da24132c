-- Texts for which the premises of the laws of texts hold, with moves, calls and sights over them.
use Rattle.std.specs.Prelude.{◌≡◌, ◌≢◌, ℕ, List, [], ◌∷◌, ◌++◌, All, Some, bytes_eq, codes, if◌then◌else◌, length, map}
use Rattle.lucid_audit.specs.Audit.{pairs_of}
use Rattle.lucid_base.specs.declared.event.Event.{Event}
use Rattle.lucid_base.specs.declared.event.Out.TheVariants.{Gen}
use Rattle.lucid_base.specs.declared.event.Target.TheVariants.{At}
use Rattle.lucid_code.specs.Nodes.{nodes}
use Rattle.lucid_code.specs.Parts.{CodeParts}
use Rattle.lucid_core.specs.Parts.{CoreParts}
use Rattle.lucid_normal_spec.specs.Stands.{Happens}
use Rattle.lucid_pipe.specs.Moves.{Move, after_moves, enter, go}
use Rattle.lucid_pipe.specs.declared.sight.Sight.{Sight}
use Rattle.lucid_tables.specs.Placed.{PlacedParts}
use Rattle.lucid_top.specs.Answer.{Answers, Question}
use Rattle.lucid_top.specs.Headline.{Accepted, AuditAccepts, FirstFitPlaces, Three, code_by, network_sights, placed_by, steps_sights}
use Rattle.lucid_top_fit.specs.Fit.{normal_of}
use Rattle.lucid_top_fit.specs.Passes.{AreOurs, PassView, our_makes}
use Rattle.lucid_top_laws.specs.Moves.{entries}
use Rattle.lucid_top_laws.specs.Snapshots.{snapshot}
use Rattle.lucid_top_laws.specs.Texts.{makes_of}
use Rattle.lucid_top_words.specs.Outcome.{Outcome}
use Rattle.lucid_top_words.specs.Words.{Bytes}

-- ---- the texts

-- The handler adds its argument to a cell, and sends an event to switch 1 if the argument is 5. In the scenario the link is down at tick 2,
-- at which the event of tick 0 departs.
abbrev pub texts : Three
texts = record {
  program = codes "global Array.t<<32>>x=Array.create(1);memop m(int a,int b){return a+b;}event e(int v);event f();handle e(int v){int y=v;Array.setm(x,0,m,y);if(v==5){generate Event.locate(f(),0+1);}}";
  limits = codes "{\"stages\":2}";
  scenario = codes "{\"version\":2,\"switches\":2,\"stop\":5,\"links\":[[0,1,1]],\"down\":[[0,1,2,3]],\"events\":[{\"at\":0,\"switch\":0,\"name\":\"e\",\"args\":[5]},{\"at\":1,\"switch\":0,\"name\":\"e\",\"args\":[5]},{\"at\":2,\"switch\":0,\"name\":\"e\",\"args\":[7]}],\"steps\":[[\"enter\"],[\"go\",0],[\"enter\"],[\"go\",1],[\"go\",0]]}";
}

-- The call of the array in the second stage. First fit puts both nodes into the first.
abbrev pub placement : Bytes
placement = codes "{\"nodes\":[[1,0],[0,0]]}"

-- The limits of a target with one table of one row, in which only the first node has a place.
abbrev pub narrow : Bytes
narrow = codes "{\"stages\":1,\"tables\":1,\"rows\":1}"

-- Each of these functions changes the code that those before it leave.
abbrev pub AllChange : List (CodeParts → CodeParts) → CodeParts → Type 0
AllChange [] code = Unit {0}
AllChange (make ∷ makes) code = (make code ≢ code) × AllChange makes (make code)

-- ---- the moves

abbrev pub event : ℕ → Event
event value = record { id = 0; args = value ∷ [] }

-- An event enters, and a snapshot begins.
abbrev pub first : List Move
first = enter (event 5) 0 0 ∷ []

-- Its packet moves on, another event enters, the packet departs, and then that of the other event.
abbrev pub later : List Move
later = go 0 ∷ enter (event 7) 1 0 ∷ go 1 ∷ go 0 ∷ go 1 ∷ []

-- The events fit the program. When the snapshot begins, a packet is in flight, and another event enters before it ends. It ends with the
-- cell after the first event, where the pipe has that after both. The first packet sends an event to switch 1, and the other sends none.
pub record IsInFlight (placed : PlacedParts) (core : CoreParts) : Type 0 where
  pub happen : All (λ e. Happens core e.me e.event) (entries placed (first ++ later))
  pub two : length (entries placed (first ++ later)) ≡ 2
  pub one : length (entries placed first) ≡ 1
  pub waits : (snapshot placed first []).old ≡ 1
  pub ends : (snapshot placed first later).old ≡ 0
  pub copy : (snapshot placed first later).copies ≡ (5 ∷ []) ∷ []
  pub both : (after_moves placed (first ++ later)).pipe.cells ≡ (12 ∷ []) ∷ []
  pub sent : (after_moves placed (first ++ later)).left ≡ (Gen (record { id = 1; args = [] }) 0 (At 1) ∷ []) ∷ [] ∷ []

-- ---- the premises

-- The rules accept the texts, first fit places the code that the four passes make, and the audit accepts the places of the file. These
-- are others; the code has two nodes, and each pass changes it. The moves happen as described, on either placement.
pub record AreTaken : Type 0 where
  pub passes : List PassView
  pub four : AreOurs passes
  pub accepted : Accepted texts
  pub fits : FirstFitPlaces (makes_of (map PassView.gives passes)) accepted
  pub audits : AuditAccepts (makes_of (map PassView.gives passes)) accepted placement
  pub nodes : length (nodes (code_by our_makes accepted.core).ops) ≡ 2
  pub changes : AllChange our_makes (normal_of accepted.core)
  pub others : pairs_of audits.plan.pairs ≢ fits.places
  pub flies : IsInFlight (placed_by fits) accepted.core
  pub flies_there : IsInFlight audits.placed accepted.core

-- ---- calls over files with these texts

-- These words, over files in which `p` holds the program, `l` the limits, `n` those of the narrow target, `q` the placement, and any other
-- name the scenario.
abbrev pub over_texts : List PassView → List Bytes → Question
over_texts passes words = record {
  words = words;
  held = λ file. Some (if bytes_eq file (codes "p") then texts.program else if bytes_eq file (codes "l") then texts.limits
      else if bytes_eq file (codes "n") then narrow else if bytes_eq file (codes "q") then placement else texts.scenario);
  passes = passes;
}

-- With the four passes these words have this answer.
abbrev pub OursAnswer : List Bytes → Outcome → Type 0
OursAnswer words o = (passes : List PassView) → AreOurs passes → Answers (over_texts passes words) o

-- ---- sights

-- The sight of a switch: its taken slots, and its cell.
abbrev pub sight : ℕ → List ℕ → ℕ → Sight
sight switch places cell = record { switch = switch; places = places; cells = (cell ∷ []) ∷ [] }

-- The sights of both switches after each tick, if the array in switch 0 holds these.
abbrev pub after_ticks : ℕ → ℕ → ℕ → ℕ → ℕ → List Sight
after_ticks a b c d e =
    sight 0 (0 ∷ []) a ∷ sight 1 [] 0
    ∷ sight 0 (1 ∷ 0 ∷ []) b ∷ sight 1 [] 0
    ∷ sight 0 (1 ∷ 0 ∷ []) c ∷ sight 1 [] 0
    ∷ sight 0 (1 ∷ []) d ∷ sight 1 [] 0
    ∷ sight 0 [] e ∷ sight 1 (0 ∷ []) 0
    ∷ []

-- The sights of `run pipe` and of `run placed` after each tick, where the array is in the second stage, and those of `drive` after each step.
pub record AreSeen : Type 0 where
  pub accepted : Accepted texts
  pub fits : FirstFitPlaces our_makes accepted
  pub audits : AuditAccepts our_makes accepted placement
  pub ticks : network_sights accepted (placed_by fits) ≡ after_ticks 0 5 10 17 17
  pub ticks_there : network_sights accepted audits.placed ≡ after_ticks 0 0 5 10 17
  pub steps : steps_sights fits ≡ sight 0 (0 ∷ []) 0 ∷ sight 0 (1 ∷ []) 5 ∷ sight 0 (1 ∷ 0 ∷ []) 5 ∷ sight 0 (0 ∷ []) 5 ∷ sight 0 (1 ∷ []) 10 ∷ []
