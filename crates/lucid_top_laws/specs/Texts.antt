-- The laws of packets, from the bytes of the files: the rules accept a program, limits and places, and the passes meet their law. Then
-- packets on the pipeline have the effects of the handlers run whole.
use Rattle.std.specs.Prelude.{List, [], Ok, length, map}
use Rattle.lucid_audit.specs.declared.plan.Plan.{Plan}
use Rattle.lucid_code.specs.Nodes.{nodes}
use Rattle.lucid_code.specs.Parts.{CodeParts}
use Rattle.lucid_conf.specs.declared.limits.Limits.{Limits}
use Rattle.lucid_conf.specs.Tables.{limits_read}
use Rattle.lucid_core.specs.Parts.{CoreParts}
use Rattle.lucid_layout.specs.Fit.{IsFirstFit}
use Rattle.lucid_layout.specs.Layout.{stages_of}
use Rattle.lucid_pass_spec.specs.Replace.{Rewrite}
use Rattle.lucid_stages.specs.declared.stage.Pair.{Pair}
use Rattle.lucid_stages.specs.NodeWorks.{works}
use Rattle.lucid_tables.specs.Placed.{PlacedParts, placed_of}
use Rattle.lucid_top.specs.Headline.{Accepted, AuditAccepts, FirstFitPlaces, Three, code_by, placed_by}
use Rattle.lucid_top.specs.Premises.{HasCore, HasValue}
use Rattle.lucid_top_fit.specs.Placing.{IsAudited, IsPlan}
use Rattle.lucid_top_laws.specs.Moves.{MovesRunWhole}
use Rattle.lucid_top_laws.specs.Packet.{RunsWhole}
use Rattle.lucid_top_laws.specs.Snapshots.{SnapshotsRunWhole}
use Rattle.lucid_top_words.specs.Words.{Bytes}

-- Placed code has the effects of the handlers of a program run whole: for one packet that traverses all stages, for packets that move in any
-- order, and for snapshots that are taken while they move.
pub record ActsAsHandlers (placed : PlacedParts) (core : CoreParts) : Type 0 where
  pub packet : RunsWhole placed core
  pub moves : MovesRunWhole placed core
  pub snapshots : SnapshotsRunWhole placed core

-- The functions of passes.
abbrev pub makes_of : List Rewrite → List (CodeParts → CodeParts)
makes_of passes = map (λ (p : Rewrite). p.makes) passes

-- ---- a program and limits

-- The rules accept the program and the limits.
pub record AcceptedCode (program limits : Bytes) : Type 0 where
  pub core : CoreParts
  pub program_is : HasCore program core
  pub within : Limits
  pub limits_are : HasValue limits_read limits within

-- First fit places the nodes of the code that the passes make.
pub record HasPlaces (passes : List Rewrite) (core : CoreParts) (limits : Limits) : Type 0 where
  pub places : List Pair
  pub least : IsFirstFit (code_by (makes_of passes) core).ops limits [] (works (code_by (makes_of passes) core).ops) places

-- The audit accepts the places that a file assigns to these nodes.
pub record HasPlacement (passes : List Rewrite) (core : CoreParts) (limits : Limits) (placement : Bytes) : Type 0 where
  pub plan : Plan
  pub plan_is : IsPlan placement (length (nodes (code_by (makes_of passes) core).ops)) (Ok plan)
  pub placed : PlacedParts
  pub accepts : IsAudited limits (code_by (makes_of passes) core) plan (Ok placed)

-- The placed code of first fit.
abbrev pub CodesRunWhole : Type 0
CodesRunWhole = (program limits : Bytes) (a : AcceptedCode program limits) (passes : List Rewrite) (f : HasPlaces passes a.core a.within) →
    let code = code_by (makes_of passes) a.core in ActsAsHandlers (placed_of code (stages_of code a.within f.places)) a.core

-- The placed code of a file that the audit accepts.
abbrev pub PlacedCodesRunWhole : Type 0
PlacedCodesRunWhole = (program limits : Bytes) (a : AcceptedCode program limits) (passes : List Rewrite) (placement : Bytes) (p : HasPlacement passes a.core a.within placement) →
    ActsAsHandlers p.placed a.core

-- ---- one packet alone

abbrev pub PacketRunsWhole : Type 0
PacketRunsWhole = (program limits : Bytes) (a : AcceptedCode program limits) (passes : List Rewrite) (f : HasPlaces passes a.core a.within) →
    let code = code_by (makes_of passes) a.core in RunsWhole (placed_of code (stages_of code a.within f.places)) a.core

abbrev pub PlacedPacketRunsWhole : Type 0
PlacedPacketRunsWhole = (program limits : Bytes) (a : AcceptedCode program limits) (passes : List Rewrite) (placement : Bytes) (p : HasPlacement passes a.core a.within placement) →
    RunsWhole p.placed a.core

-- ---- the same, by the premises of clauses `pipe` and `placed` of `lucid`

abbrev pub TextsRunWhole : Type 0
TextsRunWhole = (texts : Three) (a : Accepted texts) (passes : List Rewrite) (f : FirstFitPlaces (makes_of passes) a) → ActsAsHandlers (placed_by f) a.core

abbrev pub PlacedTextsRunWhole : Type 0
PlacedTextsRunWhole = (texts : Three) (a : Accepted texts) (passes : List Rewrite) (placement : Bytes) (audit : AuditAccepts (makes_of passes) a placement) → ActsAsHandlers audit.placed a.core
