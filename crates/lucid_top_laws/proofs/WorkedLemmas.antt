-- A placement of no node, and the pipelines of the program `event e();` with it.
use Rattle.std.proofs.Common.{◌≡◌, IsUtf8, Ok, Some, [], arith, codes, map, refl}
use Rattle.std.specs.Char.{encode_utf8}
use Rattle.serde_json.proofs.OnLiterals.{serde_json_on_literals}
use Rattle.serde_json.specs.Data.{Data, array, member, no_items, no_members, object}
use Rattle.serde_json.specs.Read.{read}
use Rattle.lucid_audit.specs.Audit as audit
use Rattle.lucid_audit.specs.declared.plan.Plan.{Plan}
use Rattle.lucid_stages.specs.Counts.{CountsFit}
use Rattle.lucid_stages.specs.Placing.{stage_code}
use Rattle.lucid_size.specs.Expansion.{ExpandsTo}
use Rattle.lucid_tables.specs.Placed.{PlacedParts}
use Rattle.lucid_top.specs.Pipes.{Piped, Ready, piped, ready, target}
use Rattle.lucid_top.specs.Placed.{IsAudit, IsAuditedIn, IsMeasured, IsReadyPlaced, Measured, measured}
use Rattle.lucid_top_fit.specs.Fit.{composed, fit_of}
use Rattle.lucid_top_fit.specs.Placing.{IsAudited, IsPlan}
use Rattle.lucid_top_words.specs.Words.{Bytes}
use Rattle.lucid_top_laws.proofs.Declares as declares
use Rattle.lucid_top_laws.proofs.Declares.{core}
use Rattle.lucid_top_laws.proofs.Entering as entering
use Rattle.lucid_top_laws.proofs.WorkedExamples.{has_normal}
use Rattle.lucid_top_laws.proofs.Programs.{is_program}
use Rattle.lucid_top_laws.proofs.Settings.{are_limits, limits}
use Rattle.lucid_top_laws.specs.declared.worked.TheConstants.{TOKENS}

abbrev pub text : Bytes
text = codes "{\"nodes\":[]}"

abbrev told : Data
told = object (member (codes "nodes") (array no_items) no_members)

told_is : read text ≡ Some told
unfolding serde_json_on_literals
told_is = refl

text_utf8 : IsUtf8 text
unfolding encode_utf8
text_utf8 = (text, (refl, refl))

abbrev plan : Plan
plan = record { pairs = [] }

is_plan : IsPlan text 0 (Ok plan)
is_plan = (told, (text_utf8, told_is), refl)

abbrev placed : PlacedParts
placed = record { code = (composed core []).code; stages = map (stage_code (composed core []).code.ops) (audit.stages (composed core []).code.ops limits []) }

counts : CountsFit (composed core []).code limits
counts = record { ops = omega arith; bits = omega arith; arms = λ g less. absurd (omega (arith, less)) }

is_audited : IsAudited limits (composed core []).code plan (Ok placed)
is_audited = record { counts = counts; rules = record { there = tt; order = tt; rows = λ k t. refl; arrays = λ k. omega arith }; code_is = refl; stages_are = refl }

abbrev made : Measured
made = measured (target core limits) (composed core [])

abbrev pub pipes : Piped
pipes = piped (target core limits) (fit_of [] placed)

abbrev pub network : Ready
network = ready pipes entering.scene

module _ (expands : ExpandsTo declares.text TOKENS declares.text) where
  is_measured : IsMeasured declares.text (codes "{}") [] (Ok made)
  is_measured = (
    Ok (target core limits),
    (Ok core, is_program declares.text TOKENS declares.tree core declares.worked expands, (Ok limits, are_limits, refl)),
    (Ok (composed core []), (has_normal, refl), (Ok (composed core []).code, (counts, refl), refl)),
  )

  is_audited_in : IsAuditedIn text made (Ok pipes)
  is_audited_in = (Ok plan, is_plan, (Ok placed, is_audited, refl))

  pub is_audit : IsAudit declares.text (codes "{}") text [] (Ok pipes)
  is_audit = (Ok made, is_measured, is_audited_in)

  pub is_ready : IsReadyPlaced declares.text (codes "{}") entering.text text [] (Ok network)
  is_ready = (Ok made, is_measured, (Ok entering.scene, entering.is_scenario, (Ok pipes, is_audited_in, refl)))
