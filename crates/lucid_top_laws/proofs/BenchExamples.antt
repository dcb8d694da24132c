-- `bench 69426392 1` is answered with the line that summarizes that run.
use Rattle.std.proofs.Common.{◌≡◌, ◌≤◌, List, [], Ok, ap, arith, length, refl, subst, sym, ℕ}
use Rattle.std.specs.Fmt.{digits}
use Rattle.lucid_code.specs.Parts.{CodeParts}
use Rattle.lucid_gen.specs.Draws.{times}
use Rattle.lucid_gen.specs.Limits.{limits_text}
use Rattle.lucid_gen.specs.Program.{program_text}
use Rattle.lucid_gen.specs.Scene.{scene_text}
use Rattle.lucid_layout.specs.Layout.{IsLayout}
use Rattle.lucid_lex.specs.Front.{after_prefix, front_of, name_front, number_front, sign_front}
use Rattle.lucid_lex.specs.Sign.{sign_at}
use Rattle.lucid_lex.specs.Word.{word_in}
use Rattle.lucid_log_tally.specs.Bench.{bench_line}
use Rattle.lucid_net_spec.specs.Log.{log}
use Rattle.lucid_parse_spec.specs.Law.{ReadAsSpelled}
use Rattle.lucid_size.proofs.Plain.{plain_expands}
use Rattle.lucid_size.specs.Expansion.{ExpandsTo, most}
use Rattle.lucid_size.specs.Templates.{templates}
use Rattle.lucid_tables.specs.Placed.{PlacedParts}
use Rattle.lucid_top.specs.Generated.{BenchAnswers}
use Rattle.lucid_top.specs.Pipes.{IsPiped, IsReady, Piped, Ready, network_of, piped, ready, target}
use Rattle.lucid_top_fit.specs.Fit.{Fit, IsFitted, composed, fit_of, normal_of}
use Rattle.lucid_top_program.specs.Program.{IsProgram}
use Rattle.lucid_top_laws.proofs.GeneratedCode.{code, counts, has_normal, normal_is, room}
use Rattle.lucid_top_laws.proofs.GeneratedCore.{core_parts}
use Rattle.lucid_top_laws.proofs.GeneratedProgram.{is_read}
use Rattle.lucid_top_laws.proofs.GeneratedRun.{line, line_of}
use Rattle.lucid_top_laws.proofs.GeneratedSettings.{are_limits, is_scenario, limits, scene}
use Rattle.lucid_top_laws.proofs.GeneratedTree.{reads, text, tokens}
use Rattle.lucid_top_laws.proofs.TextLengths.{program_short}
use Rattle.lucid_top_laws.specs.Levels.{RoomyCodeIsPlaced}

no_templates : templates tokens ≡ Ok []
unfolding times digits front_of name_front word_in sign_front sign_at number_front after_prefix
no_templates = refl

expands : ExpandsTo text tokens text
expands = plain_expands text tokens reads no_templates

within : length text ≤ most
within = let short = program_short 69426392 in omega (arith, short)

is_program : ReadAsSpelled → IsProgram text (Ok core_parts)
is_program law = (Ok text, (Ok tokens, reads, (expands, within)), is_read law)

-- The answer, if the texts are ready to run as this network.
answered : (r : Ready) (t : List ℕ) → IsReady (program_text 69426392) limits_text (scene_text 69426392 1) [] (Ok r) →
    bench_line 69426392 1 (log (network_of r)) ≡ t → BenchAnswers 69426392 1 [] (Ok t)
answered r t is line_is = (Ok r, is, ap (λ (u : List ℕ). Ok u) (sym line_is))

module _ (reading : ReadAsSpelled) (placing : RoomyCodeIsPlaced) where
  abbrev laid : (placed : PlacedParts) × IsLayout code limits placed
  laid = placing code limits counts room

  is_layout : IsLayout (normal_of core_parts) limits laid.0
  is_layout = subst (λ (c : CodeParts). IsLayout c limits laid.0) (sym normal_is) laid.1

  abbrev fitted : Fit
  fitted = fit_of [] laid.0

  is_fitted : IsFitted core_parts limits [] (Ok fitted)
  is_fitted = (Ok (composed core_parts []), (has_normal, refl), (Ok laid.0, is_layout, refl))

  abbrev pipes : Piped
  pipes = piped (target core_parts limits) fitted

  is_piped : IsPiped text limits_text [] (Ok pipes)
  is_piped = (Ok (target core_parts limits), (Ok core_parts, is_program reading, (Ok limits, are_limits, refl)), (Ok fitted, is_fitted, refl))

  is_ready : IsReady text limits_text (scene_text 69426392 1) [] (Ok (ready pipes scene))
  is_ready = (Ok pipes, is_piped, (Ok scene, is_scenario, refl))

  pub bench_is : BenchAnswers 69426392 1 [] (Ok line)
  bench_is = answered (ready pipes scene) line is_ready (line_of (network_of (ready pipes scene)) refl)
