-- Both commands set up the same network.
use Rattle.std.proofs.Common.{◌≡◌, ◌∙◌, ◌≤◌, ◌∷◌, ◌&&◌, ℕ, Bool, true, false, List, [], Option, None, Some, Result, Ok, Err, ap, arith, if◌then◌else◌, length, nat_le, option_map, refl, subst, sym}
use Rattle.std.proofs.lemmas.Bool.{le-ltb, leb-true}
use Rattle.std.specs.Prelude.{nat_lt, option_and_then}
use Rattle.lucid_gen.specs.Limits.{limits_text}
use Rattle.lucid_gen.specs.Program.{program_text}
use Rattle.lucid_gen.specs.Scene.{scene_text}
use Rattle.lucid_log_tally.specs.Bench.{bench_line}
use Rattle.lucid_net_spec.specs.Log.{log}
use Rattle.lucid_top.specs.Answer.{Answers, AnswersTo, OverTexts, command_files, given, told_texts}
use Rattle.lucid_top.specs.Generated.{BenchAnswers}
use Rattle.lucid_top.specs.Pipes.{Ready, network_of}
use Rattle.lucid_top.specs.RunPipe.{RunPipeAnswers}
use Rattle.lucid_top_fit.specs.Passes.{PassView}
use Rattle.lucid_top_laws.proofs.TextLengths.{program_short, scene_short}
use Rattle.lucid_top_laws.specs.Summaries.{AreGenerated, BenchSummarizes, Summarizes, bench_question, run_question, summarized}
use Rattle.lucid_top_words.specs.Command.{command_of, limits_file, program_file, scenario_file}
use Rattle.lucid_top_words.specs.declared.command.Command.{Command}
use Rattle.lucid_top_words.specs.declared.command.Command.TheVariants as command
use Rattle.lucid_top_words.specs.declared.command.NamedFile.{NamedFile}
use Rattle.lucid_top_words.specs.declared.refusal.Refusal.{Refusal}
use Rattle.lucid_top_words.specs.Files.{Texts, contents, held_with}
use Rattle.lucid_top_words.specs.Outcome.{After, Outcome}
use Rattle.lucid_top_words.specs.Views.{Held}
use Rattle.lucid_top_words.specs.Words.{Bytes, count_of, number_of}

-- ---- the words and the files

-- A word writes at most 10,000 events.
chosen : (one few : Bool) (m n : ℕ) → ◌≡◌ {A = Option ℕ} (if one && few then Some m else None) (Some n) → (few ≡ true) × (m ≡ n)
chosen true true m n is = (refl, cc)
chosen true false m n is = absurd (cc)
chosen false few m n is = absurd (cc)

counted : (o : Option ℕ) (n : ℕ) → option_and_then (λ m. if nat_le 1 m && nat_le m 10000 then Some m else None) o ≡ Some n → n ≤ 10000
counted None n is = absurd (cc)
counted (Some m) n is = let way = chosen (nat_le 1 m) (nat_le m 10000) m n is in subst (λ k. k ≤ 10000) way.1 (leb-true m 10000 way.0)

-- A file that is short enough is taken whole.
taken : (file : NamedFile) (held : Option Bytes) (text : Bytes) (others : List Bytes) → held ≡ Some text → length text ≤ file.limit →
    held_with file held (Some (Ok others)) ≡ Some (Ok (text ∷ others))
taken file held text others is short = let within : nat_lt file.limit (length text) ≡ false = le-ltb file.limit (length text) short in rw (is, within) refl

limits_short : length limits_text ≤ 1048576
limits_short = omega arith

-- ---- the end of the setup

module _ (s n : ℕ) where
  summary : (end : Result Ready Refusal) (o : Outcome) → After end (λ r p. p ≡ Ok (log (network_of r))) o →
      After end (λ r p. p ≡ Ok (bench_line s n (log (network_of r)))) (summarized s n o)
  summary (Ok r) o is = ap (summarized s n) is
  summary (Err r) o is = ap (summarized s n) is

  summary_of : (end : Result Ready Refusal) (o : Outcome) → After end (λ r p. p ≡ Ok (bench_line s n (log (network_of r)))) o →
      (p : Outcome) × After end (λ r q. q ≡ Ok (log (network_of r))) p × (o ≡ summarized s n p)
  summary_of (Ok r) o is = (Ok (log (network_of r)), refl, is)
  summary_of (Err r) o is = (Err r, refl, is)

-- ---- both questions

module _ (held : Held) (passes : List PassView) (seed events p l t : Bytes) (s n : ℕ) (are : AreGenerated held seed events p l t s n) where
  abbrev texts : List Bytes
  texts = program_text s ∷ limits_text ∷ scene_text s n ∷ []

  few : n ≤ 10000
  few = counted (number_of events) n are.writes_events

  told : told_texts (run_question held passes p l t) ≡ Some (Ok texts)
  told =
      ap (λ (r : Option Texts). held_with (program_file 2) (held p) (held_with (limits_file 3) (held l) r))
      (taken (scenario_file 4) (held t) (scene_text s n) [] are.scene (scene_short s n few))
      ∙ ap (λ (r : Option Texts). held_with (program_file 2) (held p) r) (taken (limits_file 3) (held l) limits_text (scene_text s n ∷ []) are.limits limits_short)
      ∙ taken (program_file 2) (held p) (program_text s) (limits_text ∷ scene_text s n ∷ []) are.program (program_short s)

  asked : command_of (bench_question held passes seed events).words ≡ Some (command.Bench s n)
  asked =
      ap (λ (o : Option ℕ). option_and_then (λ m. option_map (λ k. command.Bench m k) (count_of events)) o) are.writes_seed
      ∙ ap (λ (o : Option ℕ). option_map (λ k. command.Bench s k) o) are.writes_events

  -- The answers of each question, by the texts that are told and by the command.
  abbrev run_by : Option Texts → Outcome → Type 0
  run_by ts o = OverTexts ts (λ xs. AnswersTo (Some command.RunPipe) (given (run_question held passes p l t) xs)) o

  abbrev bench_by : Option Command → Outcome → Type 0
  bench_by c o = let q = bench_question held passes seed events in OverTexts (contents held q.words (command_files c)) (λ xs. AnswersTo c (given q xs)) o

  each : (o : Outcome) → Answers (run_question held passes p l t) o → Answers (bench_question held passes seed events) (summarized s n o)
  each o is =
      let ran : RunPipeAnswers (program_text s) limits_text (scene_text s n) passes o = subst (λ (ts : Option Texts). run_by ts o) told is in
      let benched : BenchAnswers s n passes (summarized s n o) = (ran.0, ran.1, summary s n ran.0 o ran.2) in
      subst (λ (c : Option Command). bench_by c (summarized s n o)) (sym asked) benched

  only : (o : Outcome) → Answers (bench_question held passes seed events) o → (q : Outcome) × Answers (run_question held passes p l t) q × (o ≡ summarized s n q)
  only o is =
      let benched : BenchAnswers s n passes o = subst (λ (c : Option Command). bench_by c o) asked is in
      let found = summary_of s n benched.0 o benched.2 in
      let ran : RunPipeAnswers (program_text s) limits_text (scene_text s n) passes found.0 = (benched.0, benched.1, found.1) in
      (found.0, subst (λ (ts : Option Texts). run_by ts found.0) (sym told) ran, found.2)

  summarizes : Summarizes s n (run_question held passes p l t) (bench_question held passes seed events)
  summarizes = record { each = each; only = only }

pub bench_summarizes : BenchSummarizes
bench_summarizes held passes seed events p l t s n are = summarizes held passes seed events p l t s n are
