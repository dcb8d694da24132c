-- `bench SEED N` is `run pipe` over the texts that `gen` writes for this seed: its answer is the line that summarizes the log, or the same
-- refusal.
use Rattle.std.specs.Prelude.{◌≡◌, ℕ, List, [], ◌∷◌, Some, Ok, Err, codes}
use Rattle.lucid_conf.specs.declared.limits.Limits.{Limits}
use Rattle.lucid_conf.specs.declared.scene.Scene.{Scene}
use Rattle.lucid_core.specs.Parts.{CoreParts}
use Rattle.lucid_gen.specs.Limits.{limits_text}
use Rattle.lucid_gen.specs.Program.{program_text}
use Rattle.lucid_gen.specs.Scene.{scene_text}
use Rattle.lucid_log_tally.specs.Bench.{bench_line}
use Rattle.lucid_top.specs.Answer.{Answers, Question}
use Rattle.lucid_top.specs.Generated.{gen_text}
use Rattle.lucid_top_fit.specs.Passes.{PassView}
use Rattle.lucid_top_program.specs.Program.{IsRead}
use Rattle.lucid_top_program.specs.Settings.{IsLimits, IsScenario}
use Rattle.lucid_top_words.specs.declared.command.GenKind.TheVariants as kind
use Rattle.lucid_top_words.specs.Outcome.{Outcome}
use Rattle.lucid_top_words.specs.Views.{Held}
use Rattle.lucid_top_words.specs.Words.{Bytes, count_of, number_of}

-- `run pipe P L T`
abbrev pub run_question : Held → List PassView → Bytes → Bytes → Bytes → Question
run_question held passes p l t = record { words = codes "run" ∷ codes "pipe" ∷ p ∷ l ∷ t ∷ []; held = held; passes = passes }

-- `bench SEED N`
abbrev pub bench_question : Held → List PassView → Bytes → Bytes → Question
bench_question held passes seed events = record { words = codes "bench" ∷ seed ∷ events ∷ []; held = held; passes = passes }

-- These words write this seed and this number of events, and files of these names hold the texts that `gen program SEED N`,
-- `gen limits SEED N` and `gen scene SEED N` write.
pub record AreGenerated (held : Held) (seed events p l t : Bytes) (s n : ℕ) : Type 0 where
  pub writes_seed : number_of seed ≡ Some s
  pub writes_events : count_of events ≡ Some n
  pub program : held p ≡ Some (gen_text kind.Program s n)
  pub limits : held l ≡ Some (gen_text kind.Limits s n)
  pub scene : held t ≡ Some (gen_text kind.Scene s n)

-- the outcome of `bench` by that of `run pipe`
abbrev pub summarized : ℕ → ℕ → Outcome → Outcome
summarized s n (Ok log) = Ok (bench_line s n log)
summarized s n (Err r) = Err r

-- each answer of one question summarizes to an answer of the other, which has no more
pub record Summarizes (s n : ℕ) (run bench : Question) : Type 0 where
  pub each : (o : Outcome) → Answers run o → Answers bench (summarized s n o)
  pub only : (o : Outcome) → Answers bench o → (p : Outcome) × Answers run p × (o ≡ summarized s n p)

abbrev pub BenchSummarizes : Type 0
BenchSummarizes = (held : Held) (passes : List PassView) (seed events p l t : Bytes) (s n : ℕ) → AreGenerated held seed events p l t s n →
    Summarizes s n (run_question held passes p l t) (bench_question held passes seed events)

-- The texts of `bench` for this seed and this number of events: the program text is read as a program, and so are the limits and the
-- scenario.
pub record AreRead (seed n : ℕ) : Type 0 where
  pub core : CoreParts
  pub program : IsRead (program_text seed) (Ok core)
  pub limits : Limits
  pub within : IsLimits limits_text (Ok limits)
  pub scene : Scene
  pub runs : IsScenario core (scene_text seed n) (Ok scene)
