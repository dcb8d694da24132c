-- Texts that are generated from a number: `gen KIND SEED N` writes one, and `bench SEED N` runs them on pipelines.
use Rattle.std.specs.Prelude.{◌≡◌, ℕ, List, Result, Ok}
use Rattle.lucid_gen.specs.Limits.{limits_text}
use Rattle.lucid_gen.specs.Program.{program_text}
use Rattle.lucid_gen.specs.Scene.{scene_text}
use Rattle.lucid_log_tally.specs.Bench.{bench_line}
use Rattle.lucid_net_spec.specs.Log.{log}
use Rattle.lucid_pipe.specs.declared.sight.Sight.{Sight}
use Rattle.lucid_top.specs.Pipes.{IsReady, network_of, sights_of}
use Rattle.lucid_top_fit.specs.Passes.{PassView}
use Rattle.lucid_top_words.specs.declared.command.GenKind.{GenKind}
use Rattle.lucid_top_words.specs.declared.command.GenKind.TheVariants as kind
use Rattle.lucid_top_words.specs.declared.refusal.Refusal.{Refusal}
use Rattle.lucid_top_words.specs.Outcome.{FollowedBy, Outcome}
use Rattle.lucid_top_words.specs.Words.{Bytes}

-- a generated text
abbrev pub gen_text : GenKind → ℕ → ℕ → Bytes
gen_text kind.Program seed n = program_text seed
gen_text kind.Limits seed n = limits_text
gen_text kind.Scene seed n = scene_text seed n

abbrev pub GenAnswers : GenKind → ℕ → ℕ → Outcome → Type 0
GenAnswers k seed n o = o ≡ Ok (gen_text k seed n)

-- the line that summarizes the log of `run pipe` over the generated texts
abbrev pub BenchAnswers : ℕ → ℕ → List PassView → Outcome → Type 0
BenchAnswers seed n passes o =
    FollowedBy (IsReady (program_text seed) limits_text (scene_text seed n) passes) (λ r p. p ≡ Ok (bench_line seed n (log (network_of r)))) o

abbrev pub BenchShows : ℕ → ℕ → List PassView → Result (List Sight) Refusal → Type 0
BenchShows seed n passes o = FollowedBy (IsReady (program_text seed) limits_text (scene_text seed n) passes) (λ r p. p ≡ Ok (sights_of r)) o
