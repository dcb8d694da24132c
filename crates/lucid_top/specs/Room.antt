-- When a command has no place for a node.
use Rattle.std.specs.Prelude.{◌≡◌, ℕ, List, [], Err, Ok, Some, IfSome, map}
use Rattle.lucid_conf.specs.declared.limits.Limits.{Limits}
use Rattle.lucid_core.specs.Parts.{CoreParts}
use Rattle.lucid_gen.specs.Limits.{limits_text}
use Rattle.lucid_gen.specs.Program.{program_text}
use Rattle.lucid_layout.specs.Fit.{NoRoom}
use Rattle.lucid_stages.specs.NodeWorks.{works}
use Rattle.lucid_top.specs.Answer.{CommandAnswers, Given, Question, given, text, told_texts}
use Rattle.lucid_top_fit.specs.Fit.{composed}
use Rattle.lucid_top_fit.specs.Passes.{KeepNodes, PassView}
use Rattle.lucid_top_program.specs.Program.{IsProgram}
use Rattle.lucid_top_program.specs.Settings.{IsLimits}
use Rattle.lucid_top_words.specs.Command.{command_of}
use Rattle.lucid_top_words.specs.declared.command.Command.{Command}
use Rattle.lucid_top_words.specs.declared.command.Command.TheVariants as command
use Rattle.lucid_top_words.specs.declared.no_fit.NoFit.TheVariants as fit
use Rattle.lucid_top_words.specs.declared.refusal.Refusal.TheVariants as refusal
use Rattle.lucid_top_words.specs.Words.{Bytes}

-- The text of the program of a command, and that of its limits.
abbrev pub program_in : Command → Given → Bytes
program_in (command.Bench seed n) g = program_text seed
program_in c g = text 0 g

abbrev pub limits_in : Command → Given → Bytes
limits_in (command.Bench seed n) g = limits_text
limits_in c g = text 1 g

-- The limits of this text leave no room for the node.
abbrev pub LacksRoom : CoreParts → List PassView → ℕ → Bytes → Type 0
LacksRoom core passes i text = (limits : Limits) × IsLimits text (Ok limits) × (let code = (composed core passes).code in NoRoom code.ops limits [] (works code.ops) i)

-- So do the limits of a command, in the code of its program.
abbrev pub CommandLacksRoom : Command → Given → ℕ → Type 0
CommandLacksRoom c g i = (core : CoreParts) × IsProgram (program_in c g) (Ok core) × LacksRoom core g.passes i (limits_in c g)

-- If the passes keep each node after its reads, a command answers that a node has no place only if they do.
abbrev pub CommandsLackRoom : Type 0
CommandsLackRoom =
    (c : Command) (g : Given) → KeepNodes (map PassView.gives g.passes) → (i : ℕ) → CommandAnswers c g (Err (refusal.NoFit (fit.Node i))) → CommandLacksRoom c g i

-- So do those of the command of the words, over the texts of its files: their contents, if these are specified.
abbrev pub CallLacksRoom : Question → ℕ → Type 0
CallLacksRoom q i =
    (c : Command) × (command_of q.words ≡ Some c) × (texts : List Bytes) × IfSome (told_texts q) (λ told. told ≡ Ok texts) × CommandLacksRoom c (given q texts) i
