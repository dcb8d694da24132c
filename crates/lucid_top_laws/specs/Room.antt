-- When first fit refuses a node of an accepted program: only if no place has room for it.
use Rattle.std.specs.Prelude.{◌≡◌, ℕ, List, [], ◌∷◌, Ok, Err, map}
use Rattle.lucid_core.specs.Parts.{CoreParts}
use Rattle.lucid_pass_spec.specs.Dead.{alive}
use Rattle.lucid_pass_spec.specs.Direct.{direct}
use Rattle.lucid_pass_spec.specs.Looks.{copies, folded}
use Rattle.lucid_top.specs.Answer.{CommandAnswers, Given}
use Rattle.lucid_top.specs.Room.{LacksRoom, limits_in, program_in}
use Rattle.lucid_top_fit.specs.Passes.{KeepNodes, PassView}
use Rattle.lucid_top_program.specs.Program.{IsProgram}
use Rattle.lucid_top_words.specs.declared.command.Command.{Command}
use Rattle.lucid_top_words.specs.declared.no_fit.NoFit.TheVariants as fit
use Rattle.lucid_top_words.specs.declared.refusal.Refusal.TheVariants as refusal

-- The four passes of the program, in their order, keep each node after its reads.
abbrev pub OursKeepNodes : Type 0
OursKeepNodes = (passes : List PassView) → map (λ p. p.gives.makes) passes ≡ folded ∷ copies ∷ alive ∷ direct ∷ [] → KeepNodes (map PassView.gives passes)

-- If the passes keep each node after its reads, a command answers that a node has no place only because no place has room for it.
abbrev pub NodesLackRoom : Type 0
NodesLackRoom =
    (c : Command) (g : Given) → KeepNodes (map PassView.gives g.passes) → (core : CoreParts) → IsProgram (program_in c g) (Ok core) → (i : ℕ) →
    CommandAnswers c g (Err (refusal.NoFit (fit.Node i))) → LacksRoom core g.passes i (limits_in c g)
