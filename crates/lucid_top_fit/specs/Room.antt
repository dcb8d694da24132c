-- When first fit refuses a node of an accepted program: only where no place has room for it.
use Rattle.std.specs.Prelude.{ℕ, ◌<◌, ◌^◌, List, [], All, Err, map}
use Rattle.lucid_conf.specs.declared.limits.Limits.{Limits}
use Rattle.lucid_core.specs.Parts.{CoreParts}
use Rattle.lucid_core.specs.Valid.{IsValid}
use Rattle.lucid_effects_spec.specs.Order.{IsAccepted}
use Rattle.lucid_layout.specs.Fit.{NoRoom}
use Rattle.lucid_stages.specs.NodeWorks.{works}
use Rattle.lucid_top_fit.specs.Fit.{IsFitted, composed}
use Rattle.lucid_top_fit.specs.Passes.{KeepNodes, PassView}
use Rattle.lucid_top_words.specs.declared.no_fit.NoFit.TheVariants as fit
use Rattle.lucid_top_words.specs.declared.refusal.Refusal.TheVariants as refusal

-- If the passes keep each node after its reads, a node is refused only because no place has room for it: the nodes before it are in their
-- least places, and after them no place has room for it.
abbrev pub RefusedForRoom : CoreParts → Type 0
RefusedForRoom core =
    (limits : Limits) (passes : List PassView) → KeepNodes (map PassView.gives passes) → (i : ℕ) → IsFitted core limits passes (Err (refusal.NoFit (fit.Node i))) →
    let code = (composed core passes).code in NoRoom code.ops limits [] (works code.ops) i

-- This holds for every program that is valid and accepted, and whose events have 32 bits.
abbrev pub ProgramsLackRoom : Type 0
ProgramsLackRoom = (core : CoreParts) → IsValid core → IsAccepted core → All (λ h. h.event < 2 ^ 32) core.handlers → RefusedForRoom core
