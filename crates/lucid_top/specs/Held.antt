-- The setup of commands as the code has it, and its invariants.
use Rattle.std.specs.Prelude.{◌≡◌, length}
use Rattle.lucid_conf.specs.Kept.{AreLimits, IsScene}
use Rattle.lucid_effects_spec.specs.Order.{IsAccepted}
use Rattle.lucid_stages.specs.Counts.{CountsFit}
use Rattle.lucid_normal_spec.specs.Stands.{StandsFor}
use Rattle.lucid_pass_spec.specs.Replace.{MayReplace}
use Rattle.lucid_top_fit.specs.Fit.{fit_view, made_view, normal_of}
use Rattle.lucid_top.specs.declared.commands.setup.Network.{Network}
use Rattle.lucid_top.specs.declared.commands.setup.Pipes.{Pipes}
use Rattle.lucid_top.specs.declared.commands.setup.Ready.{Ready}
use Rattle.lucid_top.specs.declared.commands.setup.Target.{Target}
use Rattle.lucid_top.specs.declared.commands.setup.Measured.{Measured}
use Rattle.lucid_top.specs.Pipes as seen
use Rattle.lucid_top.specs.Placed as placed

abbrev pub target_view : Target → seen.Target
target_view t = seen.target t.core t.limits

abbrev pub pipes_view : Pipes → seen.Piped
pipes_view p = seen.piped (target_view p.target) (fit_view p.fitted)

abbrev pub ready_view : Ready → seen.Ready
ready_view r = seen.ready (pipes_view r.pipes) r.scene

abbrev pub measured_view : Measured → placed.Measured
measured_view m = placed.measured (target_view m.target) (made_view m.made)

-- ---- invariants

pub record TargetKeeps (t : Target) : Type 0 where
  pub accepted : IsAccepted t.core
  pub limits : AreLimits t.limits

pub record NetworkKeeps (n : Network) : Type 0 where
  pub scene : IsScene n.target.core n.scene

-- the placed code represents the program, and meets the conditions of a pipeline of the target
pub record PipesKeep (p : Pipes) : Type 0 where
  pub limits : AreLimits p.target.limits
  pub stands : StandsFor p.fitted.placed.code p.target.core
  pub arrays : p.fitted.placed.code.arrays ≡ p.target.core.arrays
  pub stages : length p.fitted.placed.stages ≡ p.target.limits.stages

pub record ReadyKeeps (r : Ready) : Type 0 where
  pub pipes : PipesKeep r.pipes
  pub scene : IsScene r.pipes.target.core r.scene

-- the code may replace the program's normal form, and its counts keep their limits
pub record MeasuredKeeps (m : Measured) : Type 0 where
  pub limits : AreLimits m.target.limits
  pub replaces : MayReplace (normal_of m.target.core) m.made.code
  pub counts : CountsFit m.made.code m.target.limits
