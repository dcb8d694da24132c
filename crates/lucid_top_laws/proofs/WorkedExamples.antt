-- First fit of the program `event e();`, and its pipelines.
use Rattle.std.proofs.Common.{Ok, [], arith, refl}
use Rattle.lucid_layout.specs.Layout.{IsLayout}
use Rattle.lucid_tables.specs.Placed.{PlacedParts}
use Rattle.lucid_layout.specs.Layout.{stages_of}
use Rattle.lucid_size.specs.Expansion.{ExpandsTo}
use Rattle.lucid_top.specs.Pipes.{IsPiped, IsReady, Piped, Ready, piped, ready, target}
use Rattle.lucid_top_fit.specs.Fit.{Fit, HasNormal, IsFitted, composed, fit_of}
use Rattle.lucid_top_laws.proofs.Declares.{core, text, tree, worked}
use Rattle.lucid_top_laws.proofs.Entering as entering
use Rattle.lucid_top_laws.proofs.Programs.{is_program}
use Rattle.lucid_top_laws.proofs.Settings.{are_limits, limits}
use Rattle.lucid_top_laws.specs.declared.worked.TheConstants.{TOKENS}
use Rattle.std.specs.Prelude.{codes}

abbrev placed : PlacedParts
placed = record { code = (composed core []).code; stages = stages_of (composed core []).code limits [] }

abbrev pub fitted : Fit
fitted = fit_of [] placed

pub has_normal : HasNormal core
has_normal = record { ops = omega arith; size = omega arith }

is_layout : IsLayout (composed core []).code limits placed
is_layout = record {
  counts = record { ops = omega arith; bits = omega arith; arms = λ g less. absurd (omega (arith, less)) };
  code_is = refl;
  fit = ([], tt, refl);
}

is_fitted : IsFitted core limits [] (Ok fitted)
is_fitted = (Ok (composed core []), (has_normal, refl), (Ok placed, is_layout, refl))

abbrev pub pipes : Piped
pipes = piped (target core limits) fitted

abbrev pub network : Ready
network = ready pipes entering.scene

pub is_piped : ExpandsTo text TOKENS text → IsPiped text (codes "{}") [] (Ok pipes)
is_piped expands =
    (Ok (target core limits), (Ok core, is_program text TOKENS tree core worked expands, (Ok limits, are_limits, refl)), (Ok fitted, is_fitted, refl))

pub is_ready : ExpandsTo text TOKENS text → IsReady text (codes "{}") entering.text [] (Ok network)
is_ready expands = (Ok pipes, is_piped expands, (Ok entering.scene, entering.is_scenario, refl))
