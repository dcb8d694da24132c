-- Which parts are a valid core, and which a valid flat core. Each rule is a test of its own, in the file of its name.
use Rattle.std.specs.Prelude.{◌≡◌, [], IsTrue}
use Rattle.lucid_core.specs.Parts.{CoreParts}
use Rattle.lucid_core.specs.Assigned.{reads_follow_assignments}
use Rattle.lucid_core.specs.Events.{events_and_handlers_agree}
use Rattle.lucid_core.specs.Syntax.{has_core_syntax, has_flat_syntax}
use Rattle.lucid_core.specs.Limits.{declarations_keep_limits, bodies_keep_limits}
use Rattle.lucid_core.specs.Names.{names_are_there}
use Rattle.lucid_core.specs.Numbered.{declarations_are_numbered}
use Rattle.lucid_core.specs.OutCount.{outs_are_few}
use Rattle.lucid_core.specs.Returns.{returns_stand_last}
use Rattle.lucid_core.specs.Texts.{texts_are_filled}
use Rattle.lucid_core.specs.Typing.{widths_agree}
use Rattle.lucid_core.specs.Uses.{locals_are_assigned, inlined_keep_to_themselves}

-- The rules for both.
pub record IsSound (parts : CoreParts) : Type 0 where
  pub names : IsTrue (names_are_there parts)
  pub events : IsTrue (events_and_handlers_agree parts)
  pub widths : IsTrue (widths_agree parts)
  pub returns : IsTrue (returns_stand_last parts)
  pub outs : IsTrue (outs_are_few parts)
  pub assigned : IsTrue (locals_are_assigned parts)
  pub reads : IsTrue (reads_follow_assignments parts)
  pub declarations : IsTrue (declarations_keep_limits parts)
  pub bodies : IsTrue (bodies_keep_limits parts)
  pub texts : IsTrue (texts_are_filled parts)
  pub numbered : IsTrue (declarations_are_numbered parts)

-- A valid core.
pub record IsValid (parts : CoreParts) : Type 0 where
  pub sound : IsSound parts
  pub syntax : IsTrue (has_core_syntax parts)

-- A valid flat core.
pub record IsValidFlat (parts : CoreParts) : Type 0 where
  pub sound : IsSound parts
  pub syntax : IsTrue (has_flat_syntax parts)
  pub no_functions : parts.funs ≡ []
  pub inlined : IsTrue (inlined_keep_to_themselves parts)
