use Rattle.std.specs.Fmt.{digits}
use Rattle.lucid_top_laws.proofs.TextsAnswers.{drive_answers, laid, laid_there, piped_answers, placed_answers, snap_answers}
use Rattle.lucid_top_laws.proofs.TextsRefusal.{is_refused}
use Rattle.lucid_top_laws.proofs.texts.steps_are_answered.Goals as goal

pub returns-clause-pipe : goal.returns-clause-pipe
returns-clause-pipe c passes four = piped_answers passes four c.declarations_are_read_as_spelled.ensures

pub returns-clause-drive : goal.returns-clause-drive
returns-clause-drive c passes four = drive_answers passes four c.declarations_are_read_as_spelled.ensures

pub returns-clause-snap : goal.returns-clause-snap
unfolding digits
returns-clause-snap c passes four = snap_answers passes four c.declarations_are_read_as_spelled.ensures

pub returns-clause-layout : goal.returns-clause-layout
returns-clause-layout c passes four = laid passes four c.declarations_are_read_as_spelled.ensures

pub returns-clause-audit : goal.returns-clause-audit
returns-clause-audit c passes four = laid_there passes four c.declarations_are_read_as_spelled.ensures

pub returns-clause-placed : goal.returns-clause-placed
returns-clause-placed c passes four = placed_answers passes four c.declarations_are_read_as_spelled.ensures

pub returns-clause-refused : goal.returns-clause-refused
returns-clause-refused c passes four = is_refused passes four c.declarations_are_read_as_spelled.ensures
