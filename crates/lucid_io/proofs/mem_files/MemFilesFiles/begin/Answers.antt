use Rattle.std.proofs.Common.{List, subst, sym, inr, refl}
use Rattle.lucid_io.specs.History.{Heard, IsAmong}
use Rattle.lucid_io.proofs.FileCalls.{begin_begun, begin_cause, begin_heard, begin_held, begin_later, begin_one, begin_others, begin_quiet}
use Rattle.lucid_io.proofs.mem_files.MemFilesFiles.begin.Goals as goal

pub returns-clause-held : goal.returns-clause-held
returns-clause-held c = begin_held c.args.self.now c.turn_to.new.self c.args.name.now c.turn_to.result c.turn_to.ensures.ok c.turn_to.ensures.err

pub returns-clause-heard : goal.returns-clause-heard
returns-clause-heard c = begin_heard c.args.self.now c.turn_to.new.self c.args.name.now c.turn_to.result c.turn_to.ensures.ok c.turn_to.ensures.err

pub returns-clause-begun : goal.returns-clause-begun
returns-clause-begun c = begin_begun c.args.self.now c.turn_to.new.self c.args.name.now c.turn_to.result c.turn_to.ensures.ok

pub returns-clause-one : goal.returns-clause-one
returns-clause-one c = begin_one c.args.self.now c.turn_to.new.self c.args.name.now c.turn_to.result c.turn_to.ensures.ok

pub returns-clause-later : goal.returns-clause-later
returns-clause-later c = begin_later c.args.self.now c.turn_to.new.self c.args.name.now c.turn_to.result c.turn_to.ensures.ok c.turn_to.ensures.err

pub returns-clause-quiet : goal.returns-clause-quiet
returns-clause-quiet c = begin_quiet c.args.self.now c.turn_to.new.self c.args.name.now c.turn_to.result c.turn_to.ensures.ok

pub returns-clause-cause : goal.returns-clause-cause
returns-clause-cause c = begin_cause c.args.self.now c.turn_to.new.self c.args.name.now c.turn_to.result c.turn_to.ensures.err

pub returns-clause-others : goal.returns-clause-others
returns-clause-others c = begin_others c.args.self.now c.turn_to.new.self c.args.name.now c.turn_to.result c.turn_to.ensures.ok c.turn_to.ensures.err

pub returns-clause-tried : goal.returns-clause-tried
returns-clause-tried c =
    subst (λ (all : List Heard). IsAmong c.args.name.now all)
    (sym (begin_heard c.args.self.now c.turn_to.new.self c.args.name.now c.turn_to.result c.turn_to.ensures.ok c.turn_to.ensures.err)) (inr refl)

pub returns-clause-no_other : goal.returns-clause-no_other
returns-clause-no_other c = λ other among.
    subst (λ (all : List Heard). IsAmong other all)
    (begin_heard c.args.self.now c.turn_to.new.self c.args.name.now c.turn_to.result c.turn_to.ensures.ok c.turn_to.ensures.err) among
