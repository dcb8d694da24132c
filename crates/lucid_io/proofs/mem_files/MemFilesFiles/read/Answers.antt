use Rattle.lucid_io.proofs.FileCalls.{read_begun, read_bytes, read_cause, read_heard, read_held, read_later, read_no_other, read_others, read_quiet, read_untried}
use Rattle.lucid_io.proofs.mem_files.MemFilesFiles.read.Goals as goal

pub returns-clause-held : goal.returns-clause-held
returns-clause-held c = read_held c.args.self.now c.give.new.self c.give.new.room c.give.result c.give.ensures.ok c.give.ensures.err

pub returns-clause-begun : goal.returns-clause-begun
returns-clause-begun c = read_begun c.args.self.now c.give.new.self c.give.new.room c.give.result c.give.ensures.ok c.give.ensures.err

pub returns-clause-no_other : goal.returns-clause-no_other
returns-clause-no_other c = read_no_other c.args.self.now c.give.new.self c.give.new.room c.give.result c.give.ensures.ok c.give.ensures.err

pub returns-clause-heard : goal.returns-clause-heard
returns-clause-heard c = read_heard c.args.self.now c.give.new.self c.give.new.room c.give.result c.give.ensures.ok c.give.ensures.err

pub returns-clause-untried : goal.returns-clause-untried
returns-clause-untried c = read_untried c.args.self.now c.give.new.self c.give.new.room c.give.result c.give.ensures.ok c.give.ensures.err

pub returns-clause-later : goal.returns-clause-later
returns-clause-later c = read_later c.args.self.now c.give.new.self c.give.new.room c.give.result c.give.ensures.ok c.give.ensures.err

pub returns-clause-quiet : goal.returns-clause-quiet
returns-clause-quiet c = read_quiet c.args.self.now c.give.new.self c.give.new.room c.give.result c.give.ensures.ok

pub returns-clause-cause : goal.returns-clause-cause
returns-clause-cause c = read_cause c.args.self.now c.give.new.self c.give.new.room c.give.result c.give.ensures.err

pub returns-clause-others : goal.returns-clause-others
returns-clause-others c = read_others c.args.self.now c.give.new.self c.give.new.room c.give.result c.give.ensures.ok c.give.ensures.err

pub returns-clause-bytes : goal.returns-clause-bytes
returns-clause-bytes c =
    read_bytes c.args.self.now c.give.new.self c.give.new.room c.give.result c.args.room.now c.give.ensures.count c.give.ensures.room c.give.auto.room c.give.ensures.ok c.give.ensures.err
