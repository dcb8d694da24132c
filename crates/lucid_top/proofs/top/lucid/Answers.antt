use Rattle.std.proofs.Common.{arith}
use Rattle.std.proofs.lemmas.Grind.{common_steps}
use Rattle.lucid_top.proofs.Headlines.{make-same}
use Rattle.lucid_top.proofs.Laws as laws
use Rattle.lucid_top.proofs.TopLemmas.{ended-holding, ended-agrees}
use Rattle.lucid_top.proofs.RoomLemmas.{keep_views}
use Rattle.lucid_top.proofs.Runs.{ran-short, wrote-of}
use Rattle.lucid_top_words.proofs.Seen as seen
use Rattle.lucid_top.proofs.top.lucid.Goals as goal

pub returns-clause-whole : goal.returns-clause-whole
returns-clause-whole g c = λ contents agrees names texts hold a quiet unmet is.
    wrote-of g.W.Sink.written g.W.Sink.faults c.args.out.now c.call.new.out c.call.result _ (laws.whole-clause (ended-holding contents agrees c.call.ensures.ended) names texts hold a quiet unmet is)

pub returns-clause-pipe : goal.returns-clause-pipe
returns-clause-pipe g c = λ contents agrees names texts hold a f quiet unmet is.
    wrote-of g.W.Sink.written g.W.Sink.faults c.args.out.now c.call.new.out c.call.result _ (laws.pipe-clause (ended-holding contents agrees c.call.ensures.ended) (make-same (λ b. (goal.Pass-dyn g (b.vtable, b.value)).called b.value) (λ b. (goal.Pass-dyn g (b.vtable, b.value)).gives b.value) (λ b. (goal.Pass-dyn g (b.vtable, b.value)).count b.value) c.args.passes.now.items) names texts hold a f quiet unmet is)

pub returns-clause-drive : goal.returns-clause-drive
returns-clause-drive g c = λ contents agrees names texts hold a f quiet unmet is.
    wrote-of g.W.Sink.written g.W.Sink.faults c.args.out.now c.call.new.out c.call.result _ (laws.drive-clause (ended-holding contents agrees c.call.ensures.ended) (make-same (λ b. (goal.Pass-dyn g (b.vtable, b.value)).called b.value) (λ b. (goal.Pass-dyn g (b.vtable, b.value)).gives b.value) (λ b. (goal.Pass-dyn g (b.vtable, b.value)).count b.value) c.args.passes.now.items) names texts hold a f quiet unmet is)

pub returns-clause-placed : goal.returns-clause-placed
returns-clause-placed g c = λ contents agrees names texts hold placement text holds a audit quiet last unmet is.
    wrote-of g.W.Sink.written g.W.Sink.faults c.args.out.now c.call.new.out c.call.result _ (laws.placed-clause (ended-holding contents agrees c.call.ensures.ended) (make-same (λ b. (goal.Pass-dyn g (b.vtable, b.value)).called b.value) (λ b. (goal.Pass-dyn g (b.vtable, b.value)).gives b.value) (λ b. (goal.Pass-dyn g (b.vtable, b.value)).count b.value) c.args.passes.now.items) names texts hold placement text holds a audit quiet last unmet is)

pub returns-clause-snapped : goal.returns-clause-snapped
returns-clause-snapped g c = λ contents agrees names texts hold a f word steps number quiet unmet is.
    wrote-of g.W.Sink.written g.W.Sink.faults c.args.out.now c.call.new.out c.call.result _ (laws.snapped-clause (ended-holding contents agrees c.call.ensures.ended) (make-same (λ b. (goal.Pass-dyn g (b.vtable, b.value)).called b.value) (λ b. (goal.Pass-dyn g (b.vtable, b.value)).gives b.value) (λ b. (goal.Pass-dyn g (b.vtable, b.value)).count b.value) c.args.passes.now.items) names texts hold a f word steps number quiet unmet is)

pub returns-clause-shown_drive : goal.returns-clause-shown_drive
returns-clause-shown_drive g c = λ contents agrees. laws.shown_drive-clause (ended-holding contents agrees c.call.ensures.ended) (make-same (λ b. (goal.Pass-dyn g (b.vtable, b.value)).called b.value) (λ b. (goal.Pass-dyn g (b.vtable, b.value)).gives b.value) (λ b. (goal.Pass-dyn g (b.vtable, b.value)).count b.value) c.args.passes.now.items)

pub returns-clause-shown_placed : goal.returns-clause-shown_placed
returns-clause-shown_placed g c = λ contents agrees. laws.shown_placed-clause (ended-holding contents agrees c.call.ensures.ended) (make-same (λ b. (goal.Pass-dyn g (b.vtable, b.value)).called b.value) (λ b. (goal.Pass-dyn g (b.vtable, b.value)).gives b.value) (λ b. (goal.Pass-dyn g (b.vtable, b.value)).count b.value) c.args.passes.now.items)

pub returns-clause-shown_bench : goal.returns-clause-shown_bench
returns-clause-shown_bench g c = laws.shown_bench-clause c.call.ensures.ended (make-same (λ b. (goal.Pass-dyn g (b.vtable, b.value)).called b.value) (λ b. (goal.Pass-dyn g (b.vtable, b.value)).gives b.value) (λ b. (goal.Pass-dyn g (b.vtable, b.value)).count b.value) c.args.passes.now.items)

pub returns-clause-shown : goal.returns-clause-shown
returns-clause-shown g c = λ contents agrees. laws.shown-clause (ended-holding contents agrees c.call.ensures.ended) (make-same (λ b. (goal.Pass-dyn g (b.vtable, b.value)).called b.value) (λ b. (goal.Pass-dyn g (b.vtable, b.value)).gives b.value) (λ b. (goal.Pass-dyn g (b.vtable, b.value)).count b.value) c.args.passes.now.items)

pub returns-clause-status : goal.returns-clause-status
returns-clause-status g c = λ contents agrees. laws.status-clause (ended-holding contents agrees c.call.ensures.ended)

pub returns-clause-out : goal.returns-clause-out
returns-clause-out g c = λ contents agrees ok text asked. seen.all-of g.W.Sink.written g.W.Sink.faults c.args.out.now c.call.new.out text (laws.out-clause (ended-holding contents agrees c.call.ensures.ended) ok text asked)

pub returns-clause-err : goal.returns-clause-err
returns-clause-err g c = λ contents agrees determined r asked.
    let said = laws.err-clause (ended-holding contents agrees c.call.ensures.ended) determined r asked in
    (said.0, said.1, said.2, seen.line-of g.E.Sink.written g.E.Sink.faults c.args.err.now c.call.new.err _ said.3)

pub returns-clause-answered : goal.returns-clause-answered
returns-clause-answered g c = λ contents agrees. laws.answered-clause (ended-holding contents agrees c.call.ensures.ended)

pub returns-clause-complete : goal.returns-clause-complete
returns-clause-complete g c = λ contents agrees. laws.complete-clause (ended-holding contents agrees c.call.ensures.ended)

pub returns-clause-read_fault : goal.returns-clause-read_fault
returns-clause-read_fault g c = λ is.
    let file = laws.read_fault-clause c.call.ensures.ended is in
    (file.0, file.1, file.2, seen.line-of g.E.Sink.written g.E.Sink.faults c.args.err.now c.call.new.err _ file.3)

pub returns-clause-too_long : goal.returns-clause-too_long
returns-clause-too_long g c = λ is.
    let file = laws.too_long-clause c.call.ensures.ended is in
    (file.0, file.1, file.2, seen.line-of g.E.Sink.written g.E.Sink.faults c.args.err.now c.call.new.err _ file.3)

pub returns-clause-gave_more : goal.returns-clause-gave_more
returns-clause-gave_more g c = laws.gave_more-clause c.call.ensures.ended

pub returns-clause-write_fault : goal.returns-clause-write_fault
returns-clause-write_fault g c = laws.write_fault-clause c.call.ensures.ended

pub returns-clause-cut : goal.returns-clause-cut
returns-clause-cut g c = λ contents agrees is text asked. seen.part-of g.W.Sink.written g.W.Sink.faults c.args.out.now c.call.new.out text (laws.cut-clause (ended-holding contents agrees c.call.ensures.ended) is text asked)

pub returns-clause-memory : goal.returns-clause-memory
returns-clause-memory g c = λ contents agrees is text asked. seen.some-of g.W.Sink.written g.W.Sink.faults c.args.out.now c.call.new.out text (laws.memory-clause (ended-holding contents agrees c.call.ensures.ended) is text asked)

pub returns-clause-memory_pipe : goal.returns-clause-memory_pipe
returns-clause-memory_pipe g c = λ contents agrees names texts hold a f is memory.
    ran-short g.W.Sink.written g.W.Sink.faults c.args.out.now c.call.new.out _ (laws.memory_pipe-clause (ended-holding contents agrees c.call.ensures.ended) (make-same (λ b. (goal.Pass-dyn g (b.vtable, b.value)).called b.value) (λ b. (goal.Pass-dyn g (b.vtable, b.value)).gives b.value) (λ b. (goal.Pass-dyn g (b.vtable, b.value)).count b.value) c.args.passes.now.items) names texts hold a f is memory)

pub returns-clause-memory_placed : goal.returns-clause-memory_placed
returns-clause-memory_placed g c = λ contents agrees names texts hold placement text holds a audit is memory.
    ran-short g.W.Sink.written g.W.Sink.faults c.args.out.now c.call.new.out _ (laws.memory_placed-clause (ended-holding contents agrees c.call.ensures.ended) (make-same (λ b. (goal.Pass-dyn g (b.vtable, b.value)).called b.value) (λ b. (goal.Pass-dyn g (b.vtable, b.value)).gives b.value) (λ b. (goal.Pass-dyn g (b.vtable, b.value)).count b.value) c.args.passes.now.items) names texts hold placement text holds a audit is memory)

pub returns-clause-silent : goal.returns-clause-silent
returns-clause-silent g c = λ contents agrees. laws.silent-clause (ended-holding contents agrees c.call.ensures.ended)

pub returns-clause-grows : goal.returns-clause-grows
returns-clause-grows g c = laws.grows-clause c.call.ensures.ended

pub returns-clause-said : goal.returns-clause-said
returns-clause-said g c = λ not.
    let line = laws.said-clause c.call.ensures.ended not in
    (line.0, line.1, seen.line-of g.E.Sink.written g.E.Sink.faults c.args.err.now c.call.new.err _ line.2)

pub returns-clause-unsaid : goal.returns-clause-unsaid
returns-clause-unsaid g c = laws.unsaid-clause c.call.ensures.ended

pub returns-clause-room : goal.returns-clause-room
returns-clause-room g c = λ contents agrees keep is.
    let line = laws.room-clause (ended-holding contents agrees c.call.ensures.ended) c.commands_lack_room.ensures (keep_views (λ b. (goal.Pass-dyn g (b.vtable, b.value)).called b.value) (λ b. (goal.Pass-dyn g (b.vtable, b.value)).gives b.value) (λ b. (goal.Pass-dyn g (b.vtable, b.value)).count b.value) c.args.passes.now.items keep) is in
    (line.0, line.1, seen.line-of g.E.Sink.written g.E.Sink.faults c.args.err.now c.call.new.err _ line.2, line.3)

pub returns-clause-held : goal.returns-clause-held
returns-clause-held g c = laws.held-clause c.call.ensures.ended

pub returns-clause-quiet : goal.returns-clause-quiet
returns-clause-quiet g c = laws.quiet-clause c.call.ensures.ended

pub returns-clause-others : goal.returns-clause-others
returns-clause-others g c = c.call.ensures.others

pub returns-clause-passes : goal.returns-clause-passes
returns-clause-passes g c = laws.passes-clause c.call.ensures.ended

pub returns-clause-told : goal.returns-clause-told
returns-clause-told g c = laws.told-clause c.call.ensures.ended

pub returns-clause-unread : goal.returns-clause-unread
returns-clause-unread g c = c.call.ensures.unread

pub returns-clause-tries : goal.returns-clause-tries
returns-clause-tries g c = c.call.ensures.tries

pub returns-clause-ended : goal.returns-clause-ended
returns-clause-ended g c = grind (arith, common_steps)

pub returns-clause-agrees : goal.returns-clause-agrees
returns-clause-agrees g c = λ agrees. ended-agrees c.call.ensures.ended agrees

pub returns-clause-reads : goal.returns-clause-reads
returns-clause-reads g c = c.call.ensures.reads

pub returns-clause-begins : goal.returns-clause-begins
returns-clause-begins g c = laws.begins-clause c.call.ensures.ended

pub returns-clause-by_word : goal.returns-clause-by_word
returns-clause-by_word g c = λ texts long heard unmet text asked.
    wrote-of g.W.Sink.written g.W.Sink.faults c.args.out.now c.call.new.out c.call.result text (laws.by_word-clause c.call.ensures.ended texts long heard unmet text asked)

pub returns-clause-pipe_by_word : goal.returns-clause-pipe_by_word
returns-clause-pipe_by_word g c = λ names texts heard a f unmet is.
    wrote-of g.W.Sink.written g.W.Sink.faults c.args.out.now c.call.new.out c.call.result _ (laws.pipe_by_word-clause c.call.ensures.ended (make-same (λ b. (goal.Pass-dyn g (b.vtable, b.value)).called b.value) (λ b. (goal.Pass-dyn g (b.vtable, b.value)).gives b.value) (λ b. (goal.Pass-dyn g (b.vtable, b.value)).count b.value) c.args.passes.now.items) names texts heard a f unmet is)

pub returns-clause-safe : goal.returns-clause-safe
returns-clause-safe g c = λ names is ok.
    let wrote = laws.safe-clause c.call.ensures.ended names is ok in
    (wrote.0, wrote.1, wrote.2, seen.all-of g.W.Sink.written g.W.Sink.faults c.args.out.now c.call.new.out _ wrote.3)
