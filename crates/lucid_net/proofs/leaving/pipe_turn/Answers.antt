use Rattle.std.proofs.lemmas.Grind.{common_steps}
use Rattle.std.proofs.Common.{◌≡◌, ◌+◌, ℕ, List, Option, Err, ap, ap₂, sym, ◌∙◌, subst, IfSome, arith}
use Rattle.std.specs.List.{find}
use Rattle.lucid_code.specs.Inputs.{IsInput}
use Rattle.lucid_io.specs.Puts.{PutsAll}
use Rattle.lucid_net_laws.specs.Flying.{one_if, packet_for}
use Rattle.lucid_net_laws.specs.PipeStages.{stages_of}
use Rattle.lucid_net_laws.specs.Runs.{losses_by, made_by, text_by}
use Rattle.lucid_net_spec.specs.Log.{put_all}
use Rattle.lucid_net_spec.specs.Ways.{Run}
use Rattle.lucid_net_laws.specs.Rows.{Rows, rows_in}
use Rattle.lucid_pipe_laws.specs.Moves.{entered_by}
use Rattle.lucid_queue.specs.Waiting.{is_ready, without_first}
use Rattle.lucid_queue.specs.declared.pending.Pending.{Pending}
use Rattle.lucid_tables.specs.Placed.{PlacedParts}
use Rattle.lucid_net.specs.Leaving.{Fits, KeptAfter, KeptBefore, left, waits}
use Rattle.lucid_net.specs.Sent.{net_of}
use Rattle.lucid_net.specs.Writes.{Writes}
use Rattle.lucid_net.proofs.Leaver.{kept_popped, moved_free}
use Rattle.lucid_net.proofs.leaving.pipe_turn.Goals as goal

pub let_in-requires-clause-free : goal.let_in-requires-clause-free
let_in-requires-clause-free g c = moved_free c.args.pipe.now c.move_on.new.pipe c.move_on.ensures.long c.move_on.ensures.moved

pub returns-in-Ok-clause-kept : goal.returns-in-Ok-clause-kept
returns-in-Ok-clause-kept g c =
    kept_popped c.args.world.now.core.now (left c.args.pipe.now.placed (rows_in c.args.pipe.now)) (is_ready c.args.switch c.args.tick) c.leave_any.new.queue c.let_in.new.queue
    (subst (λ (o : Option Run). IfSome o (λ run. KeptAfter c.args.world.now.core.now run c.leave_any.new.queue)) c.move_on.ensures.left c.in-Ok.ensures.kept)
    c.let_in.ensures.queue

pub leave_any-requires-clause-fits : goal.leave_any-requires-clause-fits
leave_any-requires-clause-fits g c =
    subst (λ (o : Option Run). IfSome o (Fits c.args.world.now.core.now)) (sym c.move_on.ensures.left) c.requires.fits

pub leave_any-requires-clause-kept : goal.leave_any-requires-clause-kept
leave_any-requires-clause-kept g c =
    subst (λ (o : Option Run). IfSome o (λ run. KeptBefore c.args.world.now.core.now run c.args.queue.now)) (sym c.move_on.ensures.left) c.requires.kept

pub let_in-requires-clause-same : goal.let_in-requires-clause-same
let_in-requires-clause-same g c = c.move_on.ensures.placed ∙ c.requires.same

pub returns-in-Ok-clause-entered : goal.returns-in-Ok-clause-entered
returns-in-Ok-clause-entered g c =
    c.let_in.ensures.entered
    ∙ ap₂ (λ (n : ℕ) (q : List Pending). n + one_if (find (is_ready c.args.switch c.args.tick) q)) c.in-Ok.ensures.entered
    (c.in-Ok.ensures.queue ∙ ap (λ (o : Option Run). put_all (made_by (net_of c.args.world.now) o) c.args.queue.now) c.move_on.ensures.left)

pub returns-in-Ok-clause-queue : goal.returns-in-Ok-clause-queue
returns-in-Ok-clause-queue g c =
    c.let_in.ensures.queue
    ∙ ap (λ (q : List Pending). without_first (is_ready c.args.switch c.args.tick) q)
    (c.in-Ok.ensures.queue ∙ ap (λ (o : Option Run). put_all (made_by (net_of c.args.world.now) o) c.args.queue.now) c.move_on.ensures.left)

pub returns-in-Ok-clause-lost : goal.returns-in-Ok-clause-lost
returns-in-Ok-clause-lost g c =
    c.let_in.ensures.lost ∙ c.in-Ok.ensures.lost
    ∙ ap (λ (o : Option Run). c.args.counts.now.lost + losses_by (net_of c.args.world.now) o) c.move_on.ensures.left

pub returns-in-Ok-clause-rows : goal.returns-in-Ok-clause-rows
returns-in-Ok-clause-rows g c =
    let placed = c.args.pipe.now.placed in
    let at : ℕ = c.args.tick in
    let all : List Pending = waits (net_of c.args.world.now) placed (rows_in c.args.pipe.now) c.args.queue.now in
    let same : c.leave_any.new.queue ≡ all =
    c.in-Ok.ensures.queue ∙ ap (λ (o : Option Run). put_all (made_by (net_of c.args.world.now) o) c.args.queue.now) c.move_on.ensures.left in
    c.let_in.ensures.rows
    ∙ ap (λ (p : PlacedParts). entered_by (packet_for (stages_of p) at c.args.switch (find (is_ready c.args.switch at) c.leave_any.new.queue)) (rows_in c.move_on.new.pipe)) c.move_on.ensures.placed
    ∙ ap (λ (q : List Pending). entered_by (packet_for (stages_of placed) at c.args.switch (find (is_ready c.args.switch at) q)) (rows_in c.move_on.new.pipe)) same
    ∙ ap (λ (r : Rows). entered_by (packet_for (stages_of placed) at c.args.switch (find (is_ready c.args.switch at) all)) r) c.move_on.ensures.moved

pub returns-in-Ok-clause-writes : goal.returns-in-Ok-clause-writes
returns-in-Ok-clause-writes g c =
    subst (λ (o : Option Run). PutsAll g.S.Sink.written g.S.Sink.faults c.args.sink.now c.leave_any.new.sink (text_by (net_of c.args.world.now) o)) c.move_on.ensures.left c.in-Ok.ensures.writes

pub returns-in-Err-clause-writes : goal.returns-in-Err-clause-writes
returns-in-Err-clause-writes g c =
    subst (λ (o : Option Run). Writes g.S.Sink.written g.S.Sink.faults c.args.sink.now c.leave_any.new.sink (text_by (net_of c.args.world.now) o) (Err c.in-Err.error)) c.move_on.ensures.left c.in-Err.ensures.writes

pub returns-in-Err-clause-memory : goal.returns-in-Err-clause-memory
returns-in-Err-clause-memory g c = λ is none. c.in-Err.ensures.memory is (ap (made_by (net_of c.args.world.now)) c.move_on.ensures.left ∙ none)

pub let_in-requires-clause-input : goal.let_in-requires-clause-input
let_in-requires-clause-input g c =
    let all : List Pending = waits (net_of c.args.world.now) c.args.pipe.now.placed (rows_in c.args.pipe.now) c.args.queue.now in
    let same : c.leave_any.new.queue ≡ all =
    c.in-Ok.ensures.queue ∙ ap (λ (o : Option Run). put_all (made_by (net_of c.args.world.now) o) c.args.queue.now) c.move_on.ensures.left in
    subst (λ (p : PlacedParts). IfSome (find (is_ready c.args.switch c.args.tick) c.leave_any.new.queue) (λ q. IsInput p.code c.args.switch q.event)) (sym c.move_on.ensures.placed)
    (subst (λ (q : List Pending). IfSome (find (is_ready c.args.switch c.args.tick) q) (λ p. IsInput c.args.pipe.now.placed.code c.args.switch p.event)) (sym same) c.requires.input)

pub move_on-requires-clause-same : goal.move_on-requires-clause-same
move_on-requires-clause-same g c = grind (arith, common_steps)

pub move_on-requires-clause-some : goal.move_on-requires-clause-some
move_on-requires-clause-some g c = grind (arith, common_steps)

pub leave_any-requires-clause-room : goal.leave_any-requires-clause-room
leave_any-requires-clause-room g c = grind (arith, common_steps)

pub let_in-requires-clause-long : goal.let_in-requires-clause-long
let_in-requires-clause-long g c = grind (arith, common_steps)

pub let_in-requires-clause-room : goal.let_in-requires-clause-room
let_in-requires-clause-room g c = grind (arith, common_steps)

pub is_of-requires : goal.is_of-requires
is_of-requires g c = grind (arith, common_steps)

pub returns-in-Ok-clause-of : goal.returns-in-Ok-clause-of
returns-in-Ok-clause-of g c = grind (arith, common_steps)

pub returns-in-Ok-clause-memory : goal.returns-in-Ok-clause-memory
returns-in-Ok-clause-memory g c = grind (arith, common_steps)
