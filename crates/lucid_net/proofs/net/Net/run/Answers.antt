use Rattle.std.proofs.lemmas.Grind.{common_steps}
use Rattle.std.proofs.Common.{refl, subst, List, ℕ, rules, arith}
use Rattle.lucid_io.proofs.Leaves.{Leaves-whole, Leaves-after}
use Rattle.lucid_net_laws.specs.Runs.{late_text}
use Rattle.lucid_net_spec.specs.Log.{log}
use Rattle.lucid_net_spec.specs.Pieces.{pieces}
use Rattle.lucid_net.specs.Seen.{lag, last_text, network}
use Rattle.lucid_net.specs.Writes.{Writes}
use Rattle.lucid_net.proofs.Running.{log_is, same_last}
use Rattle.lucid_net.proofs.Telling.{Writes-last, Writes-stop}
use Rattle.lucid_net.proofs.net.Net.run.Goals as goal

pub returns-in-Err-clause-log : goal.returns-in-Err-clause-log
returns-in-Err-clause-log g c =
    let net = network c.args.self in
    let late = lag c.args.self in
    Writes-stop g.S.Sink.written g.S.Sink.faults c.args.sink.now c.args.sink.now c.all_ticks.new.sink (log net) (log net) (pieces (late_text net late) 0 net.scene.stop) (last_text net late)
    _ c.in-Err.error refl Leaves-whole c.in-Err.ensures.writes (log_is net late)

pub returns-in-Ok-clause-log : goal.returns-in-Ok-clause-log
returns-in-Ok-clause-log g c =
    let net = network c.args.self in
    let late = lag c.args.self in
    Writes-last g.S.Sink.written g.S.Sink.faults c.args.sink.now c.all_ticks.new.sink c.drain.new.sink (log net) (last_text net late) c.drain.result
    (Leaves-after Leaves-whole c.in-Ok.ensures.writes (log_is net late))
    (subst (λ (l : List ℕ). Writes g.S.Sink.written g.S.Sink.faults c.all_ticks.new.sink c.drain.new.sink l c.drain.result)
    (same_last c.args.self c.all_ticks.new.net c.all_ticks.ensures.same) c.drain.ensures.writes)

pub returns-in-Err-clause-memory : goal.returns-in-Err-clause-memory
returns-in-Err-clause-memory g c = search rules

pub all_ticks-requires-clause-begins : goal.all_ticks-requires-clause-begins
all_ticks-requires-clause-begins g c = grind (arith, common_steps)

pub all_ticks-requires-clause-sound : goal.all_ticks-requires-clause-sound
all_ticks-requires-clause-sound g c = grind (arith, common_steps)

pub drain-requires-clause-done : goal.drain-requires-clause-done
drain-requires-clause-done g c = grind (arith, common_steps)

pub drain-requires-clause-sound : goal.drain-requires-clause-sound
drain-requires-clause-sound g c = grind (arith, common_steps)

pub returns-in-Ok-clause-sights : goal.returns-in-Ok-clause-sights
returns-in-Ok-clause-sights g c = grind (arith, common_steps)

pub returns-in-Ok-clause-still : goal.returns-in-Ok-clause-still
returns-in-Ok-clause-still g c = grind (arith, common_steps)

pub returns-in-Ok-clause-memory : goal.returns-in-Ok-clause-memory
returns-in-Ok-clause-memory g c = grind (arith, common_steps)

pub returns-in-Err-clause-sights : goal.returns-in-Err-clause-sights
returns-in-Err-clause-sights g c = grind (arith, common_steps)

pub returns-in-Err-clause-still : goal.returns-in-Err-clause-still
returns-in-Err-clause-still g c = grind (arith, common_steps)
