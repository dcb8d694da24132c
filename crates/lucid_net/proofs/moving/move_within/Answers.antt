use Rattle.std.proofs.Common.{Option, rules, ap, sym, ◌∙◌}
use Rattle.lucid_net_laws.specs.Rows.{Rows, rows_in}
use Rattle.lucid_pipe.specs.Packets.{Packet}
use Rattle.lucid_pipe.specs.Pipe.{packet_at}
use Rattle.lucid_net.proofs.Went.{none_there, stays, stuck_none, went_within}
use Rattle.lucid_net.proofs.moving.move_within.Goals as goal

pub returns-then-not-slot-clause-moved : goal.returns-then-not-slot-clause-moved
returns-then-not-slot-clause-moved c =
    let here = none_there (packet_at c.args.pipe.now c.args.k) (sym c.slot.ensures ∙ c.if-not-slot.true) in
    sym (ap (λ (l : Rows × Option Packet). l.0) (stays c.args.pipe.now c.args.k c.places_fall.ensures.long here c.requires.free))

pub returns-in-Ok-clause-moved : goal.returns-in-Ok-clause-moved
returns-in-Ok-clause-moved c =
    went_within c.args.placed.now c.args.pipe.now c.requires.same c.moves_as_rows.ensures c.places_fall.ensures.long c.go_within.new.self c.args.k c.go_within.result c.in-Ok.field-0 (search rules) c.requires.free
    c.go_within.ensures.empty c.in-Ok.ensures.goes

pub returns-in-Err-clause-moved : goal.returns-in-Err-clause-moved
returns-in-Err-clause-moved c =
    let here = stuck_none c.args.pipe.now c.args.k c.go_within.result c.in-Err.field-0 (search rules) c.requires.free c.go_within.ensures.empty c.go_within.ensures.ahead in
    ap rows_in c.in-Err.ensures.stuck ∙ sym (ap (λ (l : Rows × Option Packet). l.0) (stays c.args.pipe.now c.args.k c.places_fall.ensures.long here c.requires.free))
