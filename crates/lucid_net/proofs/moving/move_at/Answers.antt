use Rattle.std.proofs.Common.{Option, rules, ap, sym, ◌∙◌}
use Rattle.std.specs.Option.{option_map}
use Rattle.lucid_net_laws.specs.Rows.{Rows, rows_in}
use Rattle.lucid_net_laws.specs.PipeStages.{run_of_packet}
use Rattle.lucid_pipe.specs.Packets.{Packet}
use Rattle.lucid_net.proofs.Went.{stays, stuck_none, went}
use Rattle.lucid_net.proofs.moving.move_at.Goals as goal

pub returns-in-Ok-clause-moved : goal.returns-in-Ok-clause-moved
returns-in-Ok-clause-moved c =
    (went c.args.placed.now c.args.pipe.now c.requires.same c.moves_as_rows.ensures c.places_fall.ensures.long c.go_into.new.self c.go_into.new.out c.args.k c.go_into.result c.in-Ok.field-0 (search rules) c.requires.free c.go_into.ensures.empty
    c.in-Ok.ensures.goes c.in-Ok.ensures.out).0

pub returns-in-Ok-clause-left : goal.returns-in-Ok-clause-left
returns-in-Ok-clause-left c =
    (went c.args.placed.now c.args.pipe.now c.requires.same c.moves_as_rows.ensures c.places_fall.ensures.long c.go_into.new.self c.go_into.new.out c.args.k c.go_into.result c.in-Ok.field-0 (search rules) c.requires.free c.go_into.ensures.empty
    c.in-Ok.ensures.goes c.in-Ok.ensures.out).1

pub returns-in-Err-clause-moved : goal.returns-in-Err-clause-moved
returns-in-Err-clause-moved c =
    let here = stuck_none c.args.pipe.now c.args.k c.go_into.result c.in-Err.field-0 (search rules) c.requires.free c.go_into.ensures.empty c.go_into.ensures.ahead in
    ap rows_in c.in-Err.ensures.stuck ∙ sym (ap (λ (l : Rows × Option Packet). l.0) (stays c.args.pipe.now c.args.k c.places_fall.ensures.long here c.requires.free))

pub returns-in-Err-clause-left : goal.returns-in-Err-clause-left
returns-in-Err-clause-left c =
    let here = stuck_none c.args.pipe.now c.args.k c.go_into.result c.in-Err.field-0 (search rules) c.requires.free c.go_into.ensures.empty c.go_into.ensures.ahead in
    sym (ap (λ (l : Rows × Option Packet). option_map run_of_packet l.1) (stays c.args.pipe.now c.args.k c.places_fall.ensures.long here c.requires.free))
