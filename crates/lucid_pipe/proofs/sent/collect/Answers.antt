use Rattle.std.proofs.Common.{rules, arith, ◌<◌, ◌∷◌, ◌∙◌, [], ap, length, slice_index_or}
use Rattle.std.proofs.lemmas.List.{length-append}
use Rattle.lucid_pipe.proofs.OutLists.{one_more, none_more}
use Rattle.lucid_pipe.proofs.sent.collect.Goals.{then-taken-slot, else-taken-slot}
use Rattle.lucid_pipe.proofs.sent.collect.Goals as goal

pub loop-slot-preserved : goal.loop-slot-preserved
loop-slot-preserved c =
    let taken = c.args.taken.now in
    let outs = c.args.outs.now in
    let slot = c.loop-slot.slot in
    let below : slot < length taken = search rules in
    let behind : slot < length outs = search rules in
    elim c.if-taken-slot.branch [
      | then-taken-slot w ↦
          let pushed = w.sent-is ∙ w.push.ensures in (
            one_more taken outs slot _ c.loop-slot.sent c.if-taken-slot.sent w.index-outs-slot.result below behind w.if-taken-slot.true
                w.index-outs-slot.is pushed c.loop-slot.invariant.0,
            omega (arith, ap length pushed, length-append c.loop-slot.sent (slice_index_or outs slot w.index-outs-slot.result ∷ []), c.loop-slot.invariant.1),
          )
      | else-taken-slot w ↦ (
        none_more taken outs slot _ c.loop-slot.sent c.if-taken-slot.sent below behind w.if-taken-slot.false w.sent-is c.loop-slot.invariant.0,
        omega (arith, ap length w.sent-is, c.loop-slot.invariant.1),
      )
    ]
