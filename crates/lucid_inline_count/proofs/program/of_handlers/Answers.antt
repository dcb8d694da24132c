use Rattle.std.proofs.Common.{◌≡◌, ◌+◌, ◌∙◌, get_or, rules, ap}
use Rattle.lucid_inline_count.specs.Bodies.{handler_found}
use Rattle.lucid_inline_count.proofs.Summing.{one_handler_more, rising_after}
use Rattle.lucid_inline_count.proofs.program.of_handlers.Goals as goal

pub loop-h-preserved : goal.loop-h-preserved
loop-h-preserved c =
    let hs = c.args.handlers.now in
    let i = c.loop-h.h-index in
    let h = c.h-item.result in
    let there : get_or hs i h ≡ h = search rules in
    let f = handler_found c.args.events.now c.args.funs.now in
    let counted : c.in_ok-counts.counts ≡ f h = search rules in
    record {
      room = c.with-length.ensures.bound ∙ c.loop-h.invariant.room;
      most = c.with-size.ensures.bound ∙ c.loop-h.invariant.most;
      length = one_handler_more (λ d. d.length) f hs i c.loop-h.number h c.args.room c.loop-h.length c.with-length.result c.in_ok-counts.counts c.loop-h-test.true there
          c.loop-h.invariant.number c.loop-h.invariant.room counted c.with-length.ensures.sum c.loop-h.invariant.length;
      size = one_handler_more (λ d. d.size) f hs i c.loop-h.number h c.args.most c.loop-h.size c.with-size.result c.in_ok-counts.counts c.loop-h-test.true there
          c.loop-h.invariant.number c.loop-h.invariant.most counted c.with-size.ensures.sum c.loop-h.invariant.size;
      number = c.next-number.ensures ∙ ap (λ n. n + 1) c.loop-h.invariant.number;
      rising = rising_after (i + 1) hs i h c.loop-h-test.true there c.loop-h.invariant.rising;
    }
