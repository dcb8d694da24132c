use Rattle.std.proofs.Common.{◌∙◌}
use Rattle.lucid_normal_join.proofs.ChangesLemmas.{changes_are}
use Rattle.lucid_normal_join.proofs.changes.changes_of.Goals as goal

pub returns-clause-changes : goal.returns-clause-changes
returns-clause-changes c =
    let fs = rw (c.as_slice-3.ensures, c.as_slice-4.ensures.value) at c.in_ok-firsts.ensures in
    let ms = rw (c.as_slice-5.ensures, c.as_slice-6.ensures.value) at c.in_ok-both.ensures in
    let whole = rw (c.as_slice.ensures, c.as_slice-2.ensures) at c.in_ok-locals.ensures.whole in
    changes_are c.args.held.now c.swap_back.new.held c.put_back.new.held c.swap_back-2.new.held c.args.first c.args.second c.in_ok-locals.locals.items c.in_ok-firsts.firsts.items c.in_ok-both.both.items
    c.in_ok-back.ensures.held fs (c.put_back.ensures ∙ c.in_ok-back.ensures.end) c.in_ok-back-2.ensures.held ms c.in_ok-locals.ensures.rise whole
