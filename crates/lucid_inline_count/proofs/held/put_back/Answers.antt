use Rattle.std.proofs.Common.{◌≤◌, rules, length, sym, ap, ◌∙◌}
use Rattle.std.proofs.lemmas.List.{set_past}
use Rattle.lucid_inline_count.specs.Flags.{put_back}
use Rattle.lucid_inline_count.proofs.Flags.{put_back-append}
use Rattle.lucid_inline_count.proofs.held.put_back.Goals as goal

pub loop-note-preserved-then-note-len : goal.loop-note-preserved-then-note-len
loop-note-preserved-then-note-len c =
    sym (put_back-append c.pop.new.self.items c.in-Some.note c.loop-note.held.items)
    ∙ ap (λ ns. put_back ns c.loop-note.held.items) (sym c.in-Some.ensures.items)
    ∙ c.loop-note.invariant

pub loop-note-preserved : goal.loop-note-preserved
loop-note-preserved c =
    let past : length c.loop-note.held.items ≤ c.in-Some.note.local = search rules in
    ap (put_back c.pop.new.self.items) (sym (set_past c.loop-note.held.items c.in-Some.note.local c.in-Some.note.was past))
    ∙ sym (put_back-append c.pop.new.self.items c.in-Some.note c.loop-note.held.items)
    ∙ ap (λ ns. put_back ns c.loop-note.held.items) (sym c.in-Some.ensures.items)
    ∙ c.loop-note.invariant
