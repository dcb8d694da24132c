use Rattle.std.proofs.Common.{◌++◌, ◌∙◌, ap, arith, string_bytes}
use Rattle.lucid_gen.specs.Scene.{entry_text}
use Rattle.lucid_gen.proofs.Texts.{first_joined, next_joined}
use Rattle.lucid_gen.proofs.scene.write_items.Goals as goal

pub loop-at-init : goal.loop-at-init
loop-at-init c = first_joined (c.in_ok-write_entry.ensures ∙ ap (λ entry. string_bytes c.args.text.now ++ entry_text entry) c.draw_entry.ensures.gives) c.draw_entry.ensures.after

pub loop-at-preserved : goal.loop-at-preserved
loop-at-preserved c =
    next_joined (let h = c.loop-at.auto._at in omega arith) c.loop-at.invariant c.in_ok-write.ensures.bytes
    (c.in_ok-write_entry-2.ensures ∙ ap (λ entry. string_bytes c.write.new.self ++ entry_text entry) c.draw_entry-in-loop-at.ensures.gives)
    c.draw_entry-in-loop-at.ensures.after
