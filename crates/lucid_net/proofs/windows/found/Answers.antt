use Rattle.std.proofs.Common.{◌∙◌, ap, sym}
use Rattle.std.proofs.lemmas.List.{take_all}
use Rattle.std.specs.List.{list_any}
use Rattle.lucid_conf.specs.declared.scene.Down.{Down}
use Rattle.lucid_net_spec.specs.Ways.{is_open}
use Rattle.lucid_net.proofs.WindowsLemmas.{found_more, found_same}
use Rattle.lucid_net.proofs.windows.found.Goals as goal
use Rattle.lucid_net.proofs.windows.found.Goals.{then-is_between+in_ok-push, else-is_between}

abbrev none : Down
none = record { a = 0; b = 0; from = 0; until = 0 }

pub loop-window-preserved : goal.loop-window-preserved
loop-window-preserved c =
    elim c.if-is_between.branch [
      | then-is_between+in_ok-push w ↦
          rw w.spans-is (found_more c.args.down.now c.args.a c.args.b c.loop-window.window-index c.loop-window.spans.items w.push.new.self.items none c.loop-window-test.true
          (sym c.is_between.ensures ∙ w.if-is_between.true) c.loop-window.invariant w.in_ok-push.ensures.items)
      | else-is_between w ↦
          rw w.spans-is (found_same c.args.down.now c.args.a c.args.b c.loop-window.window-index c.loop-window.spans.items none c.loop-window-test.true
          (sym c.is_between.ensures ∙ w.if-is_between.false) c.loop-window.invariant)
    ]

pub returns : goal.returns
returns c = λ tick. c.loop-window.invariant tick ∙ ap (list_any (is_open c.args.a c.args.b tick)) (take_all c.loop-window.window-index c.args.down.now c.loop-window-test.false)
