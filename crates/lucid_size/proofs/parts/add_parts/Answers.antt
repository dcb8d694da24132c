use Rattle.std.proofs.Common.{◌≡◌, ◌≤◌, ◌∙◌, ◌++◌, ap, arith, get_or, length, map, slice_index_or, subst, sym}
use Rattle.std.proofs.lemmas.List.{append-nil}
use Rattle.std.proofs.lemmas.Result.{on_ok_weaker}
use Rattle.lucid_size.specs.declared.template.Template.{Template}
use Rattle.lucid_size.specs.Parts.{body_steps, outside_from}
use Rattle.lucid_size.specs.Places.{AreInOrder}
use Rattle.lucid_size.proofs.InText.{get_any, order_turn, past}
use Rattle.lucid_size.proofs.Repeats.{bodies_turn, outside_turn}
use Rattle.lucid_size.proofs.parts.add_parts.Goals as goal

pub add_steps-requires : goal.add_steps-requires
add_steps-requires c =
    let xs = c.args.templates.now in
    let at = c.loop-template.template-index in
    let d : Template = record { first = 0; name = 0; end = 0 } in
    let x = slice_index_or xs at d in
    let within = c.loop-template-test.true in
    let next = order_turn c.args.tokens.now c.loop-template.from at xs x c.loop-template.invariant.order within
    (get_any xs at d x within) in
    let name = next.1.name in
    let end = next.1.end in
    let last = next.1.within in
    record { stand = c.requires.stand; order = next.0; within = omega arith }

pub body_steps-requires : goal.body_steps-requires
body_steps-requires c =
    let xs = c.args.templates.now in
    let at = c.loop-template.template-index in
    let d : Template = record { first = 0; name = 0; end = 0 } in
    let x = slice_index_or xs at d in
    let within = c.loop-template-test.true in
    let next = order_turn c.args.tokens.now c.loop-template.from at xs x c.loop-template.invariant.order within
    (get_any xs at d x within) in
    record { stand = c.requires.stand; whole = next.1 }

pub loop-template-preserved : goal.loop-template-preserved
loop-template-preserved c =
    let text = c.args.text.now in
    let ts = c.args.tokens.now in
    let xs = c.args.templates.now in
    let names = c.args.names.now in
    let at = c.loop-template.template-index in
    let d : Template = record { first = 0; name = 0; end = 0 } in
    let x = slice_index_or xs at d in
    let within = c.loop-template-test.true in
    let is : x ≡ get_or xs at x = get_any xs at d x within in
    let next = order_turn ts c.loop-template.from at xs x c.loop-template.invariant.order within is in
    record {
      order = next.2;
      outside = outside_turn text names ts c.loop-template.from at xs x c.loop-template.cut.outside c.add_steps.new.steps within is
          c.in_ok-add_steps.ensures
          ∙ c.loop-template.invariant.outside;
      bodies = bodies_turn (body_steps text names ts) at xs x c.loop-template.cut.bodies.items c.push.new.self.items c.in_ok-body.body
          within is
          c.in_ok-body.ensures c.in_ok-push.ensures.items
          ∙ c.loop-template.invariant.bodies;
    }

pub add_steps-requires-2 : goal.add_steps-requires-2
add_steps-requires-2 c =
    let order : c.loop-template.from ≤ length c.args.tokens.now =
    subst (AreInOrder c.args.tokens.now c.loop-template.from)
    (past c.args.templates.now c.loop-template.template-index c.loop-template-test.false) c.loop-template.invariant.order in
    record { stand = c.requires.stand; order = order; within = omega arith }

pub returns : goal.returns
returns c =
    let xs = c.args.templates.now in
    let at = c.loop-template.template-index in
    let none = sym (past xs at c.loop-template-test.false) in
    let f = body_steps c.args.text.now c.args.names.now c.args.tokens.now in
    let outside = c.loop-template.cut.outside in
    let bodies = c.loop-template.cut.bodies.items in
    record {
      outside = on_ok_weaker c.add_steps-2.result
          (λ h. h ∙ ap (λ l. outside ++ outside_from c.args.text.now c.args.names.now c.args.tokens.now c.loop-template.from l) none
          ∙ c.loop-template.invariant.outside)
          c.add_steps-2.ensures;
      bodies = on_ok_weaker c.add_steps-2.result
          (λ _. sym (append-nil bodies) ∙ ap (λ l. bodies ++ map f l) none ∙ c.loop-template.invariant.bodies)
          c.add_steps-2.ensures;
    }
