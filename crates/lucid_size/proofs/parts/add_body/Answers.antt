use Rattle.std.proofs.Common.{arith}
use Rattle.std.proofs.lemmas.List.Elements.{All-get_or}
use Rattle.std.proofs.lemmas.Result.{on_ok_weaker}
use Rattle.lucid_lex.specs.Reading.{IsTokenOf}
use Rattle.lucid_size.proofs.Repeats.{body_is}
use Rattle.lucid_size.proofs.parts.add_body.Goals as goal

pub text_of-width-requires : goal.text_of-width-requires
text_of-width-requires c =
    let name = c.requires.whole.name in
    let end = c.requires.whole.end in
    let last = c.requires.whole.within in
    All-get_or (IsTokenOf c.args.text.now) c.args.tokens.now _ _ (omega arith) c.requires.stand

pub add_steps-requires : goal.add_steps-requires
add_steps-requires c =
    let end = c.requires.whole.end in
    let last = c.requires.whole.within in
    record { stand = c.requires.stand; order = c.requires.whole.name; within = omega arith }

pub add_steps-requires-2 : goal.add_steps-requires-2
add_steps-requires-2 c =
    let end = c.requires.whole.end in
    record { stand = c.requires.stand; order = omega arith; within = c.requires.whole.within }

pub returns : goal.returns
returns c =
    on_ok_weaker c.add_steps-2.result
    (λ h.
    body_is c.args.text.now c.args.names.now c.args.tokens.now c.args.template _ _ c.text_of-width.result.now c.end_before-from.result
    c.args.steps.now c.add_steps.new.steps c.push.new.self c.add_steps-2.new.steps
    c.requires.whole c.text_of-width.ensures.bytes c.in_ok-add_steps.ensures c.end_before-from.ensures c.in_ok-push.ensures.ok h)
    c.add_steps-2.ensures
