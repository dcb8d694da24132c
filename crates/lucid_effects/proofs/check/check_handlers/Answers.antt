use Rattle.std.proofs.lemmas.Grind.{common_steps}
use Rattle.std.proofs.Common.{rules, ◌≡◌, ◌+◌, ◌++◌, ◌∷◌, [], List, Some, refl, sym, subst, ap, ◌∙◌, length, take, arith}
use Rattle.std.specs.Prelude.{slice_get}
use Rattle.std.proofs.Math.Seq.{take-append_seam, take-length}
use Rattle.std.proofs.lemmas.Option.{slice_get-get_or}
use Rattle.lucid_core.specs.declared.defs.HandlerDef.{HandlerDef}
use Rattle.lucid_effects_spec.specs.Order.{handler_bodies}
use Rattle.lucid_effects.specs.First.{IsFirst}
use Rattle.lucid_effects_spec.specs.Schemes.{handler_schemes}
use Rattle.lucid_effects_spec.specs.SchemeLaws.{steps_a_node}
use Rattle.lucid_effects.proofs.Spent.{handler_spent, handlers_spent}
use Rattle.lucid_effects.proofs.Turns.{handler_turn, judges_same}
use Rattle.lucid_effects.proofs.check.check_handlers.Goals as goal

pub loop-h-preserved : goal.loop-h-preserved
loop-h-preserved g c =
    let h = c.h-item.result in
    let fs = c.args.judged.now.schemes.items in
    let is : slice_get c.args.handlers.now c.loop-h.h-index ≡ Some h = slice_get-get_or c.args.handlers.now c.loop-h.h-index h (search rules) ∙ ap (λ x. Some x) (sym c.h-item.is) in
    let pushed : c.push.new.self.items ≡ c.loop-h.judged.schemes.items ++ c.in_ok-found.found ∷ [] = search rules in
    let front : c.front-before.result.now ≡ take (length fs) c.loop-h.judged.schemes.items = search rules in
    let front_is : c.front-before.result.now ≡ fs = front ∙ ap (λ xs. take (length fs) xs) c.loop-h.invariant.schemes ∙ take-append_seam fs (handler_schemes fs (take c.loop-h.h-index c.args.handlers.now)) in
    let judges = judges_same c.args.arrays c.front-before.result.now c.front-before.result.now h.decl h.body c.as_slice.result.now c.loop-h.judged.first c.judge.new.first refl (search rules) c.in_ok-found.ensures.first in
    let both = handler_turn c.args.arrays c.loop-h.h-index c.loop-h.judged.schemes.items c.push.new.self.items c.in_ok-found.found c.loop-h.judged.first c.judge.new.first pushed
    fs c.front-before.result.now c.args.handlers.now h is front_is (search rules) judges c.args.judged.now.first c.loop-h.invariant.schemes c.loop-h.invariant.first in
    record {
      schemes = both.0;
      first = both.1;
      most = λ parts sound known own counted.
          handler_spent parts sound c.args.arrays c.args.steps.now c.loop-h.steps c.judge.new.steps c.front-before.result.now c.loop-h.h-index counted c.args.handlers.now own h is c.as_slice.result.now (front_is ∙ known) (search rules) (search rules)
          (c.loop-h.invariant.most parts sound known own counted);
    }

pub returns-clause-first : goal.returns-clause-first
returns-clause-first g c = λ funs is bs h.
    let end : c.loop-h.h-index ≡ length c.args.handlers.now = search rules in
    let all = ap (λ k. take k c.args.handlers.now) end ∙ take-length c.args.handlers.now in
    subst (λ (hs : List HandlerDef). IsFirst c.args.arrays (bs ++ handler_bodies funs hs) c.loop-h.judged.first) all (c.loop-h.invariant.first funs is bs h)

pub returns-in_err-found-clause-most : goal.returns-in_err-found-clause-most
returns-in_err-found-clause-most g c = λ parts sound known own counted.
    let h = c.h-item.result in
    let fs = c.args.judged.now.schemes.items in
    let is : slice_get c.args.handlers.now c.loop-h.h-index ≡ Some h = slice_get-get_or c.args.handlers.now c.loop-h.h-index h (search rules) ∙ ap (λ x. Some x) (sym c.h-item.is) in
    let front : c.front-before.result.now ≡ take (length fs) c.loop-h.judged.schemes.items = search rules in
    let front_is : c.front-before.result.now ≡ fs = front ∙ ap (λ xs. take (length fs) xs) c.loop-h.invariant.schemes ∙ take-append_seam fs (handler_schemes fs (take c.loop-h.h-index c.args.handlers.now)) in
    handlers_spent (steps_a_node c.args.arrays) c.args.steps.now c.judge.new.steps (c.loop-h.h-index + 1) c.args.handlers.now
    (handler_spent parts sound c.args.arrays c.args.steps.now c.loop-h.steps c.judge.new.steps c.front-before.result.now c.loop-h.h-index counted c.args.handlers.now own h is c.as_slice.result.now (front_is ∙ known) (search rules) (search rules)
    (c.loop-h.invariant.most parts sound known own counted))

pub returns-in_err-push-clause-most : goal.returns-in_err-push-clause-most
returns-in_err-push-clause-most g c = λ parts sound known own counted.
    let h = c.h-item.result in
    let fs = c.args.judged.now.schemes.items in
    let is : slice_get c.args.handlers.now c.loop-h.h-index ≡ Some h = slice_get-get_or c.args.handlers.now c.loop-h.h-index h (search rules) ∙ ap (λ x. Some x) (sym c.h-item.is) in
    let front : c.front-before.result.now ≡ take (length fs) c.loop-h.judged.schemes.items = search rules in
    let front_is : c.front-before.result.now ≡ fs = front ∙ ap (λ xs. take (length fs) xs) c.loop-h.invariant.schemes ∙ take-append_seam fs (handler_schemes fs (take c.loop-h.h-index c.args.handlers.now)) in
    handlers_spent (steps_a_node c.args.arrays) c.args.steps.now c.judge.new.steps (c.loop-h.h-index + 1) c.args.handlers.now
    (handler_spent parts sound c.args.arrays c.args.steps.now c.loop-h.steps c.judge.new.steps c.front-before.result.now c.loop-h.h-index counted c.args.handlers.now own h is c.as_slice.result.now (front_is ∙ known) (search rules) (search rules)
    (c.loop-h.invariant.most parts sound known own counted))

pub front-before-requires : goal.front-before-requires
front-before-requires g c = grind (arith, common_steps)

pub returns-clause-schemes : goal.returns-clause-schemes
returns-clause-schemes g c = grind (arith, common_steps)

pub returns-clause-most : goal.returns-clause-most
returns-clause-most g c = grind (arith, common_steps)
