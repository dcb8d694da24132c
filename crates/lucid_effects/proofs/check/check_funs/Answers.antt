use Rattle.std.proofs.lemmas.Grind.{common_steps}
use Rattle.std.proofs.Common.{rules, ◌≡◌, ◌+◌, ◌++◌, ◌∷◌, [], Some, sym, ap, ◌∙◌, arith}
use Rattle.std.specs.Prelude.{slice_get}
use Rattle.std.proofs.lemmas.Option.{slice_get-get_or}
use Rattle.lucid_effects_spec.specs.SchemeLaws.{steps_a_node}
use Rattle.lucid_effects.proofs.Spent.{fun_spent, funs_spent}
use Rattle.lucid_effects.proofs.Turns.{fun_turn, judges_same}
use Rattle.lucid_effects.proofs.check.check_funs.Goals as goal

pub loop-f-preserved : goal.loop-f-preserved
loop-f-preserved g c =
    let f = c.f-item.result in
    let is : slice_get c.args.funs.now c.loop-f.f-index ≡ Some f = slice_get-get_or c.args.funs.now c.loop-f.f-index f (search rules) ∙ ap (λ x. Some x) (sym c.f-item.is) in
    let pushed : c.push.new.self.items ≡ c.loop-f.judged.schemes.items ++ c.in_ok-found.found ∷ [] = search rules in
    let judges = judges_same c.args.arrays c.loop-f.judged.schemes.items c.deref.result.now f.decl f.body c.as_slice.result.now c.loop-f.judged.first c.judge.new.first (search rules) (search rules) c.in_ok-found.ensures.first in
    let both = fun_turn c.args.arrays c.loop-f.f-index c.loop-f.judged.schemes.items c.push.new.self.items c.in_ok-found.found c.loop-f.judged.first c.judge.new.first pushed
    c.args.funs.now f is (search rules) judges c.loop-f.invariant.schemes c.loop-f.invariant.first in
    record {
      schemes = both.0;
      first = both.1;
      most = λ parts sound own counted.
          fun_spent parts sound c.args.arrays c.args.steps.now c.loop-f.steps c.judge.new.steps c.loop-f.judged.schemes.items c.loop-f.f-index counted c.args.funs.now own f is c.as_slice.result.now c.loop-f.invariant.schemes (search rules) (search rules)
          (c.loop-f.invariant.most parts sound own counted);
    }

pub returns-in_err-found-clause-most : goal.returns-in_err-found-clause-most
returns-in_err-found-clause-most g c = λ parts sound own counted.
    let f = c.f-item.result in
    let is : slice_get c.args.funs.now c.loop-f.f-index ≡ Some f = slice_get-get_or c.args.funs.now c.loop-f.f-index f (search rules) ∙ ap (λ x. Some x) (sym c.f-item.is) in
    funs_spent (steps_a_node c.args.arrays) c.args.steps.now c.judge.new.steps (c.loop-f.f-index + 1) c.args.funs.now
    (fun_spent parts sound c.args.arrays c.args.steps.now c.loop-f.steps c.judge.new.steps c.loop-f.judged.schemes.items c.loop-f.f-index counted c.args.funs.now own f is c.as_slice.result.now c.loop-f.invariant.schemes (search rules) (search rules)
    (c.loop-f.invariant.most parts sound own counted))

pub returns-in_err-push-clause-most : goal.returns-in_err-push-clause-most
returns-in_err-push-clause-most g c = λ parts sound own counted.
    let f = c.f-item.result in
    let is : slice_get c.args.funs.now c.loop-f.f-index ≡ Some f = slice_get-get_or c.args.funs.now c.loop-f.f-index f (search rules) ∙ ap (λ x. Some x) (sym c.f-item.is) in
    funs_spent (steps_a_node c.args.arrays) c.args.steps.now c.judge.new.steps (c.loop-f.f-index + 1) c.args.funs.now
    (fun_spent parts sound c.args.arrays c.args.steps.now c.loop-f.steps c.judge.new.steps c.loop-f.judged.schemes.items c.loop-f.f-index counted c.args.funs.now own f is c.as_slice.result.now c.loop-f.invariant.schemes (search rules) (search rules)
    (c.loop-f.invariant.most parts sound own counted))

pub returns-clause-schemes : goal.returns-clause-schemes
returns-clause-schemes g c = grind (arith, common_steps)

pub returns-clause-first : goal.returns-clause-first
returns-clause-first g c = grind (arith, common_steps)

pub returns-clause-most : goal.returns-clause-most
returns-clause-most g c = grind (arith, common_steps)
