use Rattle.std.proofs.lemmas.Grind.{common_steps}
use Rattle.std.proofs.Common.{rules, ◌≡◌, ◌++◌, ℕ, [], List, length, subst, arith}
use Rattle.std.proofs.lemmas.Result.{on_ok_weaker}
use Rattle.lucid_core.specs.declared.defs.HandlerDef.{HandlerDef}
use Rattle.lucid_effects_spec.specs.Order.{bodies, fun_bodies, handler_bodies}
use Rattle.lucid_effects.specs.First.{IsFirst}
use Rattle.lucid_effects_spec.specs.Schemes.{schemes_of}
use Rattle.lucid_effects.proofs.Spent.{of_all, of_funs}
use Rattle.lucid_effects.proofs.check.judge_all.Goals as goal

pub returns-clause-first : goal.returns-clause-first
returns-clause-first g c =
    let core = c.args.core.now in
    let arrays : c.array_count-arrays.result ≡ length core.arrays = search rules in
    let known : c.check_funs.new.judged.schemes.items ≡ schemes_of core.funs = search rules in
    let funs : IsFirst c.array_count-arrays.result (fun_bodies [] core.funs) c.check_funs.new.judged.first = search rules in
    let handlers : c.handlers.result.now ≡ core.handlers = search rules in
    let next = c.check_handlers.new.judged.first in
    on_ok_weaker c.check_handlers.result
    (λ h. subst (λ (n : ℕ). IsFirst n (bodies core) next) arrays
    (subst (λ (hs : List HandlerDef). IsFirst c.array_count-arrays.result (fun_bodies [] core.funs ++ handler_bodies core.funs hs) next) handlers (h core.funs known (fun_bodies [] core.funs) funs)))
    c.check_handlers.ensures.first

pub returns-in_err-check_funs-clause-most : goal.returns-in_err-check_funs-clause-most
returns-in_err-check_funs-clause-most g c =
    let core = c.args.core.now in
    let arrays : length core.arrays ≡ c.array_count-arrays.result = search rules in
    let own : core.funs ≡ c.funs.result.now = search rules in
    of_funs core c.args.steps.now c.check_funs.new.steps c.funs.result.now own c.array_count-arrays.result arrays (c.check_funs.ensures.most core c.funs.ensures.valid.sound own arrays)

pub returns-clause-most : goal.returns-clause-most
returns-clause-most g c =
    let core = c.args.core.now in
    let arrays : length core.arrays ≡ c.array_count-arrays.result = search rules in
    let own : core.funs ≡ c.funs.result.now = search rules in
    let handlers : core.handlers ≡ c.handlers.result.now = search rules in
    let known : c.check_funs.new.judged.schemes.items ≡ schemes_of core.funs = search rules in
    let second = c.check_handlers.ensures.most core c.funs.ensures.valid.sound known handlers arrays in
    of_all core c.args.steps.now c.check_funs.new.steps c.funs.result.now own c.array_count-arrays.result arrays (c.check_funs.ensures.most core c.funs.ensures.valid.sound own arrays) c.check_handlers.new.steps c.handlers.result.now handlers second

pub check_funs-requires-clause-none : goal.check_funs-requires-clause-none
check_funs-requires-clause-none g c = grind (arith, common_steps)

pub check_funs-requires-clause-fine : goal.check_funs-requires-clause-fine
check_funs-requires-clause-fine g c = grind (arith, common_steps)

pub returns-in_err-check_funs-clause-schemes : goal.returns-in_err-check_funs-clause-schemes
returns-in_err-check_funs-clause-schemes g c = grind (arith, common_steps)

pub returns-in_err-check_funs-clause-first : goal.returns-in_err-check_funs-clause-first
returns-in_err-check_funs-clause-first g c = grind (arith, common_steps)

pub returns-clause-schemes : goal.returns-clause-schemes
returns-clause-schemes g c = grind (arith, common_steps)
