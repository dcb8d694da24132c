use Rattle.std.proofs.Common.{◌≡◌, ap₂, rules}
use Rattle.std.proofs.lemmas.Result.{IfOk-weaker}
use Rattle.lucid_inline_count.specs.Bodies.{funs_found, handlers_found}
use Rattle.lucid_inline_spec.specs.Counts.{handler_lengths, handler_sizes}
use Rattle.lucid_inline_count.proofs.LawOfCounts.{lengths_agree, sizes_agree}
use Rattle.lucid_inline_count.proofs.Summing.{sum_of_capped}
use Rattle.lucid_inline_count.proofs.program.count_core.Goals as goal

pub returns-clause-length : goal.returns-clause-length
returns-clause-length c =
    let funs : c.as_slice.result.now ≡ funs_found c.args.core.now.funs = search rules in
    let made = ap₂ (handlers_found c.args.core.now.events) funs c.handlers.ensures.value in
    IfOk-weaker c.of_handlers.result _ _ (λ t is. sum_of_capped c.args.room _ (handler_lengths c.args.core.now) t.length (lengths_agree c.args.core.now c.funs.ensures.valid) (rw (c.events.ensures.value, made) at is)) c.of_handlers.ensures.length

pub returns-clause-size : goal.returns-clause-size
returns-clause-size c =
    let funs : c.as_slice.result.now ≡ funs_found c.args.core.now.funs = search rules in
    let made = ap₂ (handlers_found c.args.core.now.events) funs c.handlers.ensures.value in
    IfOk-weaker c.of_handlers.result _ _ (λ t is. sum_of_capped c.args.most _ (handler_sizes c.args.core.now) t.size (sizes_agree c.args.core.now c.funs.ensures.valid) (rw (c.events.ensures.value, made) at is)) c.of_handlers.ensures.size
