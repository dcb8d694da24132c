use Rattle.std.proofs.Common.{◌≡◌, rules, sym, ◌∙◌}
use Rattle.lucid_core.specs.OutCount.{stmt_outs}
use Rattle.lucid_core.specs.Few.{stmt_few}
use Rattle.lucid_types_limits.specs.Tally.{in_turn}
use Rattle.lucid_types_limits.proofs.Passing.{one_more}
use Rattle.lucid_types_limits.proofs.limits.Limits.fun.Goals as goal

pub returns-in_ok-push-clause-known : goal.returns-in_ok-push-clause-known
returns-in_ok-push-clause-known c = λ none funs known.
    let outs = c.args.self.now.outs.items in
    let found : c.stmts-tally.result ≡ in_turn stmt_outs stmt_few outs c.args.fun.now.body = search rules in
    c.in_ok-push.ensures.items ∙ one_more outs funs c.args.fun.now c.stmts-tally.result c.args.body.now known found (sym c.body_passes-passed.ensures ∙ none)
