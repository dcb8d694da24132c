use Rattle.std.proofs.Common.{sym, subst, rules}
use Rattle.lucid_top_words.specs.Outcome.{Declines}
use Rattle.lucid_top_program.specs.Program.{IsExpanded}
use Rattle.lucid_top_program.proofs.Sizes.{expanded, not-expanded}
use Rattle.lucid_top_program.proofs.source.expanded_whole.Goals as goal

pub returns-in-Ok-clause-source : goal.returns-in-Ok-clause-source
returns-in-Ok-clause-source c =
    expanded c.args.text.now c.args.tokens.now c.expansions_are_read.ensures.one c.in-Ok.expanded.items c.in-Ok.ensures.ok c.in-Ok.ensures.small

pub returns-in-Err-clause-source : goal.returns-in-Err-clause-source
returns-in-Err-clause-source c =
    subst (Declines (IsExpanded c.args.text.now c.args.tokens.now)) (sym c.of_size.ensures)
    (not-expanded c.args.text.now c.args.tokens.now c.expansions_are_read.ensures.one c.in-Err.error
    (λ n h. c.in-Err.ensures.broken n (search rules)) (λ name h. c.in-Err.ensures.twice name (search rules)) (λ h. c.in-Err.ensures.too_big (search rules)))
