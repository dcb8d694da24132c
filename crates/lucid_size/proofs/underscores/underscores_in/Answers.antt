use Rattle.std.proofs.lemmas.List.Elements.{All-get_or}
use Rattle.std.proofs.Common.{arith}
use Rattle.std.proofs.lemmas.Grind.{common_steps}
use Rattle.lucid_lex.specs.Reading.{IsTokenOf}
use Rattle.lucid_size.proofs.underscores.underscores_in.Goals as goal

pub run_of-requires : goal.run_of-requires
run_of-requires c = All-get_or (IsTokenOf c.args.text.now) c.args.tokens.now c.loop-token.token-index _ c.loop-token-test.true c.requires

pub loop-token-preserved : goal.loop-token-preserved
loop-token-preserved c = grind (arith, common_steps)
