use Rattle.std.proofs.Common.{arith}
use Rattle.std.proofs.lemmas.Map.Text.{text_keys}
use Rattle.lucid_conf.proofs.names.put.Goals as goal

pub returns-in_ok-insert-in-Ok : goal.returns-in_ok-insert-in-Ok
returns-in_ok-insert-in-Ok c = λ n. grind (arith, text_keys)
