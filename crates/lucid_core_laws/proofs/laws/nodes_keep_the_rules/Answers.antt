use Rattle.lucid_core_laws.proofs.Assigning.{assigning_nodes}
use Rattle.lucid_core_laws.proofs.Expressions.{expr_nodes}
use Rattle.lucid_core_laws.proofs.Owning.{inlined_nodes}
use Rattle.lucid_core_laws.proofs.Statements.{stmt_nodes}
use Rattle.lucid_core_laws.proofs.laws.nodes_keep_the_rules.Goals as goal

pub returns : goal.returns
returns c = record { expressions = expr_nodes; statements = stmt_nodes; assigning = assigning_nodes; inlined = inlined_nodes }
