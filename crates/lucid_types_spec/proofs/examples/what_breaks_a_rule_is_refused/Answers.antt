use Rattle.lucid_types_spec.proofs.RefusedDeclarations.{refused_declarations}
use Rattle.lucid_types_spec.proofs.RefusedExpressions.{refused_expressions}
use Rattle.lucid_types_spec.proofs.RefusedStatements.{refused_statements}
use Rattle.lucid_types_spec.proofs.examples.what_breaks_a_rule_is_refused.Goals as goal

pub returns : goal.returns
returns c = record { expressions = refused_expressions; statements = refused_statements; declarations = refused_declarations }
