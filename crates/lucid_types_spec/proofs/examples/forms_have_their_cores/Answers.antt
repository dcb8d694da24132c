use Rattle.lucid_types_spec.proofs.AcceptedProofs.{hiding_names, passed_limits, sent_events, typed_expressions, typed_memops, typed_statements}
use Rattle.lucid_types_spec.proofs.examples.forms_have_their_cores.Goals as goal

pub returns : goal.returns
returns c = record { expressions = typed_expressions; statements = typed_statements; memops = typed_memops; names = hiding_names; events = sent_events; limits = passed_limits }
