use Rattle.std.proofs.Common.{drop}
use Rattle.lucid_io.specs.Puts.{Leaves}
use Rattle.lucid_top_words.specs.Refusal.{names_text}
use Rattle.lucid_top_words.proofs.line.put_names.Given as goal

-- what is left: the names to come
abbrev pub invariant-loop-name : goal.invariant-loop-name
invariant-loop-name g l = Leaves g.E.Sink.written g.E.Sink.faults l.fn.err l.err (names_text l.names) (names_text (drop l.name-index l.names))
