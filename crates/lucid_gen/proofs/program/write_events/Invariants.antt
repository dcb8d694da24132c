use Rattle.std.proofs.Common.{◌≡◌, ◌++◌, map, string_bytes}
use Rattle.std.specs.List.{concat, range_with_len}
use Rattle.lucid_gen.specs.Program.{event_line}
use Rattle.lucid_gen.proofs.program.write_events.Given as goal

abbrev pub invariant-loop-j : goal.invariant-loop-j
invariant-loop-j l = string_bytes l.text ≡ string_bytes l.fn.text ++ concat (map event_line (range_with_len 0 l.j))
