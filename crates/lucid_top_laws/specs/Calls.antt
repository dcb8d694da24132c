-- Calls over files that hold these texts, without passes.
use Rattle.std.specs.Prelude.{List, [], ◌∷◌, Some, codes, bytes_eq, if◌then◌else◌}
use Rattle.lucid_top.specs.Answer.{Question}
use Rattle.lucid_top_words.specs.Words.{Bytes}

-- `once p NAME`
abbrev pub once : Bytes → Bytes → Question
once program name = record { words = codes "once" ∷ codes "p" ∷ name ∷ []; held = λ file. Some program; passes = [] }

-- `expand p`
abbrev pub expand : Bytes → Question
expand program = record { words = codes "expand" ∷ codes "p" ∷ []; held = λ file. Some program; passes = [] }

-- `run MODE p l t`: the program, the limits and the scenario
abbrev run : Bytes → Bytes → Bytes → Bytes → Question
run mode program limits scenario = record {
  words = codes "run" ∷ mode ∷ codes "p" ∷ codes "l" ∷ codes "t" ∷ [];
  held = λ file. Some (if bytes_eq file (codes "p") then program else if bytes_eq file (codes "l") then limits else scenario);
  passes = [];
}

abbrev pub run_whole : Bytes → Bytes → Bytes → Question
run_whole = run (codes "whole")

abbrev pub run_pipe : Bytes → Bytes → Bytes → Question
run_pipe = run (codes "pipe")

-- These words, over files in which `p` holds the program `event e();`, `l` the limits `{}`, `q` a placement of no node, and any other
-- name a scenario with one event.
abbrev pub over_an_event : List Bytes → Question
over_an_event words = record {
  words = words;
  held = λ file. Some (if bytes_eq file (codes "p") then codes "event e();" else if bytes_eq file (codes "l") then codes "{}"
      else if bytes_eq file (codes "q") then codes "{\"nodes\":[]}"
      else codes "{\"stop\":1,\"events\":[{\"at\":0,\"switch\":0,\"name\":\"e\",\"args\":[]}]}");
  passes = [];
}
