-- The line that summarizes a network's log.
use Rattle.std.specs.Prelude.{ℕ, List, ◌++◌, codes, decimal, length}
use Rattle.lucid_base.specs.Hash.{fnv_1a}
use Rattle.lucid_log.specs.Pieces.{hex_text}
use Rattle.lucid_log_tally.specs.Line.{last_line}

-- the seed and the number of events of the run, the last line of its log, and the log's length and hash
abbrev pub bench_line : ℕ → ℕ → List ℕ → List ℕ
bench_line seed n text =
    codes "bench seed " ++ decimal seed ++ codes " n " ++ decimal n ++ codes " " ++ last_line text
    ++ codes " bytes " ++ decimal (length text) ++ codes " fnv " ++ hex_text (fnv_1a text) ++ codes "\n"
