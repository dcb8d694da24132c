-- The kept part of the ending of a network's log.
use Rattle.std.specs.Prelude.{◌≡◌, ℕ, ◌<◌, ◌^◌, List, [], ◌∷◌, ◌++◌, true, codes, decimal}
use Rattle.lucid_log.specs.Ending.{ending_text}
use Rattle.lucid_log_tally.specs.Line.{last_line, lines}

-- Behind whole lines, all of the ending but its line feed.
abbrev pub EndingIsKept : Type 0
EndingIsKept = (text : List ℕ) (entered lost pending : ℕ) → (lines text).ended ≡ true → entered < 2 ^ 64 → lost < 2 ^ 64 → pending < 2 ^ 64 →
    last_line (text ++ ending_text entered lost pending)
    ≡ codes "entered " ++ decimal entered ++ codes " lost " ++ decimal lost ++ codes " pending " ++ decimal pending

-- A text without lines, and one whose last byte is a line feed, 10, are whole lines.
abbrev pub NoneHasEnded : Type 0
NoneHasEnded = (lines []).ended ≡ true

abbrev pub LineHasEnded : Type 0
LineHasEnded = (text : List ℕ) → (lines (text ++ 10 ∷ [])).ended ≡ true
