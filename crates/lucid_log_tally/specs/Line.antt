-- The first 83 bytes of the last line of a text.
use Rattle.std.specs.Prelude.{ℕ, Bool, true, false, List, [], ◌∷◌, ◌++◌, if◌then◌else◌, length, nat_eq, nat_lt}
use Rattle.std.specs.List.{fold}

-- one byte more, where there is room
abbrev pub kept_with : List ℕ → ℕ → List ℕ
kept_with kept byte = if nat_lt (length kept) 83 then kept ++ byte ∷ [] else kept

-- the kept part of the last line so far, and whether that has ended
pub record LineView : Type 0 where
  pub kept : List ℕ
  pub ended : Bool

-- one byte more of a text; 10 is the line feed, behind which a line begins
abbrev pub line_with : LineView → ℕ → LineView
line_with line byte =
    let kept = if line.ended then [] else line.kept in
    if nat_eq byte 10 then record { kept = kept; ended = true } else record { kept = kept_with kept byte; ended = false }

-- the last line of a text; that of no text is empty, and has ended
abbrev pub lines : List ℕ → LineView
lines bytes = fold line_with (record { kept = []; ended = true }) bytes

-- without its line feed
abbrev pub last_line : List ℕ → List ℕ
last_line bytes = (lines bytes).kept
