-- The names of instances: the template's name, one underscore more than any name of the text has in a row, and the width in decimal. So
-- an instance's name is no name of the text.
use Rattle.std.specs.Prelude.{ℕ, ◌+◌, ◌==◌, if◌then◌else◌, List, [], ◌∷◌, ◌++◌, fold, max, decimal}
use Rattle.std.specs.List.{repeat}
use Rattle.lucid_lex.specs.declared.token.Token.{Token}
use Rattle.lucid_lex.specs.Reading.{bytes_of}
use Rattle.lucid_size.specs.Kinds.{is_name}

-- the run of underscores at the end, with one more byte
abbrev pub run_with : ℕ → ℕ → ℕ
run_with run b = if b == 95 then run + 1 else 0

-- the longest run of underscores in these bytes, after a run of `run`, if the longest so far has `longest`
abbrev pub longest_run : ℕ → ℕ → List ℕ → ℕ
longest_run most run [] = most
longest_run most run (b ∷ bs) = longest_run (max most (run_with run b)) (run_with run b) bs

-- of a name; 0 for another token
abbrev pub run_of : List ℕ → Token → ℕ
run_of text t = if is_name t.kind then longest_run 0 0 (bytes_of text t) else 0

-- the least number from 1 of underscores that no name has in a row
abbrev pub underscores : List ℕ → List Token → ℕ
underscores text ts = 1 + fold (λ most t. max most (run_of text t)) 0 ts

-- the part of an instance's name after the template's
abbrev pub suffix : ℕ → ℕ → List ℕ
suffix m n = repeat m (95 ∷ []) ++ decimal n
