use Rattle.std.proofs.Common.{◌≡◌, ◌++◌, List, ℕ, map, drop, option_map, string_bytes}
use Rattle.lucid_top_words.specs.Words.{numbers_of, arguments_of}
use Rattle.lucid_top_words.proofs.number.arguments.Given as goal

-- the numbers so far, and what is left decides
abbrev pub invariant-loop-word : goal.invariant-loop-word
invariant-loop-word l =
    (so_far : List ℕ) × (l.args ≡ arguments_of so_far)
    × (option_map (λ ns. so_far ++ ns) (numbers_of (map string_bytes (drop l.word-index l.words))) ≡ numbers_of (map string_bytes l.words))
