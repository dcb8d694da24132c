-- Numbers and pieces, one after another.
use Rattle.std.proofs.Common.{◌≡◌, ℕ, ◌+◌, ◌-◌, ◌<◌, List, [], ◌∷◌, ◌++◌, length, get_or, take, drop, arith, refl, sym, ◌∙◌, ap, append_assoc, append-nil, drop-cons, add-one, decimal}
use Rattle.std.specs.List.{fold, flat_map}
use Rattle.std.proofs.lemmas.List.{take_all}
use Rattle.lucid_log.specs.Pieces.{numbers_text, piece_text, text_of}
use Rattle.lucid_log.specs.declared.pieces.Piece.{Piece}

-- numbers, each after a comma
abbrev pub after_commas : List ℕ → List ℕ
after_commas numbers = flat_map (λ n. 44 ∷ decimal n) numbers

pub numbers_text-first : (n : ℕ) (rest : List ℕ) → numbers_text (n ∷ rest) ≡ decimal n ++ after_commas rest
numbers_text-first n [] = sym (append-nil (decimal n))
numbers_text-first n (m ∷ rest) = ap (λ (l : List ℕ). decimal n ++ (44 ∷ l)) (numbers_text-first m rest)

-- the first number, and the others by a slice pattern
pub numbers_text-rest : (numbers : List ℕ) → 0 < length numbers → numbers_text numbers ≡ decimal (get_or numbers 0 0) ++ after_commas (take (length numbers - 1) (drop 1 numbers))
numbers_text-rest [] lt = absurd (omega (arith, lt))
numbers_text-rest (n ∷ rest) lt =
    let all : take (length (n ∷ rest) - 1) rest ≡ rest = take_all _ _ (omega arith) in
    numbers_text-first n rest ∙ ap (λ (l : List ℕ). decimal n ++ after_commas l) (sym all)

pub after_commas-drop : (numbers : List ℕ) (i : ℕ) → i < length numbers → after_commas (drop i numbers) ≡ 44 ∷ (decimal (get_or numbers i 0) ++ after_commas (drop (i + 1) numbers))
after_commas-drop numbers i lt = rw (add-one, drop-cons numbers i 0) refl

fold-text : (text : List ℕ) (pieces : List Piece) → fold (λ t p. t ++ piece_text p) text pieces ≡ text ++ text_of pieces
fold-text text [] = sym (append-nil text)
fold-text text (p ∷ pieces) =
    fold-text (text ++ piece_text p) pieces ∙ append_assoc text (piece_text p) (text_of pieces) ∙ ap (λ (l : List ℕ). text ++ l) (sym (fold-text (piece_text p) pieces))

pub text_of-first : (p : Piece) (pieces : List Piece) → text_of (p ∷ pieces) ≡ piece_text p ++ text_of pieces
text_of-first p pieces = fold-text (piece_text p) pieces

pub text_of-drop : (pieces : List Piece) (i : ℕ) (d : Piece) → i < length pieces → text_of (drop i pieces) ≡ piece_text (get_or pieces i d) ++ text_of (drop (i + 1) pieces)
text_of-drop pieces i d lt =
    let step : drop i pieces ≡ get_or pieces i d ∷ drop (i + 1) pieces = rw add-one (drop-cons pieces i d lt) in
    ap (λ (ps : List Piece). text_of ps) step ∙ text_of-first (get_or pieces i d) (drop (i + 1) pieces)
