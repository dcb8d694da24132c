-- A line that is short enough is kept whole.
use Rattle.std.proofs.Common.{◌≡◌, ℕ, ◌+◌, ◌<◌, ◌≤◌, ◌%◌, ◌^◌, List, [], ◌∷◌, ◌++◌, Bool, true, false, ◌&&◌, not, codes, decimal, length, nat_eq, refl, sym, ◌∙◌, ap, append_assoc, append-nil, length-append, arith}
use Rattle.std.specs.List.{fold, list_all}
use Rattle.std.proofs.lemmas.Bool.{lt-ltb, ne_eqb}
use Rattle.std.proofs.lemmas.Fmt.{decimal_by_steps, length-decimal-le}
use Rattle.std.proofs.lemmas.List.Folds.{list_all-append}
use Rattle.std.proofs.lemmas.List.Sums.{fold-append}
use Rattle.lucid_log_tally.specs.Endings.{EndingIsKept}
use Rattle.lucid_log_tally.specs.Line.{LineView, line_with, lines}

-- a byte that ends no line
abbrev pub is_within : ℕ → Bool
is_within b = not (nat_eq b 10)

-- a line that goes on
abbrev pub going : List ℕ → LineView
going kept = record { kept = kept; ended = false }

both : {a b : Bool} → a ≡ true → b ≡ true → (a && b) ≡ true
both p q = rw p q

split : (t rest : Bool) → (not t && rest) ≡ true → (t ≡ false) × (rest ≡ true)
split false rest h = (refl, h)
split true rest h = (cc, cc)

one_more : (kept : List ℕ) (b : ℕ) → nat_eq b 10 ≡ false → length kept < 83 → line_with (going kept) b ≡ going (kept ++ b ∷ [])
one_more kept b other room = rw (other, lt-ltb (length kept) 83 room) refl

goes_on : (bs kept : List ℕ) → list_all is_within bs ≡ true → length kept + length bs ≤ 83 → fold line_with (going kept) bs ≡ going (kept ++ bs)
goes_on [] kept within few = ap going (sym (append-nil kept))
goes_on (b ∷ bs) kept within few =
    let h = split (nat_eq b 10) (list_all is_within bs) within in
    ap (λ (l : LineView). fold line_with l bs) (one_more kept b h.0 (omega arith))
    ∙ goes_on bs (kept ++ b ∷ []) h.1 (omega (arith, length-append kept (b ∷ [])))
    ∙ ap going (append_assoc kept (b ∷ []) bs)

first : (line : LineView) (b : ℕ) → line.ended ≡ true → nat_eq b 10 ≡ false → line_with line b ≡ going (b ∷ [])
first line b ended other = rw (ended, other) refl

begins : (line : LineView) (bs : List ℕ) → line.ended ≡ true → 0 < length bs → list_all is_within bs ≡ true → length bs ≤ 83 → fold line_with line bs ≡ going bs
begins line [] ended some within few = absurd (omega arith)
begins line (b ∷ bs) ended some within few =
    let h = split (nat_eq b 10) (list_all is_within bs) within in
    ap (λ (l : LineView). fold line_with l bs) (first line b ended h.0) ∙ goes_on bs (b ∷ []) h.1 (omega arith)

within_joined : (xs ys : List ℕ) → list_all is_within xs ≡ true → list_all is_within ys ≡ true → list_all is_within (xs ++ ys) ≡ true
within_joined xs ys p q = list_all-append is_within xs ys ∙ both p q

digit_within : (n : ℕ) → list_all is_within ((48 + n) ∷ []) ≡ true
digit_within n = rw (ne_eqb (48 + n) 10 (λ (e : 48 + n ≡ 10). omega arith)) refl

digits_within : (n : ℕ) → n < 2 ^ 64 → list_all is_within (decimal n) ≡ true
digits_within = decimal_by_steps (λ n ds. list_all is_within ds ≡ true) (λ n small. digit_within n)
    (λ n ds large h. within_joined ds ((48 + n % 10) ∷ []) h (digit_within (n % 10)))

few_digits : (n : ℕ) → n < 2 ^ 64 → length (decimal n) ≤ 20
few_digits n small = length-decimal-le 20 n (omega arith) (omega arith) small

pub ending_is_kept : EndingIsKept
ending_is_kept text entered lost pending ended small_entered small_lost small_pending =
    let a = codes "entered " ++ decimal entered in
    let b = a ++ codes " lost " in
    let c = b ++ decimal lost in
    let d = c ++ codes " pending " in
    let line = d ++ decimal pending in
    let within : list_all is_within line ≡ true = within_joined d (decimal pending) (within_joined c (codes " pending ") (within_joined b (decimal lost) (within_joined a (codes " lost ")
    (within_joined (codes "entered ") (decimal entered) refl (digits_within entered small_entered)) refl) (digits_within lost small_lost)) refl) (digits_within pending small_pending) in
    let parts : length line ≡ 8 + length (decimal entered) + 6 + length (decimal lost) + 9 + length (decimal pending) =
    omega (arith, length-append d (decimal pending), length-append c (codes " pending "), length-append b (decimal lost), length-append a (codes " lost "), length-append (codes "entered ") (decimal entered)) in
    let few : length line ≤ 83 = omega (arith, parts, few_digits entered small_entered, few_digits lost small_lost, few_digits pending small_pending) in
    let some : 0 < length line = omega (arith, parts) in
    ap (λ (l : LineView). l.kept) (fold-append line_with (lines []) text (line ++ 10 ∷ []) ∙ fold-append line_with (lines text) line (10 ∷ [])
    ∙ ap (λ (l : LineView). line_with l 10) (begins (lines text) line ended some within few))
