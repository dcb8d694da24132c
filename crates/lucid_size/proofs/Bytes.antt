-- The text of a step is the bytes of its pieces.
use Rattle.std.proofs.Common.{◌≡◌, ℕ, zero, suc, ◌+◌, ◌-◌, ◌<◌, ◌≤◌, List, [], ◌∷◌, ◌++◌, length, get_or, take, drop, refl, sym, ◌∙◌, ap, arith, append_assoc}
use Rattle.std.specs.Prelude.{slice_range, codes, unwrap_or}
use Rattle.std.specs.List.{repeat}
use Rattle.std.proofs.lemmas.List.{append-nil, drop-drop, drop_more}
use Rattle.lucid_lex.specs.Reading.{joined, bytes_of}
use Rattle.lucid_lex.specs.declared.token.Kind.{Kind}
use Rattle.lucid_size.specs.declared.step.Form.{Form}
use Rattle.lucid_size.specs.declared.step.Form.TheVariants as forms
use Rattle.lucid_size.specs.declared.step.Step.{Step}
use Rattle.lucid_size.specs.Suffix.{suffix}
use Rattle.lucid_size.specs.Pieces.{form_pieces, pieces_of, step_pieces}
use Rattle.lucid_size.specs.Places.{InText}
use Rattle.lucid_size.specs.Bytes.{form_bytes}
use Rattle.lucid_size.proofs.Gaps.{joined-append}

nothing : (b : ℕ) → ◌≡◌ {A = List ℕ} [] (take b [])
nothing zero = refl
nothing (suc b) = refl

-- a part of a text is cut at a place in it
take_sum : (a b : ℕ) (xs : List ℕ) → take (a + b) xs ≡ take a xs ++ take b (drop a xs)
take_sum zero b xs = ap (λ n. take n xs) (let e : zero + b ≡ b = omega arith in e)
take_sum (suc a) b [] = sym (nothing (suc a + b)) ∙ nothing b
take_sum (suc a) b (x ∷ xs) = ap (λ n. take n (x ∷ xs)) (let e : suc a + b ≡ suc (a + b) = omega arith in e) ∙ ap (λ l. x ∷ l) (take_sum a b xs)

cut_at : (text : List ℕ) (from start end : ℕ) → from ≤ start → start ≤ end → slice_range text from end ≡ slice_range text from start ++ slice_range text start end
cut_at text from start end low high =
    let count : end - from ≡ (start - from) + (end - start) = omega arith in
    let place : from + (start - from) ≡ start = omega arith in
    ap (λ n. take n (drop from text)) count ∙ take_sum (start - from) (end - start) (drop from text)
    ∙ ap (λ l. slice_range text from start ++ take (end - start) l) (drop-drop (start - from) from text ∙ ap (λ n. drop n text) place)

form_is : (m width : ℕ) (bytes : List ℕ) (kind : Kind) (form : Form) → joined (form_pieces m width bytes kind form) [] ≡ bytes ++ form_bytes m width form
form_is m width bytes kind forms.Kept = refl
form_is m width bytes kind forms.Width = refl
form_is m width bytes kind forms.Named = append_assoc bytes (suffix m width) [] ∙ ap (λ l. bytes ++ l) (append-nil (suffix m width))
form_is m width bytes kind (forms.Use k size) = append_assoc bytes (suffix m (unwrap_or size width)) (codes "(")

pub step_bytes : (text : List ℕ) (m width : ℕ) (s : Step) → InText text s →
    slice_range text s.from s.token.span.end ++ form_bytes m width s.form ≡ joined (step_pieces text m width s) []
step_bytes text m width s inside =
    ap (λ l. l ++ form_bytes m width s.form) (cut_at text s.from s.token.span.start s.token.span.end inside.gap inside.token)
    ∙ append_assoc (slice_range text s.from s.token.span.start) (bytes_of text s.token) (form_bytes m width s.form)
    ∙ ap (λ l. slice_range text s.from s.token.span.start ++ l) (sym (form_is m width (bytes_of text s.token) s.token.kind s.form))

-- the pieces of one step before those of the others
pub pieces_step : (text : List ℕ) (m width : ℕ) (s : Step) (ss : List Step) → joined (pieces_of text m width (s ∷ ss)) [] ≡ joined (step_pieces text m width s) [] ++ joined (pieces_of text m width ss) []
pieces_step text m width s ss = joined-append (step_pieces text m width s) (pieces_of text m width ss) [] ∙ Rattle.lucid_size.proofs.Gaps.joined-rest (step_pieces text m width s) (joined (pieces_of text m width ss) [])

-- one step more is written
pub write_turn : (text : List ℕ) (m width : ℕ) (steps : List Step) (i : ℕ) (d : Step) (out out' : List ℕ) → i < length steps → out' ≡ out ++ joined (step_pieces text m width (get_or steps i d)) [] →
    out' ++ joined (pieces_of text m width (drop (i + 1) steps)) [] ≡ out ++ joined (pieces_of text m width (drop i steps)) []
write_turn text m width steps i d out out' within wrote =
    ap (λ l. l ++ joined (pieces_of text m width (drop (i + 1) steps)) []) wrote
    ∙ append_assoc out (joined (step_pieces text m width (get_or steps i d)) []) (joined (pieces_of text m width (drop (i + 1) steps)) [])
    ∙ ap (λ l. out ++ l) (sym (pieces_step text m width (get_or steps i d) (drop (i + 1) steps)))
    ∙ ap (λ ss. out ++ joined (pieces_of text m width ss) []) (sym (drop_more steps i d within))

repeat_more : (n : ℕ) → repeat {A = ℕ} (suc n) (95 ∷ []) ≡ repeat n (95 ∷ []) ++ 95 ∷ []
repeat_more zero = refl
repeat_more (suc n) = ap (λ l. 95 ∷ l) (repeat_more n)

pub score_turn : (n : ℕ) (before out out' : List ℕ) → out ≡ before ++ repeat n (95 ∷ []) → out' ≡ out ++ 95 ∷ [] → out' ≡ before ++ repeat (n + 1) (95 ∷ [])
score_turn n before out out' so_far more =
    let next : suc n ≡ n + 1 = omega arith in
    more ∙ ap (λ l. l ++ 95 ∷ []) so_far ∙ append_assoc before (repeat n (95 ∷ [])) (95 ∷ []) ∙ ap (λ l. before ++ l) (sym (repeat_more n)) ∙ ap (λ k. before ++ repeat k (95 ∷ [])) next
