-- The bytes between the quotes of a text.
use Rattle.std.proofs.Common.{◌≡◌, ℕ, ◌+◌, ◌-◌, ◌≤◌, List, [], ◌∷◌, ◌++◌, length, take, drop, refl, sym, ◌∙◌, ap, subst, arith, append_assoc, length-append, length-drop, length-take-le, take-append-drop}
use Rattle.std.specs.Prelude.{slice_range}
use Rattle.std.proofs.lemmas.List.{take_at, drop-drop}
use Rattle.lucid_lex.specs.declared.token.Kind.TheVariants as kinds
use Rattle.lucid_lex.specs.declared.token.Token.{Token}
use Rattle.lucid_lex.specs.Piece.{IsQuoted, IsToken}
use Rattle.lucid_lex.specs.Reading.{IsTokenOf, bytes_of}

between : (text : List ℕ) (start end : ℕ) (body : List ℕ) → start ≤ end → end ≤ length text → slice_range text start end ≡ 34 ∷ (body ++ 34 ∷ []) → slice_range text (start + 1) (end - 1) ≡ body
between text start end body in_order within is =
    let room : end - start ≤ length (drop start text) = omega (arith, length-drop start text) in
    let len : length body + 2 ≡ end - start = omega (arith, ap length is, length-append body (34 ∷ []), length-take-le (end - start) (drop start text) room) in
    let tail = drop (end - start) (drop start text) in
    let whole : drop start text ≡ (34 ∷ (body ++ 34 ∷ [])) ++ tail = sym (take-append-drop (end - start) (drop start text)) ∙ ap (λ l. l ++ tail) is in
    let behind : drop (start + 1) text ≡ body ++ (34 ∷ tail) = sym (drop-drop 1 start text) ∙ ap (drop 1) whole ∙ append_assoc body (34 ∷ []) tail in
    let count : end - 1 - (start + 1) ≡ length body = omega (arith, len) in
    ap (λ n. take n (drop (start + 1) text)) count ∙ ap (take (length body)) behind ∙ take_at body (34 ∷ tail) (length body) refl

-- the bytes between the first and the last of a text are those that its quotes enclose
pub between_quotes : (text : List ℕ) (t : Token) → IsTokenOf text t → t.kind ≡ kinds.Text → IsQuoted (bytes_of text t) (slice_range text (t.span.start + 1) (t.span.end - 1))
between_quotes text t stands kind =
    let written : IsToken (bytes_of text t) kinds.Text = subst (IsToken (bytes_of text t)) kind stands.written in
    subst (IsQuoted (bytes_of text t)) (sym (between text t.span.start t.span.end written.0 stands.in_order stands.within written.1.0)) written.1
