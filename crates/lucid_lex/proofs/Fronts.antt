-- The conditions for a front of a text to be the piece there.
use Rattle.std.proofs.Common.{◌≡◌, ℕ, ◌^◌, ◌<◌, ◌≤◌, Bool, true, false, cond, ltb, List, ◌++◌, length, take, drop, Option, Some, None, sym, ◌∙◌, ap, subst, arith, refl, take-append-drop, length-take-le}
use Rattle.std.proofs.lemmas.Bool.Decides.{nat_tests}
use Rattle.std.proofs.lemmas.List.{take_at}
use Rattle.lucid_lex.specs.declared.front.Front.{Front}
use Rattle.lucid_lex.specs.declared.token.Kind.{Kind}
use Rattle.lucid_lex.specs.declared.token.Kind.TheVariants as kinds
use Rattle.lucid_lex.specs.Front.{token, number_token}
use Rattle.lucid_lex.specs.Piece.{IsNumber, IsPiece, Fits, Piece, Stands, NothingBegins}
use Rattle.lucid_lex.proofs.Shapes.{kind_of_bytes}

-- the first bytes of a text, as a piece
abbrev pub cut : ℕ → Option Kind → List ℕ → Piece
cut len kind text = record { bytes = take len text; kind = kind }

-- a piece of this length and kind begins the text
pub record Begins (text : List ℕ) (f : Front) : Type 0 where
  pub within : f.len ≤ length text
  pub stands : Stands (cut f.len f.kind text) (drop f.len text)

-- the found front begins the text, and if none is found none does
abbrev pub IsFrontOf : List ℕ → Option Front → Type 0
IsFrontOf text None = NothingBegins text
IsFrontOf text (Some f) = Begins text f

-- no piece at the front has more bytes
abbrev pub AtMost : List ℕ → ℕ → Type 0
AtMost text n = (q : Piece) (after : List ℕ) → IsPiece q.bytes q.kind → q.bytes ++ after ≡ text → length q.bytes ≤ n

pub begins : (text : List ℕ) (n : ℕ) (k : Option Kind) → n ≤ length text → IsPiece (take n text) k → AtMost text n → Fits k → Begins text (record { len = n; kind = k })
begins text n k within piece most fits = record {
  within = within;
  stands = record {
    is_piece = piece;
    longest = λ q after is front.
        let len : length (take n text) ≡ n = length-take-le n text within in
        omega (arith, most q after is (front ∙ take-append-drop n text));
    fits = fits;
  };
}

pub no_piece : (text : List ℕ) → ((q : Piece) (after : List ℕ) → IsPiece q.bytes q.kind → q.bytes ++ after ≡ text → ⊥) → NothingBegins text
no_piece text none = λ p rest is stands. none p rest stands.is_piece (sym is)

-- where the longest numeral is too large, nothing begins, and no shorter number either
too_large : (text : List ℕ) (n v : ℕ) → n ≤ length text → IsNumber (take n text) v → AtMost text n → ¬ (v < 2 ^ 64) → NothingBegins text
too_large text n v within number most large = λ p rest is stands.
    let len : length (take n text) ≡ n = length-take-le n text within in
    let at_least : length (take n text) ≤ length p.bytes = stands.longest (cut n (Some (kinds.Number v)) text) (drop n text) number (take-append-drop n text ∙ is) in
    let same_len : length p.bytes ≡ n = omega (arith, at_least, most p rest stands.is_piece (sym is)) in
    let same : take n text ≡ p.bytes = ap (take n) is ∙ take_at p.bytes rest n same_len in
    let kind : p.kind ≡ Some (kinds.Number v) = kind_of_bytes p.bytes p.kind (Some (kinds.Number v)) stands.is_piece (subst (λ l. IsNumber l v) same number) in
    large (subst Fits kind stands.fits)

number_by_size : (text : List ℕ) (n v : ℕ) (small : Bool) → ltb v (2 ^ 64) ≡ small → n ≤ length text → IsNumber (take n text) v → AtMost text n → IsFrontOf text (cond small (token n (kinds.Number v)) None)
number_by_size text n v true fits within number most = begins text n (Some (kinds.Number v)) within number most (grind (arith, nat_tests))
number_by_size text n v false large within number most = too_large text n v within number most (λ small. grind (arith, nat_tests))

pub number_begins : (text : List ℕ) (n v : ℕ) → n ≤ length text → IsNumber (take n text) v → AtMost text n → IsFrontOf text (number_token n v)
number_begins text n v within number most = number_by_size text n v (ltb v (2 ^ 64)) refl within number most
