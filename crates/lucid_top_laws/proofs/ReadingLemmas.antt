-- The tokens of a text, computed piece by piece.
use Rattle.std.proofs.Common.{◌≡◌, ℕ, zero, suc, List, [], ◌∷◌, ◌++◌, Option, None, Some, drop, option_map, refl, subst, sym, ap, ◌∙◌, take, take-append-drop}
use Rattle.lucid_lex.proofs.Fronts.{Begins, IsFrontOf, cut}
use Rattle.lucid_lex.proofs.Longest.{front_of-is}
use Rattle.lucid_lex.specs.declared.token.Token.{Token}
use Rattle.lucid_lex.specs.Front.{front_of}
use Rattle.lucid_lex.specs.Piece.{Piece, Stands}
use Rattle.lucid_lex.specs.Reading.{AllStand, Reads, joined, tokens_from}

abbrev by_front : (text : List ℕ) (o : Option _) → IsFrontOf text o → (List ℕ → Option (List Piece)) → Option (List Piece)
by_front text None nothing rest = None
by_front text (Some f) begins rest = option_map (λ ps. cut f.len f.kind text ∷ ps) (rest (drop f.len text))

-- The pieces of a text, if they are fewer than this number.
abbrev pieces_of : ℕ → List ℕ → Option (List Piece)
pieces_of zero text = None
pieces_of (suc n) [] = Some []
pieces_of (suc n) (b ∷ bs) = by_front (b ∷ bs) (front_of (b ∷ bs)) (front_of-is (b ∷ bs)) (pieces_of n)

abbrev pub tokens_of : ℕ → List ℕ → Option (List Token)
tokens_of n text = option_map (tokens_from 0) (pieces_of n text)

record AreCut (text : List ℕ) (ps : List Piece) : Type 0 where
  whole : text ≡ joined ps []
  stand : AllStand ps []

one_more : (text : List ℕ) (f : _) (ps : List Piece) → Begins text f → AreCut (drop f.len text) ps → AreCut text (cut f.len f.kind text ∷ ps)
one_more text f ps begins rest = record {
  whole = sym (take-append-drop f.len text) ∙ ap (λ (back : List ℕ). take f.len text ++ back) rest.whole;
  stand = (subst (Stands (cut f.len f.kind text)) rest.whole begins.stands, rest.stand);
}

-- One step, if the rest of a text is cut so.
module _ (text : List ℕ) (rest : List ℕ → Option (List Piece)) (cuts : (back : List ℕ) (ps : List Piece) → rest back ≡ Some ps → AreCut back ps) (ps : List Piece) where
  with_rest : (f : _) → Begins text f → (o : Option (List Piece)) → rest (drop f.len text) ≡ o → option_map (λ (qs : List Piece). cut f.len f.kind text ∷ qs) o ≡ Some ps → AreCut text ps
  with_rest f begins None there is = absurd (cc)
  with_rest f begins (Some qs) there is =
      let same : cut f.len f.kind text ∷ qs ≡ ps = cc in
      subst (AreCut text) same (one_more text f qs begins (cuts (drop f.len text) qs there))

  with_front : (o : Option _) (front : IsFrontOf text o) → by_front text o front rest ≡ Some ps → AreCut text ps
  with_front None nothing is = absurd (cc)
  with_front (Some f) begins is = with_rest f begins (rest (drop f.len text)) refl is

are_cut : (n : ℕ) (text : List ℕ) (ps : List Piece) → pieces_of n text ≡ Some ps → AreCut text ps
are_cut zero text ps is = absurd (cc)
are_cut (suc n) [] ps is = let same : [] ≡ ps = cc in subst (AreCut []) same (record { whole = refl; stand = tt })
are_cut (suc n) (b ∷ bs) ps is = with_front (b ∷ bs) (pieces_of n) (are_cut n) ps (front_of (b ∷ bs)) (front_of-is (b ∷ bs)) is

by_pieces : (n : ℕ) (text : List ℕ) (ts : List Token) (o : Option (List Piece)) → pieces_of n text ≡ o → option_map (tokens_from 0) o ≡ Some ts → Reads text ts
by_pieces n text ts None there is = absurd (cc)
by_pieces n text ts (Some ps) there is =
    let c = are_cut n text ps there in
    let same : tokens_from 0 ps ≡ ts = cc in
    subst (Reads text) same (record { pieces = ps; whole = c.whole; each_stands = c.stand; tokens = refl })

pub reads_by : (n : ℕ) (text : List ℕ) (ts : List Token) → tokens_of n text ≡ Some ts → Reads text ts
reads_by n text ts is = by_pieces n text ts (pieces_of n text) refl is
