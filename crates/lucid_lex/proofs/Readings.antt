-- A text is cut into pieces in one way at most, and reading goes on piece by piece.
use Rattle.std.proofs.Common.{◌≡◌, ℕ, ◌+◌, ◌-◌, ◌<◌, ◌≤◌, List, [], ◌∷◌, ◌++◌, length, take, drop, Option, Some, None, refl, sym, ◌∙◌, ap, subst, arith, append_assoc, add-zero, zero-add, length-append, length-drop, take-append-drop, length-take-le}
use Rattle.std.specs.Prelude.{All, slice_range}
use Rattle.std.proofs.lemmas.List.{take_at, take_rest, drop_at, drop_all, drop-drop}
use Rattle.std.proofs.lemmas.List.Elements.{All-nil, All-cons}
use Rattle.lucid_lex.specs.declared.front.Front.{Front}
use Rattle.lucid_lex.specs.declared.token.Kind.{Kind}
use Rattle.lucid_lex.specs.declared.token.Token.{Token}
use Rattle.lucid_lex.specs.Piece.{IsPiece, Piece, Stands, NothingBegins}
use Rattle.lucid_lex.specs.Reading.{joined, AllStand, with_token, tokens_from, ReadsUpTo, Reads, StopsAt, IsTokenOf}
use Rattle.lucid_lex.specs.Front.{front_of}
use Rattle.lucid_lex.proofs.Fronts.{cut, Begins, IsFrontOf, no_piece}
use Rattle.lucid_lex.proofs.Longest.{front_of-is}
use Rattle.lucid_lex.proofs.Shapes.{has_shape, kind_of_bytes}

-- One way

-- a piece has a byte at least
piece_length : (p : Piece) (rest : List ℕ) → Stands p rest → 0 < length p.bytes
piece_length p rest stands = (has_shape p.bytes p.kind stands.is_piece).0

-- of two pieces at one place
record SamePiece (p q : Piece) (r s : List ℕ) : Type 0 where
  same : p ≡ q
  rest : r ≡ s

piece_of : (p q : Piece) → p.bytes ≡ q.bytes → p.kind ≡ q.kind → p ≡ q
piece_of p q bytes kind = λ i. record { bytes = bytes i; kind = kind i }

same_piece : (p q : Piece) (r s : List ℕ) → Stands p r → Stands q s → p.bytes ++ r ≡ q.bytes ++ s → SamePiece p q r s
same_piece p q r s p_stands q_stands text =
    let p_least : length p.bytes ≤ length q.bytes = q_stands.longest p r p_stands.is_piece text in
    let q_least : length q.bytes ≤ length p.bytes = p_stands.longest q s q_stands.is_piece (sym text) in
    let len : length p.bytes ≡ length q.bytes = omega arith in
    let bytes : p.bytes ≡ q.bytes = sym (take_at p.bytes r (length q.bytes) len) ∙ ap (take (length q.bytes)) text ∙ take_at q.bytes s (length q.bytes) refl in
    let rest : r ≡ s = sym (drop_at p.bytes r (length q.bytes) len) ∙ ap (drop (length q.bytes)) text ∙ drop_at q.bytes s (length q.bytes) refl in
    let kind : p.kind ≡ q.kind = kind_of_bytes q.bytes p.kind q.kind (subst (λ l. IsPiece l p.kind) bytes p_stands.is_piece) q_stands.is_piece in
    record { same = piece_of p q bytes kind; rest = rest }

-- two lists of pieces of one text, each up to a place where nothing begins, are one
record SamePieces (ps qs : List Piece) (r s : List ℕ) : Type 0 where
  pub same : ps ≡ qs
  pub rest : r ≡ s

same_pieces : (ps qs : List Piece) (r s : List ℕ) → AllStand ps r → AllStand qs s → NothingBegins r → NothingBegins s → joined ps r ≡ joined qs s → SamePieces ps qs r s
same_pieces [] [] r s p_stand q_stand p_stops q_stops text = record { same = refl; rest = text }
same_pieces [] (q ∷ qs) r s p_stand q_stand p_stops q_stops text = absurd (p_stops q (joined qs s) text q_stand.0)
same_pieces (p ∷ ps) [] r s p_stand q_stand p_stops q_stops text = absurd (q_stops p (joined ps r) (sym text) p_stand.0)
same_pieces (p ∷ ps) (q ∷ qs) r s p_stand q_stand p_stops q_stops text =
    let first = same_piece p q (joined ps r) (joined qs s) p_stand.0 q_stand.0 text in
    let others = same_pieces ps qs r s p_stand.1 q_stand.1 p_stops q_stops first.rest in
    let first_same : p ≡ q = first.same in
    let others_same : ps ≡ qs = others.same in
    record { same = cc; rest = others.rest }

nothing_begins_nothing : NothingBegins []
nothing_begins_nothing = no_piece [] (λ q after is front. let some = (has_shape q.bytes q.kind is).0 in omega (arith, length-append q.bytes after, ap length front))

-- two readings of a text, each up to a place where nothing begins, have the same tokens and the same rest
record SameReading (ts us : List Token) (r s : List ℕ) : Type 0 where
  pub tokens : ts ≡ us
  pub rest : r ≡ s

same_reading : (text : List ℕ) (ts us : List Token) (r s : List ℕ) → ReadsUpTo text ts r → ReadsUpTo text us s → NothingBegins r → NothingBegins s → SameReading ts us r s
same_reading text ts us r s one other one_stops other_stops =
    let pieces = same_pieces one.pieces other.pieces r s one.each_stands other.each_stands one_stops other_stops (sym one.whole ∙ other.whole) in
    record { tokens = one.tokens ∙ ap (tokens_from 0) pieces.same ∙ sym other.tokens; rest = pieces.rest }

-- a text has one list of tokens at most
pub reads_one : (text : List ℕ) (ts us : List Token) → Reads text ts → Reads text us → ts ≡ us
reads_one text ts us one other = (same_reading text ts us [] [] one other nothing_begins_nothing nothing_begins_nothing).tokens

-- a text that is read to its end stops nowhere
pub reads_or_stops : (text : List ℕ) (ts : List Token) (at : ℕ) → Reads text ts → StopsAt text at → ⊥
reads_or_stops text ts at reads stops =
    let same = same_reading text ts stops.before.0 [] (drop at text) reads stops.before.1 nothing_begins_nothing stops.nothing in
    omega (arith, stops.within, ap length same.rest, length-drop at text)

-- a text stops at one place at most
pub stops_one : (text : List ℕ) (m n : ℕ) → StopsAt text m → StopsAt text n → m ≡ n
stops_one text m n one other =
    let same = same_reading text one.before.0 other.before.0 (drop m text) (drop n text) one.before.1 other.before.1 one.nothing other.nothing in
    omega (arith, one.within, other.within, ap length same.rest, length-drop m text, length-drop n text)

-- Piece by piece

-- how many bytes the pieces have
pieces_length : List Piece → ℕ
pieces_length [] = 0
pieces_length (p ∷ ps) = length p.bytes + pieces_length ps

length-joined : (ps : List Piece) (rest : List ℕ) → length (joined ps rest) ≡ pieces_length ps + length rest
unfolding pieces_length
length-joined [] rest = sym (zero-add (length rest))
length-joined (p ∷ ps) rest = omega (arith, length-append p.bytes (joined ps rest), length-joined ps rest)

joined_push : (ps : List Piece) (p : Piece) (rest : List ℕ) → joined (ps ++ p ∷ []) rest ≡ joined ps (p.bytes ++ rest)
joined_push [] p rest = refl
joined_push (q ∷ ps) p rest = ap (λ l. q.bytes ++ l) (joined_push ps p rest)

all_stand_push : (ps : List Piece) (p : Piece) (rest : List ℕ) → AllStand ps (p.bytes ++ rest) → Stands p rest → AllStand (ps ++ p ∷ []) rest
all_stand_push [] p rest all stands = (stands, tt)
all_stand_push (q ∷ ps) p rest all stands = (subst (Stands q) (sym (joined_push ps p rest)) all.0, all_stand_push ps p rest all.1 stands)

with_token-append : (start len : ℕ) (k : Option Kind) (ts us : List Token) → with_token start len k (ts ++ us) ≡ with_token start len k ts ++ us
with_token-append start len None ts us = refl
with_token-append start len (Some k) ts us = refl

tokens_from_push : (start : ℕ) (ps : List Piece) (p : Piece) → tokens_from start (ps ++ p ∷ []) ≡ tokens_from start ps ++ with_token (start + pieces_length ps) (length p.bytes) p.kind []
unfolding pieces_length
tokens_from_push start [] p = ap (λ n. with_token n (length p.bytes) p.kind []) (sym (add-zero start))
tokens_from_push start (q ∷ ps) p =
    let later = tokens_from_push (start + length q.bytes) ps p in
    let place : start + length q.bytes + pieces_length ps ≡ start + (length q.bytes + pieces_length ps) = omega arith in
    ap (with_token start (length q.bytes) q.kind) (later ∙ ap (λ n. tokens_from (start + length q.bytes) ps ++ with_token n (length p.bytes) p.kind []) place)
    ∙ with_token-append start (length q.bytes) q.kind (tokens_from (start + length q.bytes) ps) (with_token (start + (length q.bytes + pieces_length ps)) (length p.bytes) p.kind [])

-- a piece at the place that is reached is read next
pub reads_next : (text : List ℕ) (ts : List Token) (at : ℕ) (f : Front) → at ≤ length text → ReadsUpTo text ts (drop at text) → Begins (drop at text) f → ReadsUpTo text (ts ++ with_token at f.len f.kind []) (drop (at + f.len) text)
reads_next text ts at f within so_far next =
    let rest = drop at text in
    let left : drop f.len rest ≡ drop (at + f.len) text = drop-drop f.len at text in
    let piece : Piece = cut f.len f.kind rest in
    let len : length piece.bytes ≡ f.len = length-take-le f.len rest next.within in
    let stands : Stands piece (drop (at + f.len) text) = subst (Stands piece) left next.stands in
    let cut_here : rest ≡ piece.bytes ++ drop (at + f.len) text = sym (take-append-drop f.len rest) ∙ ap (λ l. piece.bytes ++ l) left in
    let place : 0 + pieces_length so_far.pieces ≡ at = omega (arith, ap length so_far.whole, length-joined so_far.pieces rest, length-drop at text) in
    record {
      pieces = so_far.pieces ++ piece ∷ [];
      whole = so_far.whole ∙ ap (joined so_far.pieces) cut_here ∙ sym (joined_push so_far.pieces piece (drop (at + f.len) text));
      each_stands = all_stand_push so_far.pieces piece (drop (at + f.len) text) (subst (AllStand so_far.pieces) cut_here so_far.each_stands) stands;
      tokens = ap (λ l. l ++ with_token at f.len f.kind []) so_far.tokens
          ∙ ap (λ n. tokens_from 0 so_far.pieces ++ with_token at n f.kind []) (sym len)
          ∙ ap (λ n. tokens_from 0 so_far.pieces ++ with_token n (length piece.bytes) f.kind []) (sym place)
          ∙ sym (tokens_from_push 0 so_far.pieces piece);
    }

-- Tokens in their text

with_token_all : (text : List ℕ) (start len : ℕ) (k : Option Kind) (ts : List Token) → start + len ≤ length text → IsPiece (slice_range text start (start + len)) k → All (IsTokenOf text) ts → All (IsTokenOf text) (with_token start len k ts)
with_token_all text start len None ts within piece all = all
with_token_all text start len (Some k) ts within piece all = All-cons (IsTokenOf text) (record { kind = k; span = record { start = start; end = start + len } }) ts (record { in_order = omega arith; within = within; written = piece }) all

tokens_in : (done : List ℕ) (ps : List Piece) (rest text : List ℕ) → text ≡ done ++ joined ps rest → AllStand ps rest → All (IsTokenOf text) (tokens_from (length done) ps)
tokens_in done [] rest text whole stand = All-nil (IsTokenOf text)
tokens_in done (p ∷ ps) rest text whole stand =
    let regrouped : text ≡ (done ++ p.bytes) ++ joined ps rest = whole ∙ sym (append_assoc done p.bytes (joined ps rest)) in
    let place : length (done ++ p.bytes) ≡ length done + length p.bytes = length-append done p.bytes in
    let len : length done + length p.bytes - length done ≡ length p.bytes = omega arith in
    let bytes : slice_range text (length done) (length done + length p.bytes) ≡ p.bytes =
    ap (λ n. take n (drop (length done) text)) len
    ∙ ap (λ l. take (length p.bytes) (drop (length done) l)) whole
    ∙ ap (take (length p.bytes)) (drop_at done (p.bytes ++ joined ps rest) (length done) refl)
    ∙ take_at p.bytes (joined ps rest) (length p.bytes) refl in
    let within : length done + length p.bytes ≤ length text = omega (arith, ap length regrouped, length-append (done ++ p.bytes) (joined ps rest), place) in
    with_token_all text (length done) (length p.bytes) p.kind (tokens_from (length done + length p.bytes) ps) within
    (subst (λ l. IsPiece l p.kind) (sym bytes) stand.0.is_piece)
    (subst (λ n. All (IsTokenOf text) (tokens_from n ps)) place (tokens_in (done ++ p.bytes) ps rest text regrouped stand.1))

-- the tokens of a text are in it
pub tokens_stand : (text : List ℕ) (ts : List Token) → Reads text ts → All (IsTokenOf text) ts
tokens_stand text ts reads = subst (All (IsTokenOf text)) (sym reads.tokens) (tokens_in [] reads.pieces [] text reads.whole reads.each_stands)

-- From the place that is reached

-- the finding of the function in the part of the text from there on
found_there : (text : List ℕ) (at : ℕ) (found : Option Front) → found ≡ front_of (slice_range text at (length text)) → IsFrontOf (drop at text) found
found_there text at found is = subst (IsFrontOf (drop at text)) (sym (is ∙ ap front_of (take_rest text at))) (front_of-is (drop at text))

-- where that is nothing, the text stops there
pub stops_here : (text : List ℕ) (ts : List Token) (at : ℕ) → at < length text → ReadsUpTo text ts (drop at text) → None ≡ front_of (slice_range text at (length text)) → StopsAt text at
stops_here text ts at within so_far none = record { within = within; before = (ts, so_far); nothing = found_there text at None none }

-- and else it is read next
pub record GoesOn (text : List ℕ) (ts : List Token) (at : ℕ) (f : Front) : Type 0 where
  pub forward : 0 < f.len
  pub within : at + f.len ≤ length text
  pub read : ReadsUpTo text (ts ++ with_token at f.len f.kind []) (drop (at + f.len) text)

pub goes_on : (text : List ℕ) (ts : List Token) (at : ℕ) (f : Front) → at ≤ length text → ReadsUpTo text ts (drop at text) → Some f ≡ front_of (slice_range text at (length text)) → GoesOn text ts at f
goes_on text ts at f within so_far found =
    let next : Begins (drop at text) f = found_there text at (Some f) found in
    let some = piece_length (cut f.len f.kind (drop at text)) (drop f.len (drop at text)) next.stands in
    record {
      forward = omega (arith, some, length-take-le f.len (drop at text) next.within);
      within = omega (arith, next.within, length-drop at text);
      read = reads_next text ts at f within so_far next;
    }

-- at the end the text is read
pub reads_all : (text : List ℕ) (ts : List Token) (at : ℕ) → length text ≤ at → ReadsUpTo text ts (drop at text) → Reads text ts
reads_all text ts at end so_far = subst (ReadsUpTo text ts) (drop_all at text end) so_far
