-- A spelled expression is read as that expression.
use Rattle.std.proofs.Common.{◌≡◌, ℕ, zero, suc, ◌+◌, ◌<◌, ◌≤◌, Bool, true, false, ◌&&◌, nat_le, if◌then◌else◌, List, [], ◌∷◌, length, map, Option, Some, None, refl, sym, ap, ◌∙◌, arith}
use Rattle.std.proofs.lemmas.Bool.{leb-true, le-leb}
use Rattle.std.proofs.lemmas.List.Folds.{list_all-map}
use Rattle.lucid_lex.specs.declared.sign.Sign.TheVariants as signs
use Rattle.lucid_lex.specs.declared.word.Word.TheVariants as words
use Rattle.lucid_parse_spec.specs.Lexemes.{Lexeme}
use Rattle.lucid_parse_spec.specs.Lexemes as lexemes
use Rattle.lucid_parse_tree.specs.declared.tree.E.{E}
use Rattle.lucid_parse_tree.specs.declared.tree.E.TheVariants as e
use Rattle.lucid_parse_tree.specs.declared.tree.A.{A}
use Rattle.lucid_parse_tree.specs.declared.tree.Pre.{Pre}
use Rattle.lucid_parse_tree.specs.declared.tree.Pre.TheVariants as pres
use Rattle.lucid_parse_tree.specs.declared.tree.Infix.{Infix}
use Rattle.lucid_parse_tree.specs.declared.tree.Infix.TheVariants as infixes
use Rattle.lucid_parse_spec.specs.declared.operator.Next.{Next}
use Rattle.lucid_parse_spec.specs.declared.operator.Next.TheVariants as nexts
use Rattle.lucid_parse_spec.specs.Operators.{pre_sign, infix_sign, level, left_level}
use Rattle.lucid_parse_spec.specs.Reader as read
use Rattle.lucid_parse_spec.specs.Reader.{Text, Outcome, Parser, ◌>>=◌}
use Rattle.lucid_parse_spec.specs.ReadExpression as read_e
use Rattle.lucid_parse_spec.specs.Spelling as spell
use Rattle.lucid_parse_spec.specs.Spelling.{spelled, array_spelled, level_of, array_level, level_if, all_bind, is_some, is_built, all_built}
use Rattle.lucid_parse_spec.proofs.Equations.{spelled-Number, spelled-Truth, spelled-Me, spelled-Time, spelled-Hash, spelled-Name, spelled-Call, spelled-Array, spelled-Paren, spelled-Prefix, spelled-Cast, spelled-Shift, spelled-Infix, level_of-Number, level_of-Truth, level_of-Me, level_of-Time, level_of-Hash, level_of-Name, level_of-Call, level_of-Array, level_of-Paren, level_of-Prefix, level_of-Cast, level_of-Shift, level_of-Infix}
use Rattle.lucid_parse_spec.specs.declared.method.Method.{Method}
use Rattle.lucid_parse_spec.specs.declared.method.Method.TheVariants as methods
use Rattle.lucid_parse_spec.proofs.Calls.{IsCall, method_text, level_needs, get_call, set_call, getm_call, setm_call, update_call}
use Rattle.lucid_parse_spec.proofs.Steps.{both, of_both, width_again, width_if_again}
use Rattle.lucid_parse_spec.proofs.Repeats.{ItemsOf, separated_again}
use Rattle.lucid_parse_spec.proofs.Growth.{grows, width_if_grow}
use Rattle.lucid_parse_spec.proofs.Levels.{next_level_lies}
use Rattle.lucid_parse_tree.proofs.Induction.{Cases, induction, array_induction}

true_le : (n m : ℕ) → nat_le n m ≡ true → n ≤ m
true_le n m h = leb-true n m h

le_true : (n m : ℕ) → n ≤ m → nat_le n m ≡ true
le_true n m h = le-leb n m h

le_is : (n m : ℕ) (b : Bool) → nat_le n m ≡ b → m < n → b ≡ false
le_is n m true h over = let under = true_le n m h in absurd (omega arith)
le_is n m false h over = refl

le_false : (n m : ℕ) → m < n → nat_le n m ≡ false
le_false n m over = le_is n m (nat_le n m) refl over

-- ---- where an expression ends

abbrev pub not_open : Text → Bool
not_open (lexemes.Sign signs.OpenParen ∷ r) = false
not_open r = true

abbrev pub below : ℕ → Option (Next × Text) → Bool
below least None = true
below least (Some p) = nat_le (read_e.next_level p.0 + 1) least

-- nothing follows that an expression of at least this level reads
abbrev pub stops : ℕ → Text → Bool
stops least r = not_open r && below least (read_e.next_of r)

open_none : (r : Text) → not_open r ≡ true → read.after signs.OpenParen r ≡ None
open_none [] h = refl
open_none (lexemes.Sign signs.OpenParen ∷ r) h = absurd cc
open_none (l ∷ r) h = refl

next_infix : (op : Infix) (ts : Text) → read_e.next_of (spell.sign (infix_sign op) ts) ≡ Some (nexts.Infix op, ts)
unfolding read_e.next_of
next_infix infixes.OrOr ts = refl
next_infix infixes.AndAnd ts = refl
next_infix infixes.EqualEqual ts = refl
next_infix infixes.NotEqual ts = refl
next_infix infixes.Less ts = refl
next_infix infixes.Greater ts = refl
next_infix infixes.LessEqual ts = refl
next_infix infixes.GreaterEqual ts = refl
next_infix infixes.Or ts = refl
next_infix infixes.Caret ts = refl
next_infix infixes.And ts = refl
next_infix infixes.Plus ts = refl
next_infix infixes.Minus ts = refl
next_infix infixes.SatAdd ts = refl
next_infix infixes.SatSub ts = refl

next_shift : (up : Bool) (n : ℕ) (ts : Text) → read_e.next_of (spell.sign (if up then signs.ShiftLeft else signs.ShiftRight) (spell.number n ts)) ≡ Some (nexts.Shift up n, ts)
unfolding read_e.next_of
next_shift true n ts = refl
next_shift false n ts = refl

not_open_infix : (op : Infix) (ts : Text) → not_open (spell.sign (infix_sign op) ts) ≡ true
not_open_infix infixes.OrOr ts = refl
not_open_infix infixes.AndAnd ts = refl
not_open_infix infixes.EqualEqual ts = refl
not_open_infix infixes.NotEqual ts = refl
not_open_infix infixes.Less ts = refl
not_open_infix infixes.Greater ts = refl
not_open_infix infixes.LessEqual ts = refl
not_open_infix infixes.GreaterEqual ts = refl
not_open_infix infixes.Or ts = refl
not_open_infix infixes.Caret ts = refl
not_open_infix infixes.And ts = refl
not_open_infix infixes.Plus ts = refl
not_open_infix infixes.Minus ts = refl
not_open_infix infixes.SatAdd ts = refl
not_open_infix infixes.SatSub ts = refl

not_open_shift : (up : Bool) (ts : Text) → not_open (spell.sign (if up then signs.ShiftLeft else signs.ShiftRight) ts) ≡ true
not_open_shift true ts = refl
not_open_shift false ts = refl

-- a left operand may be of its sign's level at least
left_above : (op : Infix) (l : ℕ) → nat_le (left_level op) l ≡ true → level op ≤ l
left_above infixes.OrOr l h = let above = true_le _ l h in omega arith
left_above infixes.AndAnd l h = let above = true_le _ l h in omega arith
left_above infixes.EqualEqual l h = let above = true_le _ l h in omega arith
left_above infixes.NotEqual l h = let above = true_le _ l h in omega arith
left_above infixes.Less l h = let above = true_le _ l h in omega arith
left_above infixes.Greater l h = let above = true_le _ l h in omega arith
left_above infixes.LessEqual l h = let above = true_le _ l h in omega arith
left_above infixes.GreaterEqual l h = let above = true_le _ l h in omega arith
left_above infixes.Or l h = let above = true_le _ l h in omega arith
left_above infixes.Caret l h = let above = true_le _ l h in omega arith
left_above infixes.And l h = let above = true_le _ l h in omega arith
left_above infixes.Plus l h = let above = true_le _ l h in omega arith
left_above infixes.Minus l h = let above = true_le _ l h in omega arith
left_above infixes.SatAdd l h = let above = true_le _ l h in omega arith
left_above infixes.SatSub l h = let above = true_le _ l h in omega arith

below_nine : (o : Option (Next × Text)) → below 9 o ≡ true
below_nine None = refl
below_nine (Some p) = (next_level_lies p.0).1

stops_nine : (r : Text) → not_open r ≡ true → stops 9 r ≡ true
stops_nine r h = of_both _ _ h (below_nine (read_e.next_of r))

below_more : (l m : ℕ) (o : Option (Next × Text)) → l ≤ m → below l o ≡ true → below m o ≡ true
below_more l m None more h = refl
below_more l m (Some p) more h = let under = true_le _ l h in le_true _ m (omega arith)

stops_more : (l m : ℕ) (r : Text) → l ≤ m → stops l r ≡ true → stops m r ≡ true
stops_more l m r more h = let hs = both _ _ h in of_both _ _ hs.0 (below_more l m (read_e.next_of r) more hs.1)

within_none : (least tight : ℕ) (o : Option (Next × Text)) → below least o ≡ true → read_e.within least tight o ≡ None
within_none least tight None h = refl
within_none least tight (Some p) h =
    let over = true_le (read_e.next_level p.0 + 1) least h in
    let short : read_e.next_level p.0 < least = omega arith in
    rw (le_false least (read_e.next_level p.0) short) refl

-- nothing more is read where nothing follows
climb_stops : (inner : ℕ → Parser E) (least n tight : ℕ) (left : E) (r : Text) → stops least r ≡ true → read_e.climb inner least n tight left r ≡ Some (left, r)
unfolding read_e.climb read_e.next_within
climb_stops inner least zero tight left r h = refl
climb_stops inner least (suc n) tight left r h = ap (read_e.climb_on inner (read_e.climb inner least n) left r) (within_none least tight (read_e.next_of r) (both _ _ h).1)

tail_same : {l : Lexeme} {ts us : Text} → (l ∷ ts) ≡ (l ∷ us) → ts ≡ us
tail_same h = cc

from_nine : (l : ℕ) → nat_le 9 l ≡ true → nat_le 1 l ≡ true
from_nine l h = let above = true_le 9 l h in le_true 1 l (omega arith)

-- an expression within is read as it is spelled, where it has few enough tokens behind it
abbrev pub Again : ℕ → (ℕ → Parser E) → Type 0
Again d inner = (least : ℕ) (x : E) (r : Text) → nat_le least (level_of x) ≡ true → nat_le 1 (level_of x) ≡ true → stops least r ≡ true → length (spelled x r) ≤ d → inner least (spelled x r) ≡ Some (x, r)

pub stops_comma : (r : Text) → stops 1 (spell.sign signs.Comma r) ≡ true
unfolding read_e.next_of
stops_comma r = refl

pub stops_close : (r : Text) → stops 1 (spell.sign signs.CloseParen r) ≡ true
unfolding read_e.next_of
stops_close r = refl

stops_list : (xs : List E) (r : Text) → stops 1 r ≡ true → stops 1 (spell.each_after_comma (map spelled xs) r) ≡ true
stops_list [] r h = h
stops_list (x ∷ xs) r h = stops_comma (spelled x (spell.each_after_comma (map spelled xs) r))

-- a nested expression begins with no token that ends a list, and no type
pub record Begins (inner : ℕ → Parser E) : Type 0 where
  pub close : (q : Text) → inner 1 (spell.sign signs.CloseParen q) ≡ None
  pub semicolon : (q : Text) → inner 1 (spell.sign signs.Semicolon q) ≡ None
  pub int : (q : Text) → inner 1 (spell.word words.Int q) ≡ None

-- an operand is read as it is spelled
abbrev OperandAgain : ℕ → (ℕ → Parser E) → E → Type 0
OperandAgain d inner x = (r : Text) → not_open r ≡ true → nat_le 1 (level_of x) ≡ true → length (spelled x r) ≤ suc d → (read_e.operand inner (spelled x r) ≡ Some (x, r)) × (level_of x ≡ 9)

record CallAgain (d : ℕ) (inner : ℕ → Parser E) (x : A) (r : Text) : Type 0 where
  behind : Text
  written : array_spelled x r ≡ spell.word words.ArrayCalls behind
  reads : read_e.array_call inner behind ≡ Some (x, r)
  level : array_level x ≡ 9

module _ (d : ℕ) (inner : ℕ → Parser E) (again : Again d inner) (begins : Begins inner) where
  no_close : (ts r : Text) (x : E) → inner 1 ts ≡ Some (x, r) → read.after signs.CloseParen ts ≡ None
  no_close [] r x h = refl
  no_close (lexemes.Sign signs.CloseParen ∷ q) r x h = let none = begins.close q in absurd cc
  no_close (l ∷ q) r x h = refl

  weakly : (x : E) (r : Text) → length r ≤ length (spelled x r)
  weakly x r = let more = grows x r in omega arith

  items : (xs : List E) (r : Text) → all_built xs ≡ true → stops 1 r ≡ true → length (spell.with_commas (map spelled xs) r) ≤ d → ItemsOf (inner 1) spelled xs r
  items [] r built stop few = tt
  items (x ∷ []) r built stop few = let hs = both _ _ built in (again 1 x r hs.0 hs.0 stop few, tt)
  items (x ∷ y ∷ ys) r built stop few =
      let hs = both _ _ built in
      let more = grows x (spell.each_after_comma (map spelled (y ∷ ys)) r) in
      (again 1 x (spell.each_after_comma (map spelled (y ∷ ys)) r) hs.0 hs.0 (stops_list (y ∷ ys) r stop) few, items (y ∷ ys) r hs.1 stop (omega arith))

  pub expressions_again : (x : E) (xs : List E) (r : Text) → all_built (x ∷ xs) ≡ true → length (spell.with_commas (map spelled (x ∷ xs)) (spell.sign signs.CloseParen r)) ≤ d → read.separated (inner 1) (spell.with_commas (map spelled (x ∷ xs)) (spell.sign signs.CloseParen r)) ≡ Some (x ∷ xs, spell.sign signs.CloseParen r)
  expressions_again x xs r built few = separated_again (inner 1) spelled weakly x xs (spell.sign signs.CloseParen r) (items (x ∷ xs) (spell.sign signs.CloseParen r) built (stops_close r) few) refl

  pub arguments_again : (xs : List E) (r : Text) → all_built xs ≡ true → length (spell.with_commas (map spelled xs) (spell.sign signs.CloseParen r)) ≤ d → read_e.arguments inner (spell.with_commas (map spelled xs) (spell.sign signs.CloseParen r)) ≡ Some (xs, r)
  unfolding read_e.arguments
  arguments_again [] r built few = refl
  arguments_again (x ∷ xs) r built few =
      let rest = spell.each_after_comma (map spelled xs) (spell.sign signs.CloseParen r) in
      let first = (items (x ∷ xs) (spell.sign signs.CloseParen r) built (stops_close r) few).0 in
      rw (no_close (spelled x rest) rest x first, expressions_again x xs r built few) refl

  -- ---- operands

  parens_again : (ts r : Text) (x : E) → inner 1 ts ≡ Some (x, spell.sign signs.CloseParen r) → read_e.in_parens inner ts ≡ Some (e.Paren x, r)
  unfolding read_e.in_parens
  parens_again (lexemes.Word words.Int ∷ q) r x h = let none = begins.int q in absurd cc
  parens_again ts r x h = rw h refl

  prefix_operand : (op : Pre) (ts : Text) → read_e.operand inner (spell.sign (pre_sign op) ts) ≡ read_e.prefixed inner ts (Some op)
  unfolding read_e.operand
  prefix_operand pres.Minus ts = refl
  prefix_operand pres.Tilde ts = refl
  prefix_operand pres.Not ts = refl

  name_again : (n : List ℕ) → OperandAgain d inner (e.Name n)
  unfolding read_e.operand read_e.named
  name_again n r shut built few = (rw (spelled-Name n r) (ap (read_e.named_on inner n r) (open_none r shut)), level_of-Name n)

  call_again : (n : List ℕ) (xs : List E) → OperandAgain d inner (e.Call n xs)
  unfolding read_e.operand read_e.named
  call_again n xs r shut built few =
      let needs = level_needs (all_bind (map level_of xs)) 9 (rw (level_of-Call n xs) at built) in
      let all : all_built xs ≡ true = sym (list_all-map (λ l. nat_le 1 l) level_of xs) ∙ needs in
      let less : length (spell.with_commas (map spelled xs) (spell.sign signs.CloseParen r)) ≤ d = omega (arith, rw (spelled-Call n xs r) at few) in
      (rw (spelled-Call n xs r, arguments_again xs r all less) refl, level_of-Call n xs ∙ ap (λ b. level_if b 9) needs)

  hash_items : (w : ℕ) (xs : List E) (r : Text) → is_some (map level_of xs) && all_bind (map level_of xs) ≡ true → length (spell.with_commas (map spelled xs) (spell.sign signs.CloseParen r)) ≤ d → read_e.hash inner (spell.width w (spell.in_parens (spell.with_commas (map spelled xs)) r)) ≡ Some (e.Hash w xs, r)
  unfolding read_e.hash_head
  hash_items w [] r built few = absurd cc
  hash_items w (x ∷ xs) r built few =
      let all : all_built (x ∷ xs) ≡ true = sym (list_all-map (λ l. nat_le 1 l) level_of (x ∷ xs)) ∙ built in
      rw (width_again w (spell.in_parens (spell.with_commas (map spelled (x ∷ xs))) r), arguments_again (x ∷ xs) r all few) refl

  hash_again : (w : ℕ) (xs : List E) → OperandAgain d inner (e.Hash w xs)
  unfolding read_e.operand
  hash_again w xs r shut built few =
      let needs = level_needs (is_some (map level_of xs) && all_bind (map level_of xs)) 9 (rw (level_of-Hash w xs) at built) in
      let less : length (spell.with_commas (map spelled xs) (spell.sign signs.CloseParen r)) ≤ d = omega (arith, rw (spelled-Hash w xs r) at few) in
      (rw (spelled-Hash w xs r) (hash_items w xs r needs less), level_of-Hash w xs ∙ ap (λ b. level_if b 9) needs)

  time_again : OperandAgain d inner e.Time
  unfolding read_e.operand read_e.after_time
  time_again r shut built few = (rw (spelled-Time r) refl, level_of-Time)

  truth_again : (b : Bool) → OperandAgain d inner (e.Truth b)
  unfolding read_e.operand
  truth_again true r shut built few = (rw (spelled-Truth true r) refl, level_of-Truth true)
  truth_again false r shut built few = (rw (spelled-Truth false r) refl, level_of-Truth false)

  paren_again : (x : E) → OperandAgain d inner (e.Paren x)
  unfolding read_e.operand
  paren_again x r shut built few =
      let needs = level_needs (nat_le 1 (level_of x)) 9 (rw (level_of-Paren x) at built) in
      let less : length (spelled x (spell.sign signs.CloseParen r)) ≤ d = omega (arith, rw (spelled-Paren x r) at few) in
      (rw (spelled-Paren x r) (parens_again (spelled x (spell.sign signs.CloseParen r)) r x (again 1 x (spell.sign signs.CloseParen r) needs needs (stops_close r) less)), level_of-Paren x ∙ ap (λ b. level_if b 9) needs)

  prefix_again : (op : Pre) (x : E) → OperandAgain d inner (e.Prefix op x)
  prefix_again op x r shut built few =
      let needs = level_needs (nat_le 9 (level_of x)) 9 (rw (level_of-Prefix op x) at built) in
      let less : length (spelled x r) ≤ d = omega (arith, rw (spelled-Prefix op x r) at few) in
      (rw (spelled-Prefix op x r, prefix_operand op (spelled x r), again 9 x r needs (from_nine (level_of x) needs) (stops_nine r shut) less) refl, level_of-Prefix op x ∙ ap (λ b. level_if b 9) needs)

  cast_again : (w : Option ℕ) (x : E) → OperandAgain d inner (e.Cast w x)
  unfolding read_e.operand read_e.in_parens
  cast_again w x r shut built few =
      let needs = level_needs (nat_le 9 (level_of x)) 9 (rw (level_of-Cast w x) at built) in
      let wide = width_if_grow w (spell.sign signs.CloseParen (spelled x r)) in
      let less : length (spelled x r) ≤ d = omega (arith, rw (spelled-Cast w x r) at few) in
      (rw (spelled-Cast w x r, width_if_again w (spell.sign signs.CloseParen (spelled x r)) refl, again 9 x r needs (from_nine (level_of x) needs) (stops_nine r shut) less) refl, level_of-Cast w x ∙ ap (λ b. level_if b 9) needs)

  -- ---- calls of arrays

  method_again : (m : Method) (ts : Text) → read_e.array_method (spell.sign signs.Dot (spell.name (method_text m) (spell.sign signs.OpenParen ts))) ≡ Some (m, ts)
  unfolding read_e.array_method
  method_again methods.Get ts = refl
  method_again methods.Set ts = refl
  method_again methods.Getm ts = refl
  method_again methods.Setm ts = refl
  method_again methods.Update ts = refl

  call_read : (m : Method) (xs : List E) (x : A) (r : Text) → IsCall m xs x → nat_le 1 (array_level x) ≡ true → length (array_spelled x r) ≤ suc d → CallAgain d inner x r
  unfolding read_e.array_call
  call_read m xs x r is built few =
      let all = is.built built in
      let given = spell.with_commas (map spelled xs) (spell.sign signs.CloseParen r) in
      let less : length given ≤ d = omega (arith, rw (is.written r) at few) in
      record {
        behind = spell.sign signs.Dot (spell.name (method_text m) (spell.sign signs.OpenParen given));
        written = is.written r;
        reads = rw (method_again m given, arguments_again xs r all less, is.reads) refl;
        level = is.level all;
      }

  abbrev ArrayAgain : A → Type 0
  ArrayAgain x = (r : Text) → nat_le 1 (array_level x) ≡ true → length (array_spelled x r) ≤ suc d → CallAgain d inner x r

  array_operand : (x : A) → ArrayAgain x → OperandAgain d inner (e.Array x)
  unfolding read_e.operand
  array_operand x calls r shut built few =
      let h = calls r (rw (level_of-Array x) at built) (rw (spelled-Array x r) at few) in
      (rw (spelled-Array x r, h.written, h.reads) refl, level_of-Array x ∙ h.level)

  -- ---- signs behind operands

  -- an expression of at least this level
  abbrev pub whole : ℕ → Parser E
  whole least ts = read_e.operand inner ts >>= (λ x. read_e.climb inner least (length x.1) 9 x.0 x.1)

  -- the turns behind an expression, once it is read
  record Behind (least : ℕ) (x : E) (r : Text) : Type 0 where
    turns : ℕ
    enough : length r ≤ turns
    stands : whole least (spelled x r) ≡ read_e.climb inner least turns (level_of x) x r

  abbrev Spine : E → Type 0
  Spine x = (least : ℕ) (r : Text) → nat_le least (level_of x) ≡ true → nat_le 1 (level_of x) ≡ true → stops (level_of x + 1) r ≡ true → length (spelled x r) ≤ suc d → Behind least x r

  operand_spine : (x : E) → OperandAgain d inner x → Spine x
  operand_spine x reads least r at_least built stop few =
      let h = reads r (both _ _ stop).0 built few in
      record {
        turns = length r;
        enough = omega arith;
        stands = rw (h.0, h.1) refl;
      }

  turn : (least n tight : ℕ) (left : E) (ts : Text) (p : Next × Text) → read_e.next_of ts ≡ Some p → nat_le least (read_e.next_level p.0) ≡ true → nat_le (read_e.next_left p.0) tight ≡ true → read_e.climb inner least (suc n) tight left ts ≡ read_e.climb_on inner (read_e.climb inner least n) left ts (Some p)
  unfolding read_e.climb read_e.next_within
  turn least n tight left ts p is loose fits = rw (is, loose, fits) refl

  shifted : (x : E) (up : Bool) (k least : ℕ) (r : Text) → level_of (e.Shift x up k) ≡ 7 → nat_le least 7 ≡ true → nat_le 7 (level_of x) ≡ true → (n : ℕ) → length (spell.sign (if up then signs.ShiftLeft else signs.ShiftRight) (spell.number k r)) ≤ n → whole least (spelled (e.Shift x up k) r) ≡ read_e.climb inner least n (level_of x) x (spell.sign (if up then signs.ShiftLeft else signs.ShiftRight) (spell.number k r)) → Behind least (e.Shift x up k) r
  shifted x up k least r level_is low needs zero enough stands = absurd (omega arith)
  shifted x up k least r level_is low needs (suc n) enough stands = record {
    turns = n;
    enough = omega arith;
    stands = stands ∙ turn least n (level_of x) x _ (nexts.Shift up k, r) (next_shift up k r) low needs ∙ rw level_is refl;
  }

  shift_spine : (x : E) (up : Bool) (k : ℕ) → Spine x → Spine (e.Shift x up k)
  shift_spine x up k spine least r at_least built stop few =
      let needs = level_needs (nat_le 7 (level_of x)) 7 (rw (level_of-Shift x up k) at built) in
      let level_is : level_of (e.Shift x up k) ≡ 7 = level_of-Shift x up k ∙ ap (λ b. level_if b 7) needs in
      let ts = spell.sign (if up then signs.ShiftLeft else signs.ShiftRight) (spell.number k r) in
      let low : nat_le least 7 ≡ true = rw level_is at at_least in
      let above = true_le 7 (level_of x) needs in
      let under = true_le least 7 low in
      let next_is = next_shift up k r in
      let stops_there : stops (level_of x + 1) ts ≡ true = of_both _ _ (not_open_shift up (spell.number k r)) (rw next_is (le_true (7 + 1) (level_of x + 1) (omega arith))) in
      let h = spine least ts (le_true least (level_of x) (omega arith)) (le_true 1 (level_of x) (omega arith)) stops_there (rw (spelled-Shift x up k r) at few) in
      shifted x up k least r level_is low needs h.turns h.enough (ap (whole least) (spelled-Shift x up k r) ∙ h.stands)

  infixed : (op : Infix) (x y : E) (least : ℕ) (r : Text) → level_of (e.Infix op x y) ≡ level op → nat_le least (level op) ≡ true → nat_le (left_level op) (level_of x) ≡ true → inner (level op + 1) (spelled y r) ≡ Some (y, r) → length r < length (spelled y r) → (n : ℕ) → length (spell.sign (infix_sign op) (spelled y r)) ≤ n → whole least (spelled (e.Infix op x y) r) ≡ read_e.climb inner least n (level_of x) x (spell.sign (infix_sign op) (spelled y r)) → Behind least (e.Infix op x y) r
  infixed op x y least r level_is low needs right more zero enough stands = absurd (omega arith)
  infixed op x y least r level_is low needs right more (suc n) enough stands = record {
    turns = n;
    enough = omega arith;
    stands = stands ∙ turn least n (level_of x) x _ (nexts.Infix op, spelled y r) (next_infix op (spelled y r)) low needs ∙ rw (right, level_is) refl;
  }

  infix_spine : (op : Infix) (x y : E) → Spine x → Spine (e.Infix op x y)
  infix_spine op x y spine least r at_least built stop few =
      let needs = level_needs (nat_le (left_level op) (level_of x) && nat_le (level op + 1) (level_of y)) (level op) (rw (level_of-Infix op x y) at built) in
      let hs = both _ _ needs in
      let level_is : level_of (e.Infix op x y) ≡ level op = level_of-Infix op x y ∙ ap (λ b. level_if b (level op)) needs in
      let ts = spell.sign (infix_sign op) (spelled y r) in
      let low : nat_le least (level op) ≡ true = rw level_is at at_least in
      let above = left_above op (level_of x) hs.0 in
      let under = true_le least (level op) low in
      let one = true_le 1 (level op) (rw level_is at built) in
      let right_above = true_le (level op + 1) (level_of y) hs.1 in
      let stops_there : stops (level_of x + 1) ts ≡ true = of_both _ _ (not_open_infix op (spelled y r)) (rw (next_infix op (spelled y r)) (le_true (level op + 1) (level_of x + 1) (omega arith))) in
      let all : length (spelled x ts) ≤ suc d = rw (spelled-Infix op x y r) at few in
      let more = grows x ts in
      let h = spine least ts (le_true least (level_of x) (omega arith)) (le_true 1 (level_of x) (omega arith)) stops_there all in
      let right = again (level op + 1) y r hs.1 (le_true 1 (level_of y) (omega arith)) (rw level_is at stop) (omega arith) in
      infixed op x y least r level_is low hs.0 right (grows y r) h.turns h.enough (ap (whole least) (spelled-Infix op x y r) ∙ h.stands)

  cases : Cases Spine ArrayAgain
  unfolding read_e.operand
  cases = record {
    number = λ n. operand_spine (e.Number n) (λ r shut built few. (rw (spelled-Number n r) refl, level_of-Number n));
    truth = λ b. operand_spine (e.Truth b) (truth_again b);
    me = operand_spine e.Me (λ r shut built few. (rw (spelled-Me r) refl, level_of-Me));
    time = operand_spine e.Time time_again;
    hash = λ w xs each. operand_spine (e.Hash w xs) (hash_again w xs);
    name = λ n. operand_spine (e.Name n) (name_again n);
    call = λ n xs each. operand_spine (e.Call n xs) (call_again n xs);
    array = λ x calls. operand_spine (e.Array x) (array_operand x calls);
    paren = λ x spine. operand_spine (e.Paren x) (paren_again x);
    prefix = λ op x spine. operand_spine (e.Prefix op x) (prefix_again op x);
    cast = λ w x spine. operand_spine (e.Cast w x) (cast_again w x);
    shift = λ x up n spine. shift_spine x up n spine;
    infix_of = λ op x y left right. infix_spine op x y left;
    get = λ n i spine r. call_read _ _ _ r (get_call n i);
    set = λ n i x si sx r. call_read _ _ _ r (set_call n i x);
    getm = λ n i m x si sx r. call_read _ _ _ r (getm_call n i m x);
    setm = λ n i m x si sx r. call_read _ _ _ r (setm_call n i m x);
    update = λ n i g x s y si sx sy r. call_read _ _ _ r (update_call n i g x s y);
  }

  pub whole_again : (least : ℕ) (x : E) (r : Text) → nat_le least (level_of x) ≡ true → nat_le 1 (level_of x) ≡ true → stops least r ≡ true → length (spelled x r) ≤ suc d → whole least (spelled x r) ≡ Some (x, r)
  whole_again least x r at_least built stop few =
      let low = true_le least (level_of x) at_least in
      let h = induction Spine ArrayAgain cases x least r at_least built (stops_more least (level_of x + 1) r (omega arith) stop) few in
      h.stands ∙ climb_stops inner least h.turns (level_of x) x r stop

  -- a call of an array, with the tokens after `Array`
  pub call_behind : (x : A) (r ts : Text) → array_spelled x r ≡ spell.word words.ArrayCalls ts → nat_le 1 (array_level x) ≡ true → length ts ≤ d → read_e.array_call inner ts ≡ Some (x, r)
  call_behind x r ts is built few =
      let all : length (array_spelled x r) ≤ suc d = rw is (omega arith) in
      let h = array_induction Spine ArrayAgain cases x r built all in
      let same : ts ≡ h.behind = tail_same (sym is ∙ h.written) in
      rw same h.reads

  pub call_begins : (x : A) (r : Text) → nat_le 1 (array_level x) ≡ true → length (array_spelled x r) ≤ suc d → (ts : Text) × (array_spelled x r ≡ spell.word words.ArrayCalls ts)
  call_begins x r built few = let h = array_induction Spine ArrayAgain cases x r built few in (h.behind, h.written)

-- ---- whole expressions

begins_at : (d : ℕ) → Begins (read_e.expression_at d)
unfolding read_e.expression_at read_e.operand
begins_at zero = record { close = λ q. refl; semicolon = λ q. refl; int = λ q. refl }
begins_at (suc d) = record { close = λ q. refl; semicolon = λ q. refl; int = λ q. refl }

pub expression_at_again : (d : ℕ) → Again d (read_e.expression_at d)
unfolding read_e.expression_at
expression_at_again zero least x r at_least built stop few = let more = grows x r in absurd (omega arith)
expression_at_again (suc d) least x r at_least built stop few = whole_again d (read_e.expression_at d) (expression_at_again d) (begins_at d) least x r at_least built stop few

-- an expression that is spelled is read
pub expression_again : (x : E) (r : Text) → is_built x ≡ true → stops 1 r ≡ true → read_e.expression (spelled x r) ≡ Some (x, r)
unfolding read_e.expression
expression_again x r built stop = expression_at_again (length (spelled x r)) 1 x r built built stop (omega arith)

pub call_arguments_again : (xs : List E) (r : Text) → all_built xs ≡ true → read_e.call_arguments (spell.with_commas (map spelled xs) (spell.sign signs.CloseParen r)) ≡ Some (xs, r)
unfolding read_e.call_arguments
call_arguments_again xs r built =
    let n = length (spell.with_commas (map spelled xs) (spell.sign signs.CloseParen r)) in
    arguments_again n (read_e.expression_at n) (expression_at_again n) (begins_at n) xs r built (omega arith)

pub array_call_again : (x : A) (r ts : Text) → array_spelled x r ≡ spell.word words.ArrayCalls ts → nat_le 1 (array_level x) ≡ true → read_e.array_call (read_e.expression_at (length ts)) ts ≡ Some (x, r)
array_call_again x r ts is built = call_behind (length ts) (read_e.expression_at (length ts)) (expression_at_again (length ts)) (begins_at (length ts)) x r ts is built (omega arith)

-- a call of an array begins with `Array`
pub array_begins : (x : A) (r : Text) → nat_le 1 (array_level x) ≡ true → (ts : Text) × (array_spelled x r ≡ spell.word words.ArrayCalls ts)
array_begins x r built = let k = length (array_spelled x r) in call_begins k (read_e.expression_at k) (expression_at_again k) (begins_at k) x r built (omega arith)

pub operands_again : (xs : List E) (r : Text) → all_built xs ≡ true → read_e.operands (spell.each_after_comma (map spelled xs) (spell.sign signs.CloseParen r)) ≡ Some (xs, spell.sign signs.CloseParen r)
unfolding read_e.operands
operands_again [] r built = refl
operands_again (x ∷ xs) r built =
    let n = length (spell.with_commas (map spelled (x ∷ xs)) (spell.sign signs.CloseParen r)) in
    expressions_again n (read_e.expression_at n) (expression_at_again n) (begins_at n) x xs r built (omega arith)

semicolon_at : (q : Text) → read_e.expression (spell.sign signs.Semicolon q) ≡ None
unfolding read_e.expression read_e.expression_at read_e.operand
semicolon_at q = refl

semicolon_none : (ts r : Text) (x : E) → read_e.expression ts ≡ Some (x, r) → read.after signs.Semicolon ts ≡ None
semicolon_none [] r x h = refl
semicolon_none (lexemes.Sign signs.Semicolon ∷ q) r x h = let none = semicolon_at q in absurd cc
semicolon_none (l ∷ q) r x h = refl

-- an expression doesn't begin with `;`
pub no_semicolon : (x : E) (r : Text) → is_built x ≡ true → stops 1 r ≡ true → read.after signs.Semicolon (spelled x r) ≡ None
no_semicolon x r built stop = semicolon_none (spelled x r) r x (expression_again x r built stop)
