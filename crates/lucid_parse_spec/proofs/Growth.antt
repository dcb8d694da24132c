-- Every expression has a token.
use Rattle.std.proofs.Common.{ℕ, ◌<◌, ◌≤◌, if◌then◌else◌, List, [], ◌∷◌, length, map, Option, Some, None, arith}
use Rattle.std.specs.List.{AllByRecursion}
use Rattle.lucid_lex.specs.declared.sign.Sign.TheVariants as signs
use Rattle.lucid_parse_tree.specs.declared.tree.E.{E}
use Rattle.lucid_parse_tree.specs.declared.tree.A.{A}
use Rattle.lucid_parse_spec.specs.Operators.{infix_sign}
use Rattle.lucid_parse_spec.specs.Spelling as spell
use Rattle.lucid_parse_spec.specs.Spelling.{Text, Spelled, spelled, array_spelled}
use Rattle.lucid_parse_spec.proofs.Equations.{spelled-Number, spelled-Truth, spelled-Me, spelled-Time, spelled-Hash, spelled-Name, spelled-Call, spelled-Array, spelled-Paren, spelled-Prefix, spelled-Cast, spelled-Shift, spelled-Infix, array_spelled-Get, array_spelled-Set, array_spelled-Getm, array_spelled-Setm, array_spelled-Update}
use Rattle.lucid_parse_tree.proofs.Induction.{Cases, induction, array_induction}

abbrev Grows : E → Type 0
Grows x = (r : Text) → length r < length (spelled x r)

abbrev ArrayGrows : A → Type 0
ArrayGrows x = (r : Text) → length r < length (array_spelled x r)

more_grow : (xs : List E) → AllByRecursion Grows xs → (r : Text) → length r ≤ length (spell.each_after_comma (map spelled xs) r)
more_grow [] each r = omega arith
more_grow (x ∷ xs) each r =
    let first = each.0 (spell.each_after_comma (map spelled xs) r) in
    let rest = more_grow xs each.1 r in omega arith

list_grow : (xs : List E) → AllByRecursion Grows xs → (r : Text) → length r ≤ length (spell.with_commas (map spelled xs) r)
list_grow [] each r = omega arith
list_grow (x ∷ xs) each r =
    let first = each.0 (spell.each_after_comma (map spelled xs) r) in
    let rest = more_grow xs each.1 r in omega arith

pub width_if_grow : (w : Option ℕ) (r : Text) → length r ≤ length (spell.width_if w r)
width_if_grow None r = omega arith
width_if_grow (Some n) r = omega arith

cases : Cases Grows ArrayGrows
cases = record {
  number = λ n r. rw (spelled-Number n r) (omega arith);
  truth = λ b r. rw (spelled-Truth b r) (omega arith);
  me = λ r. rw (spelled-Me r) (omega arith);
  time = λ r. rw (spelled-Time r) (omega arith);
  hash = λ w xs each r. let more = list_grow xs each (spell.sign signs.CloseParen r) in rw (spelled-Hash w xs r) (omega arith);
  name = λ n r. rw (spelled-Name n r) (omega arith);
  call = λ n xs each r. let more = list_grow xs each (spell.sign signs.CloseParen r) in rw (spelled-Call n xs r) (omega arith);
  array = λ x grows r. let more = grows r in rw (spelled-Array x r) (omega arith);
  paren = λ x grows r. let more = grows (spell.sign signs.CloseParen r) in rw (spelled-Paren x r) (omega arith);
  prefix = λ op x grows r. let more = grows r in rw (spelled-Prefix op x r) (omega arith);
  cast = λ w x grows r. let more = grows r in let wide = width_if_grow w (spell.sign signs.CloseParen (spelled x r)) in rw (spelled-Cast w x r) (omega arith);
  shift = λ x up n grows r. let more = grows (spell.sign (if up then signs.ShiftLeft else signs.ShiftRight) (spell.number n r)) in rw (spelled-Shift x up n r) (omega arith);
  infix_of = λ op x y left right r. let more = right r in let all = left (spell.sign (infix_sign op) (spelled y r)) in rw (spelled-Infix op x y r) (omega arith);
  get = λ n i gi r. let more = gi (spell.sign signs.CloseParen r) in rw (array_spelled-Get n i r) (omega arith);
  set = λ n i x gi gx r.
      let last = gx (spell.sign signs.CloseParen r) in
      let more = gi (spell.sign signs.Comma (spelled x (spell.sign signs.CloseParen r))) in rw (array_spelled-Set n i x r) (omega arith);
  getm = λ n i m x gi gx r.
      let last = gx (spell.sign signs.CloseParen r) in
      let more = gi (spell.memop_part m (spelled x) (spell.sign signs.CloseParen r)) in rw (array_spelled-Getm n i m x r) (omega arith);
  setm = λ n i m x gi gx r.
      let last = gx (spell.sign signs.CloseParen r) in
      let more = gi (spell.memop_part m (spelled x) (spell.sign signs.CloseParen r)) in rw (array_spelled-Setm n i m x r) (omega arith);
  update = λ n i g x s y gi gx gy r.
      let last = gy (spell.sign signs.CloseParen r) in
      let middle = gx (spell.memop_part s (spelled y) (spell.sign signs.CloseParen r)) in
      let more = gi (spell.memop_part g (spelled x) (spell.memop_part s (spelled y) (spell.sign signs.CloseParen r))) in rw (array_spelled-Update n i g x s y r) (omega arith);
}

pub grows : (x : E) (r : Text) → length r < length (spelled x r)
grows = induction Grows ArrayGrows cases

pub array_grows : (x : A) (r : Text) → length r < length (array_spelled x r)
array_grows = array_induction Grows ArrayGrows cases

-- lists of expressions

all_grow : (xs : List E) → AllByRecursion Grows xs
all_grow [] = tt
all_grow (x ∷ xs) = (grows x, all_grow xs)

pub expressions_grow : (xs : List E) (r : Text) → length r ≤ length (spell.with_commas (map spelled xs) r)
expressions_grow xs = list_grow xs (all_grow xs)

pub more_expressions_grow : (xs : List E) (r : Text) → length r ≤ length (spell.each_after_comma (map spelled xs) r)
more_expressions_grow xs = more_grow xs (all_grow xs)
