-- The definitions of an expression's spelling and level, form by form.
use Rattle.std.proofs.Common.{◌≡◌, ℕ, ◌+◌, Bool, ◌&&◌, nat_le, if◌then◌else◌, List, ◌∷◌, map, codes, Option, sym, ap, ◌∙◌}
use Rattle.lucid_lex.specs.declared.sign.Sign.TheVariants as signs
use Rattle.lucid_lex.specs.declared.word.Word.TheVariants as words
use Rattle.lucid_parse_spec.specs.Lexemes as lexemes
use Rattle.lucid_parse_tree.specs.declared.tree.E.{E, fold-roll-E}
use Rattle.lucid_parse_tree.specs.declared.tree.E.TheVariants as e
use Rattle.lucid_parse_tree.specs.declared.tree.A.{A, fold-roll-A}
use Rattle.lucid_parse_tree.specs.declared.tree.A.TheVariants as a
use Rattle.lucid_parse_tree.specs.declared.tree.A.TheOpen.{A-F, E-F}
use Rattle.lucid_parse_tree.specs.declared.tree.Pre.{Pre}
use Rattle.lucid_parse_tree.specs.declared.tree.Infix.{Infix}
use Rattle.lucid_parse_spec.specs.Operators.{pre_sign, infix_sign, level, left_level}
use Rattle.lucid_parse_spec.specs.Spelling as spell
use Rattle.lucid_parse_spec.specs.Spelling.{Text, Spelled, spelled, array_spelled, spelled_A, spelled_E, level_of, array_level, level_A, level_E, level_if, is_some, all_bind}

pub spelled-Number : (n : ℕ) (r : Text) → spelled (e.Number n) r ≡ lexemes.Number n ∷ r
spelled-Number n r = ap (λ z. spelled z r) (sym (e.rolls-Number n)) ∙ ap (λ f. f r) (fold-roll-E Spelled Spelled spelled_A spelled_E (E-F.Number n))

pub level_of-Number : (n : ℕ) → level_of (e.Number n) ≡ 9
level_of-Number n = ap level_of (sym (e.rolls-Number n)) ∙ fold-roll-E ℕ ℕ level_A level_E (E-F.Number n)

pub spelled-Truth : (b : Bool) (r : Text) → spelled (e.Truth b) r ≡ spell.word (if b then words.True else words.False) r
spelled-Truth b r = ap (λ z. spelled z r) (sym (e.rolls-Truth b)) ∙ ap (λ f. f r) (fold-roll-E Spelled Spelled spelled_A spelled_E (E-F.Truth b))

pub level_of-Truth : (b : Bool) → level_of (e.Truth b) ≡ 9
level_of-Truth b = ap level_of (sym (e.rolls-Truth b)) ∙ fold-roll-E ℕ ℕ level_A level_E (E-F.Truth b)

pub spelled-Me : (r : Text) → spelled e.Me r ≡ spell.word words.Me r
spelled-Me r = ap (λ z. spelled z r) (sym e.rolls-Me) ∙ ap (λ f. f r) (fold-roll-E Spelled Spelled spelled_A spelled_E E-F.Me)

pub level_of-Me : level_of e.Me ≡ 9
level_of-Me = ap level_of (sym e.rolls-Me) ∙ fold-roll-E ℕ ℕ level_A level_E E-F.Me

pub spelled-Time : (r : Text) → spelled e.Time r ≡ spell.word words.SysCalls (spell.sign signs.Dot (spell.name (codes "time") (spell.sign signs.OpenParen (spell.sign signs.CloseParen r))))
spelled-Time r = ap (λ z. spelled z r) (sym e.rolls-Time) ∙ ap (λ f. f r) (fold-roll-E Spelled Spelled spelled_A spelled_E E-F.Time)

pub level_of-Time : level_of e.Time ≡ 9
level_of-Time = ap level_of (sym e.rolls-Time) ∙ fold-roll-E ℕ ℕ level_A level_E E-F.Time

pub spelled-Hash : (w : ℕ) (xs : List E) (r : Text) → spelled (e.Hash w xs) r ≡ spell.word words.Hash (spell.width w (spell.in_parens (spell.with_commas (map spelled xs)) r))
spelled-Hash w xs r = ap (λ z. spelled z r) (sym (e.rolls-Hash w xs)) ∙ ap (λ f. f r) (fold-roll-E Spelled Spelled spelled_A spelled_E (E-F.Hash w xs))

pub level_of-Hash : (w : ℕ) (xs : List E) → level_of (e.Hash w xs) ≡ level_if (is_some (map level_of xs) && all_bind (map level_of xs)) 9
level_of-Hash w xs = ap level_of (sym (e.rolls-Hash w xs)) ∙ fold-roll-E ℕ ℕ level_A level_E (E-F.Hash w xs)

pub spelled-Name : (n : List ℕ) (r : Text) → spelled (e.Name n) r ≡ spell.name n r
spelled-Name n r = ap (λ z. spelled z r) (sym (e.rolls-Name n)) ∙ ap (λ f. f r) (fold-roll-E Spelled Spelled spelled_A spelled_E (E-F.Name n))

pub level_of-Name : (n : List ℕ) → level_of (e.Name n) ≡ 9
level_of-Name n = ap level_of (sym (e.rolls-Name n)) ∙ fold-roll-E ℕ ℕ level_A level_E (E-F.Name n)

pub spelled-Call : (n : List ℕ) (xs : List E) (r : Text) → spelled (e.Call n xs) r ≡ spell.name n (spell.in_parens (spell.with_commas (map spelled xs)) r)
spelled-Call n xs r = ap (λ z. spelled z r) (sym (e.rolls-Call n xs)) ∙ ap (λ f. f r) (fold-roll-E Spelled Spelled spelled_A spelled_E (E-F.Call n xs))

pub level_of-Call : (n : List ℕ) (xs : List E) → level_of (e.Call n xs) ≡ level_if (all_bind (map level_of xs)) 9
level_of-Call n xs = ap level_of (sym (e.rolls-Call n xs)) ∙ fold-roll-E ℕ ℕ level_A level_E (E-F.Call n xs)

pub spelled-Array : (x : A) (r : Text) → spelled (e.Array x) r ≡ array_spelled x r
spelled-Array x r = ap (λ z. spelled z r) (sym (e.rolls-Array x)) ∙ ap (λ f. f r) (fold-roll-E Spelled Spelled spelled_A spelled_E (E-F.Array x))

pub level_of-Array : (x : A) → level_of (e.Array x) ≡ array_level x
level_of-Array x = ap level_of (sym (e.rolls-Array x)) ∙ fold-roll-E ℕ ℕ level_A level_E (E-F.Array x)

pub spelled-Paren : (x : E) (r : Text) → spelled (e.Paren x) r ≡ spell.in_parens (spelled x) r
spelled-Paren x r = ap (λ z. spelled z r) (sym (e.rolls-Paren x)) ∙ ap (λ f. f r) (fold-roll-E Spelled Spelled spelled_A spelled_E (E-F.Paren x))

pub level_of-Paren : (x : E) → level_of (e.Paren x) ≡ level_if (nat_le 1 (level_of x)) 9
level_of-Paren x = ap level_of (sym (e.rolls-Paren x)) ∙ fold-roll-E ℕ ℕ level_A level_E (E-F.Paren x)

pub spelled-Prefix : (op : Pre) (x : E) (r : Text) → spelled (e.Prefix op x) r ≡ spell.sign (pre_sign op) (spelled x r)
spelled-Prefix op x r = ap (λ z. spelled z r) (sym (e.rolls-Prefix op x)) ∙ ap (λ f. f r) (fold-roll-E Spelled Spelled spelled_A spelled_E (E-F.Prefix op x))

pub level_of-Prefix : (op : Pre) (x : E) → level_of (e.Prefix op x) ≡ level_if (nat_le 9 (level_of x)) 9
level_of-Prefix op x = ap level_of (sym (e.rolls-Prefix op x)) ∙ fold-roll-E ℕ ℕ level_A level_E (E-F.Prefix op x)

pub spelled-Cast : (w : Option ℕ) (x : E) (r : Text) → spelled (e.Cast w x) r ≡ spell.sign signs.OpenParen (spell.word words.Int (spell.width_if w (spell.sign signs.CloseParen (spelled x r))))
spelled-Cast w x r = ap (λ z. spelled z r) (sym (e.rolls-Cast w x)) ∙ ap (λ f. f r) (fold-roll-E Spelled Spelled spelled_A spelled_E (E-F.Cast w x))

pub level_of-Cast : (w : Option ℕ) (x : E) → level_of (e.Cast w x) ≡ level_if (nat_le 9 (level_of x)) 9
level_of-Cast w x = ap level_of (sym (e.rolls-Cast w x)) ∙ fold-roll-E ℕ ℕ level_A level_E (E-F.Cast w x)

pub spelled-Shift : (x : E) (up : Bool) (n : ℕ) (r : Text) → spelled (e.Shift x up n) r ≡ spelled x (spell.sign (if up then signs.ShiftLeft else signs.ShiftRight) (spell.number n r))
spelled-Shift x up n r = ap (λ z. spelled z r) (sym (e.rolls-Shift x up n)) ∙ ap (λ f. f r) (fold-roll-E Spelled Spelled spelled_A spelled_E (E-F.Shift x up n))

pub level_of-Shift : (x : E) (up : Bool) (n : ℕ) → level_of (e.Shift x up n) ≡ level_if (nat_le 7 (level_of x)) 7
level_of-Shift x up n = ap level_of (sym (e.rolls-Shift x up n)) ∙ fold-roll-E ℕ ℕ level_A level_E (E-F.Shift x up n)

pub spelled-Infix : (op : Infix) (x : E) (y : E) (r : Text) → spelled (e.Infix op x y) r ≡ spelled x (spell.sign (infix_sign op) (spelled y r))
spelled-Infix op x y r = ap (λ z. spelled z r) (sym (e.rolls-Infix op x y)) ∙ ap (λ f. f r) (fold-roll-E Spelled Spelled spelled_A spelled_E (E-F.Infix op x y))

pub level_of-Infix : (op : Infix) (x : E) (y : E) → level_of (e.Infix op x y) ≡ level_if (nat_le (left_level op) (level_of x) && nat_le (level op + 1) (level_of y)) (level op)
level_of-Infix op x y = ap level_of (sym (e.rolls-Infix op x y)) ∙ fold-roll-E ℕ ℕ level_A level_E (E-F.Infix op x y)

pub array_spelled-Get : (n : List ℕ) (i : E) (r : Text) → array_spelled (a.Get n i) r ≡ spell.array_call (codes "get") (λ q. spell.name n (spell.sign signs.Comma (spelled i q))) r
array_spelled-Get n i r = ap (λ z. array_spelled z r) (sym (a.rolls-Get n i)) ∙ ap (λ f. f r) (fold-roll-A Spelled Spelled spelled_A spelled_E (A-F.Get n i))

pub array_level-Get : (n : List ℕ) (i : E) → array_level (a.Get n i) ≡ level_if (nat_le 1 (level_of i)) 9
array_level-Get n i = ap array_level (sym (a.rolls-Get n i)) ∙ fold-roll-A ℕ ℕ level_A level_E (A-F.Get n i)

pub array_spelled-Set : (n : List ℕ) (i : E) (x : E) (r : Text) → array_spelled (a.Set n i x) r ≡ spell.array_call (codes "set") (λ q. spell.name n (spell.sign signs.Comma (spelled i (spell.sign signs.Comma (spelled x q))))) r
array_spelled-Set n i x r = ap (λ z. array_spelled z r) (sym (a.rolls-Set n i x)) ∙ ap (λ f. f r) (fold-roll-A Spelled Spelled spelled_A spelled_E (A-F.Set n i x))

pub array_level-Set : (n : List ℕ) (i : E) (x : E) → array_level (a.Set n i x) ≡ level_if (nat_le 1 (level_of i) && nat_le 1 (level_of x)) 9
array_level-Set n i x = ap array_level (sym (a.rolls-Set n i x)) ∙ fold-roll-A ℕ ℕ level_A level_E (A-F.Set n i x)

pub array_spelled-Getm : (n : List ℕ) (i : E) (m : List ℕ) (x : E) (r : Text) → array_spelled (a.Getm n i m x) r ≡ spell.array_call (codes "getm") (λ q. spell.name n (spell.sign signs.Comma (spelled i (spell.memop_part m (spelled x) q)))) r
array_spelled-Getm n i m x r = ap (λ z. array_spelled z r) (sym (a.rolls-Getm n i m x)) ∙ ap (λ f. f r) (fold-roll-A Spelled Spelled spelled_A spelled_E (A-F.Getm n i m x))

pub array_level-Getm : (n : List ℕ) (i : E) (m : List ℕ) (x : E) → array_level (a.Getm n i m x) ≡ level_if (nat_le 1 (level_of i) && nat_le 1 (level_of x)) 9
array_level-Getm n i m x = ap array_level (sym (a.rolls-Getm n i m x)) ∙ fold-roll-A ℕ ℕ level_A level_E (A-F.Getm n i m x)

pub array_spelled-Setm : (n : List ℕ) (i : E) (m : List ℕ) (x : E) (r : Text) → array_spelled (a.Setm n i m x) r ≡ spell.array_call (codes "setm") (λ q. spell.name n (spell.sign signs.Comma (spelled i (spell.memop_part m (spelled x) q)))) r
array_spelled-Setm n i m x r = ap (λ z. array_spelled z r) (sym (a.rolls-Setm n i m x)) ∙ ap (λ f. f r) (fold-roll-A Spelled Spelled spelled_A spelled_E (A-F.Setm n i m x))

pub array_level-Setm : (n : List ℕ) (i : E) (m : List ℕ) (x : E) → array_level (a.Setm n i m x) ≡ level_if (nat_le 1 (level_of i) && nat_le 1 (level_of x)) 9
array_level-Setm n i m x = ap array_level (sym (a.rolls-Setm n i m x)) ∙ fold-roll-A ℕ ℕ level_A level_E (A-F.Setm n i m x)

pub array_spelled-Update : (n : List ℕ) (i : E) (g : List ℕ) (x : E) (s : List ℕ) (y : E) (r : Text) → array_spelled (a.Update n i g x s y) r ≡ spell.array_call (codes "update") (λ q. spell.name n (spell.sign signs.Comma (spelled i (spell.memop_part g (spelled x) (spell.memop_part s (spelled y) q))))) r
array_spelled-Update n i g x s y r = ap (λ z. array_spelled z r) (sym (a.rolls-Update n i g x s y)) ∙ ap (λ f. f r) (fold-roll-A Spelled Spelled spelled_A spelled_E (A-F.Update n i g x s y))

pub array_level-Update : (n : List ℕ) (i : E) (g : List ℕ) (x : E) (s : List ℕ) (y : E) → array_level (a.Update n i g x s y) ≡ level_if (nat_le 1 (level_of i) && (nat_le 1 (level_of x) && nat_le 1 (level_of y))) 9
array_level-Update n i g x s y = ap array_level (sym (a.rolls-Update n i g x s y)) ∙ fold-roll-A ℕ ℕ level_A level_E (A-F.Update n i g x s y)
