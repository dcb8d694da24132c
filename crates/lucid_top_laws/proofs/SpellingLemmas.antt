-- The spelling of the forms of a worked program: a fold over a tree does not compute, but for these equations.
use Rattle.std.proofs.Common.{◌≡◌, ◌∙◌, ℕ, ◌+◌, ◌&&◌, List, ◌∷◌, Option, ap, codes, nat_le, sym}
use Rattle.lucid_lex.specs.declared.sign.Sign.TheVariants as signs
use Rattle.lucid_parse_spec.specs.Lexemes as lexemes
use Rattle.lucid_parse_spec.specs.Operators.{infix_sign, left_level, level}
use Rattle.lucid_parse_spec.specs.Spelling as spell
use Rattle.lucid_parse_spec.specs.Spelling.{Spelled, Text, array_level, array_spelled, built_C, built_No, built_S, level_A, level_E, level_if, level_of, spelled, spelled_A, spelled_C, spelled_E, spelled_No, spelled_S, statement_built, statement_spelled}
use Rattle.lucid_parse_tree.specs.declared.tree.A.{A, fold-roll-A}
use Rattle.lucid_parse_tree.specs.declared.tree.A.TheOpen.{A-F, E-F}
use Rattle.lucid_parse_tree.specs.declared.tree.A.TheVariants as a
use Rattle.lucid_parse_tree.specs.declared.tree.E.{E, fold-roll-E}
use Rattle.lucid_parse_tree.specs.declared.tree.E.TheVariants as e
use Rattle.lucid_parse_tree.specs.declared.tree.Infix.{Infix}
use Rattle.lucid_parse_tree.specs.declared.tree.No.TheOpen.{S-F}
use Rattle.lucid_parse_tree.specs.declared.tree.S.{fold-roll-S}
use Rattle.lucid_parse_tree.specs.declared.tree.S.TheVariants as s
use Rattle.std.specs.Prelude.{Bool}

pub spelled-Number : (n : ℕ) (r : Text) → spelled (e.Number n) r ≡ lexemes.Number n ∷ r
spelled-Number n r = ap (λ z. spelled z r) (sym (e.rolls-Number n)) ∙ ap (λ f. f r) (fold-roll-E Spelled Spelled spelled_A spelled_E (E-F.Number n))

pub level_of-Number : (n : ℕ) → level_of (e.Number n) ≡ 9
level_of-Number n = ap level_of (sym (e.rolls-Number n)) ∙ fold-roll-E ℕ ℕ level_A level_E (E-F.Number n)

pub spelled-Name : (n : List ℕ) (r : Text) → spelled (e.Name n) r ≡ spell.name n r
spelled-Name n r = ap (λ z. spelled z r) (sym (e.rolls-Name n)) ∙ ap (λ f. f r) (fold-roll-E Spelled Spelled spelled_A spelled_E (E-F.Name n))

pub level_of-Name : (n : List ℕ) → level_of (e.Name n) ≡ 9
level_of-Name n = ap level_of (sym (e.rolls-Name n)) ∙ fold-roll-E ℕ ℕ level_A level_E (E-F.Name n)

pub spelled-Infix : (op : Infix) (x : E) (y : E) (r : Text) → spelled (e.Infix op x y) r ≡ spelled x (spell.sign (infix_sign op) (spelled y r))
spelled-Infix op x y r = ap (λ z. spelled z r) (sym (e.rolls-Infix op x y)) ∙ ap (λ f. f r) (fold-roll-E Spelled Spelled spelled_A spelled_E (E-F.Infix op x y))

pub level_of-Infix : (op : Infix) (x : E) (y : E) → level_of (e.Infix op x y) ≡ level_if (nat_le (left_level op) (level_of x) && nat_le (level op + 1) (level_of y)) (level op)
level_of-Infix op x y = ap level_of (sym (e.rolls-Infix op x y)) ∙ fold-roll-E ℕ ℕ level_A level_E (E-F.Infix op x y)

pub array_spelled-Setm : (n : List ℕ) (i : E) (m : List ℕ) (x : E) (r : Text) → array_spelled (a.Setm n i m x) r ≡ spell.array_call (codes "setm") (λ q. spell.name n (spell.sign signs.Comma (spelled i (spell.memop_part m (spelled x) q)))) r
array_spelled-Setm n i m x r = ap (λ z. array_spelled z r) (sym (a.rolls-Setm n i m x)) ∙ ap (λ f. f r) (fold-roll-A Spelled Spelled spelled_A spelled_E (A-F.Setm n i m x))

pub array_level-Setm : (n : List ℕ) (i : E) (m : List ℕ) (x : E) → array_level (a.Setm n i m x) ≡ level_if (nat_le 1 (level_of i) && nat_le 1 (level_of x)) 9
array_level-Setm n i m x = ap array_level (sym (a.rolls-Setm n i m x)) ∙ fold-roll-A ℕ ℕ level_A level_E (A-F.Setm n i m x)

pub statement_spelled-Array : (x : A) (r : Text) → statement_spelled (s.Array x) r ≡ array_spelled x (spell.sign signs.Semicolon r)
statement_spelled-Array x r = ap (λ z. statement_spelled z r) (sym (s.rolls-Array x)) ∙ ap (λ f. f r) (fold-roll-S Spelled Spelled Spelled spelled_No spelled_S spelled_C (S-F.Array x))

pub statement_built-Array : (x : A) → statement_built (s.Array x) ≡ nat_le 1 (array_level x)
statement_built-Array x = ap statement_built (sym (s.rolls-Array x)) ∙ fold-roll-S Bool Bool Bool built_No built_S built_C (S-F.Array x)

pub statement_spelled-Return : (x : Option E) (r : Text) → statement_spelled (s.Return x) r ≡ spell.returned x r
statement_spelled-Return x r = ap (λ z. statement_spelled z r) (sym (s.rolls-Return x)) ∙ ap (λ f. f r) (fold-roll-S Spelled Spelled Spelled spelled_No spelled_S spelled_C (S-F.Return x))

pub statement_built-Return : (x : Option E) → statement_built (s.Return x) ≡ spell.returned_built x
statement_built-Return x = ap statement_built (sym (s.rolls-Return x)) ∙ fold-roll-S Bool Bool Bool built_No built_S built_C (S-F.Return x)

pub ruleset spellings = (spelled-Number, level_of-Number, spelled-Name, level_of-Name, spelled-Infix, level_of-Infix, array_spelled-Setm, array_level-Setm, statement_spelled-Array, statement_built-Array, statement_spelled-Return, statement_built-Return)
