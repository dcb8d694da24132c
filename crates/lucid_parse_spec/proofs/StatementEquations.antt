-- The definitions of a statement's spelling and of the grammar, form by form.
use Rattle.std.proofs.Common.{◌≡◌, ℕ, Bool, true, ◌&&◌, nat_le, List, ◌∷◌, map, codes, Option, Some, None, option_map, sym, ap, ◌∙◌}
use Rattle.lucid_lex.specs.declared.sign.Sign.TheVariants as signs
use Rattle.lucid_lex.specs.declared.word.Word.TheVariants as words
use Rattle.lucid_parse_spec.specs.Lexemes as lexemes
use Rattle.lucid_parse_tree.specs.declared.tree.Ty.{Ty}
use Rattle.lucid_parse_tree.specs.declared.tree.E.{E}
use Rattle.lucid_parse_tree.specs.declared.tree.A.{A}
use Rattle.lucid_parse_tree.specs.declared.tree.V.{V, fold-roll-V}
use Rattle.lucid_parse_tree.specs.declared.tree.V.TheVariants as v
use Rattle.lucid_parse_tree.specs.declared.tree.V.TheOpen.{V-F}
use Rattle.lucid_parse_tree.specs.declared.tree.S.{S, fold-roll-S}
use Rattle.lucid_parse_tree.specs.declared.tree.S.TheVariants as s
use Rattle.lucid_parse_tree.specs.declared.tree.C.{C, fold-roll-C}
use Rattle.lucid_parse_tree.specs.declared.tree.No.{No, fold-roll-No}
use Rattle.lucid_parse_tree.specs.declared.tree.No.TheVariants as n
use Rattle.lucid_parse_tree.specs.declared.tree.No.TheOpen.{No-F, S-F}
use Rattle.lucid_parse_spec.specs.Spelling as spell
use Rattle.lucid_parse_spec.specs.Spelling.{Text, Spelled, spelled, array_spelled, event_spelled, statement_spelled, choice_spelled, no_spelled, spelled_V, spelled_S, spelled_C, spelled_No, array_level, is_built, all_built, event_built, statement_built, choice_built, no_built, built_V, built_S, built_C, built_No}
use Rattle.lucid_parse_tree.proofs.StatementInduction.{choice}

pub event_spelled-Paren : (x : V) (r : Text) → event_spelled (v.Paren x) r ≡ spell.in_parens (event_spelled x) r
event_spelled-Paren x r = ap (λ z. event_spelled z r) (sym (v.rolls-Paren x)) ∙ ap (λ f. f r) (fold-roll-V Spelled spelled_V (V-F.Paren x))

pub event_built-Paren : (x : V) → event_built (v.Paren x) ≡ event_built x
event_built-Paren x = ap event_built (sym (v.rolls-Paren x)) ∙ fold-roll-V Bool built_V (V-F.Paren x)

pub event_spelled-Call : (n : List ℕ) (xs : List E) (r : Text) → event_spelled (v.Call n xs) r ≡ spell.name n (spell.in_parens (spell.with_commas (map spelled xs)) r)
event_spelled-Call n xs r = ap (λ z. event_spelled z r) (sym (v.rolls-Call n xs)) ∙ ap (λ f. f r) (fold-roll-V Spelled spelled_V (V-F.Call n xs))

pub event_built-Call : (n : List ℕ) (xs : List E) → event_built (v.Call n xs) ≡ all_built xs
event_built-Call n xs = ap event_built (sym (v.rolls-Call n xs)) ∙ fold-roll-V Bool built_V (V-F.Call n xs)

pub event_spelled-Delay : (x : V) (y : E) (r : Text) → event_spelled (v.Delay x y) r ≡ spell.word words.EventCalls (spell.sign signs.Dot (spell.name (codes "delay") (spell.in_parens (λ q. event_spelled x (spell.sign signs.Comma (spelled y q))) r)))
event_spelled-Delay x y r = ap (λ z. event_spelled z r) (sym (v.rolls-Delay x y)) ∙ ap (λ f. f r) (fold-roll-V Spelled spelled_V (V-F.Delay x y))

pub event_built-Delay : (x : V) (y : E) → event_built (v.Delay x y) ≡ event_built x && is_built y
event_built-Delay x y = ap event_built (sym (v.rolls-Delay x y)) ∙ fold-roll-V Bool built_V (V-F.Delay x y)

pub event_spelled-Locate : (x : V) (y : E) (r : Text) → event_spelled (v.Locate x y) r ≡ spell.word words.EventCalls (spell.sign signs.Dot (spell.name (codes "locate") (spell.in_parens (λ q. event_spelled x (spell.sign signs.Comma (spelled y q))) r)))
event_spelled-Locate x y r = ap (λ z. event_spelled z r) (sym (v.rolls-Locate x y)) ∙ ap (λ f. f r) (fold-roll-V Spelled spelled_V (V-F.Locate x y))

pub event_built-Locate : (x : V) (y : E) → event_built (v.Locate x y) ≡ event_built x && is_built y
event_built-Locate x y = ap event_built (sym (v.rolls-Locate x y)) ∙ fold-roll-V Bool built_V (V-F.Locate x y)

pub statement_spelled-Declare : (t : Ty) (n : List ℕ) (x : E) (r : Text) → statement_spelled (s.Declare t n x) r ≡ spell.typed_name t n (spell.sign signs.Equal (spelled x (spell.sign signs.Semicolon r)))
statement_spelled-Declare t n x r = ap (λ z. statement_spelled z r) (sym (s.rolls-Declare t n x)) ∙ ap (λ f. f r) (fold-roll-S Spelled Spelled Spelled spelled_No spelled_S spelled_C (S-F.Declare t n x))

pub statement_built-Declare : (t : Ty) (n : List ℕ) (x : E) → statement_built (s.Declare t n x) ≡ is_built x
statement_built-Declare t n x = ap statement_built (sym (s.rolls-Declare t n x)) ∙ fold-roll-S Bool Bool Bool built_No built_S built_C (S-F.Declare t n x)

pub statement_spelled-Assign : (n : List ℕ) (x : E) (r : Text) → statement_spelled (s.Assign n x) r ≡ spell.name n (spell.sign signs.Equal (spelled x (spell.sign signs.Semicolon r)))
statement_spelled-Assign n x r = ap (λ z. statement_spelled z r) (sym (s.rolls-Assign n x)) ∙ ap (λ f. f r) (fold-roll-S Spelled Spelled Spelled spelled_No spelled_S spelled_C (S-F.Assign n x))

pub statement_built-Assign : (n : List ℕ) (x : E) → statement_built (s.Assign n x) ≡ is_built x
statement_built-Assign n x = ap statement_built (sym (s.rolls-Assign n x)) ∙ fold-roll-S Bool Bool Bool built_No built_S built_C (S-F.Assign n x)

pub statement_spelled-Call : (n : List ℕ) (xs : List E) (r : Text) → statement_spelled (s.Call n xs) r ≡ spell.name n (spell.in_parens (spell.with_commas (map spelled xs)) (spell.sign signs.Semicolon r))
statement_spelled-Call n xs r = ap (λ z. statement_spelled z r) (sym (s.rolls-Call n xs)) ∙ ap (λ f. f r) (fold-roll-S Spelled Spelled Spelled spelled_No spelled_S spelled_C (S-F.Call n xs))

pub statement_built-Call : (n : List ℕ) (xs : List E) → statement_built (s.Call n xs) ≡ all_built xs
statement_built-Call n xs = ap statement_built (sym (s.rolls-Call n xs)) ∙ fold-roll-S Bool Bool Bool built_No built_S built_C (S-F.Call n xs)

pub statement_spelled-Array : (x : A) (r : Text) → statement_spelled (s.Array x) r ≡ array_spelled x (spell.sign signs.Semicolon r)
statement_spelled-Array x r = ap (λ z. statement_spelled z r) (sym (s.rolls-Array x)) ∙ ap (λ f. f r) (fold-roll-S Spelled Spelled Spelled spelled_No spelled_S spelled_C (S-F.Array x))

pub statement_built-Array : (x : A) → statement_built (s.Array x) ≡ nat_le 1 (array_level x)
statement_built-Array x = ap statement_built (sym (s.rolls-Array x)) ∙ fold-roll-S Bool Bool Bool built_No built_S built_C (S-F.Array x)

pub statement_spelled-Cond : (c : C) (r : Text) → statement_spelled (s.Cond c) r ≡ choice_spelled c r
statement_spelled-Cond c r = ap (λ z. statement_spelled z r) (sym (s.rolls-Cond c)) ∙ ap (λ f. f r) (fold-roll-S Spelled Spelled Spelled spelled_No spelled_S spelled_C (S-F.«S::Cond» c))

pub statement_built-Cond : (c : C) → statement_built (s.Cond c) ≡ choice_built c
statement_built-Cond c = ap statement_built (sym (s.rolls-Cond c)) ∙ fold-roll-S Bool Bool Bool built_No built_S built_C (S-F.«S::Cond» c)

pub statement_spelled-Return : (x : Option E) (r : Text) → statement_spelled (s.Return x) r ≡ spell.returned x r
statement_spelled-Return x r = ap (λ z. statement_spelled z r) (sym (s.rolls-Return x)) ∙ ap (λ f. f r) (fold-roll-S Spelled Spelled Spelled spelled_No spelled_S spelled_C (S-F.Return x))

pub statement_built-Return : (x : Option E) → statement_built (s.Return x) ≡ spell.returned_built x
statement_built-Return x = ap statement_built (sym (s.rolls-Return x)) ∙ fold-roll-S Bool Bool Bool built_No built_S built_C (S-F.Return x)

pub statement_spelled-Generate : (x : V) (r : Text) → statement_spelled (s.Generate x) r ≡ spell.word words.Generate (event_spelled x (spell.sign signs.Semicolon r))
statement_spelled-Generate x r = ap (λ z. statement_spelled z r) (sym (s.rolls-Generate x)) ∙ ap (λ f. f r) (fold-roll-S Spelled Spelled Spelled spelled_No spelled_S spelled_C (S-F.Generate x))

pub statement_built-Generate : (x : V) → statement_built (s.Generate x) ≡ event_built x
statement_built-Generate x = ap statement_built (sym (s.rolls-Generate x)) ∙ fold-roll-S Bool Bool Bool built_No built_S built_C (S-F.Generate x)

pub statement_spelled-Printf : (t : List ℕ) (xs : List E) (r : Text) → statement_spelled (s.Printf t xs) r ≡ spell.word words.Printf (spell.in_parens (λ q. lexemes.Text t ∷ spell.each_after_comma (map spelled xs) q) (spell.sign signs.Semicolon r))
statement_spelled-Printf t xs r = ap (λ z. statement_spelled z r) (sym (s.rolls-Printf t xs)) ∙ ap (λ f. f r) (fold-roll-S Spelled Spelled Spelled spelled_No spelled_S spelled_C (S-F.Printf t xs))

pub statement_built-Printf : (t : List ℕ) (xs : List E) → statement_built (s.Printf t xs) ≡ all_built xs
statement_built-Printf t xs = ap statement_built (sym (s.rolls-Printf t xs)) ∙ fold-roll-S Bool Bool Bool built_No built_S built_C (S-F.Printf t xs)

pub statement_spelled-Match : (x : E) (cs : List (ℕ × List S)) (last : Option (List S)) (r : Text) → statement_spelled (s.Match x cs last) r ≡ spell.word words.Match (spelled x (spell.word words.With (spell.cases (map (λ c. (c.0, map statement_spelled c.1)) cs) (spell.last_arm (option_map (map statement_spelled) last) r))))
statement_spelled-Match x cs None r = ap (λ z. statement_spelled z r) (sym (s.rolls-Match x cs None)) ∙ ap (λ f. f r) (fold-roll-S Spelled Spelled Spelled spelled_No spelled_S spelled_C (S-F.Match x cs None))
statement_spelled-Match x cs (Some ss) r = ap (λ z. statement_spelled z r) (sym (s.rolls-Match x cs (Some ss))) ∙ ap (λ f. f r) (fold-roll-S Spelled Spelled Spelled spelled_No spelled_S spelled_C (S-F.Match x cs (Some ss)))

pub statement_built-Match : (x : E) (cs : List (ℕ × List S)) (last : Option (List S)) → statement_built (s.Match x cs last) ≡ is_built x && ((spell.is_some {X = ℕ × List Bool} (map (λ c. (c.0, map statement_built c.1)) cs) && spell.cases_built (map (λ c. (c.0, map statement_built c.1)) cs)) && spell.last_built (option_map (map statement_built) last))
statement_built-Match x cs None = ap statement_built (sym (s.rolls-Match x cs None)) ∙ fold-roll-S Bool Bool Bool built_No built_S built_C (S-F.Match x cs None)
statement_built-Match x cs (Some ss) = ap statement_built (sym (s.rolls-Match x cs (Some ss))) ∙ fold-roll-S Bool Bool Bool built_No built_S built_C (S-F.Match x cs (Some ss))

pub no_spelled-Absent : (r : Text) → no_spelled n.Absent r ≡ r
no_spelled-Absent r = ap (λ z. no_spelled z r) (sym n.rolls-Absent) ∙ ap (λ f. f r) (fold-roll-No Spelled Spelled Spelled spelled_No spelled_S spelled_C No-F.Absent)

pub no_built-Absent : no_built n.Absent ≡ true
no_built-Absent = ap no_built (sym n.rolls-Absent) ∙ fold-roll-No Bool Bool Bool built_No built_S built_C No-F.Absent

pub no_spelled-Block : (ss : List S) (r : Text) → no_spelled (n.Block ss) r ≡ spell.word words.Else (spell.block (map statement_spelled ss) r)
no_spelled-Block ss r = ap (λ z. no_spelled z r) (sym (n.rolls-Block ss)) ∙ ap (λ f. f r) (fold-roll-No Spelled Spelled Spelled spelled_No spelled_S spelled_C (No-F.Block ss))

pub no_built-Block : (ss : List S) → no_built (n.Block ss) ≡ spell.all_true (map statement_built ss)
no_built-Block ss = ap no_built (sym (n.rolls-Block ss)) ∙ fold-roll-No Bool Bool Bool built_No built_S built_C (No-F.Block ss)

pub no_spelled-Cond : (c : C) (r : Text) → no_spelled (n.Cond c) r ≡ spell.word words.Else (choice_spelled c r)
no_spelled-Cond c r = ap (λ z. no_spelled z r) (sym (n.rolls-Cond c)) ∙ ap (λ f. f r) (fold-roll-No Spelled Spelled Spelled spelled_No spelled_S spelled_C (No-F.«No::Cond» c))

pub no_built-Cond : (c : C) → no_built (n.Cond c) ≡ choice_built c
no_built-Cond c = ap no_built (sym (n.rolls-Cond c)) ∙ fold-roll-No Bool Bool Bool built_No built_S built_C (No-F.«No::Cond» c)

pub choice_spelled-parts : (x : E) (first : List S) (second : No) (r : Text) → choice_spelled (choice x first second) r ≡ spell.word words.If (spell.in_parens (spelled x) (spell.block (map statement_spelled first) (no_spelled second r)))
choice_spelled-parts x first second r = ap (λ f. f r) (fold-roll-C Spelled Spelled Spelled spelled_No spelled_S spelled_C (record { test = x; yes = first; no = second }))

pub choice_built-parts : (x : E) (first : List S) (second : No) → choice_built (choice x first second) ≡ (is_built x && (spell.all_true (map statement_built first) && no_built second))
choice_built-parts x first second = fold-roll-C Bool Bool Bool built_No built_S built_C (record { test = x; yes = first; no = second })
