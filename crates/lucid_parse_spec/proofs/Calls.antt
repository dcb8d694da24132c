-- The arguments of a call on an array, as a list of expressions: the call that they make, both ways.
use Rattle.std.proofs.Common.{◌≡◌, ℕ, Bool, true, false, ◌&&◌, nat_le, List, [], ◌∷◌, map, codes, Some, refl, sym, ap, subst, ◌∙◌}
use Rattle.lucid_lex.specs.declared.sign.Sign.TheVariants as signs
use Rattle.lucid_lex.specs.declared.word.Word.TheVariants as words
use Rattle.lucid_parse_tree.specs.declared.tree.E.{E, out-E, roll-E, roll-out-E}
use Rattle.lucid_parse_tree.specs.declared.tree.E.TheVariants as e
use Rattle.lucid_parse_tree.specs.declared.tree.A.{A}
use Rattle.lucid_parse_tree.specs.declared.tree.A.TheVariants as a
use Rattle.lucid_parse_tree.specs.declared.tree.A.TheOpen.{E-F}
use Rattle.lucid_parse_tree.specs.declared.tree.A.TheViews.{outs-Name}
use Rattle.lucid_parse_spec.specs.declared.method.Method.{Method}
use Rattle.lucid_parse_spec.specs.declared.method.Method.TheVariants as methods
use Rattle.lucid_parse_spec.specs.ReadExpression as read_e
use Rattle.lucid_parse_spec.specs.Spelling as spell
use Rattle.lucid_parse_spec.specs.Spelling.{Text, spelled, array_spelled, level_of, array_level, level_if, is_built, all_built}
use Rattle.lucid_parse_spec.proofs.Equations.{spelled-Name, array_spelled-Get, array_spelled-Set, array_spelled-Getm, array_spelled-Setm, array_spelled-Update, level_of-Name, array_level-Get, array_level-Set, array_level-Getm, array_level-Setm, array_level-Update}
use Rattle.lucid_parse_spec.proofs.Steps.{Yields, yields_none, yields_some, bind, both}

abbrev pub method_text : Method → List ℕ
method_text methods.Get = codes "get"
method_text methods.Set = codes "set"
method_text methods.Getm = codes "getm"
method_text methods.Setm = codes "setm"
method_text methods.Update = codes "update"

-- a call by this method that is given these
abbrev pub call_text : Method → List E → Text → Text
call_text m xs r = spell.array_call (method_text m) (spell.with_commas (map spelled xs)) r

-- the method and the arguments are the call
pub record IsCall (m : Method) (xs : List E) (x : A) : Type 0 where
  pub written : (r : Text) → array_spelled x r ≡ call_text m xs r
  pub level : all_built xs ≡ true → array_level x ≡ 9
  pub built : nat_le 1 (array_level x) ≡ true → all_built xs ≡ true
  pub reads : read_e.array_of m xs ≡ Some x

-- the meaning of a level for the operands
pub level_needs : (b : Bool) (l : ℕ) → nat_le 1 (level_if b l) ≡ true → b ≡ true
level_needs true l h = refl
level_needs false l h = absurd cc

name_built : (n : List ℕ) → is_built (e.Name n) ≡ true
name_built n = ap (nat_le 1) (level_of-Name n)

-- tests of the arguments, without those of the names

only_index : (n i : Bool) → (n && (i && true)) ≡ true → i ≡ true
only_index true true h = refl
only_index true false h = absurd cc
only_index false i h = absurd cc

with_value : (n i x : Bool) → (n && (i && (x && true))) ≡ true → (i && x) ≡ true
with_value true true true h = refl
with_value true true false h = absurd cc
with_value true false x h = absurd cc
with_value false i x h = absurd cc

with_memop : (n i m x : Bool) → (n && (i && (m && (x && true)))) ≡ true → (i && x) ≡ true
with_memop true true true true h = refl
with_memop true true true false h = absurd cc
with_memop true true false x h = absurd cc
with_memop true false m x h = absurd cc
with_memop false i m x h = absurd cc

with_both : (n i g x s y : Bool) → (n && (i && (g && (x && (s && (y && true)))))) ≡ true → (i && (x && y)) ≡ true
with_both true true true true true true h = refl
with_both true true true true true false h = absurd cc
with_both true true true true false y h = absurd cc
with_both true true true false s y h = absurd cc
with_both true true false x s y h = absurd cc
with_both true false g x s y h = absurd cc
with_both false i g x s y h = absurd cc

-- behind the open parenthesis
behind : Method → Text → Text
behind m z = spell.word words.ArrayCalls (spell.sign signs.Dot (spell.name (method_text m) (spell.sign signs.OpenParen z)))

pub get_call : (n : List ℕ) (i : E) → IsCall methods.Get (e.Name n ∷ i ∷ []) (a.Get n i)
unfolding behind read_e.array_of read_e.array_at read_e.array_with read_e.first_name
get_call n i = record {
  written = λ r. rw (array_spelled-Get n i r, spelled-Name n (spell.sign signs.Comma (spelled i (spell.sign signs.CloseParen r)))) refl;
  level = λ all. array_level-Get n i ∙ ap (λ b. level_if b 9) (only_index (is_built (e.Name n)) (is_built i) all);
  built = λ built.
      let hi = level_needs (is_built i) 9 (rw (array_level-Get n i) at built) in
      rw (name_built n, hi) refl;
  reads = rw (outs-Name n) refl;
}

pub set_call : (n : List ℕ) (i x : E) → IsCall methods.Set (e.Name n ∷ i ∷ x ∷ []) (a.Set n i x)
unfolding behind read_e.array_of read_e.array_at read_e.array_with read_e.last read_e.first_name
set_call n i x = record {
  written = λ r. rw (array_spelled-Set n i x r, spelled-Name n (spell.sign signs.Comma (spelled i (spell.sign signs.Comma (spelled x (spell.sign signs.CloseParen r)))))) refl;
  level = λ all. array_level-Set n i x ∙ ap (λ b. level_if b 9) (with_value (is_built (e.Name n)) (is_built i) (is_built x) all);
  built = λ built.
      let hs = both (is_built i) (is_built x) (level_needs (is_built i && is_built x) 9 (rw (array_level-Set n i x) at built)) in
      rw (name_built n, hs.0, hs.1) refl;
  reads = rw (outs-Name n) refl;
}

-- a memop with its argument, behind the index
memop_written : (n m : List ℕ) (i x : E) (r : Text) → spelled (e.Name n) (spell.sign signs.Comma (spelled i (spell.sign signs.Comma (spelled (e.Name m) (spell.sign signs.Comma (spelled x r)))))) ≡ spell.name n (spell.sign signs.Comma (spelled i (spell.memop_part m (spelled x) r)))
memop_written n m i x r = rw (spelled-Name n (spell.sign signs.Comma (spelled i (spell.sign signs.Comma (spelled (e.Name m) (spell.sign signs.Comma (spelled x r)))))), spelled-Name m (spell.sign signs.Comma (spelled x r))) refl

pub getm_call : (n : List ℕ) (i : E) (m : List ℕ) (x : E) → IsCall methods.Getm (e.Name n ∷ i ∷ e.Name m ∷ x ∷ []) (a.Getm n i m x)
unfolding behind read_e.array_of read_e.array_at read_e.array_with read_e.last_memop read_e.last read_e.first_name
getm_call n i m x = record {
  written = λ r. array_spelled-Getm n i m x r ∙ ap (behind methods.Getm) (sym (memop_written n m i x (spell.sign signs.CloseParen r)));
  level = λ all. array_level-Getm n i m x ∙ ap (λ b. level_if b 9) (with_memop (is_built (e.Name n)) (is_built i) (is_built (e.Name m)) (is_built x) all);
  built = λ built.
      let hs = both (is_built i) (is_built x) (level_needs (is_built i && is_built x) 9 (rw (array_level-Getm n i m x) at built)) in
      rw (name_built n, hs.0, name_built m, hs.1) refl;
  reads = rw (outs-Name n, outs-Name m) refl;
}

pub setm_call : (n : List ℕ) (i : E) (m : List ℕ) (x : E) → IsCall methods.Setm (e.Name n ∷ i ∷ e.Name m ∷ x ∷ []) (a.Setm n i m x)
unfolding behind read_e.array_of read_e.array_at read_e.array_with read_e.last_memop read_e.last read_e.first_name
setm_call n i m x = record {
  written = λ r. array_spelled-Setm n i m x r ∙ ap (behind methods.Setm) (sym (memop_written n m i x (spell.sign signs.CloseParen r)));
  level = λ all. array_level-Setm n i m x ∙ ap (λ b. level_if b 9) (with_memop (is_built (e.Name n)) (is_built i) (is_built (e.Name m)) (is_built x) all);
  built = λ built.
      let hs = both (is_built i) (is_built x) (level_needs (is_built i && is_built x) 9 (rw (array_level-Setm n i m x) at built)) in
      rw (name_built n, hs.0, name_built m, hs.1) refl;
  reads = rw (outs-Name n, outs-Name m) refl;
}

pub update_call : (n : List ℕ) (i : E) (g : List ℕ) (x : E) (s : List ℕ) (y : E) → IsCall methods.Update (e.Name n ∷ i ∷ e.Name g ∷ x ∷ e.Name s ∷ y ∷ []) (a.Update n i g x s y)
unfolding behind read_e.array_of read_e.array_at read_e.array_with read_e.last_memops read_e.last_memop read_e.last read_e.memop_part read_e.first_name
update_call n i g x s y = record {
  written = λ r.
      let last = spell.memop_part s (spelled y) (spell.sign signs.CloseParen r) in
      array_spelled-Update n i g x s y r ∙ ap (behind methods.Update) (sym (memop_written n g i x last) ∙ ap (λ z. spelled (e.Name n) (spell.sign signs.Comma (spelled i (spell.sign signs.Comma (spelled (e.Name g) (spell.sign signs.Comma (spelled x (spell.sign signs.Comma z)))))))) (sym (spelled-Name s (spell.sign signs.Comma (spelled y (spell.sign signs.CloseParen r))))));
  level = λ all. array_level-Update n i g x s y ∙ ap (λ b. level_if b 9) (with_both (is_built (e.Name n)) (is_built i) (is_built (e.Name g)) (is_built x) (is_built (e.Name s)) (is_built y) all);
  built = λ built.
      let hs = both (is_built i) (is_built x && is_built y) (level_needs (is_built i && (is_built x && is_built y)) 9 (rw (array_level-Update n i g x s y) at built)) in
      let ks = both (is_built x) (is_built y) hs.1 in
      rw (name_built n, hs.0, name_built g, ks.0, name_built s, ks.1) refl;
  reads = rw (outs-Name n, outs-Name g, outs-Name s) refl;
}

-- ---- taken apart

first_ok : (xs : List E) → Yields (read_e.first xs) (λ x. xs ≡ x.0 ∷ x.1)
first_ok [] = yields_none _
first_ok (x ∷ xs) = yields_some _ (x, xs) refl

name_at_ok : (y : E-F A E) → Yields (read_e.name_at y) (λ n. y ≡ E-F.Name n)
name_at_ok (E-F.Name n) = yields_some _ n refl
name_at_ok y = yields_none _

name_ok : (x : E) → Yields (read_e.name_at (out-E x)) (λ n. x ≡ e.Name n)
name_ok x = record { each = λ n is. sym (roll-out-E x) ∙ ap roll-E ((name_at_ok (out-E x)).each n is) ∙ e.rolls-Name n }

first_name_ok : (xs : List E) → Yields (read_e.first_name xs) (λ n. xs ≡ e.Name n.0 ∷ n.1)
unfolding read_e.first_name
first_name_ok xs = bind _ _ _ _ (first_ok xs) (λ x hx. bind _ _ _ _ (name_ok x.0) (λ n hn. yields_some _ (n, x.1) (hx ∙ ap (λ y. y ∷ x.1) hn)))

memop_part_ok : (xs : List E) → Yields (read_e.memop_part xs) (λ x. xs ≡ e.Name x.0.0 ∷ x.0.1 ∷ x.1)
unfolding read_e.memop_part
memop_part_ok xs = bind _ _ _ _ (first_name_ok xs) (λ m hm. bind _ _ _ _ (first_ok m.1) (λ x hx. yields_some _ ((m.0, x.0), x.1) (hm ∙ ap (λ l. e.Name m.0 ∷ l) hx)))

with_all_ok : {X : Type 0} (x : X) (xs : List E) → Yields (read_e.with_all x xs) (λ y. (y ≡ x) × (xs ≡ []))
with_all_ok x [] = yields_some _ x (refl, refl)
with_all_ok x (y ∷ ys) = yields_none _

last_ok : (xs : List E) → Yields (read_e.last xs) (λ x. xs ≡ x ∷ [])
unfolding read_e.last
last_ok xs = bind _ _ _ _ (first_ok xs) (λ x hx. record { each = λ y given. let hy = (with_all_ok x.0 x.1).each y given in hx ∙ ap (λ l. x.0 ∷ l) hy.1 ∙ ap (λ z. z ∷ []) (sym hy.0) })

last_memop_ok : (xs : List E) → Yields (read_e.last_memop xs) (λ x. xs ≡ e.Name x.0 ∷ x.1 ∷ [])
unfolding read_e.last_memop
last_memop_ok xs = bind _ _ _ _ (first_name_ok xs) (λ m hm. bind _ _ _ _ (last_ok m.1) (λ x hx. yields_some _ (m.0, x) (hm ∙ ap (λ l. e.Name m.0 ∷ l) hx)))

last_memops_ok : (xs : List E) → Yields (read_e.last_memops xs) (λ x. xs ≡ e.Name x.0.0 ∷ x.0.1 ∷ e.Name x.1.0 ∷ x.1.1 ∷ [])
unfolding read_e.last_memops
last_memops_ok xs = bind _ _ _ _ (memop_part_ok xs) (λ x hx. bind _ _ _ _ (last_memop_ok x.1) (λ y hy. yields_some _ (x.0, y) (hx ∙ ap (λ l. e.Name x.0.0 ∷ x.0.1 ∷ l) hy)))

-- the call that is made of the arguments, all of them
made : (m : Method) (xs ys : List E) (x : A) → xs ≡ ys → IsCall m ys x → IsCall m xs x
made m xs ys x is call = subst (λ l. IsCall m l x) (sym is) call

get_with : (n : List ℕ) (i : E) (xs : List E) → Yields (read_e.with_all (a.Get n i) xs) (IsCall methods.Get (e.Name n ∷ i ∷ xs))
get_with n i [] = yields_some _ (a.Get n i) (get_call n i)
get_with n i (x ∷ xs) = yields_none _

array_with_ok : (n : List ℕ) (i : E) (m : Method) (xs : List E) → Yields (read_e.array_with n i m xs) (IsCall m (e.Name n ∷ i ∷ xs))
unfolding read_e.array_with
array_with_ok n i methods.Get xs = get_with n i xs
array_with_ok n i methods.Set xs = bind _ _ _ _ (last_ok xs) (λ x hx. yields_some _ (a.Set n i x) (made _ _ _ _ (ap (λ l. e.Name n ∷ i ∷ l) hx) (set_call n i x)))
array_with_ok n i methods.Getm xs = bind _ _ _ _ (last_memop_ok xs) (λ x hx. yields_some _ (a.Getm n i x.0 x.1) (made _ _ _ _ (ap (λ l. e.Name n ∷ i ∷ l) hx) (getm_call n i x.0 x.1)))
array_with_ok n i methods.Setm xs = bind _ _ _ _ (last_memop_ok xs) (λ x hx. yields_some _ (a.Setm n i x.0 x.1) (made _ _ _ _ (ap (λ l. e.Name n ∷ i ∷ l) hx) (setm_call n i x.0 x.1)))
array_with_ok n i methods.Update xs = bind _ _ _ _ (last_memops_ok xs) (λ x hx. yields_some _ (a.Update n i x.0.0 x.0.1 x.1.0 x.1.1) (made _ _ _ _ (ap (λ l. e.Name n ∷ i ∷ l) hx) (update_call n i x.0.0 x.0.1 x.1.0 x.1.1)))

array_at_ok : (n : List ℕ) (m : Method) (xs : List E) → Yields (read_e.array_at n m xs) (IsCall m (e.Name n ∷ xs))
unfolding read_e.array_at
array_at_ok n m xs = bind _ _ _ _ (first_ok xs) (λ i hi. record { each = λ x is. made _ _ _ _ (ap (λ l. e.Name n ∷ l) hi) ((array_with_ok n i.0 m i.1).each x is) })

pub array_of_ok : (m : Method) (xs : List E) → Yields (read_e.array_of m xs) (IsCall m xs)
unfolding read_e.array_of
array_of_ok m xs = bind _ _ _ _ (first_name_ok xs) (λ n hn. record { each = λ x is. made _ _ _ _ hn ((array_at_ok n.0 m n.1).each x is) })
