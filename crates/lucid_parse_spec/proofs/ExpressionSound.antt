-- An expression that is read is spelled so, and the grammar builds it.
use Rattle.std.proofs.Common.{◌≡◌, ℕ, zero, suc, ◌+◌, Bool, true, false, ◌&&◌, nat_le, if◌then◌else◌, List, [], ◌∷◌, length, map, codes, Option, Some, None, option_map, refl, sym, ap, ◌∙◌}
use Rattle.std.specs.Str.{bytes_eq}
use Rattle.std.proofs.lemmas.List.Folds.{list_all-map}
use Rattle.lucid_lex.specs.declared.sign.Sign.{Sign}
use Rattle.lucid_lex.specs.declared.sign.Sign.TheVariants as signs
use Rattle.lucid_lex.specs.declared.word.Word.TheVariants as words
use Rattle.lucid_parse_spec.specs.Lexemes as lexemes
use Rattle.lucid_parse_tree.specs.declared.tree.E.{E}
use Rattle.lucid_parse_tree.specs.declared.tree.E.TheVariants as e
use Rattle.lucid_parse_tree.specs.declared.tree.Pre.{Pre}
use Rattle.lucid_parse_tree.specs.declared.tree.Pre.TheVariants as pres
use Rattle.lucid_parse_tree.specs.declared.tree.Infix.TheVariants as infixes
use Rattle.lucid_parse_spec.specs.declared.operator.Next.{Next}
use Rattle.lucid_parse_spec.specs.declared.operator.Next.TheVariants as nexts
use Rattle.lucid_parse_spec.specs.declared.method.Method.{Method}
use Rattle.lucid_parse_spec.specs.declared.method.Method.TheVariants as methods
use Rattle.lucid_parse_spec.specs.Operators.{pre_sign, infix_sign, level}
use Rattle.lucid_parse_spec.specs.Reader as read
use Rattle.lucid_parse_spec.specs.Reader.{Text, Outcome, Parser, ◌>>=◌}
use Rattle.lucid_parse_spec.specs.ReadExpression as read_e
use Rattle.lucid_parse_spec.specs.Spelling as spell
use Rattle.lucid_parse_spec.specs.Spelling.{spelled, array_spelled, level_of, array_level, level_if, all_bind, is_built, all_built}
use Rattle.lucid_parse_spec.proofs.Equations.{spelled-Number, spelled-Truth, spelled-Me, spelled-Time, spelled-Hash, spelled-Name, spelled-Call, spelled-Array, spelled-Paren, spelled-Prefix, spelled-Cast, spelled-Shift, spelled-Infix, level_of-Number, level_of-Truth, level_of-Me, level_of-Time, level_of-Hash, level_of-Name, level_of-Call, level_of-Array, level_of-Paren, level_of-Prefix, level_of-Cast, level_of-Shift, level_of-Infix}
use Rattle.lucid_parse_spec.proofs.Levels.{level_lies, next_level_lies}
use Rattle.lucid_parse_spec.proofs.Calls.{method_text, array_of_ok}
use Rattle.lucid_parse_spec.proofs.Steps.{Yields, yields_none, yields_some, bind, mapped, both, of_both, after_ok, after_name_ok, name_ok, width_ok, width_if_ok, same_bytes}
use Rattle.lucid_parse_spec.proofs.Repeats.{Separated, separated_ok}

-- ---- signs between operands

-- the operator after an operand, as it is written
abbrev pub next_text : Next → Text → Text
next_text (nexts.Infix op) r = spell.sign (infix_sign op) r
next_text (nexts.Shift up n) r = spell.sign (if up then signs.ShiftLeft else signs.ShiftRight) (spell.number n r)

infix_of_ok : (s : Sign) → Yields (read_e.infix_of s) (λ op. s ≡ infix_sign op)
infix_of_ok signs.OrOr = yields_some _ infixes.OrOr refl
infix_of_ok signs.AndAnd = yields_some _ infixes.AndAnd refl
infix_of_ok signs.EqualEqual = yields_some _ infixes.EqualEqual refl
infix_of_ok signs.NotEqual = yields_some _ infixes.NotEqual refl
infix_of_ok signs.Less = yields_some _ infixes.Less refl
infix_of_ok signs.Greater = yields_some _ infixes.Greater refl
infix_of_ok signs.LessEqual = yields_some _ infixes.LessEqual refl
infix_of_ok signs.GreaterEqual = yields_some _ infixes.GreaterEqual refl
infix_of_ok signs.Or = yields_some _ infixes.Or refl
infix_of_ok signs.Caret = yields_some _ infixes.Caret refl
infix_of_ok signs.And = yields_some _ infixes.And refl
infix_of_ok signs.Plus = yields_some _ infixes.Plus refl
infix_of_ok signs.Minus = yields_some _ infixes.Minus refl
infix_of_ok signs.SatAdd = yields_some _ infixes.SatAdd refl
infix_of_ok signs.SatSub = yields_some _ infixes.SatSub refl
infix_of_ok s = yields_none _

pre_of_ok : (s : Sign) → Yields (read_e.pre_of s) (λ p. s ≡ pre_sign p)
pre_of_ok signs.Minus = yields_some _ pres.Minus refl
pre_of_ok signs.Tilde = yields_some _ pres.Tilde refl
pre_of_ok signs.Not = yields_some _ pres.Not refl
pre_of_ok s = yields_none _

infix_next : (s : Sign) (ts : Text) → Yields {A = Next × Text} (option_map (λ op. (nexts.Infix op, ts)) (read_e.infix_of s)) (λ p. lexemes.Sign s ∷ ts ≡ next_text p.0 p.1)
infix_next s ts = mapped _ _ (read_e.infix_of s) _ (infix_of_ok s) (λ op same. ap (λ t. lexemes.Sign t ∷ ts) same)

shift_of_ok : (up : Bool) (ts : Text) → Yields (read_e.shift_of up ts) (λ p. spell.sign (if up then signs.ShiftLeft else signs.ShiftRight) ts ≡ next_text p.0 p.1)
shift_of_ok up [] = yields_none _
shift_of_ok up (lexemes.Number n ∷ ts) = yields_some _ (nexts.Shift up n, ts) refl
shift_of_ok up (l ∷ ts) = yields_none _

next_of_ok : (ts : Text) → Yields (read_e.next_of ts) (λ p. ts ≡ next_text p.0 p.1)
unfolding read_e.next_of
next_of_ok [] = yields_none _
next_of_ok (lexemes.Sign signs.ShiftLeft ∷ ts) = shift_of_ok true ts
next_of_ok (lexemes.Sign signs.ShiftRight ∷ ts) = shift_of_ok false ts
next_of_ok (lexemes.Sign s ∷ ts) = infix_next s ts
next_of_ok (l ∷ ts) = yields_none _

-- facts of the next sign
abbrev Within : ℕ → ℕ → Text → Next × Text → Type 0
Within least tight ts p = (ts ≡ next_text p.0 p.1) × (nat_le least (read_e.next_level p.0) ≡ true) × (nat_le (read_e.next_left p.0) tight ≡ true)

within_if : (least tight : ℕ) (ts : Text) (p : Next × Text) (b : Bool) → (nat_le least (read_e.next_level p.0) && nat_le (read_e.next_left p.0) tight) ≡ b → ts ≡ next_text p.0 p.1 → Yields (if b then Some p else None) (Within least tight ts)
within_if least tight ts p true h is = let hs = both _ _ h in yields_some _ p (is, hs.0, hs.1)
within_if least tight ts p false h is = yields_none _

within_ok : (least tight : ℕ) (ts : Text) (o : Option (Next × Text)) → Yields o (λ p. ts ≡ next_text p.0 p.1) → Yields (read_e.within least tight o) (Within least tight ts)
within_ok least tight ts None h = yields_none _
within_ok least tight ts (Some p) h = within_if least tight ts p _ refl (h.each p refl)

next_within_ok : (least tight : ℕ) (ts : Text) → Yields (read_e.next_within least tight ts) (Within least tight ts)
unfolding read_e.next_within
next_within_ok least tight ts = within_ok least tight ts (read_e.next_of ts) (next_of_ok ts)

-- ---- calls of arrays

method_if : (bytes text : List ℕ) (m : Method) (other : Option Method) (b : Bool) → bytes_eq bytes text ≡ b → text ≡ method_text m → Yields other (λ k. bytes ≡ method_text k) → Yields (if b then Some m else other) (λ k. bytes ≡ method_text k)
method_if bytes text m other true h is rest = yields_some _ m (same_bytes bytes text h ∙ is)
method_if bytes text m other false h is rest = rest

method_of_ok : (bytes : List ℕ) → Yields (read_e.method_of bytes) (λ m. bytes ≡ method_text m)
method_of_ok bytes =
    method_if bytes _ methods.Get _ _ refl refl (method_if bytes _ methods.Set _ _ refl refl (method_if bytes _ methods.Getm _ _ refl refl (method_if bytes _ methods.Setm _ _ refl refl (method_if bytes _ methods.Update _ _ refl refl (yields_none _)))))

array_method_ok : (ts : Text) → Yields (read_e.array_method ts) (λ x. ts ≡ spell.sign signs.Dot (spell.name (method_text x.0) (spell.sign signs.OpenParen x.1)))
unfolding read_e.array_method
array_method_ok ts = bind _ _ _ _ (after_ok signs.Dot ts) (λ r hr. bind _ _ _ _ (name_ok r) (λ n hn. bind _ _ _ _ (method_of_ok n.0) (λ m hm. bind _ _ _ _ (after_ok signs.OpenParen n.1) (λ q hq.
    yields_some _ (m, q) (hr ∙ ap (spell.sign signs.Dot) (hn ∙ ap (λ k. spell.name k n.1) hm ∙ ap (spell.name (method_text m)) hq))))))

-- ---- expressions

-- the result of reading an expression of at least this level
abbrev pub Gives : ℕ → Text → E × Text → Type 0
Gives least ts x = (ts ≡ spelled x.0 x.1) × (nat_le least (level_of x.0) ≡ true) × (nat_le 1 (level_of x.0) ≡ true)

-- an operand by itself
abbrev Operand : (Text → Text) → Text → E × Text → Type 0
Operand before ts x = (before ts ≡ spelled x.0 x.1) × (level_of x.0 ≡ 9)

module _ (inner : ℕ → Parser E) (ok : (least : ℕ) (ts : Text) → nat_le least 9 ≡ true → Yields (inner least ts) (Gives least ts)) where
  item_ok : (ts : Text) → Yields (inner 1 ts) (λ x. (ts ≡ spelled x.0 x.1) × (is_built x.0 ≡ true))
  item_ok ts = record { each = λ x is. let h = (ok 1 ts refl).each x is in (h.0, h.2) }

  pub expressions_ok : (ts : Text) → Yields (read.separated (inner 1) ts) (Separated spelled is_built ts)
  expressions_ok ts = separated_ok (inner 1) spelled is_built item_ok ts

  arguments_on_ok : (ts : Text) (o : Option Text) → Yields o (λ r. ts ≡ spell.sign signs.CloseParen r) → Yields (read_e.arguments_on (read.separated (inner 1)) ts o) (λ x. (ts ≡ spell.with_commas (map spelled x.0) (spell.sign signs.CloseParen x.1)) × (all_built x.0 ≡ true))
  arguments_on_ok ts (Some r) h = yields_some _ ([], r) (h.each r refl, refl)
  arguments_on_ok ts None h = bind _ _ _ _ (expressions_ok ts) (λ xs hx. bind _ _ _ _ (after_ok signs.CloseParen xs.1) (λ r hr.
      yields_some _ (xs.0, r) (rw hx.whole (hx.written ∙ ap (λ q. spelled hx.first (spell.each_after_comma (map spelled hx.more) q)) hr), rw hx.whole hx.built)))

  pub arguments_ok : (ts : Text) → Yields (read_e.arguments inner ts) (λ x. (ts ≡ spell.with_commas (map spelled x.0) (spell.sign signs.CloseParen x.1)) × (all_built x.0 ≡ true))
  unfolding read_e.arguments
  arguments_ok ts = arguments_on_ok ts (read.after signs.CloseParen ts) (after_ok signs.CloseParen ts)

  named_on_ok : (n : List ℕ) (ts : Text) (o : Option Text) → Yields o (λ r. ts ≡ spell.sign signs.OpenParen r) → Yields (read_e.named_on inner n ts o) (Operand (spell.name n) ts)
  named_on_ok n ts None h = yields_some _ (e.Name n, ts) (sym (spelled-Name n ts), level_of-Name n)
  named_on_ok n ts (Some r) h = let hr = h.each r refl in bind _ _ _ _ (arguments_ok r) (λ xs hx.
      yields_some _ (e.Call n xs.0, xs.1) (ap (spell.name n) (hr ∙ ap (spell.sign signs.OpenParen) hx.0) ∙ sym (spelled-Call n xs.0 xs.1), level_of-Call n xs.0 ∙ ap (λ b. level_if b 9) (list_all-map (λ l. nat_le 1 l) level_of xs.0 ∙ hx.1)))

  named_ok : (n : List ℕ) (ts : Text) → Yields (read_e.named inner n ts) (Operand (spell.name n) ts)
  unfolding read_e.named
  named_ok n ts = named_on_ok n ts (read.after signs.OpenParen ts) (after_ok signs.OpenParen ts)

  time_ok : (ts : Text) → Yields (read_e.after_time ts) (λ r. spell.word words.SysCalls ts ≡ spelled e.Time r)
  unfolding read_e.after_time
  time_ok ts = bind _ _ _ _ (after_ok signs.Dot ts) (λ r hr. bind _ _ _ _ (after_name_ok (codes "time") r) (λ q hq. bind _ _ _ _ (after_ok signs.OpenParen q) (λ o ho. record {
    each = λ n is.
        let hn = (after_ok signs.CloseParen o).each n is in
        let goal_is = spelled-Time n in cc;
  })))

  hash_head_ok : (ts : Text) → Yields (read_e.hash_head ts) (λ x. ts ≡ spell.width x.0 (spell.sign signs.OpenParen x.1))
  unfolding read_e.hash_head
  hash_head_ok ts = bind _ _ _ _ (width_ok ts) (λ w hw. bind _ _ _ _ (after_ok signs.OpenParen w.1) (λ r hr. yields_some _ (w.0, r) (hw ∙ ap (spell.width w.0) hr)))

  hash_of_ok : (w : ℕ) (xs : List E) → all_built xs ≡ true → Yields (read.some xs) (λ ys. (xs ≡ ys) × (level_of (e.Hash w ys) ≡ 9))
  hash_of_ok w [] built = yields_none _
  hash_of_ok w (x ∷ xs) built = yields_some _ (x ∷ xs) (refl, level_of-Hash w (x ∷ xs) ∙ ap (λ b. level_if b 9) (list_all-map (λ l. nat_le 1 l) level_of (x ∷ xs) ∙ built))

  hash_ok : (ts : Text) → Yields (read_e.hash inner ts) (Operand (spell.word words.Hash) ts)
  hash_ok ts = bind _ _ _ _ (hash_head_ok ts) (λ w hw. bind _ _ _ _ (arguments_ok w.1) (λ xs hx. bind _ _ _ _ (hash_of_ok w.0 xs.0 hx.1) (λ ys hy.
      yields_some _ (e.Hash w.0 ys, xs.1) (
        ap (spell.word words.Hash) (hw ∙ ap (λ z. spell.width w.0 (spell.sign signs.OpenParen z)) (hx.0 ∙ ap (λ zs. spell.with_commas (map spelled zs) (spell.sign signs.CloseParen xs.1)) hy.0)) ∙ sym (spelled-Hash w.0 ys xs.1),
        hy.1,
      ))))

  prefixed_ok : (t : Sign) (ts : Text) (o : Option Pre) → Yields o (λ p. t ≡ pre_sign p) → Yields (read_e.prefixed inner ts o) (Operand (spell.sign t) ts)
  prefixed_ok t ts None h = yields_none _
  prefixed_ok t ts (Some p) h = let is = h.each p refl in bind _ _ _ _ (ok 9 ts refl) (λ x hx.
      yields_some _ (e.Prefix p x.0, x.1) (ap (λ u. spell.sign u ts) is ∙ ap (spell.sign (pre_sign p)) hx.0 ∙ sym (spelled-Prefix p x.0 x.1), level_of-Prefix p x.0 ∙ ap (λ b. level_if b 9) hx.1))

  parens_ok : (ts : Text) → Yields (inner 1 ts >>= (λ x. read.after signs.CloseParen x.1 >>= (λ r. Some (e.Paren x.0, r)))) (Operand (spell.sign signs.OpenParen) ts)
  parens_ok ts = bind _ _ _ _ (ok 1 ts refl) (λ x hx. bind _ _ _ _ (after_ok signs.CloseParen x.1) (λ r hr.
      yields_some _ (e.Paren x.0, r) (ap (spell.sign signs.OpenParen) (hx.0 ∙ ap (spelled x.0) hr) ∙ sym (spelled-Paren x.0 r), level_of-Paren x.0 ∙ ap (λ b. level_if b 9) hx.2)))

  in_parens_ok : (ts : Text) → Yields (read_e.in_parens inner ts) (Operand (spell.sign signs.OpenParen) ts)
  unfolding read_e.in_parens
  in_parens_ok (lexemes.Word words.Int ∷ ts) = bind _ _ _ _ (width_if_ok ts) (λ w hw. bind _ _ _ _ (after_ok signs.CloseParen w.1) (λ r hr. bind _ _ _ _ (ok 9 r refl) (λ x hx.
      yields_some _ (e.Cast w.0 x.0, x.1) (ap (λ z. spell.sign signs.OpenParen (spell.word words.Int z)) (hw ∙ ap (spell.width_if w.0) (hr ∙ ap (spell.sign signs.CloseParen) hx.0)) ∙ sym (spelled-Cast w.0 x.0 x.1), level_of-Cast w.0 x.0 ∙ ap (λ b. level_if b 9) hx.1))))
  in_parens_ok ts = parens_ok ts

  -- ---- calls of arrays

  pub array_call_ok : (ts : Text) → Yields (read_e.array_call inner ts) (λ x. (spell.word words.ArrayCalls ts ≡ array_spelled x.0 x.1) × (array_level x.0 ≡ 9))
  unfolding read_e.array_call
  array_call_ok ts = bind _ _ _ _ (array_method_ok ts) (λ m hm. bind _ _ _ _ (arguments_ok m.1) (λ xs hx. bind _ _ _ _ (array_of_ok m.0 xs.0) (λ x h.
      yields_some _ (x, xs.1) (ap (spell.word words.ArrayCalls) (hm ∙ ap (λ z. spell.sign signs.Dot (spell.name (method_text m.0) (spell.sign signs.OpenParen z))) hx.0) ∙ sym (h.written xs.1), h.level hx.1))))

  -- ---- operands and the tokens after them

  array_operand_ok : (ts : Text) → Yields (read_e.array_call inner ts >>= (λ x. Some (e.Array x.0, x.1))) (Operand (spell.word words.ArrayCalls) ts)
  array_operand_ok ts = bind _ _ _ _ (array_call_ok ts) (λ x hx. yields_some _ (e.Array x.0, x.1) (hx.0 ∙ sym (spelled-Array x.0 x.1), level_of-Array x.0 ∙ hx.1))

  operand_ok : (ts : Text) → Yields (read_e.operand inner ts) (Operand (λ z. z) ts)
  unfolding read_e.operand
  operand_ok [] = yields_none _
  operand_ok (lexemes.Number n ∷ ts) = yields_some _ (e.Number n, ts) (sym (spelled-Number n ts), level_of-Number n)
  operand_ok (lexemes.Name n ∷ ts) = named_ok n ts
  operand_ok (lexemes.Word words.True ∷ ts) = yields_some _ (e.Truth true, ts) (sym (spelled-Truth true ts), level_of-Truth true)
  operand_ok (lexemes.Word words.False ∷ ts) = yields_some _ (e.Truth false, ts) (sym (spelled-Truth false ts), level_of-Truth false)
  operand_ok (lexemes.Word words.Me ∷ ts) = yields_some _ (e.Me, ts) (sym (spelled-Me ts), level_of-Me)
  operand_ok (lexemes.Word words.SysCalls ∷ ts) = bind _ _ _ _ (time_ok ts) (λ r hr. yields_some _ (e.Time, r) (hr, level_of-Time))
  operand_ok (lexemes.Word words.Hash ∷ ts) = hash_ok ts
  operand_ok (lexemes.Word words.ArrayCalls ∷ ts) = array_operand_ok ts
  operand_ok (lexemes.Sign signs.OpenParen ∷ ts) = in_parens_ok ts
  operand_ok (lexemes.Sign s ∷ ts) = prefixed_ok s ts (read_e.pre_of s) (pre_of_ok s)
  operand_ok (l ∷ ts) = yields_none _

  grown_ok : (left : E) (p : Next) (ts : Text) → nat_le (read_e.next_left p) (level_of left) ≡ true → Yields (read_e.grown inner left p ts) (λ x. (spelled left (next_text p ts) ≡ spelled x.0 x.1) × (level_of x.0 ≡ read_e.next_level p))
  grown_ok left (nexts.Infix op) ts loose = bind _ _ _ _ (ok (level op + 1) ts (level_lies op).1) (λ x hx. yields_some _ (e.Infix op left x.0, x.1)
      (ap (λ z. spelled left (spell.sign (infix_sign op) z)) hx.0 ∙ sym (spelled-Infix op left x.0 x.1), level_of-Infix op left x.0 ∙ ap (λ b. level_if b (level op)) (of_both _ _ loose hx.1)))
  grown_ok left (nexts.Shift up n) ts loose = yields_some _ (e.Shift left up n, ts) (sym (spelled-Shift left up n ts), level_of-Shift left up n ∙ ap (λ b. level_if b 7) loose)

  climb_on_ok : (least tight : ℕ) (next : ℕ → E → Parser E)
      → ((t : ℕ) (left : E) (ts : Text) → level_of left ≡ t → nat_le least t ≡ true → nat_le 1 t ≡ true → Yields (next t left ts) (λ x. (spelled left ts ≡ spelled x.0 x.1) × (nat_le least (level_of x.0) ≡ true) × (nat_le 1 (level_of x.0) ≡ true)))
      → (left : E) (ts : Text) (o : Option (Next × Text)) → Yields o (Within least tight ts) → level_of left ≡ tight → nat_le least tight ≡ true → nat_le 1 tight ≡ true
      → Yields (read_e.climb_on inner next left ts o) (λ x. (spelled left ts ≡ spelled x.0 x.1) × (nat_le least (level_of x.0) ≡ true) × (nat_le 1 (level_of x.0) ≡ true))
  climb_on_ok least tight next rest left ts None h is at_least built = yields_some _ (left, ts) (refl, rw is at_least, rw is built)
  climb_on_ok least tight next rest left ts (Some p) h is at_least built =
      let hp = h.each p refl in
      bind _ _ _ _ (grown_ok left p.0 p.1 (rw is hp.2)) (λ x hx. record {
        each = λ y given.
            let hy = (rest (read_e.next_level p.0) x.0 x.1 hx.1 hp.1 (next_level_lies p.0).0).each y given in
            (ap (spelled left) hp.0 ∙ hx.0 ∙ hy.0, hy.1, hy.2);
      })

  climb_ok : (least n tight : ℕ) (left : E) (ts : Text) → level_of left ≡ tight → nat_le least tight ≡ true → nat_le 1 tight ≡ true → Yields (read_e.climb inner least n tight left ts) (λ x. (spelled left ts ≡ spelled x.0 x.1) × (nat_le least (level_of x.0) ≡ true) × (nat_le 1 (level_of x.0) ≡ true))
  unfolding read_e.climb
  climb_ok least zero tight left ts is at_least built = yields_some _ (left, ts) (refl, rw is at_least, rw is built)
  climb_ok least (suc n) tight left ts is at_least built = climb_on_ok least tight (read_e.climb inner least n) (climb_ok least n) left ts (read_e.next_within least tight ts) (next_within_ok least tight ts) is at_least built

  pub round_ok : (least : ℕ) (ts : Text) → nat_le least 9 ≡ true → Yields (read_e.operand inner ts >>= (λ x. read_e.climb inner least (length x.1) 9 x.0 x.1)) (Gives least ts)
  round_ok least ts low = bind _ _ _ _ (operand_ok ts) (λ x hx. record {
    each = λ y given.
        let hy = (climb_ok least (length x.1) 9 x.0 x.1 hx.1 low refl).each y given in
        (hx.0 ∙ hy.0, hy.1, hy.2);
  })

pub expression_at_ok : (d least : ℕ) (ts : Text) → nat_le least 9 ≡ true → Yields (read_e.expression_at d least ts) (Gives least ts)
unfolding read_e.expression_at
expression_at_ok zero least ts low = yields_none _
expression_at_ok (suc d) least ts low = round_ok (read_e.expression_at d) (expression_at_ok d) least ts low

-- an expression is read as it is spelled
pub expression_ok : (ts : Text) → Yields (read_e.expression ts) (λ x. (ts ≡ spelled x.0 x.1) × (is_built x.0 ≡ true))
unfolding read_e.expression
expression_ok ts = record { each = λ x is. let h = (expression_at_ok (length ts) 1 ts refl).each x is in (h.0, h.2) }
