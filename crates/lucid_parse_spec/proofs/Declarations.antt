-- Declarations are read exactly as they are spelled, both ways.
use Rattle.std.proofs.Common.{◌≡◌, ℕ, ◌<◌, ◌≤◌, Bool, true, false, List, [], ◌∷◌, length, map, codes, Option, Some, None, refl, sym, ap, ◌∙◌, arith}
use Rattle.std.proofs.lemmas.List.Folds.{list_all-map}
use Rattle.lucid_lex.specs.declared.sign.Sign.TheVariants as signs
use Rattle.lucid_lex.specs.declared.word.Word.TheVariants as words
use Rattle.lucid_parse_spec.specs.Lexemes as lexemes
use Rattle.lucid_parse_tree.specs.declared.tree.Ty.{Ty}
use Rattle.lucid_parse_tree.specs.declared.tree.Ty.TheVariants as types
use Rattle.lucid_parse_tree.specs.declared.tree.P.{P}
use Rattle.lucid_parse_tree.specs.declared.tree.P.TheVariants as p
use Rattle.lucid_parse_tree.specs.declared.tree.Size.{Size}
use Rattle.lucid_parse_tree.specs.declared.tree.Size.TheVariants as sizes
use Rattle.lucid_parse_tree.specs.declared.tree.DeclKind.{DeclKind}
use Rattle.lucid_parse_tree.specs.declared.tree.DeclKind.TheVariants as d
use Rattle.lucid_parse_spec.specs.Reader as read
use Rattle.lucid_parse_spec.specs.Reader.{Text, Outcome, Parser, ◌>>=◌}
use Rattle.lucid_parse_spec.specs.ReadStatement as read_s
use Rattle.lucid_parse_spec.specs.ReadDeclaration as read_d
use Rattle.lucid_parse_spec.specs.Spelling as spell
use Rattle.lucid_parse_spec.specs.Spelling.{statement_spelled, statement_built, declaration_built}
use Rattle.lucid_parse_spec.proofs.Steps.{Yields, yields_none, yields_some, bind, after_ok, after_word_ok, after_name_ok, name_ok, number_ok, ty_ok, typed_name_ok, array_type_ok, ty_again, typed_name_again, array_type_again}
use Rattle.lucid_parse_spec.proofs.Repeats.{separated_ok, separated_again, ItemsOf}
use Rattle.lucid_parse_spec.proofs.StatementGrowth.{ty_grows}
use Rattle.lucid_parse_spec.proofs.StatementSound.{body_reads}
use Rattle.lucid_parse_spec.proofs.StatementComplete.{body_again, body_long}

-- ---- a declaration that is read is spelled so

body_ok : (ts : Text) → Yields (read_s.body ts) (λ x. (ts ≡ spell.body x.0 x.1) × (spell.body_built x.0 ≡ true))
body_ok ts = record { each = λ x is. let h = (body_reads ts).each x is in (h.0, sym (list_all-map (λ b. b) statement_built x.0) ∙ h.1) }

parameter_ok : (ts : Text) → Yields (read_d.parameter ts) (λ x. (ts ≡ spell.parameter x.0 x.1) × (true ≡ true))
unfolding read_d.parameter
parameter_ok (lexemes.Word words.ArrayCalls ∷ ts) = bind _ _ _ _ (array_type_ok ts) (λ t ht. bind _ _ _ _ (name_ok t.1) (λ m hm.
    yields_some _ (p.Array t.0.0 t.0.1 m.0, m.1) (ht ∙ ap (spell.array_type t.0.0 t.0.1) hm, refl)))
parameter_ok ts = bind _ _ _ _ (typed_name_ok ts) (λ t ht. yields_some _ (p.Value t.0.0 t.0.1, t.1) (ht, refl))

parameters_on_ok : (ts : Text) (o : Option Text) → Yields o (λ r. ts ≡ spell.sign signs.CloseParen r) → Yields (read_d.parameters_on ts o) (λ x. ts ≡ spell.with_commas (map spell.parameter x.0) (spell.sign signs.CloseParen x.1))
parameters_on_ok ts (Some r) h = yields_some _ ([], r) (h.each r refl)
parameters_on_ok ts None h = bind _ _ _ _ (separated_ok read_d.parameter spell.parameter (λ x. true) parameter_ok ts) (λ ps hp. bind _ _ _ _ (after_ok signs.CloseParen ps.1) (λ r hr.
    yields_some _ (ps.0, r) (rw hp.whole (hp.written ∙ ap (λ q. spell.parameter hp.first (spell.each_after_comma (map spell.parameter hp.more) q)) hr))))

parameters_ok : (ts : Text) → Yields (read_d.parameters ts) (λ x. ts ≡ spell.parameters x.0 x.1)
unfolding read_d.parameters
parameters_ok ts = bind _ _ _ _ (after_ok signs.OpenParen ts) (λ r hr. record {
  each = λ x is.
      let hx = (parameters_on_ok r (read.after signs.CloseParen r) (after_ok signs.CloseParen r)).each x is in
      hr ∙ ap (spell.sign signs.OpenParen) hx;
})

-- a declaration behind its word
abbrev Declares : (Text → Text) → Text → DeclKind × Text → Type 0
Declares before ts x = (before ts ≡ spell.declaration x.0 x.1) × (declaration_built x.0 ≡ true)

constant_ok : (ts : Text) → Yields (read_d.constant ts) (Declares (spell.word words.Const) ts)
unfolding read_d.constant
constant_ok ts = bind _ _ _ _ (typed_name_ok ts) (λ t ht. bind _ _ _ _ (after_ok signs.Equal t.1) (λ r hr. bind _ _ _ _ (number_ok r) (λ m hm. bind _ _ _ _ (after_ok signs.Semicolon m.1) (λ q hq.
    yields_some _ (d.Const t.0.0 t.0.1 m.0, q) (ap (spell.word words.Const) (ht ∙ ap (spell.typed_name t.0.0 t.0.1) (hr ∙ ap (spell.sign signs.Equal) (hm ∙ ap (spell.number m.0) hq))), refl)))))

size_ok : (ts : Text) → Yields (read_d.size ts) (λ x. ts ≡ spell.size x.0 x.1)
unfolding read_d.size
size_ok [] = yields_none _
size_ok (lexemes.Number m ∷ ts) = yields_some _ (sizes.Number m, ts) refl
size_ok (lexemes.Name m ∷ ts) = yields_some _ (sizes.Named m, ts) refl
size_ok (l ∷ ts) = yields_none _

created_ok : (ts : Text) → Yields (read_d.created ts) (λ x. ts ≡ spell.array_call (codes "create") (spell.size x.0) (spell.sign signs.Semicolon x.1))
unfolding read_d.created
created_ok ts = bind _ _ _ _ (after_word_ok words.ArrayCalls ts) (λ r hr. bind _ _ _ _ (after_ok signs.Dot r) (λ q hq. bind _ _ _ _ (after_name_ok (codes "create") q) (λ o ho. bind _ _ _ _ (after_ok signs.OpenParen o) (λ m hm. bind _ _ _ _ (size_ok m) (λ x hx. bind _ _ _ _ (after_ok signs.CloseParen x.1) (λ l hl. bind _ _ _ _ (after_ok signs.Semicolon l) (λ k hk.
    yields_some _ (x.0, k) (hr ∙ ap (spell.word words.ArrayCalls) (hq ∙ ap (spell.sign signs.Dot) (ho ∙ ap (spell.name (codes "create")) (hm ∙ ap (spell.sign signs.OpenParen) (hx ∙ ap (spell.size x.0) (hl ∙ ap (spell.sign signs.CloseParen) hk)))))))))))))

global_array_ok : (ts : Text) → Yields (read_d.global_array ts) (Declares (spell.word words.Global) ts)
unfolding read_d.global_array
global_array_ok ts = bind _ _ _ _ (after_word_ok words.ArrayCalls ts) (λ r hr. bind _ _ _ _ (array_type_ok r) (λ t ht. bind _ _ _ _ (name_ok t.1) (λ m hm. bind _ _ _ _ (after_ok signs.Equal m.1) (λ q hq. bind _ _ _ _ (created_ok q) (λ x hx.
    yields_some _ (d.Global t.0.0 t.0.1 m.0 x.0, x.1) (ap (spell.word words.Global) (hr ∙ ht ∙ ap (spell.array_type t.0.0 t.0.1) (hm ∙ ap (spell.name m.0) (hq ∙ ap (spell.sign signs.Equal) hx))), refl))))))

two_parameters_ok : (ts : Text) → Yields (read_d.two_parameters ts) (λ x. ts ≡ spell.in_parens (λ q. spell.typed_name x.0.0.0 x.0.0.1 (spell.sign signs.Comma (spell.typed_name x.0.1.0 x.0.1.1 q))) x.1)
unfolding read_d.two_parameters
two_parameters_ok ts = bind _ _ _ _ (after_ok signs.OpenParen ts) (λ r hr. bind _ _ _ _ (typed_name_ok r) (λ t ht. bind _ _ _ _ (after_ok signs.Comma t.1) (λ q hq. bind _ _ _ _ (typed_name_ok q) (λ u hu. bind _ _ _ _ (after_ok signs.CloseParen u.1) (λ o ho.
    yields_some _ ((t.0, u.0), o) (hr ∙ ap (spell.sign signs.OpenParen) (ht ∙ ap (spell.typed_name t.0.0 t.0.1) (hq ∙ ap (spell.sign signs.Comma) (hu ∙ ap (spell.typed_name u.0.0 u.0.1) ho)))))))))

memop_ok : (ts : Text) → Yields (read_d.memop ts) (Declares (spell.word words.Memop) ts)
unfolding read_d.memop
memop_ok ts = bind _ _ _ _ (name_ok ts) (λ m hm. bind _ _ _ _ (two_parameters_ok m.1) (λ ps hp. bind _ _ _ _ (body_ok ps.1) (λ ss hs.
    yields_some _ (d.Memop m.0 ps.0.0 ps.0.1 ss.0, ss.1) (ap (spell.word words.Memop) (hm ∙ ap (spell.name m.0) (hp ∙ ap (spell.in_parens (λ q. spell.typed_name ps.0.0.0 ps.0.0.1 (spell.sign signs.Comma (spell.typed_name ps.0.1.0 ps.0.1.1 q)))) hs.0)), hs.1))))

event_declared_ok : (ts : Text) → Yields (read_d.event_declared ts) (Declares (spell.word words.Event) ts)
unfolding read_d.event_declared
event_declared_ok ts = bind _ _ _ _ (name_ok ts) (λ m hm. bind _ _ _ _ (parameters_ok m.1) (λ ps hp. bind _ _ _ _ (after_ok signs.Semicolon ps.1) (λ r hr.
    yields_some _ (d.Event m.0 ps.0, r) (ap (spell.word words.Event) (hm ∙ ap (spell.name m.0) (hp ∙ ap (spell.parameters ps.0) hr)), refl))))

handler_ok : (ts : Text) → Yields (read_d.handler ts) (Declares (spell.word words.Handle) ts)
unfolding read_d.handler
handler_ok ts = bind _ _ _ _ (name_ok ts) (λ m hm. bind _ _ _ _ (parameters_ok m.1) (λ ps hp. bind _ _ _ _ (body_ok ps.1) (λ ss hs.
    yields_some _ (d.Handle m.0 ps.0 ss.0, ss.1) (ap (spell.word words.Handle) (hm ∙ ap (spell.name m.0) (hp ∙ ap (spell.parameters ps.0) hs.0)), hs.1))))

answer_ok : (ts : Text) → Yields (read_d.answer ts) (λ x. ts ≡ spell.answer x.0 x.1)
unfolding read_d.answer
answer_ok (lexemes.Word words.Void ∷ ts) = yields_some _ (None, ts) refl
answer_ok ts = bind _ _ _ _ (ty_ok ts) (λ t ht. yields_some _ (Some t.0, t.1) ht)

function_ok : (ts : Text) → Yields (read_d.function ts) (Declares (spell.word words.Fun) ts)
unfolding read_d.function
function_ok ts = bind _ _ _ _ (answer_ok ts) (λ t ht. bind _ _ _ _ (name_ok t.1) (λ m hm. bind _ _ _ _ (parameters_ok m.1) (λ ps hp. bind _ _ _ _ (body_ok ps.1) (λ ss hs.
    yields_some _ (d.Fun t.0 m.0 ps.0 ss.0, ss.1) (ap (spell.word words.Fun) (ht ∙ ap (spell.answer t.0) (hm ∙ ap (spell.name m.0) (hp ∙ ap (spell.parameters ps.0) hs.0))), hs.1)))))

number_item_ok : (ts : Text) → Yields (read.number ts) (λ x. (ts ≡ spell.number x.0 x.1) × (true ≡ true))
number_item_ok ts = record { each = λ x is. ((number_ok ts).each x is, refl) }

group_ok : (ts : Text) → Yields (read_d.group ts) (Declares (spell.word words.Group) ts)
unfolding read_d.group
group_ok ts = bind _ _ _ _ (name_ok ts) (λ m hm. bind _ _ _ _ (after_ok signs.Equal m.1) (λ r hr. bind _ _ _ _ (after_ok signs.OpenBrace r) (λ q hq. bind _ _ _ _ (separated_ok read.number spell.number (λ x. true) number_item_ok q) (λ ns hn. bind _ _ _ _ (after_ok signs.CloseBrace ns.1) (λ o ho. bind _ _ _ _ (after_ok signs.Semicolon o) (λ k hk.
    yields_some _ (d.Group m.0 ns.0, k) (
      rw hn.whole (ap (spell.word words.Group) (hm ∙ ap (spell.name m.0) (hr ∙ ap (spell.sign signs.Equal) (hq ∙ ap (spell.sign signs.OpenBrace) (hn.written ∙ ap (λ z. spell.number hn.first (spell.each_after_comma (map spell.number hn.more) z)) (ho ∙ ap (spell.sign signs.CloseBrace) hk)))))),
      rw hn.whole refl,
    )))))))

pub declaration_ok : (ts : Text) → Yields (read_d.declaration ts) (λ x. (ts ≡ spell.declaration x.0 x.1) × (declaration_built x.0 ≡ true))
unfolding read_d.declaration
declaration_ok [] = yields_none _
declaration_ok (lexemes.Word words.Const ∷ ts) = constant_ok ts
declaration_ok (lexemes.Word words.Global ∷ ts) = global_array_ok ts
declaration_ok (lexemes.Word words.Memop ∷ ts) = memop_ok ts
declaration_ok (lexemes.Word words.Event ∷ ts) = event_declared_ok ts
declaration_ok (lexemes.Word words.Handle ∷ ts) = handler_ok ts
declaration_ok (lexemes.Word words.Fun ∷ ts) = function_ok ts
declaration_ok (lexemes.Word words.Group ∷ ts) = group_ok ts
declaration_ok (l ∷ ts) = yields_none _

-- ---- a spelled declaration is read

parameter_ty : (t : Ty) (r : Text) → read_d.parameter (spell.ty t r) ≡ (read.typed_name (spell.ty t r) >>= (λ x. Some (p.Value x.0.0 x.0.1, x.1)))
unfolding read_d.parameter
parameter_ty (types.Int w) r = refl
parameter_ty types.Bool r = refl

parameter_again : (x : P) (r : Text) → read_d.parameter (spell.parameter x r) ≡ Some (x, r)
unfolding read_d.parameter
parameter_again (p.Value t m) r = rw (parameter_ty t (spell.name m r), typed_name_again t m r) refl
parameter_again (p.Array short w m) r = rw (array_type_again short w (spell.name m r)) refl

array_type_long : (short : Bool) (w : ℕ) (r : Text) → length r < length (spell.array_type short w r)
array_type_long true w r = omega arith
array_type_long false w r = omega arith

parameter_long : (x : P) (r : Text) → length r ≤ length (spell.parameter x r)
parameter_long (p.Value t m) r = let more = ty_grows t (spell.name m r) in omega arith
parameter_long (p.Array short w m) r = let more = array_type_long short w (spell.name m r) in omega arith

ty_no_close : (t : Ty) (r : Text) → read.after signs.CloseParen (spell.ty t r) ≡ None
ty_no_close (types.Int w) r = refl
ty_no_close types.Bool r = refl

parameter_no_close : (x : P) (r : Text) → read.after signs.CloseParen (spell.parameter x r) ≡ None
parameter_no_close (p.Value t m) r = ty_no_close t (spell.name m r)
parameter_no_close (p.Array short w m) r = refl

parameter_items : (ps : List P) (r : Text) → ItemsOf read_d.parameter spell.parameter ps r
parameter_items [] r = tt
parameter_items (x ∷ xs) r = (parameter_again x (spell.each_after_comma (map spell.parameter xs) r), parameter_items xs r)

parameters_again : (ps : List P) (r : Text) → read_d.parameters (spell.parameters ps r) ≡ Some (ps, r)
unfolding read_d.parameters
parameters_again [] r = refl
parameters_again (x ∷ xs) r =
    let end = spell.sign signs.CloseParen r in
    rw (parameter_no_close x (spell.each_after_comma (map spell.parameter xs) end), separated_again read_d.parameter spell.parameter parameter_long x xs end (parameter_items (x ∷ xs) end) refl) refl

number_long : (m : ℕ) (r : Text) → length r ≤ length (spell.number m r)
number_long m r = omega arith

number_items : (ms : List ℕ) (r : Text) → ItemsOf read.number spell.number ms r
number_items [] r = tt
number_items (m ∷ ms) r = (refl, number_items ms r)

size_again : (x : Size) (r : Text) → read_d.size (spell.size x r) ≡ Some (x, r)
unfolding read_d.size
size_again (sizes.Number m) r = refl
size_again (sizes.Named m) r = refl

created_again : (x : Size) (r : Text) → read_d.created (spell.array_call (codes "create") (spell.size x) (spell.sign signs.Semicolon r)) ≡ Some (x, r)
unfolding read_d.created
created_again x r = rw (size_again x (spell.sign signs.CloseParen (spell.sign signs.Semicolon r))) refl

answer_ty : (t : Ty) (r : Text) → read_d.answer (spell.ty t r) ≡ (read.ty (spell.ty t r) >>= (λ x. Some (Some x.0, x.1)))
unfolding read_d.answer
answer_ty (types.Int w) r = refl
answer_ty types.Bool r = refl

answer_again : (t : Option Ty) (m : List ℕ) (r : Text) → read_d.answer (spell.answer t (spell.name m r)) ≡ Some (t, spell.name m r)
unfolding read_d.answer
answer_again None m r = refl
answer_again (Some t) m r = rw (answer_ty t (spell.name m r), ty_again t (spell.name m r) refl) refl

global_again : (short : Bool) (w : ℕ) (m : List ℕ) (x : Size) (r : Text) → read_d.declaration (spell.declaration (d.Global short w m x) r) ≡ Some (d.Global short w m x, r)
unfolding read_d.declaration read_d.global_array
global_again short w m x r =
    let end = spell.array_call (codes "create") (spell.size x) (spell.sign signs.Semicolon r) in
    rw (array_type_again short w (spell.name m (spell.sign signs.Equal end)), created_again x r) refl

pub declaration_again : (x : DeclKind) (r : Text) → declaration_built x ≡ true → read_d.declaration (spell.declaration x r) ≡ Some (x, r)
unfolding read_d.declaration read_d.constant read_d.memop read_d.two_parameters read_d.event_declared read_d.handler read_d.function read_d.group
declaration_again (d.Const t m v) r built = rw (typed_name_again t m (spell.sign signs.Equal (spell.number v (spell.sign signs.Semicolon r)))) refl
declaration_again (d.Global short w m x) r built = global_again short w m x r
declaration_again (d.Memop m first second ss) r built =
    let end = spell.sign signs.CloseParen (spell.body ss r) in
    rw (typed_name_again first.0 first.1 (spell.sign signs.Comma (spell.typed_name second.0 second.1 end)), typed_name_again second.0 second.1 end, body_again ss r built) refl
declaration_again (d.Event m ps) r built = rw (parameters_again ps (spell.sign signs.Semicolon r)) refl
declaration_again (d.Handle m ps ss) r built = rw (parameters_again ps (spell.body ss r), body_again ss r built) refl
declaration_again (d.Fun t m ps ss) r built = rw (answer_again t m (spell.parameters ps (spell.body ss r)), parameters_again ps (spell.body ss r), body_again ss r built) refl
declaration_again (d.Group m []) r built = absurd cc
declaration_again (d.Group m (x ∷ xs)) r built =
    let end = spell.sign signs.CloseBrace (spell.sign signs.Semicolon r) in
    rw (separated_again read.number spell.number number_long x xs end (number_items (x ∷ xs) end) refl) refl

-- ---- a declaration has tokens

commas_long : (ps : List P) (r : Text) → length r ≤ length (spell.each_after_comma (map spell.parameter ps) r)
commas_long [] r = omega arith
commas_long (x ∷ xs) r = let more = commas_long xs r in let first = parameter_long x (spell.each_after_comma (map spell.parameter xs) r) in omega arith

with_commas_long : (ps : List P) (r : Text) → length r ≤ length (spell.with_commas (map spell.parameter ps) r)
with_commas_long [] r = omega arith
with_commas_long (x ∷ xs) r = let more = commas_long xs r in let first = parameter_long x (spell.each_after_comma (map spell.parameter xs) r) in omega arith

numbers_long : (ms : List ℕ) (r : Text) → length r ≤ length (spell.each_after_comma (map spell.number ms) r)
numbers_long [] r = omega arith
numbers_long (m ∷ ms) r = let more = numbers_long ms r in omega arith

some_numbers_long : (ms : List ℕ) (r : Text) → length r ≤ length (spell.with_commas (map spell.number ms) r)
some_numbers_long [] r = omega arith
some_numbers_long (m ∷ ms) r = let more = numbers_long ms r in omega arith

size_long : (x : Size) (r : Text) → length r ≤ length (spell.size x r)
size_long (sizes.Number m) r = omega arith
size_long (sizes.Named m) r = omega arith

answer_long : (t : Option Ty) (r : Text) → length r ≤ length (spell.answer t r)
answer_long None r = omega arith
answer_long (Some t) r = let more = ty_grows t r in omega arith

pub declaration_long : (x : DeclKind) (r : Text) → length r < length (spell.declaration x r)
declaration_long (d.Const t m v) r = let more = ty_grows t (spell.name m (spell.sign signs.Equal (spell.number v (spell.sign signs.Semicolon r)))) in omega arith
declaration_long (d.Global short w m x) r =
    let end = size_long x (spell.sign signs.CloseParen (spell.sign signs.Semicolon r)) in
    let more = array_type_long short w (spell.name m (spell.sign signs.Equal (spell.array_call (codes "create") (spell.size x) (spell.sign signs.Semicolon r)))) in omega arith
declaration_long (d.Memop m first second ss) r =
    let end = body_long ss r in
    let later = ty_grows second.0 (spell.name second.1 (spell.sign signs.CloseParen (spell.body ss r))) in
    let more = ty_grows first.0 (spell.name first.1 (spell.sign signs.Comma (spell.typed_name second.0 second.1 (spell.sign signs.CloseParen (spell.body ss r))))) in omega arith
declaration_long (d.Event m ps) r = let more = with_commas_long ps (spell.sign signs.CloseParen (spell.sign signs.Semicolon r)) in omega arith
declaration_long (d.Handle m ps ss) r = let end = body_long ss r in let more = with_commas_long ps (spell.sign signs.CloseParen (spell.body ss r)) in omega arith
declaration_long (d.Fun t m ps ss) r =
    let end = body_long ss r in
    let more = with_commas_long ps (spell.sign signs.CloseParen (spell.body ss r)) in
    let all = answer_long t (spell.name m (spell.parameters ps (spell.body ss r))) in omega arith
declaration_long (d.Group m ms) r = let more = some_numbers_long ms (spell.sign signs.CloseBrace (spell.sign signs.Semicolon r)) in omega arith
