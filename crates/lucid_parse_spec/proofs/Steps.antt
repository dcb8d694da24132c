-- The small parts of the grammar are read exactly as they are spelled, both ways.
use Rattle.std.proofs.Common.{◌≡◌, ℕ, Bool, true, false, List, [], ◌∷◌, codes, Option, Some, None, option_map, if◌then◌else◌, ◌&&◌, rules, refl, ap, subst, ◌∙◌}
use Rattle.std.specs.Str.{bytes_eq}
use Rattle.std.proofs.lemmas.Slice.Eq.{bytes_eq-Decides}
use denote.Enum.Bare.{sameb, same_true}
use Rattle.lucid_lex.specs.declared.sign.Sign.{Sign}
use Rattle.lucid_lex.specs.declared.sign.Sign.TheVariants as signs
use Rattle.lucid_lex.specs.declared.word.Word.{Word}
use Rattle.lucid_lex.specs.declared.word.Word.TheVariants as words
use Rattle.lucid_lex.specs.contracts.sign.Sign as sign_type
use Rattle.lucid_lex.specs.contracts.word.Word as word_type
use Rattle.lucid_parse_spec.specs.Lexemes as lexemes
use Rattle.lucid_parse_tree.specs.declared.tree.Ty.{Ty}
use Rattle.lucid_parse_tree.specs.declared.tree.Ty.TheVariants as types
use Rattle.lucid_parse_spec.specs.Reader as read
use Rattle.lucid_parse_spec.specs.Reader.{Text, Outcome, Parser, ◌>>=◌}
use Rattle.lucid_parse_spec.specs.Spelling as spell

-- any result has the property
pub record Yields {A : Type 0} (o : Option A) (P : A → Type 0) : Type 0 where
  pub each : (x : A) → o ≡ Some x → P x

pub yields_none : {A : Type 0} (P : A → Type 0) → Yields None P
yields_none P = record { each = λ x is. cc }

pub yields_some : {A : Type 0} (P : A → Type 0) (x : A) → P x → Yields (Some x) P
yields_some P x holds = record { each = λ y is. let same : x ≡ y = cc in subst P same holds }

pub bind : {A B : Type 0} (P : A → Type 0) (Q : B → Type 0) (o : Option A) (f : A → Option B) → Yields o P → ((x : A) → P x → Yields (f x) Q) → Yields (o >>= f) Q
bind P Q None f first next = yields_none Q
bind P Q (Some x) f first next = next x (first.each x refl)

pub mapped : {A B : Type 0} (P : A → Type 0) (Q : B → Type 0) (o : Option A) (f : A → B) → Yields o P → ((x : A) → P x → Q (f x)) → Yields (option_map f o) Q
mapped P Q None f first next = yields_none Q
mapped P Q (Some x) f first next = yields_some Q (f x) (next x (first.each x refl))

-- a part that is read is spelled so, before the rest
abbrev pub Spells : {A : Type 0} → (A → spell.Spelled) → Text → A × Text → Type 0
Spells part ts x = ts ≡ part x.0 x.1

-- two facts of tests that both hold
pub both : (a b : Bool) → (a && b) ≡ true → (a ≡ true) × (b ≡ true)
both true b h = (refl, h)
both false b h = absurd cc

pub of_both : (a b : Bool) → a ≡ true → b ≡ true → (a && b) ≡ true
of_both a b h k = rw (h, k) refl

after_same : (s t : Sign) (ts : Text) (b : Bool) → sameb sign_type.the_type t s ≡ b → Yields (if b then Some ts else None) (λ r. lexemes.Sign t ∷ ts ≡ spell.sign s r)
after_same s t ts true h = yields_some _ ts (ap (λ v. lexemes.Sign v ∷ ts) (same_true sign_type.the_type (search rules) t s h))
after_same s t ts false h = yields_none _

pub after_ok : (s : Sign) (ts : Text) → Yields (read.after s ts) (λ r. ts ≡ spell.sign s r)
after_ok s [] = yields_none _
after_ok s (lexemes.Sign t ∷ ts) = after_same s t ts (sameb sign_type.the_type t s) refl
after_ok s (l ∷ ts) = yields_none _

word_same : (w v : Word) (ts : Text) (b : Bool) → sameb word_type.the_type v w ≡ b → Yields (if b then Some ts else None) (λ r. lexemes.Word v ∷ ts ≡ spell.word w r)
word_same w v ts true h = yields_some _ ts (ap (λ u. lexemes.Word u ∷ ts) (same_true word_type.the_type (search rules) v w h))
word_same w v ts false h = yields_none _

pub after_word_ok : (w : Word) (ts : Text) → Yields (read.after_word w ts) (λ r. ts ≡ spell.word w r)
after_word_ok w [] = yields_none _
after_word_ok w (lexemes.Word v ∷ ts) = word_same w v ts (sameb word_type.the_type v w) refl
after_word_ok w (l ∷ ts) = yields_none _

-- bytes that are found equal are equal
pub same_bytes : (xs ys : List ℕ) → bytes_eq xs ys ≡ true → xs ≡ ys
same_bytes xs ys h = (bytes_eq-Decides xs ys).0 h

name_same : (bytes n : List ℕ) (ts : Text) (b : Bool) → bytes_eq n bytes ≡ b → Yields (if b then Some ts else None) (λ r. lexemes.Name n ∷ ts ≡ spell.name bytes r)
name_same bytes n ts true h = yields_some _ ts (ap (λ m. lexemes.Name m ∷ ts) (same_bytes n bytes h))
name_same bytes n ts false h = yields_none _

pub after_name_ok : (bytes : List ℕ) (ts : Text) → Yields (read.after_name bytes ts) (λ r. ts ≡ spell.name bytes r)
after_name_ok bytes [] = yields_none _
after_name_ok bytes (lexemes.Name n ∷ ts) = name_same bytes n ts (bytes_eq n bytes) refl
after_name_ok bytes (l ∷ ts) = yields_none _

pub name_ok : (ts : Text) → Yields (read.name ts) (Spells spell.name ts)
name_ok [] = yields_none _
name_ok (lexemes.Name n ∷ ts) = yields_some _ (n, ts) refl
name_ok (l ∷ ts) = yields_none _

pub number_ok : (ts : Text) → Yields (read.number ts) (Spells spell.number ts)
number_ok [] = yields_none _
number_ok (lexemes.Number n ∷ ts) = yields_some _ (n, ts) refl
number_ok (l ∷ ts) = yields_none _

-- ---- widths and types

width_end_ok : (ts : Text) → Yields (read.width_end ts) (λ x. ts ≡ spell.number x.0 (spell.sign signs.ShiftRight x.1))
unfolding read.width_end
width_end_ok ts = bind _ _ _ _ (number_ok ts) (λ n hn. bind _ _ _ _ (after_ok signs.ShiftRight n.1) (λ r hr. yields_some _ (n.0, r) cc))

pub width_ok : (ts : Text) → Yields (read.width ts) (Spells spell.width ts)
unfolding read.width
width_ok ts = bind _ _ _ _ (after_ok signs.ShiftLeft ts) (λ r hr. record { each = λ x is. let h = (width_end_ok r).each x is in cc })

width_or_ok : (ts : Text) (o : Option Text) → Yields o (λ r. ts ≡ spell.sign signs.ShiftLeft r) → Yields (read.width_or ts o) (Spells spell.width_if ts)
width_or_ok ts None h = yields_some _ (None, ts) refl
width_or_ok ts (Some r) h = let hr = h.each r refl in bind _ _ _ _ (width_end_ok r) (λ n hn. yields_some _ (Some n.0, n.1) cc)

pub width_if_ok : (ts : Text) → Yields (read.width_if ts) (Spells spell.width_if ts)
unfolding read.width_if
width_if_ok ts = width_or_ok ts (read.after signs.ShiftLeft ts) (after_ok signs.ShiftLeft ts)

pub ty_ok : (ts : Text) → Yields (read.ty ts) (Spells spell.ty ts)
unfolding read.ty
ty_ok [] = yields_none _
ty_ok (lexemes.Word words.Int ∷ ts) = bind _ _ _ _ (width_if_ok ts) (λ w hw. yields_some _ (types.Int w.0, w.1) cc)
ty_ok (lexemes.Word words.Bool ∷ ts) = yields_some _ (types.Bool, ts) refl
ty_ok (l ∷ ts) = yields_none _

pub typed_name_ok : (ts : Text) → Yields (read.typed_name ts) (λ x. ts ≡ spell.typed_name x.0.0 x.0.1 x.1)
unfolding read.typed_name
typed_name_ok ts = bind _ _ _ _ (ty_ok ts) (λ t ht. bind _ _ _ _ (name_ok t.1) (λ n hn. yields_some _ ((t.0, n.0), n.1) (ht ∙ ap (spell.ty t.0) hn)))

array_type_on_ok : (ts : Text) (o : Option Text) → Yields o (λ r. ts ≡ spell.sign signs.Dot r) → Yields (read.array_type_on ts o) (λ x. spell.word words.ArrayCalls ts ≡ spell.array_type x.0.0 x.0.1 x.1)
array_type_on_ok ts None h = bind _ _ _ _ (width_ok ts) (λ w hw. yields_some _ ((true, w.0), w.1) cc)
array_type_on_ok ts (Some r) h = let hr = h.each r refl in bind _ _ _ _ (after_name_ok (codes "t") r) (λ q hq. bind _ _ _ _ (width_ok q) (λ w hw. yields_some _ ((false, w.0), w.1) cc))

pub array_type_ok : (ts : Text) → Yields (read.array_type ts) (λ x. spell.word words.ArrayCalls ts ≡ spell.array_type x.0.0 x.0.1 x.1)
unfolding read.array_type
array_type_ok ts = array_type_on_ok ts (read.after signs.Dot ts) (after_ok signs.Dot ts)

-- ---- and back

pub width_again : (n : ℕ) (r : Text) → read.width (spell.width n r) ≡ Some (n, r)
unfolding read.width read.width_end
width_again n r = refl

-- no width begins here
abbrev pub no_width : Text → Bool
no_width (lexemes.Sign signs.ShiftLeft ∷ r) = false
no_width r = true

width_or_none : (r : Text) → no_width r ≡ true → read.after signs.ShiftLeft r ≡ None
width_or_none [] h = refl
width_or_none (lexemes.Sign signs.ShiftLeft ∷ r) h = absurd cc
width_or_none (l ∷ r) h = refl

pub width_if_again : (w : Option ℕ) (r : Text) → no_width r ≡ true → read.width_if (spell.width_if w r) ≡ Some (w, r)
unfolding read.width_if read.width_end
width_if_again None r h = ap (read.width_or r) (width_or_none r h)
width_if_again (Some n) r h = refl

pub ty_again : (t : Ty) (r : Text) → no_width r ≡ true → read.ty (spell.ty t r) ≡ Some (t, r)
unfolding read.ty
ty_again (types.Int w) r h = rw (width_if_again w r h) refl
ty_again types.Bool r h = refl

pub typed_name_again : (t : Ty) (n : List ℕ) (r : Text) → read.typed_name (spell.typed_name t n r) ≡ Some ((t, n), r)
unfolding read.typed_name
typed_name_again t n r = rw (ty_again t (spell.name n r) refl) refl

pub array_type_again : (short : Bool) (w : ℕ) (r : Text) → read.array_type (if short then spell.width w r else spell.sign signs.Dot (spell.name (codes "t") (spell.width w r))) ≡ Some ((short, w), r)
unfolding read.array_type read.width read.width_end
array_type_again true w r = refl
array_type_again false w r = refl
