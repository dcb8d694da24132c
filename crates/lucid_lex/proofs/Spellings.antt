-- Each reserved word and each sign is found by its bytes, and by no others.
use Rattle.std.proofs.Common.{◌≡◌, ℕ, ◌<◌, ◌≤◌, ◌&&◌, Bool, true, false, cond, List, [], ◌∷◌, ◌++◌, length, get_or, drop, Option, Some, refl, sym, ◌∙◌, ap, subst, ⊎_elim, arith}
use Rattle.std.specs.Prelude.{not, nat_eq}
use Rattle.std.specs.List.{find, list_all, list_any, starts_with}
use Rattle.std.proofs.str.Laws.{order}
use Rattle.std.proofs.lemmas.Bool.{false≢true, and_parts, or_cases}
use Rattle.std.proofs.lemmas.Bool.Decides.{Decides-eqb}
use Rattle.std.specs.Str.{bytes_eq}
use Rattle.std.proofs.lemmas.Slice.Eq.{bytes_eq-Decides, starts_is}
use Rattle.lucid_lex.specs.declared.byte.Class.TheVariants.{Letter, Mark}
use Rattle.lucid_lex.specs.declared.word.Word.{Word}
use Rattle.lucid_lex.specs.declared.word.Word.TheVariants as words
use Rattle.lucid_lex.specs.declared.sign.Sign.{Sign}
use Rattle.lucid_lex.specs.declared.sign.Sign.TheVariants as signs
use Rattle.lucid_lex.specs.declared.sign.TheConstants.{SIGNS}
use Rattle.lucid_lex.specs.Byte.{is_name_byte, class_of}
use Rattle.lucid_lex.specs.Word.{word_text, words_of, word_in}
use Rattle.lucid_lex.specs.Sign.{sign_text, sign_at}

found_at : {X : Type 0} (p : X → Bool) (y x : X) (ys : List X) (b : Bool) → p y ≡ b → (find p ys ≡ Some x → p x ≡ true) → cond b (Some y) (find p ys) ≡ Some x → p x ≡ true
found_at p y x ys true test later h = let same : y ≡ x = cc in subst (λ z. p z ≡ true) same test
found_at p y x ys false test later h = later h

-- the found element passes the test
found_passes : {X : Type 0} (p : X → Bool) (xs : List X) (x : X) → find p xs ≡ Some x → p x ≡ true
found_passes p [] x h = absurd (cc)
found_passes p (y ∷ ys) x h = found_at p y x ys (p y) refl (found_passes p ys x) h

pub word_in-some : (bytes : List ℕ) (w : Word) → word_in bytes ≡ Some w → word_text w ≡ bytes
unfolding word_in
word_in-some bytes w h = (bytes_eq-Decides (word_text w) bytes).0 (found_passes (λ v. bytes_eq (word_text v) bytes) (words_of (length bytes)) w h)

-- the sign with these bytes, if there is one
pub sign_in : List ℕ → Option Sign
sign_in bytes = find (λ s. bytes_eq (sign_text s) bytes) SIGNS

pub word_in-text : (w : Word) → word_in (word_text w) ≡ Some w
unfolding word_in
word_in-text words.Const = refl
word_in-text x = refl

pub sign_in-text : (s : Sign) → sign_in (sign_text s) ≡ Some s
unfolding sign_in
sign_in-text signs.SatAdd = refl
sign_in-text x = refl

-- a reserved word is written as names are
pub word_class : (w : Word) → class_of (get_or (word_text w) 0 0) ≡ Letter
word_class words.Const = refl
word_class x = refl

pub word_bytes : (w : Word) → list_all is_name_byte (word_text w) ≡ true
word_bytes words.Const = refl
word_bytes x = refl

pub word_length : (w : Word) → 0 < length (word_text w)
word_length words.Const = omega arith
word_length x = omega arith

pub sign_class : (s : Sign) → class_of (get_or (sign_text s) 0 0) ≡ Mark
sign_class signs.SatAdd = refl
sign_class x = refl

pub sign_length : (s : Sign) → 0 < length (sign_text s)
sign_length signs.SatAdd = omega arith
sign_length x = omega arith

-- The longest sign is found first

sign_listed : (t : Sign) → list_any (λ s. bytes_eq (sign_text s) (sign_text t)) SIGNS ≡ true
sign_listed signs.SatAdd = refl
sign_listed x = refl

-- none begins a later one
none_begins_later : List Sign → Bool
none_begins_later [] = true
none_begins_later (s ∷ ss) = list_all (λ t. not (starts_with nat_eq (sign_text t) (sign_text s))) ss && none_begins_later ss

signs_in_order : none_begins_later SIGNS ≡ true
unfolding none_begins_later
signs_in_order = refl

starts : (text : List ℕ) (s : Sign) → (starts_with nat_eq text (sign_text s) ≡ true → text ≡ sign_text s ++ drop (length (sign_text s)) text) × ((rest : List ℕ) → text ≡ sign_text s ++ rest → starts_with nat_eq text (sign_text s) ≡ true)
starts text s = starts_is Decides-eqb text (sign_text s) (starts_with nat_eq text (sign_text s)) refl

-- of two fronts of one text the shorter begins the other
begins_other : (xs ys more rest : List ℕ) → xs ++ more ≡ ys ++ rest → length xs ≤ length ys → (zs : List ℕ) × (ys ≡ xs ++ zs)
begins_other [] ys more rest same short = (ys, refl)
begins_other (x ∷ xs) [] more rest same short = absurd (omega (arith, short))
begins_other (x ∷ xs) (y ∷ ys) more rest same short =
    let first : x ≡ y = cc in
    let tail : xs ++ more ≡ ys ++ rest = cc in
    let other = begins_other xs ys more rest tail (omega (arith, short)) in
    (other.0, (rw first (ap (λ l. y ∷ l) other.1)))

-- a sign at the front that a sign there does not begin is no longer
no_longer : (text : List ℕ) (s t : Sign) (begun : Bool) → starts_with nat_eq (sign_text t) (sign_text s) ≡ begun → not begun ≡ true → starts_with nat_eq text (sign_text s) ≡ true → starts_with nat_eq text (sign_text t) ≡ true → length (sign_text t) ≤ length (sign_text s)
no_longer text s t true test free here there = absurd (cc)
no_longer text s t false test free here there = ⊎_elim
    (λ shorter.
    let whole = sym ((starts text s).0 here) ∙ (starts text t).0 there in
    let more = begins_other (sign_text s) (sign_text t) _ _ whole (omega (arith, shorter)) in
    absurd (false≢true (sym test ∙ (starts (sign_text t) s).1 more.0 more.1)))
    (λ longer. omega (arith, longer))
    (order (length (sign_text s)) (length (sign_text t)))

-- a property of each element is one of some element
both : {X : Type 0} (p q : X → Bool) (xs : List X) → list_any p xs ≡ true → list_all q xs ≡ true → (x : X) × (p x ≡ true) × (q x ≡ true)
both p q [] some every = absurd (cc)
both p q (x ∷ xs) some every =
    let each = and_parts (q x) (list_all q xs) every in
    ⊎_elim (λ here. (x, here, each.0)) (λ later. both p q xs later each.1) (or_cases (p x) (list_any p xs) some)

-- a sign that a text begins with has at most the bytes of the one that is found
record FindsLonger (text : List ℕ) (ss : List Sign) (t : Sign) : Type 0 where
  pub sign : Sign
  pub found : find (λ s. starts_with nat_eq text (sign_text s)) ss ≡ Some sign
  pub longer : length (sign_text t) ≤ length (sign_text sign)

finds_longer_by : (text : List ℕ) (s : Sign) (ss : List Sign) (t : Sign) (here : Bool) → starts_with nat_eq text (sign_text s) ≡ here → none_begins_later (s ∷ ss) ≡ true → list_any (λ u. bytes_eq (sign_text u) (sign_text t)) (s ∷ ss) ≡ true → starts_with nat_eq text (sign_text t) ≡ true → (list_any (λ u. bytes_eq (sign_text u) (sign_text t)) ss ≡ true → FindsLonger text ss t) → FindsLonger text (s ∷ ss) t
unfolding none_begins_later
finds_longer_by text s ss t true test ordered listed at_front later =
    let parts = and_parts (list_all (λ u. not (starts_with nat_eq (sign_text u) (sign_text s))) ss) (none_begins_later ss) ordered in
    record {
      sign = s;
      found = rw test refl;
      longer = ⊎_elim
          (λ same. let texts = (bytes_eq-Decides (sign_text s) (sign_text t)).0 same in omega (arith, ap length texts))
          (λ among. let other = both (λ u. bytes_eq (sign_text u) (sign_text t)) (λ u. not (starts_with nat_eq (sign_text u) (sign_text s))) ss among parts.0 in
          let texts = (bytes_eq-Decides (sign_text other.0) (sign_text t)).0 other.1 in
          let there : starts_with nat_eq text (sign_text other.0) ≡ true = ap (starts_with nat_eq text) texts ∙ at_front in
          omega (arith, ap length texts, no_longer text s other.0 (starts_with nat_eq (sign_text other.0) (sign_text s)) refl other.2 test there))
          (or_cases (bytes_eq (sign_text s) (sign_text t)) (list_any (λ u. bytes_eq (sign_text u) (sign_text t)) ss) listed);
    }
finds_longer_by text s ss t false test ordered listed at_front later = ⊎_elim
    (λ same. let texts = (bytes_eq-Decides (sign_text s) (sign_text t)).0 same in absurd (false≢true (sym test ∙ ap (starts_with nat_eq text) texts ∙ at_front)))
    (λ among. let found = later among in record { sign = found.sign; found = rw test found.found; longer = found.longer })
    (or_cases (bytes_eq (sign_text s) (sign_text t)) (list_any (λ u. bytes_eq (sign_text u) (sign_text t)) ss) listed)

finds_longer : (text : List ℕ) (ss : List Sign) (t : Sign) → none_begins_later ss ≡ true → list_any (λ u. bytes_eq (sign_text u) (sign_text t)) ss ≡ true → starts_with nat_eq text (sign_text t) ≡ true → FindsLonger text ss t
unfolding none_begins_later
finds_longer text [] t ordered listed at_front = absurd (cc)
finds_longer text (s ∷ ss) t ordered listed at_front =
    let parts = and_parts (list_all (λ u. not (starts_with nat_eq (sign_text u) (sign_text s))) ss) (none_begins_later ss) ordered in
    finds_longer_by text s ss t (starts_with nat_eq text (sign_text s)) refl ordered listed at_front (λ among. finds_longer text ss t parts.1 among at_front)

-- the found sign is at the front
pub sign_at-some : (text : List ℕ) (s : Sign) → sign_at text ≡ Some s → text ≡ sign_text s ++ drop (length (sign_text s)) text
unfolding sign_at
sign_at-some text s h = (starts text s).0 (found_passes (λ t. starts_with nat_eq text (sign_text t)) SIGNS s h)

-- a sign at the front is no longer than the found one
pub sign_at-longest : (text after : List ℕ) (t : Sign) → sign_text t ++ after ≡ text → (s : Sign) × (sign_at text ≡ Some s) × (length (sign_text t) ≤ length (sign_text s))
unfolding sign_at
sign_at-longest text after t front =
    let longer = finds_longer text SIGNS t signs_in_order (sign_listed t) ((starts text t).1 after (sym front)) in
    (longer.sign, longer.found, longer.longer)
