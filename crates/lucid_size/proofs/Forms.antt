-- The replacements of tokens are read as the definition says, step by step.
use Rattle.std.proofs.Common.{◌≡◌, ℕ, zero, suc, ◌<◌, ◌^◌, Bool, true, false, ◌&&◌, ◌||◌, List, [], ◌∷◌, ◌++◌, length, take, drop, Option, Some, None, refl, sym, ◌∙◌, ap, subst, arith, append_assoc, length-append, if◌then◌else◌}
use Rattle.std.specs.Prelude.{◌==◌, slice_range, codes, decimal, unwrap_or}
use Rattle.std.specs.List.{repeat}
use Rattle.std.proofs.lemmas.Bool.{and_parts}
use Rattle.lucid_lex.specs.declared.token.Kind.{Kind}
use Rattle.lucid_lex.specs.declared.token.Kind.TheVariants as kinds
use Rattle.lucid_lex.specs.declared.token.Token.{Token}
use Rattle.lucid_lex.specs.declared.sign.Sign.TheVariants as signs
use Rattle.lucid_lex.specs.Byte.{is_name_byte}
use Rattle.lucid_lex.specs.Piece.{IsName, IsToken, Fits, Piece, Stands}
use Rattle.lucid_lex.specs.Reading.{joined, bytes_of}
use Rattle.lucid_size.specs.declared.step.Form.{Form}
use Rattle.lucid_size.specs.declared.step.Form.TheVariants as forms
use Rattle.lucid_size.specs.Suffix.{suffix}
use Rattle.lucid_size.specs.Pieces.{gap, name_piece, piece, pieces_of, step_pieces}
use Rattle.lucid_size.specs.Steps.{Width, is_width, size_by, size_of, template_of, use_by, use_at, width_at, or_width, form_at, more_of, steps_from}
use Rattle.lucid_size.specs.Kinds.{closes_width, is_name, opens_paren, opens_width}
use Rattle.lucid_lex.specs.Word.{word_in}
use Rattle.lucid_size.proofs.Seams.{AllPass-one, Close, keeps, name_or_word}
use Rattle.lucid_size.proofs.Standing.{NoName, name_stands, shift_left_stands, shift_right_stands, paren_stands, decimal_stands, instance_is_name}
use Rattle.lucid_size.proofs.Gaps.{AllRun, close_behind, gap_before_rest, neither, Led}

-- ---- names at a seam

longer_name : (bytes : List ℕ) (b : ℕ) (r : List ℕ) → Stands (record { bytes = bytes; kind = Some kinds.Name }) (b ∷ r) → is_name_byte b ≡ true → ⊥
longer_name bytes b r stands is =
    let name : IsName bytes = stands.is_piece in
    let token = name_or_word name.0 (name.1 ++ b ∷ []) (word_in (name.0 ∷ (name.1 ++ b ∷ []))) refl name.3 (AllPass-one is_name_byte name.1 b name.4 is) in
    let q : Piece = record { bytes = name.0 ∷ (name.1 ++ b ∷ []); kind = Some token.0 } in
    let front : q.bytes ++ r ≡ bytes ++ b ∷ r = append_assoc (name.0 ∷ name.1) (b ∷ []) r ∙ ap (λ l. l ++ b ∷ r) (sym name.2) in
    omega (arith, stands.longest q r token.1 front, ap length name.2, length-append name.1 (b ∷ []))

same_head : (r t : List ℕ) → take 2 r ≡ take 2 t → NoName r → NoName t
same_head r [] h none = tt
same_head [] (b ∷ []) h none = absurd (cc)
same_head [] (b ∷ c ∷ t) h none = absurd (cc)
same_head (a ∷ []) (b ∷ []) h none = let same : a ≡ b = cc in subst (λ z. is_name_byte z ≡ false) same none
same_head (a ∷ []) (b ∷ c ∷ t) h none = absurd (cc)
same_head (a ∷ d ∷ r) (b ∷ []) h none = absurd (cc)
same_head (a ∷ d ∷ r) (b ∷ c ∷ t) h none = let same : a ≡ b = cc in subst (λ z. is_name_byte z ≡ false) same none

-- a name that is followed by a text ends before one that is close to it
no_name_close : (r t : List ℕ) → Close r t → NoName r → NoName t
no_name_close r t (Close.Same _ _ h) none = same_head r t h none
no_name_close r t (Close.Feed _ _) none = refl
no_name_close r t (Close.First _ _ _ h) none = none

-- the replacements of a name begin alike
close_name : (bytes r s : List ℕ) → 0 < length bytes → Close (bytes ++ r) (bytes ++ (95 ∷ s))
close_name [] r s some = absurd (omega arith)
close_name (a ∷ []) r s some = Close.First a r (95 ∷ s) (neither (a == 120) (a == 43 || a == 45))
close_name (a ∷ b ∷ bytes) r s some = Close.Same (a ∷ b ∷ (bytes ++ r)) (a ∷ b ∷ (bytes ++ (95 ∷ s))) refl

-- after a name no byte of a name is next
name_ends : (bytes r : List ℕ) → Stands (record { bytes = bytes; kind = Some kinds.Name }) r → NoName r
name_ends bytes [] stands = tt
name_ends bytes (b ∷ r) stands = by_test (is_name_byte b) refl
  where
    by_test : (x : Bool) → is_name_byte b ≡ x → is_name_byte b ≡ false
    by_test false is = is
    by_test true is = absurd (longer_name bytes b r stands is)

-- ---- one step

-- the reading of pieces before the others
abbrev pub Behind : List ℕ → ℕ → List Piece → Type 0
Behind text at ps = AllRun ps × Close (drop at text) (joined ps [])

-- the conditions of a form on its token and on the text after it
abbrev pub FormIs : List ℕ → ℕ → Token → List Piece → Form → Type 0
FormIs text n t later forms.Kept = Close (drop t.span.end text) (joined later [])
FormIs text n t later forms.Width = t.kind ≡ kinds.Sign signs.ShiftLeft
FormIs text n t later forms.Named = (t.kind ≡ kinds.Name) × Close (drop t.span.end text) (joined later [])
FormIs text n t later (forms.Use k size) = (t.kind ≡ kinds.Name) × (unwrap_or size n < 2 ^ 64)

-- the blanks and comments before a token, where something close to it is written
pub gap_behind : (text : List ℕ) (at : ℕ) (t : Token) (ps : List Piece) → Led text at t → AllRun ps → Close (bytes_of text t ++ drop t.span.end text) (joined ps []) →
    Behind text at (gap (slice_range text at t.span.start) ∷ ps)
gap_behind text at t ps led runs close = (
  (gap_before_rest (slice_range text at t.span.start) (bytes_of text t ++ drop t.span.end text) (joined ps []) close led.gap, runs),
  subst (λ l. Close l (slice_range text at t.span.start ++ joined ps [])) (sym led.cut) (close_behind (slice_range text at t.span.start) (bytes_of text t ++ drop t.span.end text) (joined ps []) close),
)

name_led : (text : List ℕ) (at : ℕ) (t : Token) → Led text at t → t.kind ≡ kinds.Name → Stands (record { bytes = bytes_of text t; kind = Some kinds.Name }) (drop t.span.end text)
name_led text at t led is = subst (λ k. Stands (record { bytes = bytes_of text t; kind = Some k }) (drop t.span.end text)) is led.token

-- a name in place of a name
named_behind : (text : List ℕ) (m n at : ℕ) (t : Token) (later : List Piece) → Led text at t → t.kind ≡ kinds.Name → n < 2 ^ 64 → AllRun later → NoName (joined later []) →
    Behind text at (gap (slice_range text at t.span.start) ∷ name_piece (bytes_of text t ++ suffix (suc m) n) ∷ later)
named_behind text m n at t later led is small runs none =
    let name : IsName (bytes_of text t) = (name_led text at t led is).is_piece in
    let stands = name_stands (bytes_of text t ++ suffix (suc m) n) (joined later []) (instance_is_name (bytes_of text t) m n name small) none in
    let some : 0 < length (bytes_of text t) = omega (arith, ap length name.2) in
    let close = close_name (bytes_of text t) (drop t.span.end text) ((repeat m (95 ∷ []) ++ decimal n) ++ joined later []) some in
    gap_behind text at t (name_piece (bytes_of text t ++ suffix (suc m) n) ∷ later) led (stands, runs)
    (subst (Close (bytes_of text t ++ drop t.span.end text)) (sym (append_assoc (bytes_of text t) (suffix (suc m) n) (joined later []))) close)

width_behind : (text : List ℕ) (n at : ℕ) (t : Token) (later : List Piece) → Led text at t → t.kind ≡ kinds.Sign signs.ShiftLeft → n < 2 ^ 64 → AllRun later →
    Behind text at (gap (slice_range text at t.span.start) ∷ piece (bytes_of text t) (Some t.kind) ∷ piece (decimal n) (Some (kinds.Number n)) ∷ piece (codes ">>") (Some (kinds.Sign signs.ShiftRight)) ∷ later)
width_behind text n at t later led is small runs =
    let bytes : bytes_of text t ≡ codes "<<" = subst (IsToken (bytes_of text t)) is led.token.is_piece in
    let rest = decimal n ++ (codes ">>" ++ joined later []) in
    let opens : Stands (record { bytes = bytes_of text t; kind = Some t.kind }) rest =
    subst (λ k. Stands (record { bytes = bytes_of text t; kind = Some k }) rest) (sym is) (subst (λ l. Stands (record { bytes = l; kind = Some (kinds.Sign signs.ShiftLeft) }) rest) (sym bytes) (shift_left_stands rest)) in
    let ps : List Piece = piece (bytes_of text t) (Some t.kind) ∷ piece (decimal n) (Some (kinds.Number n)) ∷ piece (codes ">>") (Some (kinds.Sign signs.ShiftRight)) ∷ later in
    let close : Close (bytes_of text t ++ drop t.span.end text) (bytes_of text t ++ rest) =
    subst (λ l. Close (l ++ drop t.span.end text) (l ++ rest)) (sym bytes) (Close.Same (60 ∷ 60 ∷ drop t.span.end text) (60 ∷ 60 ∷ rest) refl) in
    gap_behind text at t ps led (opens, (decimal_stands n (62 ∷ joined later []) small, (shift_right_stands (joined later []), runs))) close

kept_behind : (text : List ℕ) (at : ℕ) (t : Token) (later : List Piece) → Led text at t → AllRun later → Close (drop t.span.end text) (joined later []) →
    Behind text at (gap (slice_range text at t.span.start) ∷ piece (bytes_of text t) (Some t.kind) ∷ later)
kept_behind text at t later led runs close =
    gap_behind text at t (piece (bytes_of text t) (Some t.kind) ∷ later) led
    (keeps (record { bytes = bytes_of text t; kind = Some t.kind }) (drop t.span.end text) (joined later []) close led.token, runs)
    (close_behind (bytes_of text t) (drop t.span.end text) (joined later []) close)

pub one_step : (text : List ℕ) (m n at : ℕ) (t : Token) (later : List Piece) (form : Form) → n < 2 ^ 64 → Led text at t → AllRun later → FormIs text n t later form →
    Behind text at (step_pieces text (suc m) n (record { from = at; token = t; form = form }) ++ later)
one_step text m n at t later forms.Kept small led runs is = kept_behind text at t later led runs is
one_step text m n at t later forms.Width small led runs is = width_behind text n at t later led is small runs
one_step text m n at t later forms.Named small led runs is =
    named_behind text m n at t later led is.0 small runs (no_name_close (drop t.span.end text) (joined later []) is.1 (name_ends (bytes_of text t) (drop t.span.end text) (name_led text at t led is.0)))
one_step text m n at t later (forms.Use k size) small led runs is =
    named_behind text m (unwrap_or size n) at t (piece (codes "(") (Some (kinds.Sign signs.OpenParen)) ∷ later) led is.0 is.1 (paren_stands (joined later []), runs) refl

-- ---- all steps

-- the tokens of a part follow one another, up to this offset
abbrev pub LedTo : List ℕ → ℕ → List Token → ℕ → Type 0
LedTo text at [] end = at ≡ end
LedTo text at (t ∷ ts) end = Led text at t × LedTo text t.span.end ts end

pub name_true : (k : Kind) → is_name k ≡ true → k ≡ kinds.Name
name_true kinds.Name h = refl
name_true k h = absurd (cc)

width_true : (k : Kind) → opens_width k ≡ true → k ≡ kinds.Sign signs.ShiftLeft
width_true (kinds.Sign signs.ShiftLeft) h = refl
width_true k h = absurd (cc)

-- a use has a name, and a size that fits
pub record UseIs (t : Token) (form : Form) : Type 0 where
  pub number : ℕ
  pub size : Option ℕ
  pub is : form ≡ forms.Use number size
  pub name : t.kind ≡ kinds.Name
  pub small : (x : ℕ) → size ≡ Some x → x < 2 ^ 64

size_is : (own : Bool) (k : Kind) (x : ℕ) → size_by own k ≡ Some (Some x) → k ≡ kinds.Number x
size_is own (kinds.Number n) x h = cc
size_is true k x h = absurd (cc)
size_is false k x h = absurd (cc)

number_fits : (k : Kind) (x : ℕ) → k ≡ kinds.Number x → Fits (Some k) → x < 2 ^ 64
number_fits k x is fits = subst (λ j. Fits (Some j)) is fits

use_by_is : (o : Option ℕ) (p : Option (Option ℕ)) (form : Form) → use_by o p ≡ Some form → (k : ℕ) × (size : Option ℕ) × (form ≡ forms.Use k size) × (p ≡ Some size)
use_by_is None p form h = absurd (cc)
use_by_is (Some k) None form h = absurd (cc)
use_by_is (Some k) (Some size) form h = (k, size, let same : forms.Use k size ≡ form = cc in sym same, refl)

use_is_by : (text : List ℕ) (names : List (List ℕ)) (width : Width) (t a n b p : Token) (form : Form) (test : Bool) →
    (is_name t.kind && (opens_width a.kind && (closes_width b.kind && opens_paren p.kind))) ≡ test → Fits (Some n.kind) →
    (if test then use_by (template_of names (bytes_of text t)) (size_of text width n) else None) ≡ Some form → UseIs t form
use_is_by text names width t a n b p form false test fits h = absurd (cc)
use_is_by text names width t a n b p form true test fits h =
    let parts = and_parts (is_name t.kind) (opens_width a.kind && (closes_width b.kind && opens_paren p.kind)) test in
    let found = use_by_is (template_of names (bytes_of text t)) (size_of text width n) form h in
    record {
      number = found.0;
      size = found.1;
      is = found.2;
      name = name_true t.kind parts.0;
      small = λ x is. number_fits n.kind x (size_is (is_width text width n) n.kind x (found.3 ∙ ap (λ z. Some z) is)) fits;
    }

pub use_is : (text : List ℕ) (names : List (List ℕ)) (width : Width) (t : Token) (ts : List Token) (end : ℕ) (form : Form) → LedTo text t.span.end ts end → use_at text names width (t ∷ ts) ≡ Some form → UseIs t form
use_is text names width t [] end form led h = absurd (cc)
use_is text names width t (a ∷ []) end form led h = absurd (cc)
use_is text names width t (a ∷ n ∷ []) end form led h = absurd (cc)
use_is text names width t (a ∷ n ∷ b ∷ []) end form led h = absurd (cc)
use_is text names width t (a ∷ n ∷ b ∷ p ∷ ts) end form led h =
    use_is_by text names width t a n b p form (is_name t.kind && (opens_width a.kind && (closes_width b.kind && opens_paren p.kind))) refl led.1.0.token.fits h

width_is : (text : List ℕ) (width : Width) (t : Token) (ts : List Token) → width_at text width (t ∷ ts) ≡ true → t.kind ≡ kinds.Sign signs.ShiftLeft
width_is text width t [] h = absurd (cc)
width_is text width t (w ∷ []) h = absurd (cc)
width_is text width t (w ∷ b ∷ ts) h = width_true t.kind (and_parts (opens_width t.kind) (is_width text width w && closes_width b.kind) h).0

or_small : (size : Option ℕ) (n : ℕ) → n < 2 ^ 64 → ((x : ℕ) → size ≡ Some x → x < 2 ^ 64) → unwrap_or size n < 2 ^ 64
or_small None n small fits = small
or_small (Some x) n small fits = fits x refl

form_is : (text : List ℕ) (names : List (List ℕ)) (width : Width) (n : ℕ) (t : Token) (ts : List Token) (end : ℕ) (later : List Piece) (w : Bool) (o : Option Form) → n < 2 ^ 64 →
    LedTo text t.span.end ts end → width_at text width (t ∷ ts) ≡ w → use_at text names width (t ∷ ts) ≡ o → (more_of (or_width w o) ≡ 0 → Close (drop t.span.end text) (joined later [])) →
    FormIs text n t later (or_width w o)
form_is text names width n t ts end later w (Some form) small led is_w is_o close =
    let found = use_is text names width t ts end form led is_o in
    subst (FormIs text n t later) (sym found.is) (found.name, or_small found.size n small found.small)
form_is text names width n t ts end later true None small led is_w is_o close = width_is text width t ts is_w
form_is text names width n t ts end later false None small led is_w is_o close = close refl

-- the steps of a part are read, before the rest
pub steps_run : (text : List ℕ) (names : List (List ℕ)) (width : Width) (m n at more : ℕ) (ts : List Token) (end : ℕ) (tail : List Piece) → n < 2 ^ 64 → LedTo text at ts end → Behind text end tail →
    AllRun (pieces_of text (suc m) n (steps_from text names width at more ts) ++ tail)
    × (more ≡ 0 → Close (drop at text) (joined (pieces_of text (suc m) n (steps_from text names width at more ts) ++ tail) []))
steps_run text names width m n at more [] end tail small led behind = (behind.0, λ _. subst (λ a. Close (drop a text) (joined tail [])) (sym led) behind.1)
steps_run text names width m n at (suc more) (t ∷ ts) end tail small led behind =
    ((steps_run text names width m n t.span.end more ts end tail small led.1 behind).0, λ none. absurd (omega arith))
steps_run text names width m n at zero (t ∷ ts) end tail small led behind =
    let form = form_at text names width (t ∷ ts) in
    let later = pieces_of text (suc m) n (steps_from text names width t.span.end (more_of form) ts) ++ tail in
    let rest = steps_run text names width m n t.span.end (more_of form) ts end tail small led.1 behind in
    let is = form_is text names width n t ts end later (width_at text width (t ∷ ts)) (use_at text names width (t ∷ ts)) small led.1 refl refl rest.1 in
    let here : Behind text at (step_pieces text (suc m) n (record { from = at; token = t; form = form }) ++ later) = one_step text m n at t later form small led.0 rest.0 is in
    let same = append_assoc (step_pieces text (suc m) n (record { from = at; token = t; form = form })) (pieces_of text (suc m) n (steps_from text names width t.span.end (more_of form) ts)) tail in
    (subst AllRun (sym same) here.0, λ _. subst (λ ps. Close (drop at text) (joined ps [])) (sym same) here.1)
