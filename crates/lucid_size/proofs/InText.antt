-- The parts of a text are in it, one after another.
use Rattle.std.proofs.Common.{◌≡◌, ℕ, zero, suc, ◌+◌, ◌-◌, ◌<◌, ◌≤◌, List, [], ◌∷◌, ◌++◌, length, get_or, take, drop, Some, None, Ok, refl, sym, ◌∙◌, ap, subst, ⊎_elim, arith}
use Rattle.std.specs.Prelude.{All, map, slice_get, slice_range}
use Rattle.std.proofs.str.Laws.{order}
use Rattle.std.proofs.lemmas.List.{drop_more}
use Rattle.std.proofs.lemmas.List.Elements.{All-nil, All-cons, All-append, All-weaker}
use Rattle.std.proofs.lemmas.Option.{slice_get_past}
use Rattle.lucid_lex.specs.declared.token.Token.{Token}
use Rattle.lucid_lex.specs.Reading.{Reads}
use Rattle.lucid_size.specs.declared.step.Form.TheVariants as forms
use Rattle.lucid_size.specs.declared.step.Step.{Step}
use Rattle.lucid_size.specs.declared.template.Template.{Template}
use Rattle.lucid_size.specs.Parts.{body_steps, bytes_at, end_before, named, outside_from, start_of, steps_between}
use Rattle.lucid_size.specs.Places.{AreInOrder, InText, IsWhole}
use Rattle.lucid_size.specs.Steps.{Width, form_at, more_of, steps_from}
use Rattle.lucid_size.specs.Templates.{templates}
use Rattle.lucid_size.proofs.Gaps.{AllLed, Led, reads_led}
use Rattle.lucid_size.proofs.Forms.{LedTo}
use Rattle.lucid_size.proofs.Whole.{IsPlaced, Placed, end_at, end_before-is, led_drop, led_one, led_slice, slice_one}
use Rattle.lucid_size.proofs.Placed.{templates_placed}

-- ---- steps

led_in_text : (text : List ℕ) (at : ℕ) (t : Token) → Led text at t → (s : Step) → s.from ≡ at → s.token ≡ t → InText text s
led_in_text text at t led s from token =
    let end : s.token.span.end ≡ t.span.end = ap (λ u. u.span.end) token in
    let start : s.token.span.start ≡ t.span.start = ap (λ u. u.span.start) token in
    let a = led.start in
    let b = led.end in
    let c = led.within in
    record { gap = omega arith; token = omega arith; within = omega arith }

steps_in_text : (text : List ℕ) (names : List (List ℕ)) (width : Width) (at more : ℕ) (ts : List Token) (end : ℕ) → LedTo text at ts end → All (InText text) (steps_from text names width at more ts)
steps_in_text text names width at more [] end led = All-nil (InText text)
steps_in_text text names width at (suc more) (t ∷ ts) end led = steps_in_text text names width t.span.end more ts end led.1
steps_in_text text names width at zero (t ∷ ts) end led =
    let s : Step = record { from = at; token = t; form = form_at text names width (t ∷ ts) } in
    All-cons (InText text) s (steps_from text names width t.span.end (more_of (form_at text names width (t ∷ ts))) ts) (led_in_text text at t led.0 s refl refl)
    (steps_in_text text names width t.span.end (more_of (form_at text names width (t ∷ ts))) ts end led.1)

pub between_in_text : (text : List ℕ) (names : List (List ℕ)) (width : Width) (ts : List Token) (i j : ℕ) → AllLed text 0 ts → i ≤ j → j ≤ length ts → All (InText text) (steps_between text names width ts i j)
between_in_text text names width ts i j led order within = steps_in_text text names width (end_before i ts) 0 (slice_range ts i j) (end_before j ts) (led_slice text ts i j led order within)

pub named_in_text : (text : List ℕ) (ts : List Token) (i : ℕ) (t : Token) → AllLed text 0 ts → slice_get ts i ≡ Some t → All (InText text) (named ts i)
named_in_text text ts i t led is =
    let one : i + 1 - i ≡ 1 = omega arith in
    let slice : slice_range ts i (i + 1) ≡ t ∷ [] = ap (λ n. take n (drop i ts)) one ∙ slice_one ts i t is in
    let s : Step = record { from = end_before i ts; token = t; form = forms.Named } in
    subst (λ us. All (InText text) (map (λ t. record { from = end_before i ts; token = t; form = forms.Named }) us)) (sym slice)
    (All-cons (InText text) s [] (led_in_text text (end_before i ts) t (led_one text ts i t led is) s refl refl) (All-nil (InText text)))

pub body_in_text : (text : List ℕ) (names : List (List ℕ)) (ts : List Token) (x : Template) → AllLed text 0 ts → IsPlaced ts x → All (InText text) (body_steps text names ts x)
body_in_text text names ts x led p =
    let width : Width = Some (bytes_at text ts (x.first + 2)) in
    let A = steps_between text names width ts (x.first + 4) x.name in
    let B = named ts x.name in
    let C = steps_between text names width ts (x.name + 1) x.end in
    All-append (InText text) A (B ++ C) (between_in_text text names width ts (x.first + 4) x.name led p.before (let o = p.order in let w = p.within in omega arith))
    (All-append (InText text) B C (named_in_text text ts x.name p.name led p.name_is) (between_in_text text names width ts (x.name + 1) x.end led (let o = p.order in omega arith) p.within))

pub outside_in_text : (text : List ℕ) (names : List (List ℕ)) (ts : List Token) (i : ℕ) (xs : List Template) → AllLed text 0 ts → Placed ts i xs → All (InText text) (outside_from text names ts i xs)
outside_in_text text names ts i [] led placed = between_in_text text names None ts i (length ts) led placed (omega arith)
outside_in_text text names ts i (x ∷ xs) led placed =
    let p = placed.1 in
    All-append (InText text) (steps_between text names None ts i x.first) (outside_from text names ts x.end xs)
    (between_in_text text names None ts i x.first led placed.0 (let b = p.before in let o = p.order in let w = p.within in omega arith))
    (outside_in_text text names ts x.end xs led placed.2)

pub bodies_in_text : (text : List ℕ) (names : List (List ℕ)) (ts : List Token) (i : ℕ) (xs : List Template) → AllLed text 0 ts → Placed ts i xs → All (All (InText text)) (map (body_steps text names ts) xs)
bodies_in_text text names ts i [] led placed = All-nil (All (InText text))
bodies_in_text text names ts i (x ∷ xs) led placed =
    All-cons (All (InText text)) (body_steps text names ts x) (map (body_steps text names ts) xs) (body_in_text text names ts x led placed.1) (bodies_in_text text names ts x.end xs led placed.2)

abbrev pub Forward : Step → Type 0
Forward s = s.from ≤ s.token.span.end

pub forward : (text : List ℕ) (ss : List Step) → All (InText text) ss → All Forward ss
forward text ss all = All-weaker (InText text) Forward (λ s h. let g = h.gap in let t = h.token in omega arith) ss all

pub all_forward : (text : List ℕ) (bodies : List (List Step)) → All (All (InText text)) bodies → All (All Forward) bodies
all_forward text bodies all = All-weaker (All (InText text)) (All Forward) (λ ss h. forward text ss h) bodies all

-- ---- templates

pub in_order : (ts : List Token) (i : ℕ) (xs : List Template) → Placed ts i xs → AreInOrder ts i xs
in_order ts i [] placed = placed
in_order ts i (x ∷ xs) placed = (placed.0, record { name = placed.1.before; end = placed.1.order; within = placed.1.within }, in_order ts x.end xs placed.2)

pub are_whole : (ts : List Token) (i : ℕ) (xs : List Template) → AreInOrder ts i xs → All (IsWhole ts) xs
are_whole ts i [] o = All-nil (IsWhole ts)
are_whole ts i (x ∷ xs) o = All-cons (IsWhole ts) x xs o.1 (are_whole ts x.end xs o.2)

-- the next template
pub order_turn : (ts : List Token) (i at : ℕ) (xs : List Template) (x : Template) → AreInOrder ts i (drop at xs) → at < length xs → x ≡ get_or xs at x → (i ≤ x.first) × IsWhole ts x × AreInOrder ts x.end (drop (at + 1) xs)
order_turn ts i at xs x o within is =
    subst (λ y. (i ≤ y.first) × IsWhole ts y × AreInOrder ts y.end (drop (at + 1) xs)) (sym is) (subst (AreInOrder ts i) (drop_more xs at x within) o)

pub past : {X : Type 0} (xs : List X) (at : ℕ) → length xs ≤ at → drop at xs ≡ []
past [] zero h = refl
past [] (suc at) h = refl
past (x ∷ xs) zero h = absurd (omega arith)
past (x ∷ xs) (suc at) h = past xs at (omega arith)

-- ---- blanks and comments

some_at : (ts : List Token) (i : ℕ) → i < length ts → (t : Token) × (slice_get ts i ≡ Some t)
some_at [] i within = absurd (omega arith)
some_at (t ∷ ts) zero within = (t, refl)
some_at (t ∷ ts) (suc i) within = some_at ts i (omega arith)

dropped : (us : List Token) → drop (length us) us ≡ []
dropped [] = refl
dropped (u ∷ us) = dropped us

abbrev pub GapStands : List ℕ → List Token → ℕ → Type 0
GapStands text ts at = (end_before at ts ≤ start_of text (slice_get ts at)) × (start_of text (slice_get ts at) ≤ length text)

pub gap_stands : (text : List ℕ) (ts : List Token) (at : ℕ) → AllLed text 0 ts → at ≤ length ts → GapStands text ts at
gap_stands text ts at led within = ⊎_elim
    (λ before.
    let t = some_at ts at before in
    let l = led_one text ts at t.0 led t.1 in
    let start : start_of text (slice_get ts at) ≡ t.0.span.start = ap (start_of text) t.1 in
    let a = l.start in
    let b = l.end in
    let c = l.within in
    (omega arith, omega arith))
    (λ behind.
    let here : length ts ≡ at = omega arith in
    let start : start_of text (slice_get ts at) ≡ length text = ap (start_of text) (slice_get_past ts at behind) in
    let last = led_drop text 0 ts (length ts) led (omega arith) in
    let there : AllLed text (end_at 0 (length ts) ts) [] = subst (AllLed text (end_at 0 (length ts) ts)) (dropped ts) last in
    let ended : AllLed text (end_before (length ts) ts) [] = subst (λ a. AllLed text a []) (end_before-is (length ts) ts (omega arith)) there in
    let e : end_before at ts ≤ length text = subst (λ n. end_before n ts ≤ length text) here ended.1 in
    (omega arith, omega arith))
    (order at (length ts))

-- ---- from a text that is read

pub read_led : (text : List ℕ) (ts : List Token) → Reads text ts → AllLed text 0 ts
read_led text ts reads = reads_led text ts reads

pub read_placed : (ts : List Token) (xs : List Template) → templates ts ≡ Ok xs → Placed ts 0 xs
read_placed ts xs whole = templates_placed ts xs whole

pub get_any : {X : Type 0} (xs : List X) (k : ℕ) (d e : X) → k < length xs → get_or xs k d ≡ get_or xs k e
get_any [] k d e within = absurd (omega arith)
get_any (x ∷ xs) zero d e within = refl
get_any (x ∷ xs) (suc k) d e within = get_any xs k d e (omega arith)
