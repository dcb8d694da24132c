-- A text whose templates are whole has an expansion.
use Rattle.std.proofs.Common.{◌≡◌, ℕ, zero, suc, ◌+◌, ◌<◌, ◌≤◌, ◌⊎◌, Bool, true, false, List, [], ◌∷◌, ◌++◌, length, get_or, Option, Some, None, Ok, refl, sym, ◌∙◌, ap, subst, inl, inr, ⊎_elim, arith, if◌then◌else◌}
use Rattle.std.specs.Prelude.{◌==◌, nat_lt, All, map, slice_get, slice_range, bytes_eq, unwrap_or, ◌&&◌}
use Rattle.std.specs.List.{Contains}
use Rattle.std.specs.List.Sorted.{IsStrictlyIncreasing}
use Rattle.std.proofs.lemmas.Bool.{eqb-true, eqb-false, ltb-true}
use Rattle.std.proofs.lemmas.Bool.Decides.{nat_tests}
use Rattle.std.proofs.lemmas.List.Elements.{All-nil, All-cons, All-append, All-contains}
use Rattle.lucid_lex.specs.declared.token.Token.{Token}
use Rattle.lucid_size.specs.declared.step.Form.{Form}
use Rattle.lucid_size.specs.declared.step.Form.TheVariants as forms
use Rattle.lucid_size.specs.declared.step.Instance.{Instance}
use Rattle.lucid_size.specs.declared.step.Step.{Step}
use Rattle.lucid_size.specs.declared.template.Template.{Template}
use Rattle.std.proofs.lemmas.List.Quantifiers.{position-Some}
use Rattle.lucid_lex.specs.Piece.{Piece}
use Rattle.lucid_lex.specs.Reading.{bytes_of}
use Rattle.lucid_size.specs.Used.{Used, use_of, uses}
use Rattle.lucid_size.specs.Parts.{body_steps, bytes_at, name_of, named, names_of, outside_from, steps_between, steps_in}
use Rattle.lucid_size.specs.Expansion.{IsExpansion, first_repeat, written}
use Rattle.lucid_size.specs.Search.{AreWithin, IsUsed, body_in}
use Rattle.lucid_size.specs.Widths.{put, widths_in}
use Rattle.lucid_size.specs.Steps.{Width, form_at, more_of, or_width, size_of, steps_from, template_of, use_at, use_by, width_at}
use Rattle.lucid_size.specs.Kinds.{closes_width, is_name, opens_paren, opens_width}
use Rattle.lucid_size.specs.Templates.{templates}
use Rattle.lucid_size.proofs.Lengths.{used_are_listed}

-- ---- numbers put at their places

abbrev pub Rising : List ℕ → Type 0
Rising [] = Unit {0}
Rising (x ∷ xs) = ((n : ℕ) → Contains xs n → x < n) × Rising xs

pub nothing_in : (n : ℕ) → Contains {X = ℕ} [] n → ⊥
nothing_in n has = let w = has.1 in omega arith

pub in_cons : (x n : ℕ) (xs : List ℕ) → Contains (x ∷ xs) n → (x ≡ n) ⊎ Contains xs n
in_cons x n xs (zero, within, is) = inl is
in_cons x n xs (suc k, within, is) = inr (k, omega arith, is)

first_in : (n : ℕ) (xs : List ℕ) → Contains (n ∷ xs) n
first_in n xs = (zero, omega arith, refl)

later_in : (x n : ℕ) (xs : List ℕ) → Contains xs n → Contains (x ∷ xs) n
later_in x n xs has = (suc has.0, let w = has.1 in omega arith, has.2)

put_has_by : (x y : ℕ) (ys : List ℕ) (low same : Bool) → (x == y) ≡ same → Contains (put x ys) x → Contains (if low then x ∷ y ∷ ys else (if same then y ∷ ys else y ∷ put x ys)) x
put_has_by x y ys true same e later = first_in x (y ∷ ys)
put_has_by x y ys false true e later = let is : x ≡ y = eqb-true x y e in (zero, omega arith, sym is)
put_has_by x y ys false false e later = later_in y x (put x ys) later

put_has : (x : ℕ) (ys : List ℕ) → Contains (put x ys) x
put_has x [] = first_in x []
put_has x (y ∷ ys) = put_has_by x y ys (nat_lt x y) (x == y) refl (put_has x ys)

put_keeps_by : (x y n : ℕ) (ys : List ℕ) (low same : Bool) → (Contains ys n → Contains (put x ys) n) → Contains (y ∷ ys) n → Contains (if low then x ∷ y ∷ ys else (if same then y ∷ ys else y ∷ put x ys)) n
put_keeps_by x y n ys true same later has = later_in x n (y ∷ ys) has
put_keeps_by x y n ys false true later has = has
put_keeps_by x y n ys false false later has = ⊎_elim (λ here. (zero, omega arith, here)) (λ there. later_in y n (put x ys) (later there)) (in_cons y n ys has)

put_keeps : (x n : ℕ) (ys : List ℕ) → Contains ys n → Contains (put x ys) n
put_keeps x n [] has = absurd (nothing_in n has)
put_keeps x n (y ∷ ys) has = put_keeps_by x y n ys (nat_lt x y) (x == y) (put_keeps x n ys) has

put_only_by : (x y n : ℕ) (ys : List ℕ) (low same : Bool) → (Contains (put x ys) n → (x ≡ n) ⊎ Contains ys n) → Contains (if low then x ∷ y ∷ ys else (if same then y ∷ ys else y ∷ put x ys)) n → (x ≡ n) ⊎ Contains (y ∷ ys) n
put_only_by x y n ys true same later has = in_cons x n (y ∷ ys) has
put_only_by x y n ys false true later has = inr has
put_only_by x y n ys false false later has = ⊎_elim (λ here. inr (zero, omega arith, here)) (λ there. ⊎_elim (λ e. inl e) (λ h. inr (later_in y n ys h)) (later there)) (in_cons y n (put x ys) has)

put_only : (x n : ℕ) (ys : List ℕ) → Contains (put x ys) n → (x ≡ n) ⊎ Contains ys n
put_only x n [] has = in_cons x n [] has
put_only x n (y ∷ ys) has = put_only_by x y n ys (nat_lt x y) (x == y) (put_only x n ys) has

put_rises_by : (x y : ℕ) (ys : List ℕ) (low same : Bool) → nat_lt x y ≡ low → (x == y) ≡ same → Rising (put x ys) → Rising (y ∷ ys) → Rising (if low then x ∷ y ∷ ys else (if same then y ∷ ys else y ∷ put x ys))
put_rises_by x y ys true same l e later rise =
    let below : x < y = ltb-true x y l in
    ((λ n has. ⊎_elim (λ here. subst (λ k. x < k) here below) (λ there. let a = rise.0 n there in omega arith) (in_cons y n ys has)), rise)
put_rises_by x y ys false true l e later rise = rise
put_rises_by x y ys false false l e later rise =
    let not_below : y ≤ x = grind (arith, nat_tests) in
    let not_same : x ≡ y → ⊥ = eqb-false x y e in
    let above : y < x = omega arith in
    ((λ n has. ⊎_elim (λ here. subst (λ k. y < k) here above) (λ there. rise.0 n there) (put_only x n ys has)), later)

put_rises : (x : ℕ) (ys : List ℕ) → Rising ys → Rising (put x ys)
put_rises x [] rise = ((λ n has. absurd (nothing_in n has)), tt)
put_rises x (y ∷ ys) rise = put_rises_by x y ys (nat_lt x y) (x == y) refl refl (put_rises x ys rise.1) rise

at_in : (xs : List ℕ) (k : ℕ) → k < length xs → Contains xs (get_or xs k 0)
at_in xs k within = (k, within, default_get xs k (get_or xs k 0) 0 within)
  where
    default_get : (zs : List ℕ) (k d e : ℕ) → k < length zs → get_or zs k d ≡ get_or zs k e
    default_get [] k d e within = absurd (omega arith)
    default_get (z ∷ zs) zero d e within = refl
    default_get (z ∷ zs) (suc k) d e within = default_get zs k d e (omega arith)

increases : (xs : List ℕ) → Rising xs → (k : ℕ) → k + 1 < length xs → get_or xs k 0 < get_or xs (k + 1) 0
increases [] rise k within = absurd (omega arith)
increases (x ∷ xs) rise zero within =
    let one : suc zero ≡ zero + 1 = omega arith in
    subst (λ n. x < get_or (x ∷ xs) n 0) one (rise.0 (get_or xs 0 0) (at_in xs 0 (omega arith)))
increases (x ∷ xs) rise (suc k) within =
    let one : suc (k + 1) ≡ suc k + 1 = omega arith in
    subst (λ n. get_or xs k 0 < get_or (x ∷ xs) n 0) one (increases xs rise.1 k (omega arith))

pub strictly : (xs : List ℕ) → Rising xs → IsStrictlyIncreasing xs
strictly xs rise = increases xs rise

-- ---- the widths of each template

widths_rise_by : (i : Instance) (is : List Instance) (k : ℕ) (b : Bool) → Rising (widths_in is k) → Rising (if b then put i.width (widths_in is k) else widths_in is k)
widths_rise_by i is k true rise = put_rises i.width (widths_in is k) rise
widths_rise_by i is k false rise = rise

pub widths_rise : (is : List Instance) (k : ℕ) → Rising (widths_in is k)
widths_rise [] k = tt
widths_rise (i ∷ is) k = widths_rise_by i is k (i.template == k) (widths_rise is k)

widths_used_by : (i : Instance) (is : List Instance) (k n : ℕ) (b : Bool) → (i.template == k) ≡ b → (Contains (widths_in is k) n → Contains is (record { template = k; width = n })) →
    Contains (if b then put i.width (widths_in is k) else widths_in is k) n → Contains (i ∷ is) (record { template = k; width = n })
widths_used_by i is k n true e later has = ⊎_elim
    (λ here. let t : i.template ≡ k = eqb-true i.template k e in (zero, omega arith, λ x. record { template = t x; width = here x }))
    (λ there. let h = later there in (suc h.0, let w = h.1 in omega arith, h.2))
    (put_only i.width n (widths_in is k) has)
widths_used_by i is k n false e later has = let h = later has in (suc h.0, let w = h.1 in omega arith, h.2)

pub widths_used : (is : List Instance) (k n : ℕ) → Contains (widths_in is k) n → Contains is (record { template = k; width = n })
widths_used [] k n has = absurd (nothing_in n has)
widths_used (i ∷ is) k n has = widths_used_by i is k n (i.template == k) refl (widths_used is k n) has

widths_all_by : (i : Instance) (is : List Instance) (k n : ℕ) (b : Bool) → (i.template == k) ≡ b → (Contains is (record { template = k; width = n }) → Contains (widths_in is k) n) →
    Contains (i ∷ is) (record { template = k; width = n }) → Contains (if b then put i.width (widths_in is k) else widths_in is k) n
widths_all_by i is k n true e later (zero, within, here) = subst (λ w. Contains (put i.width (widths_in is k)) w) (ap (λ j. j.width) here) (put_has i.width (widths_in is k))
widths_all_by i is k n true e later (suc j, within, there) = put_keeps i.width n (widths_in is k) (later (j, omega arith, there))
widths_all_by i is k n false e later (zero, within, here) = absurd (eqb-false i.template k e (ap (λ j. j.template) here))
widths_all_by i is k n false e later (suc j, within, there) = later (j, omega arith, there)

pub widths_all : (is : List Instance) (k n : ℕ) → Contains is (record { template = k; width = n }) → Contains (widths_in is k) n
widths_all [] k n has = absurd (let w = has.1 in omega arith)
widths_all (i ∷ is) k n has = widths_all_by i is k n (i.template == k) refl (widths_all is k n) has

-- ---- each use is of a template that is there

abbrev pub Below : ℕ → Form → Type 0
Below n (forms.Use k size) = k < n
Below n form = Unit {0}

abbrev pub AllBelow : ℕ → List Step → Type 0
AllBelow n [] = Unit {0}
AllBelow n (s ∷ ss) = Below n s.form × AllBelow n ss

abbrev IfBelow : ℕ → Option Form → Type 0
IfBelow n None = Unit {0}
IfBelow n (Some form) = Below n form

AllBelow-append : (n : ℕ) (ss us : List Step) → AllBelow n ss → AllBelow n us → AllBelow n (ss ++ us)
AllBelow-append n [] us h g = g
AllBelow-append n (s ∷ ss) us h g = (h.0, AllBelow-append n ss us h.1 g)

use_below : (names : List (List ℕ)) (name : List ℕ) (o : Option ℕ) (p : Option (Option ℕ)) → template_of names name ≡ o → IfBelow (length names) (use_by o p)
use_below names name None p is = tt
use_below names name (Some k) None is = tt
use_below names name (Some k) (Some size) is = (position-Some (bytes_eq name) names k [] is).0

tested_below : (n : ℕ) (b : Bool) (o : Option Form) → IfBelow n o → IfBelow n (if b then o else None)
tested_below n true o h = h
tested_below n false o h = tt

at_below : (text : List ℕ) (names : List (List ℕ)) (width : Width) (ts : List Token) → IfBelow (length names) (use_at text names width ts)
at_below text names width [] = tt
at_below text names width (f ∷ []) = tt
at_below text names width (f ∷ a ∷ []) = tt
at_below text names width (f ∷ a ∷ n ∷ []) = tt
at_below text names width (f ∷ a ∷ n ∷ b ∷ []) = tt
at_below text names width (f ∷ a ∷ n ∷ b ∷ p ∷ ts) =
    tested_below (length names) (is_name f.kind && (opens_width a.kind && (closes_width b.kind && opens_paren p.kind))) (use_by (template_of names (bytes_of text f)) (size_of text width n))
    (use_below names (bytes_of text f) (template_of names (bytes_of text f)) (size_of text width n) refl)

form_below : (n : ℕ) (w : Bool) (o : Option Form) → IfBelow n o → Below n (or_width w o)
form_below n w (Some form) h = h
form_below n true None h = tt
form_below n false None h = tt

steps_below : (text : List ℕ) (names : List (List ℕ)) (width : Width) (at more : ℕ) (ts : List Token) → AllBelow (length names) (steps_from text names width at more ts)
steps_below text names width at more [] = tt
steps_below text names width at (suc more) (t ∷ ts) = steps_below text names width t.span.end more ts
steps_below text names width at zero (t ∷ ts) = (
  form_below (length names) (width_at text width (t ∷ ts)) (use_at text names width (t ∷ ts)) (at_below text names width (t ∷ ts)),
  steps_below text names width t.span.end (more_of (form_at text names width (t ∷ ts))) ts,
)

named_below : (n at : ℕ) (ts : List Token) → AllBelow n (map (λ t. record { from = at; token = t; form = forms.Named }) ts)
named_below n at [] = tt
named_below n at (t ∷ ts) = (tt, named_below n at ts)

pub body_below : (text : List ℕ) (names : List (List ℕ)) (ts : List Token) (x : Template) → AllBelow (length names) (body_steps text names ts x)
body_below text names ts x =
    let width : Width = Some (bytes_at text ts (x.first + 2)) in
    AllBelow-append (length names) (steps_between text names width ts (x.first + 4) x.name) _ (steps_below text names width _ 0 _)
    (AllBelow-append (length names) (named ts x.name) _ (named_below (length names) _ (slice_range ts x.name (x.name + 1))) (steps_below text names width _ 0 _))

pub outside_below : (text : List ℕ) (names : List (List ℕ)) (ts : List Token) (i : ℕ) (xs : List Template) → AllBelow (length names) (outside_from text names ts i xs)
outside_below text names ts i [] = steps_below text names None _ 0 _
outside_below text names ts i (x ∷ xs) = AllBelow-append (length names) (steps_between text names None ts i x.first) _ (steps_below text names None _ 0 _) (outside_below text names ts x.end xs)

abbrev IsBelow : ℕ → Instance → Type 0
IsBelow n i = i.template < n

one_below : (n w : ℕ) (form : Form) → Below n form → All (IsBelow n) (use_of w form)
one_below n w forms.Kept h = All-nil (IsBelow n)
one_below n w forms.Width h = All-nil (IsBelow n)
one_below n w forms.Named h = All-nil (IsBelow n)
one_below n w (forms.Use k size) h = All-cons (IsBelow n) (record { template = k; width = unwrap_or size w }) [] h (All-nil (IsBelow n))

pub all_within : (n : ℕ) (ss : List Step) → AllBelow n ss → AreWithin n ss
all_within n [] h w = All-nil (IsBelow n)
all_within n (s ∷ ss) h w = All-append (IsBelow n) (use_of w s.form) (uses w ss) (one_below n w s.form h.0) (all_within n ss h.1 w)

-- ---- the expansion

pub bodies_within : (text : List ℕ) (names : List (List ℕ)) (ts : List Token) (xs : List Template) → All (AreWithin (length names)) (map (body_steps text names ts) xs)
bodies_within text names ts [] = All-nil (AreWithin (length names))
bodies_within text names ts (x ∷ xs) = All-cons (AreWithin (length names)) (body_steps text names ts x) (map (body_steps text names ts) xs) (all_within (length names) (body_steps text names ts x) (body_below text names ts x)) (bodies_within text names ts xs)

pub length_map : {X Y : Type 0} (f : X → Y) (xs : List X) → length (map f xs) ≡ length xs
length_map f [] = refl
length_map f (x ∷ xs) = ap suc (length_map f xs)

pub same_body : (text : List ℕ) (names : List (List ℕ)) (ts : List Token) (xs : List Template) (k : ℕ) → body_in (map (body_steps text names ts) xs) k ≡ steps_in text names ts (slice_get xs k)
same_body text names ts [] k = refl
same_body text names ts (x ∷ xs) zero = refl
same_body text names ts (x ∷ xs) (suc k) = same_body text names ts xs k

pub expansion_exists : (text : List ℕ) (ts : List Token) (xs : List Template) → templates ts ≡ Ok xs → first_repeat [] (names_of text ts xs) ≡ None → (pieces : List Piece) × IsExpansion text ts pieces
expansion_exists text ts xs whole distinct =
    let names = names_of text ts xs in
    let bodies = map (body_steps text names ts) xs in
    let outside = outside_from text names ts 0 xs in
    let count : length names ≡ length bodies = length_map (name_of text ts) xs ∙ sym (length_map (body_steps text names ts) xs) in
    let out_within : AreWithin (length bodies) outside = subst (λ n. AreWithin n outside) count (all_within (length names) outside (outside_below text names ts 0 xs)) in
    let within : All (AreWithin (length bodies)) bodies = subst (λ n. All (AreWithin n) bodies) count (bodies_within text names ts xs) in
    let found = used_are_listed outside bodies out_within within in
    let bodies_are : body_in bodies ≡ (λ k. steps_in text names ts (slice_get xs k)) = λ i k. same_body text names ts xs k i in
    let widths = widths_in found.0 in (
      written text ts xs widths,
      record {
        found = xs;
        whole = whole;
        distinct = distinct;
        widths = widths;
        are_widths = record {
          rising = λ k. strictly (widths k) (widths_rise found.0 k);
          used = λ k n has. subst (λ body. Used outside body k n) bodies_are (All-contains (IsUsed outside bodies) found.0 (record { template = k; width = n }) found.1.used (widths_used found.0 k n has));
          all = λ k n is. widths_all found.0 k n (found.1.all k n (subst (λ body. Used outside body k n) (sym bodies_are) is));
        };
        pieces_are = refl;
      },
    )
