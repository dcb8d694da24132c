-- The positions of the templates of a text, and that the widths of used instances fit.
use Rattle.std.proofs.Common.{◌≡◌, ℕ, zero, suc, ◌+◌, ◌-◌, ◌<◌, ◌≤◌, Bool, true, false, ◌&&◌, List, [], ◌∷◌, length, drop, length-drop, Option, Some, None, Ok, Err, refl, sym, ◌∙◌, ap, subst, arith, if◌then◌else◌}
use Rattle.std.specs.Prelude.{◌==◌, slice_get}
use Rattle.std.proofs.lemmas.Bool.{and_parts}
use Rattle.std.proofs.lemmas.List.{drop-drop}
use Rattle.lucid_lex.specs.declared.token.Kind.{Kind}
use Rattle.lucid_lex.specs.declared.token.Kind.TheVariants as kinds
use Rattle.lucid_lex.specs.declared.token.Token.{Token}
use Rattle.lucid_lex.specs.declared.word.Word.TheVariants as words
use Rattle.lucid_size.specs.declared.template.Template.{Template}
use Rattle.lucid_size.specs.Kinds.{closes_brace, closes_width, is_fun, is_name, open_after, opens_brace, opens_paren, opens_width}
use Rattle.lucid_size.specs.Templates.{Cut, and_then, begins_template, behind, end_from, more_of, name_from, template_at, template_by, templates, templates_from}
use Rattle.lucid_size.proofs.Forms.{name_true}
use Rattle.lucid_size.proofs.Whole.{IsPlaced, Placed}

fun_true : (k : Kind) → is_fun k ≡ true → k ≡ kinds.Word words.Fun
fun_true (kinds.Word words.Fun) h = refl
fun_true k h = absurd (cc)

-- the tokens from a number on
head_of : (ts : List Token) (i : ℕ) (t : Token) (us : List Token) → t ∷ us ≡ drop i ts → slice_get ts i ≡ Some t
head_of [] zero t us h = absurd (cc)
head_of [] (suc i) t us h = absurd (cc)
head_of (x ∷ ts) zero t us h = let same : t ≡ x = cc in ap (λ z. Some z) (sym same)
head_of (x ∷ ts) (suc i) t us h = head_of ts i t us h

pub rest_of : (ts : List Token) (i : ℕ) (t : Token) (us : List Token) → t ∷ us ≡ drop i ts → us ≡ drop (i + 1) ts
rest_of [] zero t us h = absurd (cc)
rest_of [] (suc i) t us h = absurd (cc)
rest_of (x ∷ ts) zero t us h = cc
rest_of (x ∷ ts) (suc i) t us h = rest_of ts i t us h ∙ ap (λ n. drop n (x ∷ ts)) (let e : suc (i + 1) ≡ suc i + 1 = omega arith in e)

within_of : (ts : List Token) (i : ℕ) (t : Token) (us : List Token) → t ∷ us ≡ drop i ts → i < length ts
within_of [] zero t us h = absurd (cc)
within_of [] (suc i) t us h = absurd (cc)
within_of (x ∷ ts) zero t us h = omega arith
within_of (x ∷ ts) (suc i) t us h = let later = within_of ts i t us h in omega arith

past_of : (ts : List Token) (i : ℕ) → [] ≡ drop i ts → i ≤ length ts → i ≡ length ts
past_of [] zero h within = refl
past_of [] (suc i) h within = absurd (omega arith)
past_of (x ∷ ts) zero h within = absurd (cc)
past_of (x ∷ ts) (suc i) h within = let later = past_of ts i h (omega arith) in omega arith

-- a name that is found
record NameAt (ts : List Token) (i name : ℕ) : Type 0 where
  pub token : Token
  pub is : slice_get ts name ≡ Some token
  pub kind : token.kind ≡ kinds.Name
  pub from : i ≤ name

name_by : (ts : List Token) (i name : ℕ) (t u : Token) (us : List Token) (brace found : Bool) → t ∷ u ∷ us ≡ drop i ts → opens_brace t.kind ≡ brace → (is_name t.kind && opens_paren u.kind) ≡ found →
    (name_from (i + 1) (u ∷ us) ≡ Some name → NameAt ts (i + 1) name) → (if brace then None else (if found then Some i else name_from (i + 1) (u ∷ us))) ≡ Some name → NameAt ts i name
name_by ts i name t u us true found is b f later h = absurd (cc)
name_by ts i name t u us false true is b f later h =
    let same : i ≡ name = cc in
    record { token = t; is = subst (λ n. slice_get ts n ≡ Some t) same (head_of ts i t (u ∷ us) is); kind = name_true t.kind (and_parts (is_name t.kind) (opens_paren u.kind) f).0; from = omega arith }
name_by ts i name t u us false false is b f later h =
    let found = later h in
    record { token = found.token; is = found.is; kind = found.kind; from = let w = found.from in omega arith }

name_at : (ts : List Token) (i name : ℕ) (us : List Token) → us ≡ drop i ts → name_from i us ≡ Some name → NameAt ts i name
name_at ts i name [] is h = absurd (cc)
name_at ts i name (t ∷ []) is h = absurd (cc)
name_at ts i name (t ∷ u ∷ us) is h = name_by ts i name t u us (opens_brace t.kind) (is_name t.kind && opens_paren u.kind) is refl refl (name_at ts (i + 1) name (u ∷ us) (rest_of ts i t (u ∷ us) is)) h

-- where a body ends
end_by : (i n end len : ℕ) (t : Token) (us : List Token) (o c last : Bool) →
    (end_from (i + 1) (n + 1) us ≡ Some end → (i + 1 < end) × (end ≤ i + 1 + len)) → (end_from (i + 1) (n - 1) us ≡ Some end → (i + 1 < end) × (end ≤ i + 1 + len)) → (end_from (i + 1) n us ≡ Some end → (i + 1 < end) × (end ≤ i + 1 + len)) →
    (if o then end_from (i + 1) (n + 1) us else (if c && last then Some (i + 1) else (if c then end_from (i + 1) (n - 1) us else end_from (i + 1) n us))) ≡ Some end → (i < end) × (end ≤ i + (1 + len))
end_by i n end len t us true c last up down same h = let later = up h in (omega (arith, later.0), omega (arith, later.1))
end_by i n end len t us false true true up down same h = let is : i + 1 ≡ end = cc in (omega arith, omega arith)
end_by i n end len t us false true false up down same h = let later = down h in (omega (arith, later.0), omega (arith, later.1))
end_by i n end len t us false false true up down same h = let later = same h in (omega (arith, later.0), omega (arith, later.1))
end_by i n end len t us false false false up down same h = let later = same h in (omega (arith, later.0), omega (arith, later.1))

end_is : (i n end : ℕ) (us : List Token) → end_from i n us ≡ Some end → (i < end) × (end ≤ i + length us)
end_is i n end [] h = absurd (cc)
end_is i n end (t ∷ us) h =
    let found = end_by i n end (length us) t us (opens_brace t.kind) (closes_brace t.kind) (n == 1) (end_is (i + 1) (n + 1) end us) (end_is (i + 1) (n - 1) end us) (end_is (i + 1) n end us) h in
    (found.0, omega (arith, found.1))

-- the name comes before the end
order_by : (i name end : ℕ) (t u : Token) (us : List Token) (o c found : Bool) →
    (name_from (i + 1) (u ∷ us) ≡ Some name → end_from (i + 1) 0 (u ∷ us) ≡ Some end → name < end) →
    (end_from (i + 1) 0 (u ∷ us) ≡ Some end → i + 1 < end) →
    (if o then None else (if found then Some i else name_from (i + 1) (u ∷ us))) ≡ Some name →
    (if o then end_from (i + 1) 1 (u ∷ us) else (if c && false then Some (i + 1) else (if c then end_from (i + 1) 0 (u ∷ us) else end_from (i + 1) 0 (u ∷ us)))) ≡ Some end → name < end
order_by i name end t u us true c found later low n e = absurd (cc)
order_by i name end t u us false true true later low n e = let is : i ≡ name = cc in let w = low e in omega arith
order_by i name end t u us false false true later low n e = let is : i ≡ name = cc in let w = low e in omega arith
order_by i name end t u us false true false later low n e = later n e
order_by i name end t u us false false false later low n e = later n e

order_is : (i name end : ℕ) (us : List Token) → name_from i us ≡ Some name → end_from i 0 us ≡ Some end → name < end
order_is i name end [] n e = absurd (cc)
order_is i name end (t ∷ []) n e = absurd (cc)
order_is i name end (t ∷ u ∷ us) n e =
    order_by i name end t u us (opens_brace t.kind) (closes_brace t.kind) (is_name t.kind && opens_paren u.kind) (order_is (i + 1) name end (u ∷ us)) (λ h. (end_is (i + 1) 0 end (u ∷ us) h).0) n e

-- the template at a place
begins_fun : (t : Token) (us : List Token) → begins_template (t ∷ us) ≡ true → (is_fun t.kind ≡ true) × (4 ≤ length (t ∷ us))
begins_fun t [] h = absurd (cc)
begins_fun t (a ∷ []) h = absurd (cc)
begins_fun t (a ∷ b ∷ []) h = absurd (cc)
begins_fun t (a ∷ b ∷ c ∷ us) h = ((and_parts (is_fun t.kind) (opens_width a.kind && (is_name b.kind && closes_width c.kind)) h).0, omega arith)

drop_more : (ts us : List Token) (i k : ℕ) → us ≡ drop i ts → drop k us ≡ drop (i + k) ts
drop_more ts us i k is = ap (drop k) is ∙ drop-drop k i ts

pub length_of : (ts us : List Token) (i : ℕ) → us ≡ drop i ts → i ≤ length ts → i + length us ≡ length ts
length_of ts [] i is within = let e = past_of ts i is within in omega arith
length_of ts (t ∷ us) i is within = let later = length_of ts us (i + 1) (rest_of ts i t us is) (let w = within_of ts i t us is in omega arith) in omega arith

placed_by : (ts us : List Token) (i : ℕ) (t : Token) (x : Template) (o p : Option ℕ) → t ∷ us ≡ drop i ts → (is_fun t.kind ≡ true) × (4 ≤ length (t ∷ us)) →
    name_from (i + 4) (drop 4 (t ∷ us)) ≡ o → end_from (i + 4) 0 (drop 4 (t ∷ us)) ≡ p → template_by i o p ≡ Some x → (x.first ≡ i) × IsPlaced ts x
placed_by ts us i t x None p is begins n e h = absurd (cc)
placed_by ts us i t x (Some name) None is begins n e h = absurd (cc)
placed_by ts us i t x (Some name) (Some end) is begins n e h =
    let made : record { first = i; name = name; end = end } ≡ x = let inner : ◌≡◌ {A = Option Template} (Some (record { first = i; name = name; end = end })) (Some x) = h in cc in
    let found = name_at ts (i + 4) name (drop 4 (t ∷ us)) (drop_more ts (t ∷ us) i 4 is) n in
    let ends = end_is (i + 4) 0 end (drop 4 (t ∷ us)) e in
    let len = length_of ts (t ∷ us) i is (let w = within_of ts i t us is in omega arith) in
    let four = begins.1 in
    let rest : length (drop 4 (t ∷ us)) ≡ length (t ∷ us) - 4 = length-drop 4 (t ∷ us) in
    let placed : IsPlaced ts (record { first = i; name = name; end = end }) = record {
      first = t;
      first_is = head_of ts i t us is;
      first_kind = fun_true t.kind begins.0;
      name = found.token;
      name_is = found.is;
      name_kind = found.kind;
      before = found.from;
      order = order_is (i + 4) name end (drop 4 (t ∷ us)) n e;
      within = omega (arith, ends.1, rest, len, four);
    } in
    (ap (λ y. y.first) (sym made), subst (IsPlaced ts) made placed)

Placed-sooner : (ts : List Token) (i j : ℕ) (xs : List Template) → i ≤ j → Placed ts j xs → Placed ts i xs
Placed-sooner ts i j [] low placed = omega arith
Placed-sooner ts i j (x ∷ xs) low placed = (let p = placed.0 in omega arith, placed.1, placed.2)

found_by : (ts us : List Token) (i : ℕ) (t : Token) (opened : ℕ) (xs : List Template) (o : Option Template) → t ∷ us ≡ drop i ts → begins_template (t ∷ us) ≡ true → template_at i (t ∷ us) ≡ o →
    ((opened more : ℕ) (xs : List Template) → i + 1 + more ≤ length ts → templates_from (i + 1) opened more us ≡ Ok xs → Placed ts (i + 1 + more) xs) →
    and_then i o (templates_from (i + 1) opened (more_of i o) us) ≡ Ok xs → Placed ts i xs
found_by ts us i t opened xs None is begins o later h = absurd (cc)
found_by ts us i t opened xs (Some x) is begins o later h =
    let found = placed_by ts us i t x (name_from (i + 4) (drop 4 (t ∷ us))) (end_from (i + 4) 0 (drop 4 (t ∷ us))) is (begins_fun t us begins) refl refl o in
    let rest = behind_is (templates_from (i + 1) opened (x.end - (i + 1)) us) h in
    let first = found.0 in
    let b = found.1.before in
    let e = found.1.order in
    let w = found.1.within in
    let place : i + 1 + (x.end - (i + 1)) ≡ x.end = omega arith in
    let placed = later opened (x.end - (i + 1)) rest.0 (omega arith) rest.1 in
    subst (Placed ts i) (sym rest.2) (omega arith, found.1, subst (λ n. Placed ts n rest.0) place placed)
  where
    behind_is : (c : Cut) → behind x c ≡ Ok xs → (ys : List Template) × (c ≡ Ok ys) × (xs ≡ x ∷ ys)
    behind_is (Ok ys) h = (ys, refl, let same : x ∷ ys ≡ xs = cc in sym same)
    behind_is (Err n) h = absurd (cc)

found_here : (ts us : List Token) (i : ℕ) (t : Token) (opened : ℕ) (xs : List Template) (zero_open begins : Bool) → t ∷ us ≡ drop i ts → begins_template (t ∷ us) ≡ begins →
    ((opened more : ℕ) (xs : List Template) → i + 1 + more ≤ length ts → templates_from (i + 1) opened more us ≡ Ok xs → Placed ts (i + 1 + more) xs) →
    (if zero_open && begins then and_then i (template_at i (t ∷ us)) (templates_from (i + 1) opened (more_of i (template_at i (t ∷ us))) us) else templates_from (i + 1) (open_after opened t.kind) 0 us) ≡ Ok xs → Placed ts i xs
found_here ts us i t opened xs true true is begins later h = found_by ts us i t opened xs (template_at i (t ∷ us)) is begins refl later h
found_here ts us i t opened xs true false is begins later h = Placed-sooner ts i (i + 1 + 0) xs (omega arith) (later (open_after opened t.kind) 0 xs (let w = within_of ts i t us is in omega arith) h)
found_here ts us i t opened xs false true is begins later h = Placed-sooner ts i (i + 1 + 0) xs (omega arith) (later (open_after opened t.kind) 0 xs (let w = within_of ts i t us is in omega arith) h)
found_here ts us i t opened xs false false is begins later h = Placed-sooner ts i (i + 1 + 0) xs (omega arith) (later (open_after opened t.kind) 0 xs (let w = within_of ts i t us is in omega arith) h)

finds : (ts us : List Token) (i opened more : ℕ) (xs : List Template) → us ≡ drop i ts → i + more ≤ length ts → templates_from i opened more us ≡ Ok xs → Placed ts (i + more) xs
finds ts [] i opened more xs is within h = subst (Placed ts (i + more)) (let none : ◌≡◌ {A = List Template} [] xs = cc in none) within
finds ts (t ∷ us) i opened (suc more) xs is within h =
    let place : i + 1 + more ≡ i + suc more = omega arith in
    subst (λ n. Placed ts n xs) place (finds ts us (i + 1) (open_after opened t.kind) more xs (rest_of ts i t us is) (omega arith) h)
finds ts (t ∷ us) i opened zero xs is within h =
    let place : i ≡ i + zero = omega arith in
    subst (λ n. Placed ts n xs) place (found_here ts us i t opened xs (opened == 0) (begins_template (t ∷ us)) is refl (λ o more ys. finds ts us (i + 1) o more ys (rest_of ts i t us is)) h)

-- the templates of a text follow one another
pub templates_placed : (ts : List Token) (xs : List Template) → templates ts ≡ Ok xs → Placed ts 0 xs
templates_placed ts xs h = finds ts ts 0 0 0 xs refl (omega arith) h
