-- One token on, where templates are looked for.
use Rattle.std.proofs.Common.{◌≡◌, ℕ, zero, suc, ◌+◌, ◌-◌, ◌<◌, ◌≤◌, Bool, true, List, [], ◌∷◌, ◌++◌, length, drop, get_or}
use Rattle.std.proofs.Common.{Option, Some, None, Ok, Err, refl, sym, ◌∙◌, ap, subst, arith, length-drop, append_assoc, if◌then◌else◌}
use Rattle.std.specs.Prelude.{slice_range}
use Rattle.std.proofs.lemmas.List.{drop-drop, drop_more, take_rest}
use Rattle.lucid_lex.specs.declared.token.Token.{Token}
use Rattle.lucid_size.specs.declared.error.SizeError.{SizeError}
use Rattle.lucid_size.specs.declared.error.SizeError.TheVariants as errors
use Rattle.lucid_size.specs.declared.template.Template.{Template}
use Rattle.lucid_size.proofs.Placed.{rest_of}
use Rattle.lucid_size.specs.Kinds.{open_after}
use Rattle.lucid_size.specs.Templates.{Cut, and_then, begins_template, behind, end_from, more_of, name_from, template_at}
use Rattle.lucid_size.specs.Templates.{template_by, templates_from}
use Rattle.lucid_size.specs.Cutting.{Fails, Tells, before_those}

short : (i : ℕ) (ts : List Token) → length ts ≤ 1 → name_from i ts ≡ None
short i [] few = refl
short i (t ∷ []) few = refl
short i (t ∷ u ∷ ts) few = absurd (omega arith)

pub name_from-end : (at : ℕ) (ts : List Token) → length ts ≤ at → name_from (at - 1) (drop (at - 1) ts) ≡ None
name_from-end at ts end = short (at - 1) (drop (at - 1) ts) (omega (arith, length-drop (at - 1) ts))

pub template_at_is : (first : ℕ) (ts : List Token) →
    template_at first (drop first ts)
    ≡ template_by first (name_from (first + 4) (drop (first + 4) ts)) (end_from (first + 4) 0 (drop (first + 4) ts))
template_at_is first ts = ap (λ l. template_by first (name_from (first + 4) l) (end_from (first + 4) 0 l)) (drop-drop 4 first ts)

-- ---- one token on

skip_in : (at opened more : ℕ) (t : Token) (us : List Token) → 0 < more →
    templates_from (at + 1) (open_after opened t.kind) (more - 1) us ≡ templates_from at opened more (t ∷ us)
skip_in at opened zero t us some = absurd (omega arith)
skip_in at opened (suc n) t us some =
    ap (λ k. templates_from (at + 1) (open_after opened t.kind) k us) (let e : suc n - 1 ≡ n = omega arith in e)

-- a token of the last template is passed
pub skipped : (ts : List Token) (at opened more next : ℕ) (d : Token) → at < length ts → 0 < more →
    next ≡ open_after opened (get_or ts at d).kind →
    templates_from (at + 1) next (more - 1) (drop (at + 1) ts) ≡ templates_from at opened more (drop at ts)
skipped ts at opened more next d within some is =
    ap (λ n. templates_from (at + 1) n (more - 1) (drop (at + 1) ts)) is
    ∙ skip_in at opened more (get_or ts at d) (drop (at + 1) ts) some
    ∙ ap (templates_from at opened more) (sym (drop_more ts at d within))

behind_those : (found : List Template) (x : Template) (c : Cut) → before_those (found ++ x ∷ []) c ≡ before_those found (behind x c)
behind_those found x (Ok ys) = ap (λ l. Ok l) (append_assoc found (x ∷ []) ys)
behind_those found x (Err n) = refl

taken_by : (at : ℕ) (t : Token) (us : List Token) (found : List Template) (x : Template) (b : Bool) (o : Option Template) →
    begins_template (t ∷ us) ≡ b → template_at at (t ∷ us) ≡ o → b ≡ true → o ≡ Some x →
    before_those (found ++ x ∷ []) (templates_from (at + 1) 0 (x.end - (at + 1)) us)
    ≡ before_those found (if b then and_then at o (templates_from (at + 1) 0 (more_of at o) us) else templates_from (at + 1)
    (open_after 0 t.kind) 0 us)
taken_by at t us found x b o begins made is_b is_o =
    behind_those found x (templates_from (at + 1) 0 (x.end - (at + 1)) us)
    ∙ ap (λ p. before_those found (and_then at p (templates_from (at + 1) 0 (more_of at p) us))) (sym is_o)
    ∙ ap (λ z. before_those found
    (if z then and_then at o (templates_from (at + 1) 0 (more_of at o) us) else templates_from (at + 1) (open_after 0 t.kind) 0 us))
    (sym is_b)

taken_in : (ts us : List Token) (at : ℕ) (found : List Template) (x : Template) → us ≡ drop at ts → begins_template us ≡ true →
    template_at at us ≡ Some x →
    before_those (found ++ x ∷ []) (templates_from (at + 1) 0 (x.end - (at + 1)) (drop (at + 1) ts))
    ≡ before_those found (templates_from at 0 0 us)
taken_in ts [] at found x is begins made = absurd (cc)
taken_in ts (t ∷ us) at found x is begins made =
    ap (λ l. before_those (found ++ x ∷ []) (templates_from (at + 1) 0 (x.end - (at + 1)) l)) (sym (rest_of ts at t us is))
    ∙ taken_by at t us found x (begins_template (t ∷ us)) (template_at at (t ∷ us)) refl refl begins made

-- a template is taken
pub taken : (ts : List Token) (at opened more opened' more' : ℕ) (found found' : List Template) (x : Template) → opened ≡ 0 → more ≡ 0 →
    true ≡ begins_template (slice_range ts at (length ts)) →
    template_at at (drop at ts) ≡ Some x → found' ≡ found ++ x ∷ [] → more' ≡ x.end - (at + 1) → opened' ≡ opened →
    before_those found' (templates_from (at + 1) opened' more' (drop (at + 1) ts))
    ≡ before_those found (templates_from at opened more (drop at ts))
taken ts at opened more opened' more' found found' x none_open none_more begins made pushed left kept =
    let one : begins_template (drop at ts) ≡ true = ap begins_template (sym (take_rest ts at)) ∙ sym begins in
    let open' : opened' ≡ 0 = kept ∙ none_open in
    ap (λ f. before_those f (templates_from (at + 1) opened' more' (drop (at + 1) ts))) pushed
    ∙ ap (λ n. before_those (found ++ x ∷ []) (templates_from (at + 1) n more' (drop (at + 1) ts))) open'
    ∙ ap (λ n. before_those (found ++ x ∷ []) (templates_from (at + 1) 0 n (drop (at + 1) ts))) left
    ∙ taken_in ts (drop at ts) at found x refl one made
    ∙ ap (λ n. before_those found (templates_from at n 0 (drop at ts))) (sym none_open)
    ∙ ap (λ n. before_those found (templates_from at opened n (drop at ts))) (sym none_more)

-- ---- a template that is not whole

broken_in : (us : List Token) (at n : ℕ) (found : List Template) → begins_template us ≡ true → template_at at us ≡ None → n ≡ at + 1 →
    before_those found (templates_from at 0 0 us) ≡ Err n
broken_in [] at n found begins none is = absurd (cc)
broken_in (t ∷ us) at n found begins none is =
    ap (λ z. before_those found
    (if z then and_then at (template_at at (t ∷ us)) (templates_from (at + 1) 0 (more_of at (template_at at (t ∷ us))) us)
    else templates_from (at + 1) (open_after 0 t.kind) 0 us)) begins
    ∙ ap (λ o. before_those found (and_then at o (templates_from (at + 1) 0 (more_of at o) us))) none
    ∙ ap (λ k. Err k) (sym is)

fails_in : (us : List Token) (at : ℕ) (found : List Template) (e : SizeError) → begins_template us ≡ true → Fails (template_at at us) at e →
    Tells (before_those found (templates_from at 0 0 us)) e
fails_in us at found (errors.Broken n) begins h = broken_in us at n found begins h.0 h.1
fails_in us at found (errors.Twice name) begins h = h
fails_in us at found errors.TooBig begins h = h
fails_in us at found errors.Memory begins h = tt

pub fails : (ts : List Token) (at opened more : ℕ) (found : List Template) (e : SizeError) → opened ≡ 0 → more ≡ 0 →
    true ≡ begins_template (slice_range ts at (length ts)) → Fails (template_at at (drop at ts)) at e →
    Tells (before_those found (templates_from at opened more (drop at ts))) e
fails ts at opened more found e none_open none_more begins h =
    let one : begins_template (drop at ts) ≡ true = ap begins_template (sym (take_rest ts at)) ∙ sym begins in
    let here = fails_in (drop at ts) at found e one h in
    subst (λ n. Tells (before_those found (templates_from at opened n (drop at ts))) e) (sym none_more)
    (subst (λ n. Tells (before_those found (templates_from at n 0 (drop at ts))) e) (sym none_open) here)
