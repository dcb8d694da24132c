-- A text in which no template begins is its own expansion.
use Rattle.std.proofs.Common.{◌≡◌, ℕ, ◌+◌, Bool, true, false, ◌&&◌, List, [], ◌∷◌, ◌++◌, length, drop, Option, Some, None, Ok, Err, refl, sym, ◌∙◌, ap, arith, if◌then◌else◌}
use Rattle.std.specs.Prelude.{slice_get, slice_range}
use Rattle.std.proofs.lemmas.List.{append-nil, take_rest}
use Rattle.std.proofs.lemmas.Option.{slice_get_past}
use Rattle.lucid_lex.specs.declared.token.Token.{Token}
use Rattle.lucid_lex.specs.Reading.{Reads, bytes_of, joined}
use Rattle.lucid_size.specs.declared.step.Form.{Form}
use Rattle.lucid_size.specs.declared.step.Form.TheVariants as forms
use Rattle.lucid_size.specs.declared.step.Step.{Step}
use Rattle.lucid_size.specs.declared.template.Template.{Template}
use Rattle.lucid_size.specs.Kinds.{closes_width, is_name, opens_paren, opens_width}
use Rattle.lucid_size.specs.Templates.{Cut, and_then, begins_template, more_of, template_at, templates, templates_from}
use Rattle.lucid_size.specs.Steps.{form_at, or_width, size_of, steps_from, template_of, use_at, use_by, width_at}
use Rattle.lucid_size.specs.Steps as steps
use Rattle.lucid_size.specs.Pieces.{gap, pieces_of}
use Rattle.lucid_size.specs.Parts.{end_before, gap_before, start_of, steps_between}
use Rattle.lucid_size.specs.Expansion.{ExpandsTo, written, written_from}
use Rattle.lucid_size.proofs.Exists.{expansion_exists}
use Rattle.lucid_size.proofs.Gaps.{AllLed, joined-append, reads_led}
use Rattle.lucid_size.proofs.Unique.{same_ok}
use Rattle.lucid_size.proofs.Whole.{end_at, end_before-is}

-- ---- where one begins there is a template, or a broken one

begun_by : (i : ℕ) (o : Option Template) (later other : Cut) (b : Bool) → b ≡ true → (if b then and_then i o later else other) ≡ Ok [] → ⊥
begun_by i o later other false is h = absurd (cc)
begun_by i None later other true is h = absurd (cc)
begun_by i (Some t) (Ok ts) other true is h = let both : ◌≡◌ {A = Cut} (Ok (t ∷ ts)) (Ok []) = h in absurd (cc)
begun_by i (Some t) (Err n) other true is h = absurd (cc)

begun_in : (at : ℕ) (us : List Token) → begins_template us ≡ true → templates_from at 0 0 us ≡ Ok [] → ⊥
begun_in at [] begins h = absurd (cc)
begun_in at (t ∷ us) begins h =
    begun_by at (template_at at (t ∷ us)) (templates_from (at + 1) 0 (more_of at (template_at at (t ∷ us))) us) _ (begins_template (t ∷ us)) begins h

pub begun : (ts : List Token) (at opened : ℕ) → opened ≡ 0 → true ≡ begins_template (slice_range ts at (length ts)) → templates_from at opened 0 (drop at ts) ≡ templates ts → templates ts ≡ Ok [] → ⊥
begun ts at opened none_open begins left none =
    begun_in at (drop at ts) (ap begins_template (sym (take_rest ts at)) ∙ sym begins) (ap (λ n. templates_from at n 0 (drop at ts)) (sym none_open) ∙ left ∙ none)

-- ---- without templates each token is kept

no_width : (a b : Bool) → (a && (false && b)) ≡ false
no_width true b = refl
no_width false b = refl

width_none : (text : List ℕ) (ts : List Token) → width_at text None ts ≡ false
width_none text [] = refl
width_none text (a ∷ []) = refl
width_none text (a ∷ w ∷ []) = refl
width_none text (a ∷ w ∷ b ∷ ts) = no_width (opens_width a.kind) (closes_width b.kind)

no_use : (b : Bool) (o : Option Form) → o ≡ None → (if b then o else None) ≡ None
no_use true o none = none
no_use false o none = refl

use_none : (text : List ℕ) (ts : List Token) → use_at text [] None ts ≡ None
use_none text [] = refl
use_none text (f ∷ []) = refl
use_none text (f ∷ a ∷ []) = refl
use_none text (f ∷ a ∷ n ∷ []) = refl
use_none text (f ∷ a ∷ n ∷ b ∷ []) = refl
use_none text (f ∷ a ∷ n ∷ b ∷ p ∷ ts) =
    no_use (is_name f.kind && (opens_width a.kind && (closes_width b.kind && opens_paren p.kind))) (use_by (template_of [] (bytes_of text f)) (size_of text None n)) refl

kept_form : (text : List ℕ) (ts : List Token) → form_at text [] None ts ≡ forms.Kept
kept_form text ts = ap (or_width (width_at text None ts)) (use_none text ts) ∙ ap (λ w. or_width w None) (width_none text ts)

abbrev kept_from : ℕ → List Token → List Step
kept_from at [] = []
kept_from at (t ∷ ts) = record { from = at; token = t; form = forms.Kept } ∷ kept_from t.span.end ts

steps_kept : (text : List ℕ) (at : ℕ) (ts : List Token) → steps_from text [] None at 0 ts ≡ kept_from at ts
steps_kept text at [] = refl
steps_kept text at (t ∷ ts) =
    ap (λ f. record { from = at; token = t; form = f } ∷ steps_from text [] None t.span.end (steps.more_of f) ts) (kept_form text (t ∷ ts))
    ∙ ap (λ ss. record { from = at; token = t; form = forms.Kept } ∷ ss) (steps_kept text t.span.end ts)

kept_bytes : (text : List ℕ) (m at : ℕ) (ts : List Token) (rest : List ℕ) → AllLed text at ts → rest ≡ drop (end_at at (length ts) ts) text → joined (pieces_of text m 0 (kept_from at ts)) rest ≡ drop at text
kept_bytes text m at [] rest led is = is
kept_bytes text m at (t ∷ ts) rest led is =
    ap (λ l. slice_range text at t.span.start ++ (bytes_of text t ++ l)) (kept_bytes text m t.span.end ts rest led.1 is) ∙ sym led.0.cut

last_gap : (text : List ℕ) (ts : List Token) → (gap_before text ts (length ts)).bytes ≡ drop (end_before (length ts) ts) text
last_gap text ts =
    let end = end_before (length ts) ts in
    let start : start_of text (slice_get ts (length ts)) ≡ length text = ap (start_of text) (slice_get_past ts (length ts) (omega arith)) in
    ap (slice_range text end) start ∙ take_rest text end

plain_bytes : (text : List ℕ) (ts : List Token) (m : ℕ) (widths : ℕ → List ℕ) → Reads text ts → joined (written_from text ts m [] widths 0 0 []) [] ≡ text
plain_bytes text ts m widths reads =
    let between : steps_between text [] None ts 0 (length ts) ≡ kept_from 0 ts = ap (steps_from text [] None 0 0) (take_rest ts 0) ∙ steps_kept text 0 ts in
    let last = (gap_before text ts (length ts)).bytes in
    let end : last ++ [] ≡ drop (end_at 0 (length ts) ts) text = append-nil last ∙ last_gap text ts ∙ ap (λ n. drop n text) (sym (end_before-is (length ts) ts (omega arith))) in
    joined-append (pieces_of text m 0 (steps_between text [] None ts 0 (length ts))) (gap last ∷ []) []
    ∙ ap (λ ss. joined (pieces_of text m 0 ss) (last ++ [])) between
    ∙ kept_bytes text m 0 ts (last ++ []) (reads_led text ts reads) end

pub plain_expands : (text : List ℕ) (ts : List Token) → Reads text ts → templates ts ≡ Ok [] → ExpandsTo text ts text
plain_expands text ts reads none =
    let there = expansion_exists text ts [] none refl in
    let same : there.1.found ≡ [] = same_ok there.1.found [] (templates ts) there.1.whole none in
    let pieces : there.0 ≡ written text ts [] there.1.widths = there.1.pieces_are ∙ ap (λ xs. written text ts xs there.1.widths) same in
    (there.0, there.1, sym (ap (λ ps. joined ps []) pieces ∙ plain_bytes text ts _ there.1.widths reads))
