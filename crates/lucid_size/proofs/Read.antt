-- Every expanded text is read, and its tokens are those of its pieces.
use Rattle.std.proofs.Common.{◌≡◌, ℕ, zero, suc, ◌+◌, ◌<◌, ◌≤◌, ◌^◌, Bool, true, false, List, [], ◌∷◌, ◌++◌, length, Option, Some, None, refl, sym, subst, arith}
use Rattle.std.specs.Prelude.{slice_range, slice_get, unwrap_or, All, max}
use Rattle.std.specs.List.{Contains, flat_map}
use Rattle.std.proofs.lemmas.List.Elements.{All-nil, All-cons, All-head, All-tail, All-append, All-contains, All-contains_itself, All-weaker}
use Rattle.lucid_lex.specs.declared.token.Token.{Token}
use Rattle.lucid_lex.specs.Piece.{Piece}
use Rattle.lucid_lex.specs.Reading.{joined, Reads, tokens_from}
use Rattle.lucid_size.specs.declared.step.Form.{Form}
use Rattle.lucid_size.specs.declared.step.Form.TheVariants as forms
use Rattle.lucid_size.specs.declared.step.Instance.{Instance}
use Rattle.lucid_size.specs.declared.step.Step.{Step}
use Rattle.lucid_size.specs.declared.template.Template.{Template}
use Rattle.lucid_size.specs.Suffix.{run_of, underscores}
use Rattle.lucid_size.specs.Used.{Used, use_of, uses}
use Rattle.lucid_size.specs.Parts.{body_steps, bytes_at, end_before, named, names_of, outside_from, steps_between, steps_in}
use Rattle.lucid_size.specs.Expansion.{AreWidths, IsExpansion, UsedIn, written}
use Rattle.lucid_size.specs.Steps.{Width, use_at, width_at, or_width, form_at, more_of, steps_from}
use Rattle.lucid_size.proofs.Gaps.{AllLed, runs_read, reads_led}
use Rattle.lucid_size.proofs.Forms.{LedTo, use_is}
use Rattle.lucid_size.proofs.Whole.{AllSmall, IsPlaced, Placed, led_slice, written_run}
use Rattle.lucid_size.proofs.Placed.{templates_placed}

-- ---- the sizes of uses fit

abbrev SmallForm : Form → Type 0
SmallForm (forms.Use k (Some x)) = x < 2 ^ 64
SmallForm form = Unit {0}

abbrev SmallSteps : List Step → Type 0
SmallSteps [] = Unit {0}
SmallSteps (s ∷ ss) = SmallForm s.form × SmallSteps ss

SmallSteps-append : (ss us : List Step) → SmallSteps ss → SmallSteps us → SmallSteps (ss ++ us)
SmallSteps-append [] us h g = g
SmallSteps-append (s ∷ ss) us h g = (h.0, SmallSteps-append ss us h.1 g)

use_small : (form : Form) (k : ℕ) (size : Option ℕ) → form ≡ forms.Use k size → ((x : ℕ) → size ≡ Some x → x < 2 ^ 64) → SmallForm form
use_small form k None is small = subst SmallForm (sym is) tt
use_small form k (Some x) is small = subst SmallForm (sym is) (small x refl)

form_small : (text : List ℕ) (names : List (List ℕ)) (width : Width) (t : Token) (ts : List Token) (end : ℕ) (w : Bool) (o : Option Form) → LedTo text t.span.end ts end → use_at text names width (t ∷ ts) ≡ o → SmallForm (or_width w o)
form_small text names width t ts end w (Some form) led is = let found = use_is text names width t ts end form led is in use_small form found.number found.size found.is found.small
form_small text names width t ts end true None led is = tt
form_small text names width t ts end false None led is = tt

steps_small : (text : List ℕ) (names : List (List ℕ)) (width : Width) (at more : ℕ) (ts : List Token) (end : ℕ) → LedTo text at ts end → SmallSteps (steps_from text names width at more ts)
steps_small text names width at more [] end led = tt
steps_small text names width at (suc more) (t ∷ ts) end led = steps_small text names width t.span.end more ts end led.1
steps_small text names width at zero (t ∷ ts) end led = (
  form_small text names width t ts end (width_at text width (t ∷ ts)) (use_at text names width (t ∷ ts)) led.1 refl,
  steps_small text names width t.span.end (more_of (form_at text names width (t ∷ ts))) ts end led.1,
)

named_small : (at : ℕ) (ts : List Token) → SmallSteps (Rattle.std.specs.Prelude.map (λ t. record { from = at; token = t; form = forms.Named }) ts)
named_small at [] = tt
named_small at (t ∷ ts) = (tt, named_small at ts)

module _ (text : List ℕ) (ts : List Token) (names : List (List ℕ)) (led : AllLed text 0 ts) where
  between_small : (width : Width) (i j : ℕ) → i ≤ j → j ≤ length ts → SmallSteps (steps_between text names width ts i j)
  between_small width i j order within = steps_small text names width (end_before i ts) 0 (slice_range ts i j) (end_before j ts) (led_slice text ts i j led order within)

  body_small : (x : Template) → IsPlaced ts x → SmallSteps (body_steps text names ts x)
  body_small x p =
      let width : Width = Some (bytes_at text ts (x.first + 2)) in
      let b = p.before in
      let o = p.order in
      let w = p.within in
      SmallSteps-append (steps_between text names width ts (x.first + 4) x.name) _ (between_small width (x.first + 4) x.name b (omega arith))
      (SmallSteps-append (named ts x.name) _ (named_small (end_before x.name ts) (slice_range ts x.name (x.name + 1))) (between_small width (x.name + 1) x.end (omega arith) w))

  outside_small : (i : ℕ) (xs : List Template) → Placed ts i xs → SmallSteps (outside_from text names ts i xs)
  outside_small i [] placed = between_small None i (length ts) placed (omega arith)
  outside_small i (x ∷ xs) placed =
      let p = placed.1 in
      let b = p.before in
      let o = p.order in
      let w = p.within in
      SmallSteps-append (steps_between text names None ts i x.first) _ (between_small None i x.first placed.0 (omega arith)) (outside_small x.end xs placed.2)

  in_small : (i k : ℕ) (xs : List Template) → Placed ts i xs → SmallSteps (steps_in text names ts (slice_get xs k))
  in_small i k [] placed = tt
  in_small i zero (x ∷ xs) placed = body_small x placed.1
  in_small i (suc k) (x ∷ xs) placed = in_small x.end k xs placed.2

abbrev IsSmall : Instance → Type 0
IsSmall i = i.width < 2 ^ 64

use_of_small : (w : ℕ) (form : Form) → w < 2 ^ 64 → SmallForm form → All IsSmall (use_of w form)
use_of_small w forms.Kept small is = All-nil IsSmall
use_of_small w forms.Width small is = All-nil IsSmall
use_of_small w forms.Named small is = All-nil IsSmall
use_of_small w (forms.Use k None) small is = All-cons IsSmall (record { template = k; width = w }) [] small (All-nil IsSmall)
use_of_small w (forms.Use k (Some x)) small is = All-cons IsSmall (record { template = k; width = x }) [] is (All-nil IsSmall)

uses_small : (w : ℕ) (ss : List Step) → w < 2 ^ 64 → SmallSteps ss → All IsSmall (uses w ss)
uses_small w [] small is = All-nil IsSmall
uses_small w (s ∷ ss) small is = All-append IsSmall (use_of w s.form) (uses w ss) (use_of_small w s.form small is.0) (uses_small w ss small is.1)

-- the widths of used instances fit
used_small : (outside : List Step) (body : ℕ → List Step) → SmallSteps outside → ((k : ℕ) → SmallSteps (body k)) → (k n : ℕ) → Used outside body k n → n < 2 ^ 64
used_small outside body out within k n (Used.Outside _ _ has) = All-contains IsSmall (uses 0 outside) (record { template = k; width = n }) (uses_small 0 outside (omega arith) out) has
used_small outside body out within k n (Used.Within j w _ _ before has) =
    All-contains IsSmall (uses w (body j)) (record { template = k; width = n }) (uses_small w (body j) (used_small outside body out within j w before) (within j)) has

all_small : (ns : List ℕ) → All (λ n. n < 2 ^ 64) ns → AllSmall ns
all_small [] all = tt
all_small (n ∷ ns) all = (All-head (λ n. n < 2 ^ 64) n ns all, all_small ns (All-tail (λ n. n < 2 ^ 64) n ns all))

-- the text of an expansion is read as its tokens
pub expansion_reads : (text : List ℕ) (ts : List Token) (pieces : List Piece) → Reads text ts → IsExpansion text ts pieces → Reads (joined pieces []) (tokens_from 0 pieces)
expansion_reads text ts pieces reads is =
    let led = reads_led text ts reads in
    let placed = templates_placed ts is.found is.whole in
    let names = names_of text ts is.found in
    let small : (k : ℕ) → AllSmall (is.widths k) = λ k. all_small (is.widths k) (All-weaker (Contains (is.widths k)) (λ n. n < 2 ^ 64)
    (λ n has. used_small (outside_from text names ts 0 is.found) (λ j. steps_in text names ts (slice_get is.found j)) (outside_small text ts names led 0 is.found placed) (λ j. in_small text ts names led 0 j is.found placed) k n (is.are_widths.used k n has))
    (is.widths k) (All-contains_itself (is.widths k))) in
    let most = Rattle.std.specs.List.fold (λ m t. max m (run_of text t)) 0 ts in
    let one : suc most ≡ underscores text ts = omega arith in
    let run = (written_run text ts most names led is.found 0 0 is.widths placed small).0 in
    let runs = subst (λ m. Rattle.lucid_size.proofs.Gaps.AllRun (Rattle.lucid_size.specs.Expansion.written_from text ts m names is.widths 0 0 is.found)) one run in
    subst (λ ps. Reads (joined ps []) (tokens_from 0 ps)) (sym is.pieces_are) (runs_read (written text ts is.found is.widths) runs)
