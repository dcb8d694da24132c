-- How many bytes the steps have, and that the used instances are a list.
use Rattle.std.proofs.Common.{◌≡◌, ℕ, zero, suc, ◌+◌, ◌-◌, ◌<◌, ◌≤◌, ◌⊎◌, List, [], ◌∷◌, ◌++◌, length, get_or, drop, Some, None, refl, sym, ◌∙◌, ap, subst, inl, inr, ⊎_elim, arith, length-append, length-drop}
use Rattle.std.specs.Prelude.{All, slice_range, codes, decimal, unwrap_or}
use Rattle.std.specs.List.{Contains, IsDistinct, flat_map, repeat, sum_by}
use Rattle.std.proofs.str.Laws.{order}
use Rattle.std.proofs.lemmas.List.{length-take-le}
use Rattle.std.proofs.lemmas.List.Elements.{All-cons, All-head, All-tail, All-contains, Contains-append_left, Contains-append_right}
use Rattle.std.proofs.lemmas.List.Sums.{sum_by-cons}
use Rattle.lucid_lex.specs.Reading.{joined}
use Rattle.lucid_size.specs.declared.step.Form.{Form}
use Rattle.lucid_size.specs.declared.step.Form.TheVariants as forms
use Rattle.lucid_size.specs.declared.step.Instance.{Instance}
use Rattle.lucid_size.specs.declared.step.Step.{Step}
use Rattle.lucid_size.specs.Suffix.{suffix}
use Rattle.lucid_size.specs.Pieces.{pieces_of, step_pieces}
use Rattle.lucid_size.specs.Used.{Used, use_of, uses}
use Rattle.lucid_size.specs.Places.{InText}
use Rattle.lucid_size.specs.Search.{AreUsed, AreWithin, IsUsed, Searching, body_in, same_instance, with_all}
use Rattle.lucid_size.specs.Bytes.{form_bytes, form_len, step_len, steps_len}
use Rattle.lucid_size.proofs.Bytes.{step_bytes, pieces_step}
use Rattle.lucid_size.proofs.Closed.{all_looked, looked, searching, sum_within}

-- ---- bytes

length-repeat : (m : ℕ) → length (repeat {A = ℕ} m (95 ∷ [])) ≡ m
length-repeat zero = refl
length-repeat (suc m) = ap suc (length-repeat m)

suffix_length : (m n : ℕ) → length (suffix m n) ≡ m + length (decimal n)
suffix_length m n = length-append (repeat m (95 ∷ [])) (decimal n) ∙ ap (λ k. k + length (decimal n)) (length-repeat m)

form_length : (m width : ℕ) (form : Form) → length (form_bytes m width form) ≡ form_len m width form
form_length m width forms.Kept = refl
form_length m width forms.Width = length-append (decimal width) (codes ">>")
form_length m width forms.Named = suffix_length m width
form_length m width (forms.Use k size) = length-append (suffix m (unwrap_or size width)) (codes "(") ∙ ap (λ n. n + 1) (suffix_length m (unwrap_or size width))

step_length : (text : List ℕ) (m width : ℕ) (s : Step) → InText text s → length (joined (step_pieces text m width s) []) ≡ step_len m width s
step_length text m width s inside =
    let room : s.token.span.end - s.from ≤ length (drop s.from text) = let g = inside.gap in let t = inside.token in let w = inside.within in omega (arith, length-drop s.from text) in
    ap length (sym (step_bytes text m width s inside))
    ∙ length-append (slice_range text s.from s.token.span.end) (form_bytes m width s.form)
    ∙ ap (λ n. n + length (form_bytes m width s.form)) (length-take-le (s.token.span.end - s.from) (drop s.from text) room)
    ∙ ap (λ n. (s.token.span.end - s.from) + n) (form_length m width s.form)

-- the steps have as many bytes as their pieces
pub steps_length : (text : List ℕ) (m width : ℕ) (ss : List Step) → All (InText text) ss → length (joined (pieces_of text m width ss) []) ≡ steps_len m width ss
steps_length text m width [] inside = refl
steps_length text m width (s ∷ ss) inside =
    ap length (pieces_step text m width s ss)
    ∙ length-append (joined (step_pieces text m width s) []) (joined (pieces_of text m width ss) [])
    ∙ ap (λ n. n + length (joined (pieces_of text m width ss) [])) (step_length text m width s (All-head (InText text) s ss inside))
    ∙ ap (λ n. step_len m width s + n) (steps_length text m width ss (All-tail (InText text) s ss inside))
    ∙ sym (sum_by-cons (step_len m width) s ss)

-- ---- all used instances are a list

-- the sizes in steps
abbrev sizes_of : Form → List ℕ
sizes_of (forms.Use k (Some n)) = n ∷ []
sizes_of form = []

abbrev sizes : List Step → List ℕ
sizes ss = flat_map (λ s. sizes_of s.form) ss

abbrev all_sizes : List (List Step) → List ℕ
all_sizes [] = []
all_sizes (ss ∷ rest) = sizes ss ++ all_sizes rest

-- the candidates, one by one
abbrev pub row : List ℕ → ℕ → List Instance
row [] k = []
row (w ∷ ws) k = record { template = k; width = w } ∷ row ws k

abbrev rows : ℕ → List ℕ → List Instance
rows zero ws = []
rows (suc n) ws = row ws n ++ rows n ws

pub in_row : (ws : List ℕ) (k w : ℕ) → Contains ws w → Contains (row ws k) (record { template = k; width = w })
in_row [] k w has = absurd (let e = has.1 in omega arith)
in_row (x ∷ ws) k w (zero, within, is) = (zero, omega arith, ap (λ v. record { template = k; width = v }) is)
in_row (x ∷ ws) k w (suc j, within, is) = let later = in_row ws k w (j, omega arith, is) in (suc later.0, let h = later.1 in omega arith, later.2)

in_rows : (n : ℕ) (ws : List ℕ) (k w : ℕ) → k < n → Contains ws w → Contains (rows n ws) (record { template = k; width = w })
in_rows zero ws k w low has = absurd (omega arith)
in_rows (suc n) ws k w low has = ⊎_elim
    (λ below. Contains-append_right (row ws n) (rows n ws) (record { template = k; width = w }) (in_rows n ws k w below has))
    (λ top. let same : n ≡ k = omega arith in Contains-append_left (row ws n) (rows n ws) (record { template = k; width = w }) (subst (λ j. Contains (row ws j) (record { template = k; width = w })) (sym same) (in_row ws k w has)))
    (order k n)

-- a use has the width of the instance, or a size of the steps
abbrev FromSteps : ℕ → List ℕ → Instance → Type 0
FromSteps w ns i = (i.width ≡ w) ⊎ Contains ns i.width

from_more : (w : ℕ) (ms ns : List ℕ) (xs : List Instance) → All (FromSteps w ns) xs → All (FromSteps w (ms ++ ns)) xs
from_more w ms ns xs all = Rattle.std.proofs.lemmas.List.Elements.All-weaker (FromSteps w ns) (FromSteps w (ms ++ ns)) (λ i. weaker i) xs all
  where
    weaker : (i : Instance) → FromSteps w ns i → FromSteps w (ms ++ ns) i
    weaker i (inl e) = inl e
    weaker i (inr has) = inr (Contains-append_right ms ns i.width has)

from_form : (w : ℕ) (form : Form) (ns : List ℕ) (xs : List Instance) → All (FromSteps w ns) xs → All (FromSteps w (sizes_of form ++ ns)) (use_of w form ++ xs)
from_form w forms.Kept ns xs all = all
from_form w forms.Width ns xs all = all
from_form w forms.Named ns xs all = all
from_form w (forms.Use k None) ns xs all = All-cons (FromSteps w ns) (record { template = k; width = w }) xs (inl refl) all
from_form w (forms.Use k (Some n)) ns xs all = All-cons (FromSteps w (n ∷ ns)) (record { template = k; width = n }) xs (inr (zero, omega arith, refl)) (from_more w (n ∷ []) ns xs all)

from_steps : (w : ℕ) (ss : List Step) → All (FromSteps w (sizes ss)) (uses w ss)
from_steps w [] = Rattle.std.proofs.lemmas.List.Elements.All-nil (FromSteps w [])
from_steps w (s ∷ ss) = from_form w s.form (sizes ss) (uses w ss) (from_steps w ss)

sizes_in : (bodies : List (List Step)) (k n : ℕ) → Contains (sizes (body_in bodies k)) n → Contains (all_sizes bodies) n
sizes_in [] k n has = absurd (let e = has.1 in omega arith)
sizes_in (ss ∷ rest) zero n has = Contains-append_left (sizes ss) (all_sizes rest) n has
sizes_in (ss ∷ rest) (suc k) n has = Contains-append_right (sizes ss) (all_sizes rest) n (sizes_in rest k n has)

within_at : (n : ℕ) (bodies : List (List Step)) (k : ℕ) → All (AreWithin n) bodies → AreWithin n (body_in bodies k)
within_at n [] k all = λ w. Rattle.std.proofs.lemmas.List.Elements.All-nil (λ i. i.template < n)
within_at n (ss ∷ rest) zero all = All-head (AreWithin n) ss rest all
within_at n (ss ∷ rest) (suc k) all = within_at n rest k (All-tail (AreWithin n) ss rest all)

ones : (xs : List Instance) → sum_by (λ _. 1) xs ≡ length xs
ones [] = refl
ones (x ∷ xs) = let later = ones xs in omega (arith, sum_by-cons (λ (i : Instance). 1) x xs)

get_same : (xs : List Instance) (k : ℕ) (d e : Instance) → k < length xs → get_or xs k d ≡ get_or xs k e
get_same [] k d e within = absurd (omega arith)
get_same (x ∷ xs) zero d e within = refl
get_same (x ∷ xs) (suc k) d e within = get_same xs k d e (omega arith)

module _ (outside : List Step) (bodies : List (List Step)) (out_within : AreWithin (length bodies) outside) (within : All (AreWithin (length bodies)) bodies) where
  widths_of : List ℕ
  widths_of = 0 ∷ (sizes outside ++ all_sizes bodies)

  candidate_by : (w : ℕ) (ss : List Step) (i : Instance) → Contains widths_of w → ((n : ℕ) → Contains (sizes ss) n → Contains widths_of n) → Contains (uses w ss) i → Contains widths_of i.width
  candidate_by w ss i has each use_has = by_case (All-contains (FromSteps w (sizes ss)) (uses w ss) i (from_steps w ss) use_has)
    where
      by_case : FromSteps w (sizes ss) i → Contains widths_of i.width
      by_case (inl e) = subst (Contains widths_of) (sym e) has
      by_case (inr there) = each i.width there

  candidate : (k w : ℕ) → Used outside (body_in bodies) k w → (k < length bodies) × Contains widths_of w
  unfolding widths_of
  candidate k w (Used.Outside _ _ has) = (
    All-contains (λ i. i.template < length bodies) (uses 0 outside) (record { template = k; width = w }) (out_within 0) has,
    candidate_by 0 outside (record { template = k; width = w }) (zero, omega arith, refl) (λ n there. Contains-append_right (0 ∷ []) (sizes outside ++ all_sizes bodies) n (Contains-append_left (sizes outside) (all_sizes bodies) n there)) has,
  )
  candidate k w (Used.Within j v _ _ before has) =
      let earlier = candidate j v before in (
        All-contains (λ i. i.template < length bodies) (uses v (body_in bodies j)) (record { template = k; width = w }) (within_at (length bodies) bodies j within v) has,
        candidate_by v (body_in bodies j) (record { template = k; width = w }) earlier.1 (λ n there. Contains-append_right (0 ∷ []) (sizes outside ++ all_sizes bodies) n (Contains-append_right (sizes outside) (all_sizes bodies) n (sizes_in bodies j n there))) has,
      )

  few : (found : List Instance) (at : ℕ) → Searching outside bodies found at → length found ≤ length (rows (length bodies) widths_of)
  few found at s =
      let sum = sum_within (λ _. 1) found (rows (length bodies) widths_of) s.distinct (λ x has.
      let c = candidate x.template x.width (All-contains (IsUsed outside bodies) found x s.used has) in
      in_rows (length bodies) widths_of x.template x.width c.0 c.1) in
      omega (arith, sum, ones found, ones (rows (length bodies) widths_of))

  next_is : (at : ℕ) (found : List Instance) → at < length found → Searching outside bodies found at →
      let i = get_or found at (record { template = 0; width = 0 }) in Searching outside bodies (with_all found (uses i.width (body_in bodies i.template))) (at + 1)
  next_is at found here s =
      let i = get_or found at (record { template = 0; width = 0 }) in
      looked outside bodies found (with_all found (uses i.width (body_in bodies i.template))) at i s here (get_same found at (record { template = 0; width = 0 }) i here) (within_at (length bodies) bodies i.template within) refl

  -- looking into one after another ends
  ends : (fuel at : ℕ) (found : List Instance) → Searching outside bodies found at → length (rows (length bodies) widths_of) ≤ at + fuel → (all : List Instance) × AreUsed outside bodies all × IsDistinct same_instance all
  ends zero at found s enough = ⊎_elim
      (λ here. absurd (let most = few found at s in omega arith))
      (λ past. (found, all_looked outside bodies found at s past, s.distinct))
      (order at (length found))
  ends (suc fuel) at found s enough = ⊎_elim
      (λ here. ends fuel (at + 1) (with_all found (uses (get_or found at (record { template = 0; width = 0 })).width (body_in bodies (get_or found at (record { template = 0; width = 0 })).template))) (next_is at found here s) (omega arith))
      (λ past. (found, all_looked outside bodies found at s past, s.distinct))
      (order at (length found))

  -- the used instances are a list, each of them once
  pub used_are_listed : (all : List Instance) × AreUsed outside bodies all × IsDistinct same_instance all
  used_are_listed = ends (length (rows (length bodies) widths_of)) 0 (with_all [] (uses 0 outside)) (searching outside bodies out_within (with_all [] (uses 0 outside)) refl) (omega arith)

  -- only templates that are there are used
  pub used_low : (k w : ℕ) → Used outside (body_in bodies) k w → k < length bodies
  used_low k w used = (candidate k w used).0
