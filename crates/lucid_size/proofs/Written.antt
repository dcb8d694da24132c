-- The whole expansion, written part by part.
use Rattle.std.proofs.Common.{◌≡◌, ℕ, zero, suc, ◌+◌, ◌<◌, ◌≤◌, List, [], ◌∷◌, ◌++◌, length, get_or, drop, None, refl, sym, ◌∙◌}
use Rattle.std.proofs.Common.{ap, arith, append_assoc}
use Rattle.std.specs.Prelude.{map}
use Rattle.std.proofs.lemmas.List.{append-nil, drop_more}
use Rattle.lucid_lex.specs.declared.token.Token.{Token}
use Rattle.lucid_lex.specs.Piece.{Piece}
use Rattle.lucid_lex.specs.Reading.{joined}
use Rattle.lucid_size.specs.declared.step.Step.{Step}
use Rattle.lucid_size.specs.declared.template.Template.{Template}
use Rattle.lucid_size.specs.Pieces.{pieces_of}
use Rattle.lucid_size.specs.Parts.{body_steps, gap_before, steps_between}
use Rattle.lucid_size.specs.Expansion.{instances, written_from}
use Rattle.lucid_size.proofs.InText.{past}
use Rattle.lucid_size.proofs.Gaps.{joined-append, joined-rest}

pub joined_both : (ps qs : List Piece) → joined (ps ++ qs) [] ≡ joined ps [] ++ joined qs []
joined_both ps qs = joined-append ps qs [] ∙ joined-rest ps (joined qs [])

pub get_map : {X Y : Type 0} (f : X → Y) (xs : List X) (k : ℕ) (d : X) (e : Y) → k < length xs → get_or (map f xs) k e ≡ f (get_or xs k d)
get_map f [] k d e within = absurd (omega arith)
get_map f (x ∷ xs) zero d e within = refl
get_map f (x ∷ xs) (suc k) d e within = get_map f xs k d e (omega arith)

module _ (text : List ℕ) (ts : List Token) (m : ℕ) (names : List (List ℕ)) (widths : ℕ → List ℕ) where
  pub first_bytes : (i k : ℕ) (x : Template) (xs : List Template) → joined (written_from text ts m names widths i k (x ∷ xs)) []
      ≡ joined (pieces_of text m 0 (steps_between text names None ts i x.first)) []
      ++ ((gap_before text ts x.first).bytes
      ++ (joined (instances text m (body_steps text names ts x) (widths k)) []
      ++ joined (written_from text ts m names widths x.end (k + 1) xs) []))
  first_bytes i k x xs =
      let P = pieces_of text m 0 (steps_between text names None ts i x.first) in
      let I = instances text m (body_steps text names ts x) (widths k) in
      let W = written_from text ts m names widths x.end (k + 1) xs in
      joined_both P (gap_before text ts x.first ∷ (I ++ W))
      ∙ ap (λ l. joined P [] ++ ((gap_before text ts x.first).bytes ++ l)) (joined_both I W)

  pub last_bytes : (i k : ℕ) →
      joined (written_from text ts m names widths i k []) []
      ≡ joined (pieces_of text m 0 (steps_between text names None ts i (length ts))) [] ++ (gap_before text ts (length ts)).bytes
  last_bytes i k =
      let P = pieces_of text m 0 (steps_between text names None ts i (length ts)) in
      joined_both P (gap_before text ts (length ts) ∷ []) ∙ ap (λ l. joined P [] ++ l) (append-nil (gap_before text ts (length ts)).bytes)

  pub whole_turn : (i at : ℕ) (xs : List Template) (x : Template) (body : List Step) (row out b c : List ℕ) →
      at < length xs → x ≡ get_or xs at x → body ≡ body_steps text names ts x → row ≡ widths at →
      b ≡ out ++ (joined (pieces_of text m 0 (steps_between text names None ts i x.first)) [] ++ (gap_before text ts x.first).bytes) →
      c ≡ b ++ joined (instances text m body row) [] →
      c ++ joined (written_from text ts m names widths x.end (at + 1) (drop (at + 1) xs)) []
      ≡ out ++ joined (written_from text ts m names widths i at (drop at xs)) []
  whole_turn i at xs x body row out b c within is body_is row_is' wrote_b wrote_c =
      let P = joined (pieces_of text m 0 (steps_between text names None ts i x.first)) [] in
      let g = (gap_before text ts x.first).bytes in
      let I = joined (instances text m (body_steps text names ts x) (widths at)) [] in
      let W = joined (written_from text ts m names widths x.end (at + 1) (drop (at + 1) xs)) [] in
      let front' = out ++ (P ++ g) in
      let c_is : c ≡ front' ++ I =
      wrote_c ∙ ap (λ l. l ++ joined (instances text m body row) []) wrote_b
      ∙ ap (λ ss. front' ++ joined (instances text m ss row) []) body_is
      ∙ ap (λ r. front' ++ joined (instances text m (body_steps text names ts x) r) []) row_is' in
      let front : drop at xs ≡ x ∷ drop (at + 1) xs = drop_more xs at x within ∙ ap (λ y. y ∷ drop (at + 1) xs) (sym is) in
      ap (λ l. l ++ W) c_is
      ∙ append_assoc front' I W
      ∙ append_assoc out (P ++ g) (I ++ W)
      ∙ ap (λ l. out ++ l) (append_assoc P g (I ++ W))
      ∙ ap (λ l. out ++ l) (sym (first_bytes i at x (drop (at + 1) xs)))
      ∙ ap (λ l. out ++ joined (written_from text ts m names widths i at l) []) (sym front)

  pub whole_end : (i at : ℕ) (xs : List Template) (out b all : List ℕ) → length xs ≤ at →
      b ≡ out ++ (joined (pieces_of text m 0 (steps_between text names None ts i (length ts))) []
      ++ (gap_before text ts (length ts)).bytes) →
      out ++ joined (written_from text ts m names widths i at (drop at xs)) [] ≡ all → b ≡ all
  whole_end i at xs out b all end wrote_b left =
      wrote_b
      ∙ ap (λ l. out ++ l) (sym (last_bytes i at))
      ∙ ap (λ l. out ++ joined (written_from text ts m names widths i at l) []) (sym (past xs at end))
      ∙ left

pub body_at_is : (text : List ℕ) (names : List (List ℕ)) (ts : List Token) (xs : List Template) (bodies : List (List Step)) (at : ℕ)
    (x : Template) (b : List Step) → bodies ≡ map (body_steps text names ts) xs → at < length xs → x ≡ get_or xs at x →
    b ≡ get_or bodies at b →
    b ≡ body_steps text names ts x
body_at_is text names ts xs bodies at x b are within x_is b_is =
    b_is ∙ ap (λ l. get_or l at b) are ∙ get_map (body_steps text names ts) xs at x b within ∙ ap (body_steps text names ts) (sym x_is)
