-- The text of a template's instances.
use Rattle.std.proofs.Common.{◌≡◌, ℕ, ◌<◌, ◌+◌, List, [], ◌∷◌, ◌++◌, length, get_or, drop, refl, sym, ◌∙◌, ap, arith, append_assoc}
use Rattle.std.specs.Prelude.{codes}
use Rattle.std.proofs.lemmas.List.{append-nil, drop_more}
use Rattle.lucid_lex.specs.Piece.{Piece}
use Rattle.lucid_lex.specs.Reading.{joined}
use Rattle.lucid_size.specs.declared.step.Step.{Step}
use Rattle.lucid_size.specs.Pieces.{gap, pieces_of}
use Rattle.lucid_size.specs.Expansion.{instance, instances}
use Rattle.lucid_size.proofs.Gaps.{joined-append, joined-rest}

-- ---- instances

-- the instances behind the first, each with a line feed before it
abbrev pub others : List ℕ → ℕ → List Step → List ℕ → List ℕ
others text m body [] = []
others text m body (n ∷ ns) = 10 ∷ (codes "fun " ++ (joined (pieces_of text m n body) [] ++ others text m body ns))

instance_bytes : (text : List ℕ) (m : ℕ) (body : List Step) (n : ℕ) (rest : List Piece) →
    joined (instance text m body n ++ rest) [] ≡ codes "fun " ++ (joined (pieces_of text m n body) [] ++ joined rest [])
instance_bytes text m body n rest =
    ap (λ l. codes "fun " ++ l) (joined-append (pieces_of text m n body) rest [] ∙ joined-rest (pieces_of text m n body) (joined rest []))

pub instances_bytes : (text : List ℕ) (m : ℕ) (body : List Step) (n : ℕ) (ns : List ℕ) →
    joined (instances text m body (n ∷ ns)) [] ≡ codes "fun " ++ (joined (pieces_of text m n body) [] ++ others text m body ns)
instances_bytes text m body n [] = ap (λ l. codes "fun " ++ l) (sym (append-nil (joined (pieces_of text m n body) [])))
instances_bytes text m body n (k ∷ ns) =
    instance_bytes text m body n (gap (codes "\n") ∷ instances text m body (k ∷ ns))
    ∙ ap (λ l. codes "fun " ++ (joined (pieces_of text m n body) [] ++ 10 ∷ l)) (instances_bytes text m body k ns)

-- the first is written
pub instances_begin : (text : List ℕ) (m : ℕ) (body : List Step) (ns : List ℕ) (d : ℕ) (out out' : List ℕ) → 0 < length ns →
    out' ≡ out ++ (codes "fun " ++ joined (pieces_of text m (get_or ns 0 d) body) []) →
    out' ++ others text m body (drop 1 ns) ≡ out ++ joined (instances text m body ns) []
instances_begin text m body [] d out out' some wrote = absurd (omega arith)
instances_begin text m body (n ∷ ns) d out out' some wrote =
    ap (λ l. l ++ others text m body ns) wrote
    ∙ append_assoc out (codes "fun " ++ joined (pieces_of text m n body) []) (others text m body ns)
    ∙ ap (λ l. out ++ l) (sym (instances_bytes text m body n ns))

-- one more is written
pub others_turn : (text : List ℕ) (m : ℕ) (body : List Step) (ns : List ℕ) (at d : ℕ) (out more : List ℕ) → at < length ns →
    more ≡ out ++ (codes "\nfun " ++ joined (pieces_of text m (get_or ns at d) body) []) →
    more ++ others text m body (drop (at + 1) ns) ≡ out ++ others text m body (drop at ns)
others_turn text m body ns at d out more within wrote =
    let written = codes "\nfun " ++ joined (pieces_of text m (get_or ns at d) body) [] in
    let rest = others text m body (drop (at + 1) ns) in
    ap (λ l. l ++ rest) wrote
    ∙ append_assoc out written rest
    ∙ ap (λ l. out ++ others text m body l) (sym (drop_more ns at d within))

-- without instances a line feed is written
pub no_instances : (text : List ℕ) (m : ℕ) (body : List Step) (ns : List ℕ) → length ns ≡ 0 →
    joined (instances text m body ns) [] ≡ codes "\n"
no_instances text m body [] none = refl
no_instances text m body (n ∷ ns) none = absurd (omega (arith, none))
