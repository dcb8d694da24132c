-- Parts are put together from the back, and neighbours may be joined before.
use Rattle.std.proofs.Common.{◌≡◌, List, [], ◌∷◌, ◌++◌, Option, None, Some, append_assoc, refl, sym, ap, ◌∙◌}
use Rattle.lucid_core.specs.declared.body.Stmt.{Stmt}
use Rattle.lucid_core.specs.declared.ending.Ending.{Ending}
use Rattle.lucid_core.specs.declared.ending.Ending.TheVariants.{Never, Sometimes, Always}
use Rattle.lucid_core.specs.Typing.{◌>>=◌}
use Rattle.lucid_types_spec.specs.Block.{before}
use Rattle.lucid_types_spec.specs.declared.body.Body.{Body}
use Rattle.lucid_types_laws.specs.declared.part.Part.{Part}
use Rattle.lucid_types_laws.specs.declared.part.Part.TheVariants.{Does}
use Rattle.lucid_types_laws.specs.Partial.{when}
use Rattle.lucid_types_laws.specs.Statement.{goes_on, onto, put}
use Rattle.lucid_types_statements.specs.Assembly.{HaveTheEffect}

pub onto_last : (ps : List Part) (p : Part) (o : Option Body) → onto (ps ++ p ∷ []) o ≡ (put p o >>= (λ b. onto ps (Some b)))
onto_last [] p o = refl
onto_last (q ∷ qs) p o = ap (λ r. r >>= (λ rest. put q rest >>= (λ b. Some (Some b)))) (onto_last qs p o) ∙ joined (put p o)
  where
    joined : (r : Option Body) → ((r >>= (λ b. onto qs (Some b))) >>= (λ rest. put q rest >>= (λ b. Some (Some b)))) ≡ (r >>= (λ b. onto (q ∷ qs) (Some b)))
    joined None = refl
    joined (Some b) = refl

onto_more : (ps qs : List Part) (o : Option Body) → onto (ps ++ qs) o ≡ (onto qs o >>= onto ps)
onto_more [] qs o = ends (onto qs o)
  where
    ends : (r : Option (Option Body)) → r ≡ (r >>= (λ b. Some b))
    ends None = refl
    ends (Some b) = refl
onto_more (p ∷ ps) qs o = ap (λ r. r >>= (λ rest. put p rest >>= (λ b. Some (Some b)))) (onto_more ps qs o) ∙ joined (onto qs o)
  where
    joined : (r : Option (Option Body)) → ((r >>= onto ps) >>= (λ rest. put p rest >>= (λ b. Some (Some b)))) ≡ (r >>= onto (p ∷ ps))
    joined None = refl
    joined (Some b) = refl

-- Steps that go on, and those of the body behind them.
joined_once : (xs : List Stmt) (b : Body) (o : Option Body) →
    (put (Does b) o >>= (λ c. put (Does (record { steps = xs; ending = Never })) (Some c))) ≡ put (Does (before xs b)) o
joined_once xs b None = refl
joined_once xs b (Some c) = by b.ending
  where
    by : (e : Ending) → (when (goes_on e) (Some (before b.steps c)) >>= (λ d. Some (before xs d))) ≡ when (goes_on e) (Some (before (xs ++ b.steps) c))
    by Never = ap (λ (ss : List Stmt). Some (record c { steps = ss })) (sym (append_assoc xs b.steps c.steps))
    by Sometimes = refl
    by Always = refl

joined_two : (xs : List Stmt) (b : Body) (more : List Part) (o : Option Body) →
    onto (Does (record { steps = xs; ending = Never }) ∷ Does b ∷ more) o ≡ onto (Does (before xs b) ∷ more) o
joined_two xs b more o = by (onto more o)
  where
    wrapped : (r : Option Body) → ((r >>= (λ c. Some (Some c))) >>= (λ rest. put (Does (record { steps = xs; ending = Never })) rest >>= (λ d. Some (Some d))))
        ≡ ((r >>= (λ c. put (Does (record { steps = xs; ending = Never })) (Some c))) >>= (λ d. Some (Some d)))
    wrapped None = refl
    wrapped (Some c) = refl

    by : (r : Option (Option Body)) →
        ((r >>= (λ rest. put (Does b) rest >>= (λ c. Some (Some c)))) >>= (λ rest. put (Does (record { steps = xs; ending = Never })) rest >>= (λ d. Some (Some d))))
        ≡ (r >>= (λ rest. put (Does (before xs b)) rest >>= (λ d. Some (Some d))))
    by None = refl
    by (Some rest) = wrapped (put (Does b) rest) ∙ ap (λ (r : Option Body). r >>= (λ d. Some (Some d))) (joined_once xs b rest)

pub joined_effect : (ps : List Part) (last b : Body) → last.ending ≡ Never →
    HaveTheEffect (ps ++ Does (before last.steps b) ∷ []) ((ps ++ Does last ∷ []) ++ Does b ∷ [])
joined_effect ps last b never more o =
    ap (λ (qs : List Part). onto qs o) (append_assoc ps (Does (before last.steps b) ∷ []) more)
    ∙ onto_more ps (Does (before last.steps b) ∷ more) o
    ∙ ap (λ (r : Option (Option Body)). r >>= onto ps) (sym (joined_two last.steps b more o)
    ∙ ap (λ (e : Ending). onto (Does (record { steps = last.steps; ending = e }) ∷ Does b ∷ more) o) (sym never))
    ∙ sym (onto_more ps (Does last ∷ Does b ∷ more) o)
    ∙ ap (λ (qs : List Part). onto qs o) (sym (ap (λ (qs : List Part). qs ++ more) (append_assoc ps (Does last ∷ []) (Does b ∷ [])) ∙ append_assoc ps (Does last ∷ Does b ∷ []) more))

pub same_effect : (ps qs : List Part) → ps ≡ qs → HaveTheEffect ps qs
same_effect ps qs e more o = ap (λ (rs : List Part). onto (rs ++ more) o) e
