-- Operations that are added one after another.
use Rattle.std.proofs.Common.{◌≡◌, List, [], ◌∷◌, ◌++◌, map, refl, ap, sym, ◌∙◌}
use Rattle.std.proofs.lemmas.List.{append-nil, append_assoc, map-append}
use Rattle.lucid_code.specs.declared.op.Literal.{Literal}
use Rattle.lucid_code.specs.declared.op.Op.{Op}
use Rattle.lucid_normal_steps.specs.Added.{added, under}
use Rattle.lucid_normal_spec.specs.Translate.{guarded}

pub added_more : (guard : List Literal) (ops a b : List Op) → added guard (added guard ops a) b ≡ added guard ops (a ++ b)
added_more guard ops a b = append_assoc ops _ _ ∙ ap (λ l. ops ++ l) (sym (map-append (under guard) a b))

pub added_none : (guard : List Literal) (ops a : List Op) → added guard ops (a ++ []) ≡ added guard ops a
added_none guard ops a = ap (added guard ops) (append-nil a)

under_guarded : (guard : List Literal) (l : Literal) (ops : List Op) → map (under (guard ++ l ∷ [])) ops ≡ map (under guard) (map (guarded l) ops)
under_guarded guard l [] = refl
under_guarded guard l (o ∷ ops) =
    let rest = under_guarded guard l ops in
    let head : under (guard ++ l ∷ []) o ≡ under guard (guarded l o) = ap (λ g. record o { guard = g }) (append_assoc guard (l ∷ []) o.guard) in
    cc

pub added_guarded : (guard : List Literal) (l : Literal) (ops more : List Op) → added (guard ++ l ∷ []) ops more ≡ added guard ops (map (guarded l) more)
added_guarded guard l ops more = ap (λ x. ops ++ x) (under_guarded guard l more)

pub ruleset adding = (added_more, added_none, added_guarded)
