use Rattle.std.proofs.Common.{◌≡◌, [], ◌∷◌, ◌++◌, if◌then◌else◌, sym, ap, ◌∙◌}
use Rattle.lucid_tables.specs.declared.table.Row.{Row}
use Rattle.lucid_merge.specs.Product.{pair, keep}
use Rattle.lucid_merge.proofs.Keeping.{kept_by, offered_now}
use Rattle.lucid_merge.proofs.offer.offer.Goals as goal
use Rattle.lucid_merge.proofs.offer.offer.Goals.{then-not-cover+in_ok-pair+in_ok-push, else-not-cover}

pub returns-clause-offered : goal.returns-clause-offered
returns-clause-offered g c =
    let kept = c.args.kept.now in
    let made = pair c.args.a.now c.args.b.now in
    let whole = kept_by kept c.args.a.now c.args.b.now c.as_slice-p.result.now c.as_slice-q.result.now c.cover.result c.as_slice-p.ensures c.as_slice-q.ensures c.cover.ensures.value in
    let is : c.if-not-cover.kept ≡ keep kept made =
    elim c.if-not-cover.branch [
      | then-not-cover+in_ok-pair+in_ok-push w ↦
          w.kept-is ∙ w.in_ok-push.ensures ∙ ap (λ (r : Row). kept ++ r ∷ []) w.in_ok-pair.ensures
          ∙ sym (ap (λ t. if t then kept else kept ++ made ∷ []) w.if-not-cover.true) ∙ whole
      | else-not-cover w ↦ w.kept-is ∙ sym (ap (λ t. if t then kept else kept ++ made ∷ []) w.if-not-cover.false) ∙ whole
    ] in
    offered_now c.args.most c.len.result c.if-not-cover.kept (keep kept made) is c.len.ensures
