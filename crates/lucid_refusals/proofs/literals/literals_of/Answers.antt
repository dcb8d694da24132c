use Rattle.std.proofs.Common.{◌∷◌, ◌+◌, ◌∙◌, ap, drop, sym}
use Rattle.std.specs.List.{fold}
use Rattle.std.proofs.lemmas.List.{drop_all, drop_more}
use Rattle.lucid_merge.specs.Product.{with_literal}
use Rattle.lucid_merge.specs.RowCounts.{patterns_of}
use Rattle.lucid_refusals.proofs.literals.literals_of.Goals as goal

pub loop-row-preserved : goal.loop-row-preserved
loop-row-preserved c =
    let l = c.loop-row in
    let rows = c.args.rows.now in
    ap (λ ls. fold (fold with_literal) ls (patterns_of (drop (l.row-index + 1) rows))) (c.in_ok-put_literals.ensures ∙ ap (fold with_literal l.literals) c.as_slice.ensures)
    ∙ sym (ap (λ rs. fold (fold with_literal) l.literals (patterns_of rs)) (drop_more rows l.row-index c.row-item.result c.loop-row-test.true ∙ ap (λ r. r ∷ drop (l.row-index + 1) rows) (sym c.row-item.is)))
    ∙ l.invariant

pub returns : goal.returns
returns c =
    let l = c.loop-row in
    sym (ap (λ rs. fold (fold with_literal) l.literals (patterns_of rs)) (drop_all l.row-index c.args.rows.now c.loop-row-test.false)) ∙ l.invariant
