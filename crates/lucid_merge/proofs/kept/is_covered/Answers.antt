use Rattle.std.proofs.Common.{◌≡◌, ◌+◌, ◌||◌, ◌∙◌, true, false, drop, sym, ap, arith}
use Rattle.std.specs.List.{list_any}
use Rattle.std.proofs.lemmas.Bool.{or_left}
use Rattle.std.proofs.lemmas.List.{at_drop_all}
use Rattle.lucid_merge.specs.Signs.{covers, is_heard}
use Rattle.lucid_merge.proofs.Signing.{row_heard, turn}
use Rattle.lucid_merge.proofs.kept.is_covered.Goals as goal

pub covers-requires : goal.covers-requires
covers-requires g c = row_heard (is_heard c.args.p.now c.args.q.now c.args.sign) c.args.rows.now c.loop-row.row-index c.row-item.result c.requires c.loop-row-test.true c.row-item.is

pub returns-then-covers-clause-value : goal.returns-then-covers-clause-value
returns-then-covers-clause-value g c =
    let f = covers c.args.p.now c.args.q.now in
    let rows = c.args.rows.now in
    let i = c.loop-row.row-index in
    let holds : f c.row-item.result ≡ true = sym {b = f c.row-item.result} c.covers.ensures ∙ c.if-covers.true in
    let here : list_any f (drop i rows) ≡ true = turn f rows i c.row-item.result c.loop-row-test.true c.row-item.is ∙ or_left (f c.row-item.result) (list_any f (drop (i + 1) rows)) holds in
    sym here ∙ c.loop-row.invariant.0

pub loop-row-preserved : goal.loop-row-preserved
loop-row-preserved g c =
    let f = covers c.args.p.now c.args.q.now in
    let rows = c.args.rows.now in
    let i = c.loop-row.row-index in
    let fails : f c.row-item.result ≡ false = sym {b = f c.row-item.result} c.covers.ensures ∙ c.if-covers.false in
    let on : list_any f (drop i rows) ≡ list_any f (drop (i + 1) rows) = turn f rows i c.row-item.result c.loop-row-test.true c.row-item.is ∙ ap (λ b. b || list_any f (drop (i + 1) rows)) fails in
    (sym on ∙ c.loop-row.invariant.0, omega (arith, c.tick.ensures, c.loop-row.invariant.1))

pub returns-clause-value : goal.returns-clause-value
returns-clause-value g c = sym (at_drop_all (list_any (covers c.args.p.now c.args.q.now)) c.args.rows.now c.loop-row.row-index c.loop-row-test.false) ∙ c.loop-row.invariant.0
