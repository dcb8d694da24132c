use Rattle.std.proofs.lemmas.Grind.{common_steps}
use Rattle.std.proofs.Common.{◌≡◌, inl, inr, ap, ap₂, ◌∙◌, ◌&&◌, nat_eq, Bool, true, arith}
use Rattle.std.proofs.lemmas.Bool.{and_from, eq-eqb, ne_eqb}
use Rattle.lucid_tables.specs.Rows.{table}
use Rattle.lucid_audit.specs.Audit.{takes, with_work}
use Rattle.lucid_audit.proofs.Growing.{turn}
use Rattle.lucid_audit.proofs.Widths.{told}
use Rattle.lucid_audit.proofs.growth.table_at.Goals as goal
use Rattle.lucid_audit.proofs.growth.table_at.Goals.{then-seat-k+then-seat-t+in_ok-with_node+in-Some, else-seat-k, else-seat-k-via-then-seat-k+else-seat-t, else-seat-k-via-else-seat-k}

pub loop-seat-preserved : goal.loop-seat-preserved
loop-seat-preserved c = turn c.args.code.now.ops c.args.rows c.args.k c.args.t c.loop-seat.seat-index c.args.seats.now c.seat-item.result c.loop-seat.table c.if-seat-k.table c.loop-seat-test.true c.seat-item.is
    (elim c.if-seat-k.branch [
      | then-seat-k+then-seat-t+in_ok-with_node+in-Some w ↦ inl (
        and_from (nat_eq c.seat-item.result.at.stage c.args.k) (nat_eq c.seat-item.result.at.table c.args.t) (eq-eqb _ _ w.if-seat-k.true) (eq-eqb _ _ w.if-seat-t.true),
        told (λ x. takes c.args.code.now.ops c.args.rows c.loop-seat.table.rows c.seat-item.result.node ≡ true) w.in_ok-with_node.field-0 w.in-Some.made w.in_ok-with_node.ensures.takes w.in-Some.is,
        w.table-is ∙ told (λ x. x ≡ table (with_work c.args.code.now.ops c.loop-seat.table.rows c.seat-item.result.node)) w.in_ok-with_node.field-0 w.in-Some.made w.in_ok-with_node.ensures.made w.in-Some.is,
      )
      | else-seat-k w ↦ inr (
        elim w.else-seat-k.branch [
          | else-seat-k-via-then-seat-k+else-seat-t v ↦ ap₂ (λ (a b : Bool). a && b) (eq-eqb _ _ v.if-seat-k.true) (ne_eqb _ _ v.if-seat-t.false)
          | else-seat-k-via-else-seat-k v ↦ ap (λ a. a && nat_eq c.seat-item.result.at.table c.args.t) (ne_eqb _ _ v.if-seat-k.false)
        ],
        w.table-is,
      )
    ])
    c.loop-seat.invariant

pub with_node-requires : goal.with_node-requires
with_node-requires c = grind (arith, common_steps)

pub returns-in-None-clause-none : goal.returns-in-None-clause-none
returns-in-None-clause-none c = grind (arith, common_steps)

pub returns-clause-few : goal.returns-clause-few
returns-clause-few c = grind (arith, common_steps)

pub returns-clause-made : goal.returns-clause-made
returns-clause-made c = grind (arith, common_steps)
