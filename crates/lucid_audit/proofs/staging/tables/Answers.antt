use Rattle.std.proofs.Common.{◌≡◌, true}
use Rattle.lucid_audit.specs.Audit.{table_at, rows_are_few}
use Rattle.lucid_audit.proofs.Widths.{one_more, below_more, told}
use Rattle.lucid_audit.proofs.staging.tables.Goals as goal

pub loop-t-preserved : goal.loop-t-preserved
loop-t-preserved c = (
  one_more (table_at c.args.code.now.ops c.args.seats.now c.args.k) c.loop-t.t c.loop-t.tables c.push.new.self c.in-Some.table c.loop-t.invariant.0 c.in_ok-push-in-Some.ensures.ok
      (told (λ x. x ≡ table_at c.args.code.now.ops c.args.seats.now c.args.k c.loop-t.t) c.in_ok-table_at.field-0 c.in-Some.table c.in_ok-table_at.ensures.made c.in-Some.is),
  below_more (λ u. rows_are_few c.args.code.now.ops c.args.limits.now c.args.seats.now c.args.k u ≡ true) c.loop-t.t c.loop-t.invariant.1
      (told (λ x. rows_are_few c.args.code.now.ops c.args.limits.now c.args.seats.now c.args.k c.loop-t.t ≡ true) c.in_ok-table_at.field-0 c.in-Some.table c.in_ok-table_at.ensures.few c.in-Some.is),
)
