use Rattle.std.proofs.Common.{rules, ◌≡◌, ◌<◌, ℕ, List, true, ap₂}
use Rattle.lucid_tables.specs.declared.table.Table.{Table}
use Rattle.lucid_audit.specs.Audit.{stage_at, tables_in, rows_are_few}
use Rattle.lucid_audit.specs.Refused.{Passes}
use Rattle.lucid_audit.proofs.Widths.{one_more, below_more, wide_first, err_from}
use Rattle.lucid_audit.proofs.staging.stages.Goals as goal

pub returns-in_err-tables-clause-err : goal.returns-in_err-tables-clause-err
returns-in_err-tables-clause-err c =
    err_from (Passes c.args.code.now.ops c.args.limits.now c.args.seats.now) c.from_residual.result c.in_err-tables.field-0.0 (search rules)
    (wide_first c.args.code.now.ops c.args.limits.now c.args.seats.now c.loop-k.k c.in_err-tables.field-0.0 c.loop-k.invariant.1 c.in_err-tables.ensures.err)

pub loop-k-preserved : goal.loop-k-preserved
loop-k-preserved c = (
  one_more (stage_at c.args.code.now.ops c.args.seats.now) c.loop-k.k c.loop-k.stages.items c.push.new.self.items (record { tables = c.in_ok-tables.tables; arrays = c.arrays_at.result })
      c.loop-k.invariant.0 c.in_ok-push.ensures.items
      (ap₂ (λ (ts : List Table) (a : ℕ). record { tables = ts; arrays = a }) c.in_ok-tables.ensures.tables c.arrays_at.ensures),
  λ j u l m. below_more (λ j. (u : ℕ) → u < tables_in j c.args.seats.now → rows_are_few c.args.code.now.ops c.args.limits.now c.args.seats.now j u ≡ true) c.loop-k.k
      (λ j l u m. c.loop-k.invariant.1 j u l m) (λ u m. c.in_ok-tables.ensures.few u m) j l u m,
)
