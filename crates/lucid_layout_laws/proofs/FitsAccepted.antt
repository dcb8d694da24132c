-- `audit` returns the layout of a first fit for its places.
use Rattle.std.proofs.Common.{◌≡◌, ℕ, List, ap, ap₂, ◌∙◌, map}
use Rattle.std.specs.List.{range_with_len}
use Rattle.std.proofs.lemmas.List.FromFn.{fill_by_all}
use Rattle.lucid_code.specs.declared.op.Op.{Op}
use Rattle.lucid_tables.specs.declared.table.Table.{Table}
use Rattle.lucid_conf.specs.declared.limits.Limits.{Limits}
use Rattle.lucid_stages.specs.declared.stage.Pair.{Pair}
use Rattle.lucid_stages.specs.declared.stage.Seat.{Seat}
use Rattle.lucid_stages.specs.Stage.{seats, laid, no_table, no_tables}
use Rattle.lucid_stages.specs.Placing.{stage_code}
use Rattle.lucid_stages.specs.NodeWorks.{works}
use Rattle.lucid_stages.proofs.StageLemmas.{laid_length, stage_at as stage_of}
use Rattle.lucid_audit.specs.Audit.{table_at, tables_in, stage_at, stages}
use Rattle.lucid_layout_laws.specs.Laws.{FirstFitsAreAccepted}
use Rattle.lucid_layout_laws.proofs.FitsKeep.{Kept, fit_kept, first_fits_keep_rules}

stages_same : (ops : List Op) (limits : Limits) (ss : List Seat) → Kept ops limits ss → laid ops limits ss ≡ stages ops limits ss
stages_same ops limits ss kept = fill_by_all (stage_at ops ss) (laid ops limits ss) limits.stages no_tables (laid_length ops limits ss) (λ k l. same k)
  where
    tables_same : (k : ℕ) → (stage_of (laid ops limits ss) k).tables ≡ map (table_at ops ss k) (range_with_len 0 (tables_in k ss))
    tables_same k = fill_by_all (table_at ops ss k) (stage_of (laid ops limits ss) k).tables (tables_in k ss) no_table (kept.long k) (λ t l. kept.tables_are k t)

    same : (k : ℕ) → stage_of (laid ops limits ss) k ≡ stage_at ops ss k
    same k = ap₂ (λ (tables : List Table) (arrays : ℕ). record { tables = tables; arrays = arrays }) (tables_same k) (kept.counts k)

pub first_fits_are_accepted : FirstFitsAreAccepted
first_fits_are_accepted = record {
  rules = first_fits_keep_rules;
  placed = λ code limits placed layout.
      let pairs : List Pair = layout.fit.0 in (
        pairs,
        layout.fit.1,
        record {
          counts = layout.counts;
          rules = first_fits_keep_rules code limits pairs layout.fit.1;
          code_is = layout.code_is;
          stages_are = layout.fit.2 ∙ ap (map (stage_code code.ops)) (stages_same code.ops limits (seats (works code.ops) pairs) (fit_kept code.ops limits pairs layout.fit.1));
        },
      );
}
