-- Stages as they are placed.
use Rattle.std.specs.Prelude.{ℕ, List, [], slice_get}
use Rattle.std.specs.List.{flat_map}
use Rattle.std.specs.Option.{option_map_or, option_to_list}
use Rattle.lucid_code.specs.declared.op.Op.{Op}
use Rattle.lucid_code.specs.Uses.{called_by}
use Rattle.lucid_tables.specs.declared.stage.StageCode.{StageCode}
use Rattle.lucid_tables.specs.declared.table.Table.{Table}
use Rattle.lucid_tables.specs.Numbers.{rising}
use Rattle.lucid_tables.specs.Placed.{named_by}
use Rattle.lucid_stages.specs.declared.stage.Stage.{Stage}

-- The arrays that the operations at these places call.
abbrev pub arrays_at : List Op → List ℕ → List ℕ
arrays_at ops places = flat_map (λ i. option_map_or (λ (o : Op). option_to_list (called_by o.act)) (slice_get ops i) []) places

-- The arrays of the operations that these tables name, in rising order.
abbrev pub arrays_in : List Op → List Table → List ℕ
arrays_in ops tables = rising (arrays_at ops (flat_map named_by tables))

-- A stage as it is placed: its tables, and the arrays of the operations that they name.
abbrev pub stage_code : List Op → Stage → StageCode
stage_code ops s = record { tables = s.tables; arrays = arrays_in ops s.tables }
