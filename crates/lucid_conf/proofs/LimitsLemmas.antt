-- Limits that are read are in their ranges.
use Rattle.std.proofs.Common.{◌≡◌, Ok, Err, IfOk, Result, subst, arith}
use Rattle.serde_json.specs.Data.{Data}
use Rattle.lucid_conf.specs.declared.error.ConfError.{ConfError}
use Rattle.lucid_conf.specs.declared.key.Key.TheVariants.{Stages, Tables, Rows, Arrays, Arms, Bits, Recirc}
use Rattle.lucid_conf.specs.declared.limits.Limits.{Limits}
use Rattle.lucid_conf.specs.Answers.{Gives}
use Rattle.lucid_conf.specs.Keys.{limits_keys}
use Rattle.lucid_conf.specs.Kept.{AreLimits}
use Rattle.lucid_conf.specs.Reading.{file, number}
use Rattle.lucid_conf.specs.Tables.{limits_read}
use Rattle.lucid_conf.proofs.ReadingLemmas.{bound, number_between, same_ok}

are_limits : (d : Data) (l : Limits) → limits_read d ≡ Ok l → AreLimits l
are_limits d l h =
    let keys = bound (file d limits_keys) _ l h in
    let stages = bound (number d Stages 1 32 12) _ l keys.2 in
    let tables = bound (number d Tables 1 64 16) _ l stages.2 in
    let rows = bound (number d Rows 1 1024 64) _ l tables.2 in
    let arrays = bound (number d Arrays 1 64 4) _ l rows.2 in
    let arms = bound (number d Arms 1 64 8) _ l arrays.2 in
    let bits = bound (number d Bits 1 1048576 16384) _ l arms.2 in
    let recirc = bound (number d Recirc 0 65536 0) _ l bits.2 in
    subst AreLimits (same_ok _ l recirc.2) (record {
      stages = number_between d Stages 1 32 12 stages.0 (omega arith, omega arith) stages.1;
      tables = number_between d Tables 1 64 16 tables.0 (omega arith, omega arith) tables.1;
      rows = number_between d Rows 1 1024 64 rows.0 (omega arith, omega arith) rows.1;
      arrays = number_between d Arrays 1 64 4 arrays.0 (omega arith, omega arith) arrays.1;
      arms = number_between d Arms 1 64 8 arms.0 (omega arith, omega arith) arms.1;
      bits = number_between d Bits 1 1048576 16384 bits.0 (omega arith, omega arith) bits.1;
      recirc = number_between d Recirc 0 65536 0 recirc.0 (omega arith, omega arith) recirc.1;
    })

pub limits_kept : (d : Data) (r : Result Limits ConfError) → Gives r (limits_read d) → IfOk r AreLimits
limits_kept d (Ok l) given = are_limits d l given
limits_kept d (Err e) given = tt
