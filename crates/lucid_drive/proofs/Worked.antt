-- The drive that is worked by hand, computed from the definition.
use Rattle.std.proofs.Common.{refl}
use Rattle.std.specs.Fmt.{digits}
use Rattle.lucid_log.specs.Cells.{lines_from}
use Rattle.lucid_drive.specs.Examples.{Worked}

pub worked : Worked
unfolding digits lines_from
worked = refl
