-- The text of the limits: those of a large target, for any seed.
use Rattle.std.specs.Prelude.{ℕ, List, codes}

abbrev pub limits_text : List ℕ
limits_text = codes "{\"stages\":32,\"tables\":64,\"rows\":1024,\"bits\":65536}\n"
