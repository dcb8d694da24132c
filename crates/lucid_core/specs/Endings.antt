-- On which paths a block returns.
use Rattle.std.specs.Prelude.{Bool, true, false}
use Rattle.lucid_core.specs.declared.ending.Ending.{Ending}
use Rattle.lucid_core.specs.declared.ending.Ending.TheVariants.{Never, Sometimes, Always}

abbrev pub on_some_path : Ending → Bool
on_some_path Never = false
on_some_path _ = true

abbrev pub on_every_path : Ending → Bool
on_every_path Always = true
on_every_path _ = false

-- Of an if, by its branches.
abbrev pub of_either : Ending → Ending → Ending
of_either Never Never = Never
of_either Always Always = Always
of_either _ _ = Sometimes
