-- The outs of one event.
use Rattle.std.specs.Prelude.{[]}
use Rattle.lucid_base.specs.declared.event.Out.{Out}
use Rattle.lucid_base.specs.declared.event.Out.TheVariants.{Say}

-- the content of a cell without an out
abbrev pub no_out : Out
no_out = Say 0 []
