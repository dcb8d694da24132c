-- Where a body is counted, as the definitions have it.
use Rattle.std.specs.Prelude.{List}
use Rattle.lucid_inline_count.specs.declared.body.Body.{Body}
use Rattle.lucid_inline_count.specs.declared.counts.Counts.{Counts}
use Rattle.lucid_inline_count.specs.Found.{Round}

abbrev pub round : List Counts → Body → Round
round funs body = record { funs = funs; held = body.held.items }
