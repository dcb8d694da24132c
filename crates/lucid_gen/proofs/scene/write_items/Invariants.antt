use Rattle.std.proofs.Common.{string_bytes}
use Rattle.lucid_gen.specs.Draws.{Writes}
use Rattle.lucid_gen.specs.Scene.{items}
use Rattle.lucid_gen.proofs.scene.write_items.Given as goal

abbrev pub invariant-loop-at : goal.invariant-loop-at
invariant-loop-at l = Writes (items l._at) l.fn.numbers.state (string_bytes l.fn.text) l.numbers.state (string_bytes l.text)
