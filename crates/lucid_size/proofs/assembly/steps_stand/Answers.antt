use Rattle.std.proofs.Common.{None, subst, sym}
use Rattle.std.specs.Prelude.{All}
use Rattle.lucid_size.specs.Places.{InText}
use Rattle.lucid_size.proofs.InText.{between_in_text, read_led}
use Rattle.lucid_size.proofs.assembly.steps_stand.Goals as goal

pub returns : goal.returns
returns c =
    subst (All (InText c.args.text.now)) (sym c.requires.steps)
    (between_in_text c.args.text.now c.args.names.now None c.args.tokens.now c.args.first c.args.end (read_led c.args.text.now c.args.tokens.now c.requires.reads) c.requires.order c.requires.within)
