use Rattle.lucid_size.proofs.InText.{gap_stands, read_led}
use Rattle.lucid_size.proofs.assembly.gap_stands.Goals as goal

pub returns : goal.returns
returns c =
    let both = gap_stands c.args.text.now c.args.tokens.now c.args.at (read_led c.args.text.now c.args.tokens.now c.requires.reads) c.requires.within in
    record { order = both.0; within = both.1 }
