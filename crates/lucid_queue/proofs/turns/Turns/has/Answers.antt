use Rattle.std.proofs.Common.{◌∙◌, ap}
use Rattle.std.specs.List.{list_any}
use Rattle.lucid_queue.specs.Kept.{has_key}
use Rattle.lucid_queue.proofs.TurnsLemmas.{taken}
use Rattle.lucid_queue.proofs.turns.Turns.has.Goals as goal

pub returns : goal.returns
returns c = c.contains_key.ensures ∙ taken c.self.inside.events c.args.key.now c.self.inside.slots.entries ∙ ap (list_any (has_key c.args.key.now)) c.self.view_is
