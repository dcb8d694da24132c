use Rattle.std.proofs.Common.{◌≡◌, ◌++◌, drop, map}
use Rattle.lucid_size.specs.Parts.{body_steps, outside_from}
use Rattle.lucid_size.specs.Places.{AreInOrder}
use Rattle.lucid_size.proofs.parts.add_parts.Given as goal

-- what is cut off, and then the rest, is all
abbrev pub invariant-loop-template : goal.invariant-loop-template
invariant-loop-template l = record {
  order : AreInOrder l.tokens l.from (drop l.template-index l.templates);
  outside : l.cut.outside ++ outside_from l.text l.names l.tokens l.from (drop l.template-index l.templates)
      ≡ l.fn.cut.outside ++ outside_from l.text l.names l.tokens 0 l.templates;
  bodies : l.cut.bodies.items ++ map (body_steps l.text l.names l.tokens) (drop l.template-index l.templates)
      ≡ l.fn.cut.bodies.items ++ map (body_steps l.text l.names l.tokens) l.templates;
}
