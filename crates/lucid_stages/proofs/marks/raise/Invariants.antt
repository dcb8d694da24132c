use Rattle.std.proofs.Common.{◌≡◌, drop, length}
use Rattle.lucid_stages.specs.Marks.{raised, Within}
use Rattle.lucid_stages.proofs.marks.raise.Given as goal

-- the rest gives, from the raised marks, the result of the whole
abbrev pub invariant-loop-field : goal.invariant-loop-field
invariant-loop-field l = record {
  left : raised l.marks.items (drop l.field-index l.fields) l.to ≡ raised l.fn.marks.items l.fields l.to;
  within : Within (length l.marks.items) (drop l.field-index l.fields);
}
