use Rattle.std.proofs.Common.{◌≡◌, ◌++◌, drop}
use Rattle.lucid_normal_spec.specs.Program.{codes_of}
use Rattle.lucid_normal.proofs.handlers.build.Given as goal

-- the built part and the rest make the whole
abbrev pub invariant-loop-handler : goal.invariant-loop-handler
invariant-loop-handler l = record {
  ops : l.built.ops.items ++ (codes_of l.flat l.built.widths (drop l.handler-index l.flat.handlers)).ops ≡ (codes_of l.flat l.fn.widths l.flat.handlers).ops;
  widths : (codes_of l.flat l.built.widths (drop l.handler-index l.flat.handlers)).widths ≡ (codes_of l.flat l.fn.widths l.flat.handlers).widths;
}
