use Rattle.std.proofs.Common.{sym, ap, ◌∙◌}
use Rattle.lucid_core_run.specs.Running.{rewound}
use Rattle.lucid_core_run.proofs.CellsLemmas.{rewound-append}
use Rattle.lucid_core_run.proofs.run.rewind.Goals as goal

pub loop-write-preserved : goal.loop-write-preserved
loop-write-preserved c =
    ap (rewound c.pop.new.self.items) c.set.ensures
    ∙ sym (rewound-append c.pop.new.self.items c.in-Some.write c.loop-write.cells)
    ∙ ap (λ ws. rewound ws c.loop-write.cells) (sym c.in-Some.ensures.items)
    ∙ c.loop-write.invariant
