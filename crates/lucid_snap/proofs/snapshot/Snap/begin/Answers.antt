use Rattle.std.proofs.Common.{rules, ◌≡◌, ◌∙◌, ap, sym}
use Rattle.lucid_tables.specs.Placed.{PlacedParts}
use Rattle.lucid_snap.specs.Snap.{arrays_of, snap_of}
use Rattle.lucid_snap.proofs.Passing.{begins}
use Rattle.lucid_snap.proofs.snapshot.Snap.begin.Goals as goal

pub returns-clause-follows : goal.returns-clause-follows
returns-clause-follows c =
    let copies : c.in_ok-copies.copies.items ≡ c.args.pipe.now.cells = search rules in
    let same : c.in_ok-stages.stages.items ≡ arrays_of c.args.placed.now.stages = search rules in
    let stages : c.in_ok-stages.stages.items ≡ arrays_of c.args.pipe.now.placed.stages = same ∙ ap (λ (q : PlacedParts). arrays_of q.stages) (sym c.requires) in
    begins c.args.pipe.now (snap_of c.in_ok-copies.copies.items c.in_ok-stages.stages.items c.free_first-copied.result c.packets-waits.result)
    (record {
      fixed = record { keep = c.keeps_laws.ensures.keep; is_placed = c.keeps_laws.ensures.placed; arrays = c.keeps_laws.ensures.arrays };
      idle = c.keeps_laws.ensures.idle;
      sized = c.keeps_laws.ensures.sized;
      long = c.keeps_laws.ensures.long;
    })
    copies stages c.packets-waits.ensures c.free_first-copied.ensures
