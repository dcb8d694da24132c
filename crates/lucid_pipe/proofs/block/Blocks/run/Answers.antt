use Rattle.std.proofs.Common.{refl, ap, ◌∙◌, ℕ, List, slice_set, rules, ◌<◌, length, sym, ◌*◌}
use Rattle.std.proofs.lemmas.List.{length-set, with_items_is}
use Rattle.lucid_pipe.specs.declared.head.Head.{Head}
use Rattle.lucid_pipe.specs.Blocks.{blocks_of}
use Rattle.lucid_pipe.specs.Views.{packet_of}
use Rattle.lucid_pipe.proofs.Idle.{idle_stays}
use Rattle.lucid_pipe.proofs.Parted.{head_there, part_carried, written, written_long, executes}
use Rattle.lucid_pipe.proofs.block.Blocks.run.Goals as goal

pub returns-clause-runs : goal.returns-clause-runs
returns-clause-runs c =
    let was = c.index_mut.result.now in
    let n = c.self.inside.count in
    let heads = c.self.inside.heads.items in
    let first = c.first_register-first.result in
    let head : Head = record { event = was.event; tick = was.tick; me = was.me; sent = c.execute.new.sent } in
    executes c.args.placed.now n c.self.inside.registers.items heads c.args.self.now _ c.args.number
    head c.execute.new.registers first c.deref_mut.result.now
    (record {
      view = c.self.view_is;
      long = c.self.invariant;
      blocks = c.requires.blocks;
      there = c.requires.there;
      at = c.first_register-first.ensures.value;
      is = c.deref_mut.ensures.value;
      own = c.execute.ensures.long;
      gives = λ whole.
          ap (λ (rs : List ℕ). blocks_of n rs (slice_set heads c.args.number head))
          (with_items_is c.self.inside.registers (written n first c.execute.new.registers c.deref_mut.result.now) (whole ∙ c.deref_mut.ensures.len));
    })
    c.args.k c.args.cells.now c.execute.new.cells was c.index_mut.ensures.value refl refl refl c.execute.ensures.machine

pub returns-clause-idle : goal.returns-clause-idle
returns-clause-idle c = λ g none.
    let runs = returns-clause-runs c in
    let placed = c.args.placed.now in
    idle_stays placed.code placed.stages c.args.cells.now c.execute.new.cells c.args.k g (packet_of placed.code runs.was) c.stages.ensures.arrays none runs.made

pub first_register-first-requires-clause-there : goal.first_register-first-requires-clause-there
first_register-first-requires-clause-there c = head_there c.self.inside.count c.self.inside.registers.items c.self.inside.heads.items c.args.self.now c.args.number c.self.view_is c.requires.there

pub execute-requires-clause-long : goal.execute-requires-clause-long
execute-requires-clause-long c =
    part_carried c.args.placed.now c.self.inside.count c.self.inside.registers.items c.self.inside.heads.items c.args.self.now c.args.number c.first_register-first.result c.deref_mut.result.now
    c.self.view_is c.self.invariant c.requires.blocks c.requires.there c.first_register-first.ensures.fits c.deref_mut.ensures.value

pub invariant_of-self : goal.invariant_of-self
invariant_of-self c =
    let n = c.self.inside.count in
    let registers = c.self.inside.registers in
    let heads = c.self.inside.heads.items in
    let them = c.deref_mut.result.now in
    let head : Head = record { event = c.index_mut.result.now.event; tick = c.index_mut.result.now.tick; me = c.index_mut.result.now.me; sent = c.execute.new.sent } in
    let below = head_there n registers.items heads c.args.self.now c.args.number c.self.view_is c.requires.there in
    let same = written_long n registers.items heads c.args.number c.first_register-first.result them c.execute.new.registers c.first_register-first.ensures.value c.deref_mut.ensures.value c.self.invariant below c.execute.ensures.long in
    ap (λ (rs : List ℕ). length rs)
    (with_items_is registers (written n c.first_register-first.result c.execute.new.registers them) (same ∙ sym (ap (λ (rs : List ℕ). length rs) c.deref_mut.ensures.value) ∙ c.deref_mut.ensures.len))
    ∙ same ∙ c.self.invariant ∙ sym (ap (λ m. m * n) (length-set heads c.args.number head))

pub index_mut-requires : goal.index_mut-requires
index_mut-requires c =
    let there : c.args.number < length c.self.inside.heads.items = head_there c.self.inside.count c.self.inside.registers.items c.self.inside.heads.items c.args.self.now c.args.number c.self.view_is c.requires.there in
    search rules
