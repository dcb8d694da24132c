use Rattle.std.proofs.Common.{rules, ap, ◌∙◌, ℕ, List, slice_set, ◌<◌, length, sym, ◌*◌}
use Rattle.std.proofs.lemmas.List.{length-set, with_items_is}
use Rattle.lucid_pipe.specs.declared.head.Head.{Head}
use Rattle.lucid_pipe.specs.Blocks.{blocks_of}
use Rattle.lucid_pipe.specs.Packets.{entering}
use Rattle.lucid_pipe.proofs.Parted.{head_there, part_carried, written, written_long, loads}
use Rattle.lucid_pipe.proofs.block.Blocks.load.Goals as goal

pub returns : goal.returns
returns c =
    let n = c.self.inside.count in
    let heads = c.self.inside.heads.items in
    let first = c.first_register-first.result in
    let head : Head = record { event = c.args.event; tick = c.args.now; me = c.args.me; sent = c.clear.new.self } in
    loads c.args.placed.now n c.self.inside.registers.items heads c.args.self.now _ c.args.number
    head c.load.new.registers first c.deref_mut.result.now
    (record {
      view = c.self.view_is;
      long = c.self.invariant;
      blocks = c.requires.blocks;
      there = c.requires.there;
      at = c.first_register-first.ensures.value;
      is = c.deref_mut.ensures.value;
      own = c.load.ensures.long;
      gives = λ whole.
          ap (λ (rs : List ℕ). blocks_of n rs (slice_set heads c.args.number head))
          (with_items_is c.self.inside.registers (written n first c.load.new.registers c.deref_mut.result.now) (whole ∙ c.deref_mut.ensures.len));
    })
    (entering c.args.placed.now.code c.args.event c.args.now c.args.me) (search rules)

pub first_register-first-requires-clause-there : goal.first_register-first-requires-clause-there
first_register-first-requires-clause-there c = head_there c.self.inside.count c.self.inside.registers.items c.self.inside.heads.items c.args.self.now c.args.number c.self.view_is c.requires.there

pub load-requires-clause-long : goal.load-requires-clause-long
load-requires-clause-long c =
    part_carried c.args.placed.now c.self.inside.count c.self.inside.registers.items c.self.inside.heads.items c.args.self.now c.args.number c.first_register-first.result c.deref_mut.result.now
    c.self.view_is c.self.invariant c.requires.blocks c.requires.there c.first_register-first.ensures.fits c.deref_mut.ensures.value

pub invariant_of-self : goal.invariant_of-self
invariant_of-self c =
    let n = c.self.inside.count in
    let registers = c.self.inside.registers in
    let heads = c.self.inside.heads.items in
    let them = c.deref_mut.result.now in
    let head : Head = record { event = c.args.event; tick = c.args.now; me = c.args.me; sent = c.clear.new.self } in
    let below = head_there n registers.items heads c.args.self.now c.args.number c.self.view_is c.requires.there in
    let same = written_long n registers.items heads c.args.number c.first_register-first.result them c.load.new.registers c.first_register-first.ensures.value c.deref_mut.ensures.value c.self.invariant below c.load.ensures.long in
    ap (λ (rs : List ℕ). length rs)
    (with_items_is registers (written n c.first_register-first.result c.load.new.registers them) (same ∙ sym (ap (λ (rs : List ℕ). length rs) c.deref_mut.ensures.value) ∙ c.deref_mut.ensures.len))
    ∙ same ∙ c.self.invariant ∙ sym (ap (λ m. m * n) (length-set heads c.args.number head))

pub index_mut-head-requires : goal.index_mut-head-requires
index_mut-head-requires c =
    let there : c.args.number < length c.self.inside.heads.items = head_there c.self.inside.count c.self.inside.registers.items c.self.inside.heads.items c.args.self.now c.args.number c.self.view_is c.requires.there in
    search rules
