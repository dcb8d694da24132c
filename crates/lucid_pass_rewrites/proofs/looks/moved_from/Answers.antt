use Rattle.std.proofs.Common.{◌∙◌, sym, ap}
use Rattle.std.specs.Option.{option_and_then}
use Rattle.lucid_pass_spec.specs.Looks.{seen}
use Rattle.lucid_pass_rewrites.specs.Changed.{standing}
use Rattle.lucid_pass_rewrites.proofs.WritersLemmas.{writer_is}
use Rattle.lucid_pass_rewrites.proofs.looks.moved_from.Goals as goal

pub returns-in-One : goal.returns-in-One
returns-in-One c = c.seen_at.ensures ∙ sym (ap (option_and_then (seen c.args.guard.now)) (writer_is (standing c.args.now.done.now c.args.now.ops.now) c.args.now.writers.now c.args.k _ c.requires (sym c.in-One.is ∙ c.who_writes.ensures)))

pub returns-in-Nobody : goal.returns-in-Nobody
returns-in-Nobody c = sym (ap (option_and_then (seen c.args.guard.now)) (writer_is (standing c.args.now.done.now c.args.now.ops.now) c.args.now.writers.now c.args.k _ c.requires (sym c.in-Nobody.is ∙ c.who_writes.ensures)))

pub returns-in-Many : goal.returns-in-Many
returns-in-Many c = sym (ap (option_and_then (seen c.args.guard.now)) (writer_is (standing c.args.now.done.now c.args.now.ops.now) c.args.now.writers.now c.args.k _ c.requires (sym c.in-Many.is ∙ c.who_writes.ensures)))
