use Rattle.std.proofs.Common.{◌∙◌, sym, ap, true}
use Rattle.std.specs.Option.{option_map_or}
use Rattle.lucid_code.specs.declared.op.Op.{Op}
use Rattle.lucid_pass_spec.specs.Looks.{includes}
use Rattle.lucid_pass_rewrites.proofs.WritersLemmas.{writer_is}
use Rattle.lucid_pass_rewrites.proofs.covering.is_under.Goals as goal

pub returns-in-One : goal.returns-in-One
returns-in-One c = c.has_guard_of.ensures ∙ sym (ap (λ x. option_map_or (λ (w : Op). includes c.args.guard.now w.guard) x true) (writer_is c.args.ops.now c.args.writers.now c.args.k _ c.requires (sym c.in-One.is ∙ c.who_writes.ensures)))

pub returns-in-Nobody : goal.returns-in-Nobody
returns-in-Nobody c = sym (ap (λ x. option_map_or (λ (w : Op). includes c.args.guard.now w.guard) x true) (writer_is c.args.ops.now c.args.writers.now c.args.k _ c.requires (sym c.in-Nobody.is ∙ c.who_writes.ensures)))

pub returns-in-Many : goal.returns-in-Many
returns-in-Many c = sym (ap (λ x. option_map_or (λ (w : Op). includes c.args.guard.now w.guard) x true) (writer_is c.args.ops.now c.args.writers.now c.args.k _ c.requires (sym c.in-Many.is ∙ c.who_writes.ensures)))
