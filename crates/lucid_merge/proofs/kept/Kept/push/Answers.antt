use Rattle.std.proofs.Common.{List, ℕ, ap, ap₂, ◌∙◌, arith}
use Rattle.std.proofs.lemmas.Grind.{common_steps}
use Rattle.lucid_code.specs.declared.op.Literal.{Literal}
use Rattle.lucid_merge.specs.Chunks.{with_common}
use Rattle.lucid_merge.specs.Signs.{with_bits}
use Rattle.lucid_merge.proofs.ChunksLemmas.{commons_still}
use Rattle.lucid_merge.proofs.Signing.{kept_still}
use Rattle.lucid_merge.proofs.kept.Kept.push.Goals as goal

pub invariant_of-self-in_err-push : goal.invariant_of-self-in_err-push
invariant_of-self-in_err-push c =
    let commons = c.self.inside.commons.items in
    let rows = c.self.inside.rows.items in
    let sign = c.with_bits-sign.result in (
      kept_still c.self.inside.bits.items rows c.push.new.self.items c.args.row sign c.push.result c.self.invariant.0
          (c.with_bits-sign.ensures ∙ ap₂ (λ (bits : List ℕ) (p : List Literal). with_bits bits 0 p) c.as_slice.ensures.value c.as_slice-2.ensures)
          c.push.ensures.items,
      commons_still commons c.note_common.new.commons.items rows c.push.new.self.items (record { row = c.args.row; sign = sign }) c.push.result c.self.invariant.1
          (c.in-Ok.ensures.ok ∙ ap (λ n. with_common commons n sign) (c.len.ensures ∙ c.self.inside.rows.ok.0))
          c.push.ensures.items,
    )

pub invariant_of-self-2 : goal.invariant_of-self-2
invariant_of-self-2 c =
    let commons = c.self.inside.commons.items in
    let rows = c.self.inside.rows.items in
    let sign = c.with_bits-sign.result in (
      kept_still c.self.inside.bits.items rows c.push.new.self.items c.args.row sign c.push.result c.self.invariant.0
          (c.with_bits-sign.ensures ∙ ap₂ (λ (bits : List ℕ) (p : List Literal). with_bits bits 0 p) c.as_slice.ensures.value c.as_slice-2.ensures)
          c.push.ensures.items,
      commons_still commons c.note_common.new.commons.items rows c.push.new.self.items (record { row = c.args.row; sign = sign }) c.push.result c.self.invariant.1
          (c.in-Ok.ensures.ok ∙ ap (λ n. with_common commons n sign) (c.len.ensures ∙ c.self.inside.rows.ok.0))
          c.push.ensures.items,
    )

pub returns : goal.returns
returns c = grind (arith, common_steps)
