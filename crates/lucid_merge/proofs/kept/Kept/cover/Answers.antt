use Rattle.std.proofs.Common.{◌≡◌, List, ℕ, sym, ap, subst, ◌∙◌}
use Rattle.std.specs.List.{list_any}
use Rattle.lucid_tables.specs.declared.table.Row.{Row}
use Rattle.lucid_merge.specs.Chunks.{AreCommon}
use Rattle.lucid_merge.specs.Product.{includes, union}
use Rattle.lucid_merge.specs.Signs.{with_bits, covers, AreHeard}
use Rattle.lucid_merge.proofs.Signing.{all_heard, both_bits, covers_rows}
use Rattle.lucid_merge.proofs.kept.Kept.cover.Goals as goal

pub is_covered_by_any-requires : goal.is_covered_by_any-requires
is_covered_by_any-requires g c =
    let bits = c.self.inside.bits.items in
    let sign : c.with_bits-sign.result ≡ with_bits bits (with_bits bits 0 c.args.p.now) c.args.q.now =
    both_bits bits c.as_slice-bits.result.now c.args.p.now c.args.q.now c.with_bits.result c.with_bits-sign.result c.as_slice-bits.ensures.value c.with_bits.ensures c.with_bits-sign.ensures in
    record {
      heard = subst (λ (n : ℕ). AreHeard c.args.p.now c.args.q.now n c.as_slice-rows.result.now) (sym sign)
          (subst (AreHeard c.args.p.now c.args.q.now (with_bits bits (with_bits bits 0 c.args.p.now) c.args.q.now)) (sym c.as_slice-rows.ensures.value)
          (all_heard bits c.args.p.now c.args.q.now c.self.inside.rows.items c.self.invariant.0));
      common = subst (λ (cs : List ℕ). AreCommon cs c.as_slice-rows.result.now) (sym c.as_slice.ensures.value)
          (subst (AreCommon c.self.inside.commons.items) (sym c.as_slice-rows.ensures.value) c.self.invariant.1);
    }

pub returns-clause-value : goal.returns-clause-value
returns-clause-value g c =
    c.is_covered_by_any.ensures.value
    ∙ ap (list_any (covers c.args.p.now c.args.q.now)) c.as_slice-rows.ensures.value
    ∙ covers_rows c.args.p.now c.args.q.now c.self.inside.rows.items
    ∙ ap (list_any (λ (k : Row). includes (union c.args.p.now c.args.q.now) k.pattern)) c.self.view_is
