use Rattle.std.proofs.Common.{ℕ, sym, subst, ◌∙◌}
use Rattle.lucid_merge.specs.Chunks.{chunk, HaveInCommon}
use Rattle.lucid_merge.specs.Signs.{AreHeard}
use Rattle.lucid_merge.proofs.ChunksLemmas.{none_heard, chunk_heard}
use Rattle.lucid_merge.proofs.chunks.is_covered_in.Goals as goal

pub returns-then-not-has_bits-clause-value : goal.returns-then-not-has_bits-clause-value
returns-then-not-has_bits-clause-value g c =
    sym (none_heard c.args.p.now c.args.q.now c.args.sign c.common_of.result (chunk c.args.number c.args.rows.now)
    (chunk_heard c.args.p.now c.args.q.now c.args.sign c.args.number c.args.rows.now c.requires.heard)
    (subst (λ (n : ℕ). HaveInCommon n (chunk c.args.number c.args.rows.now)) (sym c.common_of.ensures) (c.requires.common c.args.number))
    (sym c.has_bits.ensures ∙ c.if-not-has_bits.true))

pub is_covered-requires : goal.is_covered-requires
is_covered-requires g c =
    subst (AreHeard c.args.p.now c.args.q.now c.args.sign) (sym c.chunk-own.ensures)
    (chunk_heard c.args.p.now c.args.q.now c.args.sign c.args.number c.args.rows.now c.requires.heard)
