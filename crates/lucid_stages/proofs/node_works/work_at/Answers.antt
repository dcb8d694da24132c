use Rattle.std.proofs.lemmas.Grind.{common_steps}
use Rattle.std.proofs.Common.{◌≡◌, ℕ, ◌<◌, ◌+◌, List, [], ◌++◌, length, get_or, slice_get, drop, ap, sym, ◌∙◌, arith}
use Rattle.std.specs.List.{flat_map}
use Rattle.std.specs.Option.{option_map_or, option_to_list}
use Rattle.std.proofs.lemmas.List.{append-nil, append_assoc, drop_more}
use Rattle.lucid_code.specs.declared.op.Op.{Op}
use Rattle.lucid_code.specs.Uses.{read_by, written_by}
use Rattle.lucid_stages.proofs.node_works.work_at.Goals as goal

-- one more place
flat_more : (f : ℕ → List ℕ) (ps : List ℕ) (i : ℕ) (old new : List ℕ) → i < length ps → new ≡ old ++ (f (get_or ps i 0) ++ []) → new ++ flat_map f (drop (i + 1) ps) ≡ old ++ flat_map f (drop i ps)
flat_more f ps i old new there made =
    ap (λ r. r ++ flat_map f (drop (i + 1) ps)) (made ∙ ap (λ r. old ++ r) (append-nil (f (get_or ps i 0))))
    ∙ append_assoc old _ _
    ∙ sym (ap (λ qs. old ++ flat_map f qs) (drop_more ps i 0 there))

pub loop-place-preserved : goal.loop-place-preserved
loop-place-preserved c =
    let l = c.loop-place in
    let ops = c.args.ops.now in
    let places = c.as_slice-place-items.result.now in (
      flat_more (λ i. option_map_or read_by (slice_get ops i) []) places l.place-index l.reads.items c.put_uses.new.reads.items c.loop-place-test.true c.in_ok-put_uses.ensures.reads ∙ l.invariant.0,
      flat_more (λ i. option_map_or (λ (o : Op). option_to_list (written_by o.act)) (slice_get ops i) []) places l.place-index l.writes.items c.put_uses.new.writes.items c.loop-place-test.true c.in_ok-put_uses.ensures.writes ∙ l.invariant.1,
    )

pub returns : goal.returns
returns c = grind (arith, common_steps)
