use Rattle.std.proofs.Common.{◌≡◌, ◌∙◌, ◌<◌, ◌≤◌, List, ℕ, arith, get_or, length, slice_index_or, subst, sym}
use Rattle.std.specs.Prelude.{All}
use Rattle.std.proofs.lemmas.List.Elements.{All-get_or}
use Rattle.std.proofs.lemmas.Result.{on_ok_weaker}
use Rattle.std.proofs.lemmas.Grind.{moves}
use Rattle.lucid_size.specs.declared.step.Step.{Step}
use Rattle.lucid_size.specs.declared.template.Template.{Template}
use Rattle.lucid_size.specs.Places.{AreInOrder, InText}
use Rattle.lucid_size.specs.Widths.{widths_in}
use Rattle.lucid_size.proofs.Dealing.{row_at, row_is}
use Rattle.lucid_size.proofs.InText.{get_any, order_turn, past}
use Rattle.lucid_size.proofs.Written.{body_at_is, whole_end, whole_turn}
use Rattle.lucid_size.proofs.assembly.write_parts.Goals as goal

pub write_outside-requires : goal.write_outside-requires
write_outside-requires c =
    let xs = c.args.templates.now in
    let at = c.loop-at.at in
    let d : Template = record { first = 0; name = 0; end = 0 } in
    let x = slice_index_or xs at d in
    let within = c.loop-at-test.true in
    let next = order_turn c.args.tokens.now c.loop-at.from at xs x c.loop-at.invariant.order within (get_any xs at d x within) in
    let name = next.1.name in
    let end = next.1.end in
    let last = next.1.within in
    record { reads = c.requires.reads; order = next.0; within = omega arith }

pub write_outside-written-requires : goal.write_outside-written-requires
write_outside-written-requires c =
    let order : c.loop-at.from ≤ length c.args.tokens.now =
    subst (AreInOrder c.args.tokens.now c.loop-at.from) (past c.args.templates.now c.loop-at.at c.loop-at-test.false)
    c.loop-at.invariant.order in
    record { reads = c.requires.reads; order = order; within = omega arith }

pub write_used-requires : goal.write_used-requires
write_used-requires c =
    let bodies = c.args.bodies.now in
    let at = c.loop-at.at in
    let low : at < length bodies = omega (arith, c.loop-at-test.true, c.requires.same) in
    let b = c.as_slice.result.now in
    let b_is : b ≡ get_or bodies at b =
    subst (λ (l : List Step). l ≡ get_or bodies at l) (sym c.as_slice.ensures) c.index-bodies-at.is in
    subst (All (InText c.args.text.now)) (sym b_is) (All-get_or (All (InText c.args.text.now)) bodies at b low c.requires.in_text)

pub loop-at-preserved : goal.loop-at-preserved
loop-at-preserved c =
    let text = c.args.text.now in
    let ts = c.args.tokens.now in
    let xs = c.args.templates.now in
    let names = c.args.names.now in
    let found = c.args.found.now in
    let at = c.loop-at.at in
    let rows = c.in_ok-dealt.dealt.items in
    let x = slice_index_or xs at (record { first = 0; name = 0; end = 0 }) in
    let within = c.loop-at-test.true in
    let is : x ≡ get_or xs at x = get_any xs at (record { first = 0; name = 0; end = 0 }) x within in
    let next = order_turn ts c.loop-at.from at xs x c.loop-at.invariant.order within is in
    let low : at < length rows = omega (arith, within, c.in_ok-dealt.ensures.many, c.requires.same) in
    let r = c.as_slice-in-loop-at.result.now in
    let r_is : r ≡ get_or rows at r = subst (λ (l : List ℕ). l ≡ get_or rows at l) (sym c.as_slice-in-loop-at.ensures) c.index.ensures in
    let used = c.in_ok-write_used.ensures in
    let rises = row_is rows found at r used.0 c.in_ok-dealt.ensures.dealt (row_at rows at r low r_is) used.1 in
    let b = c.as_slice.result.now in
    let b_is : b ≡ get_or c.args.bodies.now at b =
    subst (λ (l : List Step). l ≡ get_or c.args.bodies.now at l) (sym c.as_slice.ensures) c.index-bodies-at.is in
    let body = body_at_is text names ts xs c.args.bodies.now at x b c.requires.bodies within is b_is in
    record {
      order = next.2;
      left = whole_turn text ts c.args.underscores names (widths_in found) c.loop-at.from at xs x b used.0
          c.loop-at.out.items c.write_outside.new.out.items c.write_used.new.out.items
          within is body rises c.in_ok-write_outside.ensures used.2
          ∙ c.loop-at.invariant.left;
    }

pub returns : goal.returns
returns c =
    on_ok_weaker c.write_outside-written.result (λ h.
    whole_end c.args.text.now c.args.tokens.now c.args.underscores c.args.names.now (widths_in c.args.found.now) c.loop-at.from c.loop-at.at
    c.args.templates.now c.loop-at.out.items c.write_outside-written.new.out.items _ c.loop-at-test.false h c.loop-at.invariant.left)
    c.write_outside-written.ensures

pub index-requires : goal.index-requires
index-requires c = grind (arith, moves)
