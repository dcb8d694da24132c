use Rattle.std.proofs.Common.{◌≡◌, ◌∙◌, ◌<◌, List, ap, arith, get_or, length, subst, sym}
use Rattle.lucid_size.specs.declared.step.Step.{Step}
use Rattle.lucid_size.specs.Used.{uses}
use Rattle.lucid_size.specs.Search.{with_all}
use Rattle.lucid_size.proofs.Closed.{all_looked, looks, no_room, searching}
use Rattle.lucid_size.proofs.used.search.Goals as goal

pub loop-at-init : goal.loop-at-init
loop-at-init c = record {
  sees = c.in_ok-add_uses.ensures.sees;
  searching = searching c.args.outside.now c.args.bodies.now c.requires.outside c.add_uses.new.self.found.items
      (c.in_ok-add_uses.ensures.added ∙ ap (λ l. with_all l (uses 0 c.args.outside.now)) c.requires.none);
  left = omega arith;
}

pub returns-clause-found : goal.returns-clause-found
returns-clause-found c =
    all_looked c.args.outside.now c.args.bodies.now c.loop-at.used.found.items c.loop-at.at c.loop-at.invariant.searching
    (let e = c.len.ensures in omega arith)

pub loop-at-preserved : goal.loop-at-preserved
loop-at-preserved c =
    let i = c.index-instance.result.now in
    let here : c.loop-at.at < length c.loop-at.used.found.items = let n = c.len.ensures in let t = c.loop-at-test.true in omega arith in
    let body = c.as_slice-body.ensures in
    let body_is : c.as_slice-body.result.now ≡ get_or c.args.bodies.now i.template c.as_slice-body.result.now =
    subst (λ (b : List Step). b ≡ get_or c.args.bodies.now i.template b) (sym body) c.index-bodies-instance.is in
    let next = looks c.args.underscores c.args.outside.now c.args.bodies.now c.loop-at.used.found.items c.loop-at.at i
    c.as_slice-body.result.now c.add_uses-in-loop-at.new.self.found.items
    c.requires.bodies c.loop-at.invariant.searching here c.index-instance.ensures body_is c.in_ok-add_uses-2.ensures.added in
    record {
      sees = c.in_ok-add_uses-2.ensures.sees;
      searching = next.0;
      left = let fits = c.in-Some.ensures in let before = c.loop-at.invariant.left in omega (arith, next.1);
    }

pub returns-in-None-clause-err : goal.returns-in-None-clause-err
returns-in-None-clause-err c = λ all are.
    let i = c.index-instance.result.now in
    let here : c.loop-at.at < length c.loop-at.used.found.items = let n = c.len.ensures in let t = c.loop-at-test.true in omega arith in
    let body = c.as_slice-body.ensures in
    let body_is : c.as_slice-body.result.now ≡ get_or c.args.bodies.now i.template c.as_slice-body.result.now =
    subst (λ (b : List Step). b ≡ get_or c.args.bodies.now i.template b) (sym body) c.index-bodies-instance.is in
    let above = no_room c.args.underscores c.args.outside.now c.args.bodies.now c.loop-at.used.found.items c.loop-at.at i c.as_slice-body.result.now
    c.loop-at.room c.args.room
    c.loop-at.invariant.searching here c.index-instance.ensures body_is c.loop-at.invariant.left c.in-None.ensures all are in
    omega (arith, above)
