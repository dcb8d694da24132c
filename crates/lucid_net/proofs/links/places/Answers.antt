use Rattle.std.proofs.Common.{◌≡◌, ◌*◌, length, replicate, rules, sym, subst}
use Rattle.lucid_net.specs.Pairs.{Finds}
use Rattle.lucid_net.proofs.Pairing.{finds_all, finds_next, finds_none}
use Rattle.lucid_net.proofs.links.places.Goals as goal

pub loop-place-init : goal.loop-place-init
loop-place-init c =
    let none : c.in_ok-places.places.items ≡ replicate (c.args.switches * c.args.switches) (length c.args.links.now) = search rules in
    subst (Finds c.args.links.now _ c.args.switches) (sym none) (finds_none c.args.links.now c.args.switches)

pub loop-place-preserved : goal.loop-place-preserved
loop-place-preserved c =
    finds_next c.args.links.now c.args.switches c.loop-place.place c.loop-place.places.items c.put.new.places.items _ c.loop-place-test.true c.loop-place.auto.place
    c.requires.within c.loop-place.invariant c.put.ensures

pub returns : goal.returns
returns c = finds_all c.args.links.now c.args.switches c.loop-place.place c.loop-place.places.items c.requires.within c.loop-place-test.false c.loop-place.invariant
