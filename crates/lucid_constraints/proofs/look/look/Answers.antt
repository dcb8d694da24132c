use Rattle.std.proofs.Common.{rules, ◌≡◌}
use Rattle.std.specs.Prelude.{Some, None}
use Rattle.lucid_constraints.proofs.LookLemmas.{on_path, waits, gone, earlier_on_path, earlier_waits, nowhere}
use Rattle.lucid_constraints.specs.Circle.{earlier, first_place, source}
use Rattle.lucid_constraints.specs.Same.{same_name}
use Rattle.lucid_constraints.proofs.look.look.Goals as goal

pub returns-in-Some-place_of : goal.returns-in-Some-place_of
returns-in-Some-place_of c =
    let s : source c.args.head c.args.pairs.now ≡ Some c.in-Some.x = search rules in
    let e : first_place (same_name c.in-Some.x) c.args.path.now 0 ≡ Some c.in-Some-place_of.j = search rules in
    on_path c.args.path.now c.args.waiting.now c.args.pairs.now c.args.arrays c.args.head c.in-Some.x c.in-Some-place_of.j s e

pub returns-in-Some-place_of-2 : goal.returns-in-Some-place_of-2
returns-in-Some-place_of-2 c =
    let s : source c.args.head c.args.pairs.now ≡ Some c.in-Some.x = search rules in
    let none : first_place (same_name c.in-Some.x) c.args.path.now 0 ≡ None = search rules in
    let e : first_place (same_name c.in-Some.x) c.args.waiting.now 0 ≡ Some c.in-Some-place_of-2.i = search rules in
    waits c.args.path.now c.args.waiting.now c.args.pairs.now c.args.arrays c.args.head c.in-Some.x c.in-Some-place_of-2.i s none e

pub returns-in-None-place_of-2 : goal.returns-in-None-place_of-2
returns-in-None-place_of-2 c =
    let s : source c.args.head c.args.pairs.now ≡ Some c.in-Some.x = search rules in
    let none : first_place (same_name c.in-Some.x) c.args.path.now 0 ≡ None = search rules in
    let e : first_place (same_name c.in-Some.x) c.args.waiting.now 0 ≡ None = search rules in
    gone c.args.path.now c.args.waiting.now c.args.pairs.now c.args.arrays c.args.head c.in-Some.x s none e

pub returns-in-Some-place_of_earlier : goal.returns-in-Some-place_of_earlier
returns-in-Some-place_of_earlier c =
    let e : first_place (λ y. earlier c.args.arrays y c.args.head) c.args.path.now 0 ≡ Some c.in-Some-place_of_earlier.j = search rules in
    earlier_on_path c.args.path.now c.args.waiting.now c.args.pairs.now c.args.arrays c.args.head c.in-Some-place_of_earlier.j e

pub returns-in-Some-place_of_earlier-2 : goal.returns-in-Some-place_of_earlier-2
returns-in-Some-place_of_earlier-2 c =
    let none : first_place (λ y. earlier c.args.arrays y c.args.head) c.args.path.now 0 ≡ None = search rules in
    let e : first_place (λ y. earlier c.args.arrays y c.args.head) c.args.waiting.now 0 ≡ Some c.in-Some-place_of_earlier-2.i = search rules in
    earlier_waits c.args.path.now c.args.waiting.now c.args.pairs.now c.args.arrays c.args.head c.in-Some-place_of_earlier-2.i none e

pub returns-in-None-place_of_earlier-2 : goal.returns-in-None-place_of_earlier-2
returns-in-None-place_of_earlier-2 c =
    let s : source c.args.head c.args.pairs.now ≡ None = search rules in
    let none : first_place (λ y. earlier c.args.arrays y c.args.head) c.args.path.now 0 ≡ None = search rules in
    let e : first_place (λ y. earlier c.args.arrays y c.args.head) c.args.waiting.now 0 ≡ None = search rules in
    nowhere c.args.path.now c.args.waiting.now c.args.pairs.now c.args.arrays c.args.head s none e
