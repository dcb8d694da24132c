use Rattle.std.proofs.Common.{rules, ◌≡◌, ◌+◌, ◌<◌, length, take, [], ◌∷◌, ◌++◌, arith}
use Rattle.std.proofs.lemmas.Grind.{common_steps}
use Rattle.std.specs.List.{insert}
use Rattle.lucid_constraints.proofs.StepLemmas.{found_in, ended, started, closed, went_on, went_off, left_behind, fewer_left}
use Rattle.lucid_constraints.specs.Circle.{Finds}
use Rattle.lucid_constraints.specs.declared.look.Found.TheVariants.{OnPath, Waiting, Gone, Nowhere}
use Rattle.lucid_constraints.proofs.search.circle.Goals as goal

pub returns-in-None : goal.returns-in-None
returns-in-None c =
    let p : length c.walk.path.items ≡ 0 = grind (arith, common_steps) in
    let r : length c.walk.waiting.items ≡ 0 = grind (arith, common_steps) in
    ended c.args.pairs.items c.walk.pairs.items c.args.arrays c.args.names.items c.walk.path.items c.walk.waiting.items c.walk.invariant p r

pub walk-preserved-in-Continue-1 : goal.walk-preserved-in-Continue-1
walk-preserved-in-Continue-1 c =
    let p : length c.walk.path.items ≡ 0 = grind (arith, common_steps) in
    let r : c.walk.waiting.items ≡ c.pop.new.self.items ++ c.in-Some.x ∷ [] = search rules in
    let is : c.insert.new.self.items ≡ insert c.walk.path.items 0 c.in-Some.x = search rules in
    started c.args.pairs.items c.walk.pairs.items c.args.arrays c.args.names.items c.walk.path.items c.walk.waiting.items c.walk.invariant c.in-Some.x c.insert.new.self.items c.pop.new.self.items p r is

pub returns-in-OnPath : goal.returns-in-OnPath
returns-in-OnPath c =
    let h : Finds c.walk.path.items c.walk.waiting.items c.walk.pairs.items c.args.arrays c.index-head.result.now (OnPath c.in-OnPath.j) =
    found_in c.deref.result.now c.walk.path.items c.deref-else-is_empty.result.now c.walk.waiting.items c.deref-else-is_empty-2.result.now c.walk.pairs.items c.args.arrays c.index-head.result.now (OnPath c.in-OnPath.j) c.deref.ensures.value c.deref-else-is_empty.ensures.value c.deref-else-is_empty-2.ensures.value c.in-OnPath.ensures in
    let is : c.truncate.new.self.items ≡ take (c.in-OnPath.j + 1) c.walk.path.items = search rules in
    closed c.args.pairs.items c.walk.pairs.items c.args.arrays c.args.names.items c.walk.path.items c.walk.waiting.items c.walk.invariant c.index-head.result.now c.in-OnPath.j c.truncate.new.self.items c.index-head.ensures h is

pub walk-preserved-in-Continue-branch-2 : goal.walk-preserved-in-Continue-branch-2
walk-preserved-in-Continue-branch-2 c =
    let h : Finds c.walk.path.items c.walk.waiting.items c.walk.pairs.items c.args.arrays c.index-head.result.now (Waiting c.in-Waiting.i) =
    found_in c.deref.result.now c.walk.path.items c.deref-else-is_empty.result.now c.walk.waiting.items c.deref-else-is_empty-2.result.now c.walk.pairs.items c.args.arrays c.index-head.result.now (Waiting c.in-Waiting.i) c.deref.ensures.value c.deref-else-is_empty.ensures.value c.deref-else-is_empty-2.ensures.value c.in-Waiting.ensures in
    let p : c.insert-in-Waiting.new.self.items ≡ insert c.walk.path.items 0 c.remove-x.result = search rules in
    went_on c.args.pairs.items c.walk.pairs.items c.args.arrays c.args.names.items c.walk.path.items c.walk.waiting.items c.walk.invariant c.index-head.result.now c.remove-x.result c.in-Waiting.i c.insert-in-Waiting.new.self.items c.remove-x.new.self.items c.index-head.ensures h c.remove-x.ensures.value p c.remove-x.ensures.items

pub walk-smaller-in-Gone : goal.walk-smaller-in-Gone
walk-smaller-in-Gone c =
    let h : Finds c.walk.path.items c.walk.waiting.items c.walk.pairs.items c.args.arrays c.index-head.result.now (Gone c.in-Gone.x) =
    found_in c.deref.result.now c.walk.path.items c.deref-else-is_empty.result.now c.walk.waiting.items c.deref-else-is_empty-2.result.now c.walk.pairs.items c.args.arrays c.index-head.result.now (Gone c.in-Gone.x) c.deref.ensures.value c.deref-else-is_empty.ensures.value c.deref-else-is_empty-2.ensures.value c.in-Gone.ensures in
    let less : length c.leave.new.pairs.items < length c.walk.pairs.items = fewer_left c.args.pairs.items c.walk.pairs.items c.args.arrays c.args.names.items c.walk.path.items c.walk.waiting.items c.walk.invariant c.index-head.result.now c.in-Gone.x c.leave.new.pairs.items h c.leave.ensures in
    omega (arith, less)

pub walk-preserved-in-Gone : goal.walk-preserved-in-Gone
walk-preserved-in-Gone c =
    let h : Finds c.walk.path.items c.walk.waiting.items c.walk.pairs.items c.args.arrays c.index-head.result.now (Gone c.in-Gone.x) =
    found_in c.deref.result.now c.walk.path.items c.deref-else-is_empty.result.now c.walk.waiting.items c.deref-else-is_empty-2.result.now c.walk.pairs.items c.args.arrays c.index-head.result.now (Gone c.in-Gone.x) c.deref.ensures.value c.deref-else-is_empty.ensures.value c.deref-else-is_empty-2.ensures.value c.in-Gone.ensures in
    left_behind c.args.pairs.items c.walk.pairs.items c.args.arrays c.args.names.items c.walk.path.items c.walk.waiting.items c.walk.invariant c.index-head.result.now c.in-Gone.x c.leave.new.pairs.items h c.leave.ensures

pub walk-preserved : goal.walk-preserved
walk-preserved c =
    let h : Finds c.walk.path.items c.walk.waiting.items c.walk.pairs.items c.args.arrays c.index-head.result.now Nowhere =
    found_in c.deref.result.now c.walk.path.items c.deref-else-is_empty.result.now c.walk.waiting.items c.deref-else-is_empty-2.result.now c.walk.pairs.items c.args.arrays c.index-head.result.now Nowhere c.deref.ensures.value c.deref-else-is_empty.ensures.value c.deref-else-is_empty-2.ensures.value c.in-Nowhere.ensures in
    let some : 0 < length c.walk.path.items = grind (arith, common_steps) in
    went_off c.args.pairs.items c.walk.pairs.items c.args.arrays c.args.names.items c.walk.path.items c.walk.waiting.items c.walk.invariant c.index-head.result.now c.remove.new.self.items some c.index-head.ensures h c.remove.ensures.items
