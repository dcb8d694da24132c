use Rattle.std.proofs.lemmas.Grind.{common_steps}
use Rattle.std.proofs.Common.{◌≡◌, refl, rules, arith}
use Rattle.lucid_top_words.specs.declared.command.Command.TheVariants as command
use Rattle.lucid_top.proofs.Runs.{no-passes, no-sights, performs-for, runs-for, shows-for}
use Rattle.lucid_top.proofs.commands.perform.Goals as goal

pub returns-in-Check-clause-performs : goal.returns-in-Check-clause-performs
returns-in-Check-clause-performs g c =
    let is : c.args.command ≡ command.Check = search rules in
    performs-for _ g.W.Sink.written g.W.Sink.faults c.args.out.now c.check.new.out c.check.result is c.check.ensures

pub returns-in-Check-clause-ran : goal.returns-in-Check-clause-ran
returns-in-Check-clause-ran g c = let is : c.args.command ≡ command.Check = search rules in no-passes _ _ c.check.result is (λ now none. none)

pub returns-in-Check-clause-shown : goal.returns-in-Check-clause-shown
returns-in-Check-clause-shown g c = let is : c.args.command ≡ command.Check = search rules in no-sights _ (g.V.Watch.seen c.args.watch.now) c.check.result is refl

pub returns-in-Once-clause-performs : goal.returns-in-Once-clause-performs
returns-in-Once-clause-performs g c =
    let is : c.args.command ≡ command.Once c.in-Once.arguments = search rules in
    performs-for _ g.W.Sink.written g.W.Sink.faults c.args.out.now c.once.new.out c.once.result is c.once.ensures

pub returns-in-Once-clause-ran : goal.returns-in-Once-clause-ran
returns-in-Once-clause-ran g c = let is : c.args.command ≡ command.Once c.in-Once.arguments = search rules in no-passes _ _ c.once.result is (λ now none. none)

pub returns-in-Once-clause-shown : goal.returns-in-Once-clause-shown
returns-in-Once-clause-shown g c = let is : c.args.command ≡ command.Once c.in-Once.arguments = search rules in no-sights _ (g.V.Watch.seen c.args.watch.now) c.once.result is refl

pub returns-in-Expand-clause-performs : goal.returns-in-Expand-clause-performs
returns-in-Expand-clause-performs g c =
    let is : c.args.command ≡ command.Expand = search rules in
    performs-for _ g.W.Sink.written g.W.Sink.faults c.args.out.now c.expand.new.out c.expand.result is c.expand.ensures

pub returns-in-Expand-clause-ran : goal.returns-in-Expand-clause-ran
returns-in-Expand-clause-ran g c = let is : c.args.command ≡ command.Expand = search rules in no-passes _ _ c.expand.result is (λ now none. none)

pub returns-in-Expand-clause-shown : goal.returns-in-Expand-clause-shown
returns-in-Expand-clause-shown g c = let is : c.args.command ≡ command.Expand = search rules in no-sights _ (g.V.Watch.seen c.args.watch.now) c.expand.result is refl

pub returns-in-Layout-clause-performs : goal.returns-in-Layout-clause-performs
returns-in-Layout-clause-performs g c =
    let is : c.args.command ≡ command.Layout = search rules in
    performs-for _ g.W.Sink.written g.W.Sink.faults c.args.out.now c.layout.new.out c.layout.result is c.layout.ensures.performs

pub returns-in-Layout-clause-ran : goal.returns-in-Layout-clause-ran
returns-in-Layout-clause-ran g c = let is : c.args.command ≡ command.Layout = search rules in runs-for _ _ _ c.layout.result is c.layout.ensures.ran

pub returns-in-Layout-clause-shown : goal.returns-in-Layout-clause-shown
returns-in-Layout-clause-shown g c = let is : c.args.command ≡ command.Layout = search rules in no-sights _ (g.V.Watch.seen c.args.watch.now) c.layout.result is refl

pub returns-in-RunWhole-clause-performs : goal.returns-in-RunWhole-clause-performs
returns-in-RunWhole-clause-performs g c =
    let is : c.args.command ≡ command.RunWhole = search rules in
    performs-for _ g.W.Sink.written g.W.Sink.faults c.args.out.now c.run_whole.new.out c.run_whole.result is c.run_whole.ensures

pub returns-in-RunWhole-clause-ran : goal.returns-in-RunWhole-clause-ran
returns-in-RunWhole-clause-ran g c = let is : c.args.command ≡ command.RunWhole = search rules in no-passes _ _ c.run_whole.result is (λ now none. none)

pub returns-in-RunWhole-clause-shown : goal.returns-in-RunWhole-clause-shown
returns-in-RunWhole-clause-shown g c = let is : c.args.command ≡ command.RunWhole = search rules in no-sights _ (g.V.Watch.seen c.args.watch.now) c.run_whole.result is refl

pub returns-in-RunPipe-clause-performs : goal.returns-in-RunPipe-clause-performs
returns-in-RunPipe-clause-performs g c =
    let is : c.args.command ≡ command.RunPipe = search rules in
    performs-for _ g.W.Sink.written g.W.Sink.faults c.args.out.now c.run_pipe.new.out c.run_pipe.result is c.run_pipe.ensures.performs

pub returns-in-RunPipe-clause-ran : goal.returns-in-RunPipe-clause-ran
returns-in-RunPipe-clause-ran g c = let is : c.args.command ≡ command.RunPipe = search rules in runs-for _ _ _ c.run_pipe.result is c.run_pipe.ensures.ran

pub returns-in-RunPipe-clause-shown : goal.returns-in-RunPipe-clause-shown
returns-in-RunPipe-clause-shown g c =
    let is : c.args.command ≡ command.RunPipe = search rules in
    shows-for _ (g.V.Watch.seen c.args.watch.now) (g.V.Watch.seen c.run_pipe.new.watch) c.run_pipe.result is c.run_pipe.ensures.shown

pub returns-in-RunPlaced-clause-performs : goal.returns-in-RunPlaced-clause-performs
returns-in-RunPlaced-clause-performs g c =
    let is : c.args.command ≡ command.RunPlaced = search rules in
    performs-for _ g.W.Sink.written g.W.Sink.faults c.args.out.now c.run_placed.new.out c.run_placed.result is c.run_placed.ensures.performs

pub returns-in-RunPlaced-clause-ran : goal.returns-in-RunPlaced-clause-ran
returns-in-RunPlaced-clause-ran g c = let is : c.args.command ≡ command.RunPlaced = search rules in runs-for _ _ _ c.run_placed.result is c.run_placed.ensures.ran

pub returns-in-RunPlaced-clause-shown : goal.returns-in-RunPlaced-clause-shown
returns-in-RunPlaced-clause-shown g c =
    let is : c.args.command ≡ command.RunPlaced = search rules in
    shows-for _ (g.V.Watch.seen c.args.watch.now) (g.V.Watch.seen c.run_placed.new.watch) c.run_placed.result is c.run_placed.ensures.shown

pub returns-in-Drive-clause-performs : goal.returns-in-Drive-clause-performs
returns-in-Drive-clause-performs g c =
    let is : c.args.command ≡ command.Drive = search rules in
    performs-for _ g.W.Sink.written g.W.Sink.faults c.args.out.now c.drive.new.out c.drive.result is c.drive.ensures.performs

pub returns-in-Drive-clause-ran : goal.returns-in-Drive-clause-ran
returns-in-Drive-clause-ran g c = let is : c.args.command ≡ command.Drive = search rules in runs-for _ _ _ c.drive.result is c.drive.ensures.ran

pub returns-in-Drive-clause-shown : goal.returns-in-Drive-clause-shown
returns-in-Drive-clause-shown g c =
    let is : c.args.command ≡ command.Drive = search rules in
    shows-for _ (g.V.Watch.seen c.args.watch.now) (g.V.Watch.seen c.drive.new.watch) c.drive.result is c.drive.ensures.shown

pub returns-in-Audit-clause-performs : goal.returns-in-Audit-clause-performs
returns-in-Audit-clause-performs g c =
    let is : c.args.command ≡ command.Audit = search rules in
    performs-for _ g.W.Sink.written g.W.Sink.faults c.args.out.now c.audit.new.out c.audit.result is c.audit.ensures.performs

pub returns-in-Audit-clause-ran : goal.returns-in-Audit-clause-ran
returns-in-Audit-clause-ran g c = let is : c.args.command ≡ command.Audit = search rules in runs-for _ _ _ c.audit.result is c.audit.ensures.ran

pub returns-in-Audit-clause-shown : goal.returns-in-Audit-clause-shown
returns-in-Audit-clause-shown g c = let is : c.args.command ≡ command.Audit = search rules in no-sights _ (g.V.Watch.seen c.args.watch.now) c.audit.result is refl

pub returns-in-Snap-clause-performs : goal.returns-in-Snap-clause-performs
returns-in-Snap-clause-performs g c =
    let is : c.args.command ≡ command.Snap c.in-Snap.after = search rules in
    performs-for _ g.W.Sink.written g.W.Sink.faults c.args.out.now c.snap.new.out c.snap.result is c.snap.ensures.performs

pub returns-in-Snap-clause-ran : goal.returns-in-Snap-clause-ran
returns-in-Snap-clause-ran g c = let is : c.args.command ≡ command.Snap c.in-Snap.after = search rules in runs-for _ _ _ c.snap.result is c.snap.ensures.ran

pub returns-in-Snap-clause-shown : goal.returns-in-Snap-clause-shown
returns-in-Snap-clause-shown g c = let is : c.args.command ≡ command.Snap c.in-Snap.after = search rules in no-sights _ (g.V.Watch.seen c.args.watch.now) c.snap.result is refl

pub returns-in-Gen-clause-performs : goal.returns-in-Gen-clause-performs
returns-in-Gen-clause-performs g c =
    let is : c.args.command ≡ command.Gen c.in-Gen.kind c.in-Gen.seed c.in-Gen.count = search rules in
    performs-for _ g.W.Sink.written g.W.Sink.faults c.args.out.now c.generate.new.out c.generate.result is c.generate.ensures

pub returns-in-Gen-clause-ran : goal.returns-in-Gen-clause-ran
returns-in-Gen-clause-ran g c = let is : c.args.command ≡ command.Gen c.in-Gen.kind c.in-Gen.seed c.in-Gen.count = search rules in no-passes _ _ c.generate.result is (λ now none. none)

pub returns-in-Gen-clause-shown : goal.returns-in-Gen-clause-shown
returns-in-Gen-clause-shown g c = let is : c.args.command ≡ command.Gen c.in-Gen.kind c.in-Gen.seed c.in-Gen.count = search rules in no-sights _ (g.V.Watch.seen c.args.watch.now) c.generate.result is refl

pub returns-in-Bench-clause-performs : goal.returns-in-Bench-clause-performs
returns-in-Bench-clause-performs g c =
    let is : c.args.command ≡ command.Bench c.in-Bench.seed c.in-Bench.count = search rules in
    performs-for _ g.W.Sink.written g.W.Sink.faults c.args.out.now c.bench.new.out c.bench.result is c.bench.ensures.performs

pub returns-in-Bench-clause-ran : goal.returns-in-Bench-clause-ran
returns-in-Bench-clause-ran g c = let is : c.args.command ≡ command.Bench c.in-Bench.seed c.in-Bench.count = search rules in runs-for _ _ _ c.bench.result is c.bench.ensures.ran

pub returns-in-Bench-clause-shown : goal.returns-in-Bench-clause-shown
returns-in-Bench-clause-shown g c =
    let is : c.args.command ≡ command.Bench c.in-Bench.seed c.in-Bench.count = search rules in
    shows-for _ (g.V.Watch.seen c.args.watch.now) (g.V.Watch.seen c.bench.new.watch) c.bench.result is c.bench.ensures.shown

pub check-requires : goal.check-requires
check-requires g c = grind (arith, common_steps)

pub once-requires : goal.once-requires
once-requires g c = grind (arith, common_steps)

pub expand-requires : goal.expand-requires
expand-requires g c = grind (arith, common_steps)

pub layout-requires : goal.layout-requires
layout-requires g c = grind (arith, common_steps)

pub run_whole-requires : goal.run_whole-requires
run_whole-requires g c = grind (arith, common_steps)

pub run_pipe-requires : goal.run_pipe-requires
run_pipe-requires g c = grind (arith, common_steps)

pub run_placed-requires : goal.run_placed-requires
run_placed-requires g c = grind (arith, common_steps)

pub drive-requires : goal.drive-requires
drive-requires g c = grind (arith, common_steps)

pub audit-requires : goal.audit-requires
audit-requires g c = grind (arith, common_steps)

pub snap-requires : goal.snap-requires
snap-requires g c = grind (arith, common_steps)

pub generate-requires : goal.generate-requires
generate-requires g c = grind (arith, common_steps)

pub bench-requires : goal.bench-requires
bench-requires g c = grind (arith, common_steps)
