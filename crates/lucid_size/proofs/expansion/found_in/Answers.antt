use Rattle.std.proofs.Common.{◌≡◌, ◌+◌, arith}
use Rattle.std.proofs.lemmas.Result.{IfErr-weaker}
use Rattle.lucid_size.specs.Bytes.{steps_len}
use Rattle.lucid_size.specs.Expansion.{most}
use Rattle.lucid_size.proofs.Least.{room_behind_needs}
use Rattle.lucid_size.proofs.expansion.found_in.Goals as goal

pub room_behind-requires : goal.room_behind-requires
room_behind-requires c = c.requires.outer

pub find_used-requires : goal.find_used-requires
find_used-requires c = record { outside = c.requires.outside; bodies = c.requires.bodies; steps = c.requires.steps }

pub returns-in-None-clause-err : goal.returns-in-None-clause-err
returns-in-None-clause-err c = λ _ _. let full = c.in-None.ensures in omega (arith, full)

pub returns-in-Some : goal.returns-in-Some
returns-in-Some c =
    let outer = steps_len c.args.underscores 0 c.args.outside.now in
    let left : c.in-Some.room + outer ≡ most = let fits = c.in-Some.ensures in omega (arith, fits) in
    record {
      found = c.find_used.ensures.found;
      within = c.find_used.ensures.within;
      err = IfErr-weaker c.find_used.result _ _
          (λ e. room_behind_needs c.in-Some.room most outer c.args.underscores c.args.outside.now c.args.bodies.now e left) c.find_used.ensures.err;
    }
