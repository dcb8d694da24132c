use Rattle.std.proofs.lemmas.Grind.{common_steps}
use Rattle.std.proofs.Common.{◌≡◌, ◌∙◌, [], List, length, map, string_bytes, ap, arith, rules}
use Rattle.lucid_top_words.specs.declared.command.NamedFile.{NamedFile}
use Rattle.lucid_top_words.proofs.Reading.{OthersKept-not, OthersKept-one, SoFar-more, SoFar-not, SoFar-end, TriesOnly-not, TriesOnly-one, files-next, files-none, is_one_of, reads-not, reads-one}
use Rattle.lucid_top_words.proofs.files.read_files.Goals as goal

pub returns-in_err-read_next-clause-reads : goal.returns-in_err-read_next-clause-reads
returns-in_err-read_next-clause-reads g c =
    SoFar-not _ _ c.in_err-read_next.field-0.0 _ c.loop-file.invariant.so_far (files-next c.args.named.now c.loop-file.file-index _ c.loop-file-test.true (search rules))
    c.in_err-read_next.ensures.not (search rules)

pub returns-in_err-read_next-clause-tries : goal.returns-in_err-read_next-clause-tries
returns-in_err-read_next-clause-tries g c =
    TriesOnly-not _ _ _ _ _ _ c.in_err-read_next.ensures.not (is_one_of c.args.named.now c.loop-file.file-index _ c.loop-file-test.true (search rules)) c.loop-file.invariant.tries c.read_next.ensures.tries

pub returns-in_err-read_next-clause-others : goal.returns-in_err-read_next-clause-others
returns-in_err-read_next-clause-others g c =
    OthersKept-not _ _ _ _ _ _ c.in_err-read_next.ensures.not (is_one_of c.args.named.now c.loop-file.file-index _ c.loop-file-test.true (search rules)) c.loop-file.invariant.others c.read_next.ensures.others

pub returns-in_err-read_next-clause-calls : goal.returns-in_err-read_next-clause-calls
returns-in_err-read_next-clause-calls g c =
    reads-not _ _ _ _ c.args.named.now c.loop-file.file-index _ c.in_err-read_next.ensures.not c.loop-file-test.true (search rules) c.loop-file.invariant.calls
    c.read_next.ensures.calls

pub returns-clause-calls : goal.returns-clause-calls
returns-clause-calls g c = omega (arith, c.loop-file.invariant.calls)

pub returns-in_err-read_next-clause-none : goal.returns-in_err-read_next-clause-none
returns-in_err-read_next-clause-none g c = λ empty.
    let none : length c.args.named.now ≡ 0 = ap length empty in
    absurd (omega (arith, none, c.loop-file-test.true))

pub loop-file-preserved : goal.loop-file-preserved
loop-file-preserved g c = record {
  so_far = SoFar-more _ _ c.loop-file.invariant.so_far (files-next c.args.named.now c.loop-file.file-index _ c.loop-file-test.true (search rules)) c.in_ok-read_next.ensures.whole;
  tries = TriesOnly-one _ _ _ _ _ _ _ _ c.in_ok-read_next.ensures.whole (is_one_of c.args.named.now c.loop-file.file-index _ c.loop-file-test.true (search rules)) c.loop-file.invariant.tries c.read_next.ensures.tries;
  others = OthersKept-one _ _ _ _ _ _ _ _ c.in_ok-read_next.ensures.whole (is_one_of c.args.named.now c.loop-file.file-index _ c.loop-file-test.true (search rules)) c.loop-file.invariant.others c.read_next.ensures.others;
  calls = reads-one (map string_bytes c.args.words.now) _ _ _ _ _ c.args.named.now c.loop-file.file-index _ _ (files-next c.args.named.now c.loop-file.file-index _ c.loop-file-test.true (search rules)) c.in_ok-read_next.ensures.whole c.loop-file.invariant.calls c.read_next.ensures.calls;
  none = λ empty.
      let none : length c.args.named.now ≡ 0 = ap length empty in
      absurd (omega (arith, none, c.loop-file-test.true));
}

pub returns-clause-reads : goal.returns-clause-reads
returns-clause-reads g c = SoFar-end c.loop-file.invariant.so_far (files-none c.args.named.now c.loop-file.file-index c.loop-file-test.false)

pub loop-file-init : goal.loop-file-init
loop-file-init g c = grind (arith, common_steps)

pub offset_bounds-named-file-index : goal.offset_bounds-named-file-index
offset_bounds-named-file-index g c = grind (arith, common_steps)

pub read_next-requires-clause-there : goal.read_next-requires-clause-there
read_next-requires-clause-there g c = grind (arith, common_steps)

pub read_next-requires-clause-small : goal.read_next-requires-clause-small
read_next-requires-clause-small g c = grind (arith, common_steps)

pub returns-clause-tries : goal.returns-clause-tries
returns-clause-tries g c = grind (arith, common_steps)

pub returns-clause-none : goal.returns-clause-none
returns-clause-none g c = grind (arith, common_steps)
