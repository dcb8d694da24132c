use Rattle.std.proofs.lemmas.Grind.{common_steps}
use Rattle.std.proofs.Common.{◌≡◌, ◌++◌, ◌∷◌, [], Some, string_bytes, rules, ◌∙◌, arith}
use Rattle.lucid_top_words.specs.Words.{number_of}
use Rattle.lucid_top_words.proofs.Numbers.{numbers-next}
use Rattle.lucid_top_words.proofs.number.arguments.Goals as goal

pub loop-word-preserved : goal.loop-word-preserved
loop-word-preserved c =
    let so_far = c.loop-word.invariant.0 in
    let n = c.in_ok-number.field-0 in
    let number : number_of (string_bytes c.word-item.result) ≡ Some n = search rules in (
      so_far ++ n ∷ [],
      c.with_argument-args.ensures so_far c.loop-word.invariant.1,
      numbers-next so_far c.args.words.now c.loop-word.word-index c.word-item.result n c.loop-word-test.true (search rules) number ∙ c.loop-word.invariant.2,
    )

pub returns-in_err-number : goal.returns-in_err-number
returns-in_err-number c = grind (arith, common_steps)

pub returns : goal.returns
returns c = grind (arith, common_steps)
