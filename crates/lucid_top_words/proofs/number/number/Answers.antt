use Rattle.std.proofs.Common.{◌≡◌, rules, true, false}
use Rattle.std.specs.Str.{bytes_eq}
use Rattle.std.specs.Fmt.{decimal}
use Rattle.lucid_top_words.proofs.Numbers.{number_kept, number_dropped, number_unread}
use Rattle.lucid_top_words.proofs.number.number.Goals as goal

pub returns-then-eq : goal.returns-then-eq
returns-then-eq c =
    let same : bytes_eq (decimal c.in-Ok.n) c.args.word.now ≡ true = search rules in
    number_kept c.args.word.now c.parse.result c.in-Ok.n c.parse.ensures.value.0 c.in-Ok.is same

pub returns-else-eq : goal.returns-else-eq
returns-else-eq c =
    let other : bytes_eq (decimal c.in-Ok.n) c.args.word.now ≡ false = search rules in
    number_dropped c.args.word.now c.parse.result c.in-Ok.n c.parse.ensures.value.0 c.in-Ok.is other

pub returns-in-Err : goal.returns-in-Err
returns-in-Err c = number_unread c.args.word.now c.parse.result c.in-Err.field-0 c.parse.ensures.value.0 c.in-Err.is
