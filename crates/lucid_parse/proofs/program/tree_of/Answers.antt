use Rattle.std.proofs.Common.{◌≡◌, ◌+◌, ◌<◌, ◌-◌, length, sym, subst, ◌∙◌, arith}
use Rattle.std.proofs.lemmas.List.{length-map}
use Rattle.lucid_parse_spec.specs.Lexemes.{lexeme_of, lexemes_of}
use Rattle.lucid_parse.specs.Program.{IsFault, line_of, last_of}
use Rattle.lucid_parse_expression.specs.Tokens.{said}
use Rattle.lucid_parse.proofs.Programs.{goes_on, shorter, stops_here}
use Rattle.lucid_parse.proofs.program.tree_of.Goals as goal

pub returns-in-Err-NoTree-clause-why : goal.returns-in-Err-NoTree-clause-why
returns-in-Err-NoTree-clause-why c =
    let ls = lexemes_of c.args.text.now c.args.tokens.now in
    let many : length ls ≡ length c.args.tokens.now = length-map c.args.tokens.now (lexeme_of c.args.text.now) in
    let left = c.len-in-each.ensures in
    let some : 0 < length (said c.each.rest) = omega (arith, c.len.ensures, c.each-test.true) in
    let none = rw c.in-Err-NoTree.field-0-is at c.in-Err-NoTree.ensures in
    let place : length ls - length (said c.each.rest) + 1 ≡ length c.args.tokens.now - c.len-in-each.result + 1 = omega (arith, many, left) in
    subst (IsFault ls) place (stops_here c.declarations_are_read_as_spelled.ensures c.args.text.now c.args.tokens.now ls c.each.decls (said c.each.rest) c.each.invariant.so_far none some)

pub each-smaller : goal.each-smaller
each-smaller c = shorter c.declarations_are_read_as_spelled.ensures (said c.each.rest) (said c.in-Ok.after) c.in-Ok.kind c.in-Ok.ensures

pub each-preserved : goal.each-preserved
each-preserved c =
    let ls = lexemes_of c.args.text.now c.args.tokens.now in
    let left = c.len-in-each.ensures in
    let less = shorter c.declarations_are_read_as_spelled.ensures (said c.each.rest) (said c.in-Ok.after) c.in-Ok.kind c.in-Ok.ensures in
    let line_is : c.line_at-line.result ≡ line_of c.args.text.now (last_of (length (said c.each.rest)) c.args.tokens.now) = rw left at (c.line_at-line.ensures ∙ sym c.start_of-start.ensures.line) in
    let enough = c.each.invariant.shorter in
    record {
      so_far = rw c.in_ok-push-in-Ok.ensures.ok (goes_on c.declarations_are_read_as_spelled.ensures c.args.text.now c.args.tokens.now ls c.each.decls (said c.each.rest) (said c.in-Ok.after) (record { line = c.line_at-line.result; kind = c.in-Ok.kind }) c.each.invariant.so_far c.in-Ok.ensures line_is);
      shorter = omega (arith, less);
      line = c.line_at-line.ensures;
      within = c.start_of-start.ensures.within;
      order = c.start_of-start.ensures.order (length c.args.tokens.now - length (said c.in-Ok.after)) (omega (arith, less, left));
    }
