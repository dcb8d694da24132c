use Rattle.std.proofs.Common.{◌≡◌, ◌-◌, ◌≤◌, length, drop}
use Rattle.lucid_parse_spec.specs.Lexemes.{lexemes_of}
use Rattle.lucid_parse_expression.specs.Tokens.{said}
use Rattle.lucid_parse.specs.Program.{Progress, Rising, line_at}
use Rattle.lucid_parse.proofs.program.tree_of.Given as goal

abbrev pub invariant-each : goal.invariant-each
invariant-each l = record {
  so_far : Progress l.text l.tokens (lexemes_of l.text l.tokens) l.decls (said l.rest);
  shorter : length (said l.rest) ≤ length l.tokens;
  line : l.line ≡ line_at l.text l.from;
  within : l.from ≤ length l.text;
  order : Rising l.from (drop (length l.tokens - length (said l.rest)) l.tokens);
}

-- each declaration has a token
abbrev pub decreases-each : goal.decreases-each
decreases-each l = length (said l.rest)
