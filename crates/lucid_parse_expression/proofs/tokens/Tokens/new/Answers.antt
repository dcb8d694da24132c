use Rattle.std.proofs.lemmas.List.Elements.{All-weaker}
use Rattle.lucid_lex.specs.Reading.{IsTokenOf, bytes_of}
use Rattle.lucid_lex.proofs.Ascii.{token_ascii}
use Rattle.lucid_parse_expression.specs.Within.{IsWithin}
use Rattle.lucid_parse_expression.proofs.tokens.Tokens.new.Goals as goal

-- a token's bytes are in the text, and are ASCII
pub invariant_of-result : goal.invariant_of-result
invariant_of-result c = record { stand = All-weaker (IsTokenOf c.args.text.now) (IsWithin c.args.text.now) (λ t h. (h.in_order, h.within, token_ascii (bytes_of c.args.text.now t) t.kind h.written)) c.args.tokens.now c.requires }
