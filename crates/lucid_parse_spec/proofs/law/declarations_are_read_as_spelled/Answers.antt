use Rattle.lucid_parse_spec.proofs.Declarations.{declaration_ok, declaration_again, declaration_long}
use Rattle.lucid_parse_spec.proofs.law.declarations_are_read_as_spelled.Goals as goal

pub returns : goal.returns
returns c = record { sound = λ ts x rest is. (declaration_ok ts).each (x, rest) is; complete = declaration_again; long = declaration_long }
