use Rattle.std.proofs.Common.{refl}
use Rattle.lucid_parse_spec.specs.Lexemes.{lexemes_of}
use Rattle.lucid_parse.proofs.Programs.{one_tree, tokens_rise, finds, faults}
use Rattle.lucid_parse.proofs.program.parse.Goals as goal

pub tree_of-requires-clause-order : goal.tree_of-requires-clause-order
tree_of-requires-clause-order c = tokens_rise c.args.text.now c.args.tokens.now c.requires

-- the tokens have one tree at most

pub returns-in-Some-clause-one : goal.returns-in-Some-clause-one
returns-in-Some-clause-one c = one_tree c.declarations_are_read_as_spelled.ensures c.args.text.now c.args.tokens.now

pub returns-clause-one : goal.returns-clause-one
returns-clause-one c = one_tree c.declarations_are_read_as_spelled.ensures c.args.text.now c.args.tokens.now

-- the truth is answered

pub returns-clause-parses : goal.returns-clause-parses
returns-clause-parses c = λ tree shallow is. finds c.declarations_are_read_as_spelled.ensures c.args.text.now c.args.tokens.now (lexemes_of c.args.text.now c.args.tokens.now) c.tree_of.result refl c.tree_of.ensures.read c.tree_of.ensures.why tree is

pub returns-clause-refuses : goal.returns-clause-refuses
returns-clause-refuses c = λ n shallow fault. faults c.args.text.now c.args.tokens.now (lexemes_of c.args.text.now c.args.tokens.now) c.tree_of.result refl c.tree_of.ensures.read c.tree_of.ensures.why n fault
