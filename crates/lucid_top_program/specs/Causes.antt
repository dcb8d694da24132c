-- Why a text gives no program, no limits and no scenario: the refusal of each error of the parts below.
use Rattle.lucid_conf.specs.declared.error.ConfError.{ConfError}
use Rattle.lucid_conf.specs.declared.error.ConfError.TheVariants as conf
use Rattle.lucid_lex.specs.declared.token.LexError.{LexError}
use Rattle.lucid_lex.specs.declared.token.LexError.TheVariants as lex
use Rattle.lucid_parse.specs.declared.error.ParseError.{ParseError}
use Rattle.lucid_parse.specs.declared.error.ParseError.TheVariants as parse
use Rattle.lucid_size.specs.declared.error.SizeError.{SizeError}
use Rattle.lucid_size.specs.declared.error.SizeError.TheVariants as size
use Rattle.lucid_types.specs.declared.error.TypeError.{TypeError}
use Rattle.lucid_types.specs.declared.error.TypeError.TheVariants as types
use Rattle.lucid_top_words.specs.declared.refusal.Refusal.{Refusal}
use Rattle.lucid_top_words.specs.declared.refusal.Refusal.TheVariants as refusal
use Rattle.lucid_top_words.specs.declared.sizes.BadSizes.TheVariants as sizes

-- why a text has no tokens
abbrev pub of_lex : LexError → Refusal
of_lex (lex.NoToken at) = refusal.NoToken at
of_lex lex.Memory = refusal.Memory

-- why a text has no expansion
abbrev pub of_size : SizeError → Refusal
of_size (size.Broken n) = refusal.Sizes (sizes.Broken n)
of_size (size.Twice name) = refusal.Sizes (sizes.Twice name)
of_size size.TooBig = refusal.Sizes sizes.TooLong
of_size size.Memory = refusal.Memory

-- why tokens have no tree
abbrev pub of_parse : ParseError → Refusal
of_parse (parse.NoTree n) = refusal.NoTree n
of_parse (parse.TooDeep n) = refusal.TooDeep n
of_parse parse.Memory = refusal.Memory

-- why a tree has no core
abbrev pub of_types : TypeError → Refusal
of_types (types.NoRule decl line) = refusal.NoRule decl line
of_types (types.Limit what decl line) = refusal.PassesLimit what decl line
of_types types.Memory = refusal.Memory

-- why a limits file gives nothing
abbrev pub of_limits : ConfError → Refusal
of_limits conf.NotJson = refusal.LimitsNotJson
of_limits (conf.BadField key place) = refusal.LimitsKey key
of_limits conf.Memory = refusal.Memory

-- why a scenario gives nothing
abbrev pub of_scene : ConfError → Refusal
of_scene conf.NotJson = refusal.SceneNotJson
of_scene (conf.BadField key place) = refusal.SceneKey key place
of_scene conf.Memory = refusal.Memory
