-- Why there is no output, and the error line that says so: a line a refusal in each table.
use Rattle.std.specs.Prelude.{ℕ, List, [], ◌++◌, Option, None, Some, codes, decimal}
use Rattle.std.specs.List.{flat_map}
use Rattle.lucid_conf.specs.Keys.{name_of}
use Rattle.lucid_conf.specs.declared.key.Key.{Key}
use Rattle.lucid_types_spec.specs.declared.limit.What.{What}
use Rattle.lucid_types_spec.specs.declared.limit.What.TheVariants as what
use Rattle.lucid_top_words.specs.declared.refusal.Refusal.{Refusal}
use Rattle.lucid_top_words.specs.declared.refusal.Refusal.TheVariants as refusal
use Rattle.lucid_top_words.specs.declared.status.Status.{Status}
use Rattle.lucid_top_words.specs.declared.status.Status.TheVariants as status
use Rattle.lucid_top_words.specs.NoFit.{fit_line}
use Rattle.lucid_top_words.specs.Placement.{placement_line}
use Rattle.lucid_top_words.specs.Sizes.{sizes_line}
use Rattle.lucid_top_words.specs.Words.{Bytes, word_at}

abbrev pub status_of : Refusal → Status
status_of refusal.Usage = status.Usage
status_of (refusal.ReadFault word) = status.ReadFault
status_of (refusal.TooLong word) = status.TooLong
status_of (refusal.NoToken at) = status.Syntax
status_of (refusal.Sizes why) = status.BadSizes
status_of (refusal.TooDeep n) = status.Syntax
status_of (refusal.NoTree n) = status.Syntax
status_of (refusal.NoRule decl line) = status.Types
status_of (refusal.PassesLimit what decl line) = status.Types
status_of (refusal.NoOrder decl line cycle) = status.Order
status_of refusal.LimitsNotJson = status.BadLimits
status_of (refusal.LimitsKey key) = status.BadLimits
status_of (refusal.NoFit why) = status.NoFit
status_of refusal.SceneNotJson = status.BadScene
status_of (refusal.SceneKey key place) = status.BadScene
status_of (refusal.Placement why) = status.BadPlacement
status_of refusal.WriteFault = status.WriteFault
status_of refusal.Memory = status.Memory

-- a limit
abbrev pub limit_of : What → Bytes
limit_of what.Arrays = codes " limit arrays"
limit_of what.ArrayParameters = codes " limit array parameters"
limit_of what.ValueParameters = codes " limit value parameters"
limit_of what.Arguments = codes " limit arguments"
limit_of what.Outs = codes " limit outs"
limit_of what.Cases = codes " limit cases"

-- a declaration that the typing rules refuse, and then the limit that it passes
abbrev pub types_line : ℕ → ℕ → Bytes → Bytes
types_line decl line limit = codes "types: declaration " ++ decimal decl ++ codes " line " ++ decimal line ++ limit ++ codes "\n"

-- names, each after a blank
abbrev pub names_text : List Bytes → Bytes
names_text names = flat_map (λ name. codes " " ++ name) names

-- a declaration that isn't in order, and a cycle
abbrev pub order_line : ℕ → ℕ → List Bytes → Bytes
order_line decl line cycle =
    (codes "order: declaration " ++ decimal decl ++ codes " line " ++ decimal line ++ codes " cycle") ++ (names_text cycle ++ codes "\n")

-- the key of a scenario that fails, and of a list the number of the bad item
abbrev pub scene_line : Key → Option ℕ → Bytes
scene_line key None = codes "scene: " ++ name_of key ++ codes "\n"
scene_line key (Some place) = codes "scene: " ++ name_of key ++ codes " " ++ decimal place ++ codes "\n"

-- the line on the error stream, with its line feed; a file is named by the word that names it
abbrev pub line_of : List Bytes → Refusal → Bytes
line_of words refusal.Usage = codes "usage\n"
line_of words (refusal.ReadFault word) = codes "read fault: " ++ word_at words word ++ codes "\n"
line_of words (refusal.TooLong word) = codes "too long: " ++ word_at words word ++ codes "\n"
line_of words (refusal.NoToken at) = codes "syntax: byte " ++ decimal at ++ codes "\n"
line_of words (refusal.Sizes why) = sizes_line why
line_of words (refusal.TooDeep n) = codes "syntax: nesting at token " ++ decimal n ++ codes "\n"
line_of words (refusal.NoTree n) = codes "syntax: token " ++ decimal n ++ codes "\n"
line_of words (refusal.NoRule decl line) = types_line decl line []
line_of words (refusal.PassesLimit what decl line) = types_line decl line (limit_of what)
line_of words (refusal.NoOrder decl line cycle) = order_line decl line cycle.items
line_of words refusal.LimitsNotJson = codes "limits: not JSON\n"
line_of words (refusal.LimitsKey key) = codes "limits: " ++ name_of key ++ codes "\n"
line_of words (refusal.NoFit why) = fit_line why
line_of words refusal.SceneNotJson = codes "scene: not JSON\n"
line_of words (refusal.SceneKey key place) = scene_line key place
line_of words (refusal.Placement why) = placement_line why
line_of words refusal.WriteFault = codes "write fault\n"
line_of words refusal.Memory = codes "memory\n"
