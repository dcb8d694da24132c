-- The command of the words of a call, and the words that name files: a line for each command in each table.
use Rattle.std.specs.Prelude.{ℕ, ◌<◌, List, [], ◌∷◌, Option, None, Some, if◌then◌else◌, codes, option_map, option_and_then}
use Rattle.std.specs.Str.{bytes_eq}
use Rattle.lucid_top_words.specs.declared.command.Command.{Command}
use Rattle.lucid_top_words.specs.declared.command.Command.TheVariants as command
use Rattle.lucid_top_words.specs.declared.command.GenKind.{GenKind}
use Rattle.lucid_top_words.specs.declared.command.GenKind.TheVariants as kind
use Rattle.lucid_top_words.specs.declared.command.NamedFile.{NamedFile}
use Rattle.lucid_top_words.specs.Words.{Bytes, arguments_of, count_of, number_of, numbers_of}

-- `check P`
abbrev pub check_words : List Bytes → Option Command
check_words (program ∷ []) = Some command.Check
check_words words = None

-- `once P NAME ARG..`
abbrev pub once_words : List Bytes → Option Command
once_words (program ∷ name ∷ arguments) = option_map (λ ns. command.Once (arguments_of ns)) (numbers_of arguments)
once_words words = None

-- `expand P`
abbrev pub expand_words : List Bytes → Option Command
expand_words (program ∷ []) = Some command.Expand
expand_words words = None

-- `layout P L`
abbrev pub layout_words : List Bytes → Option Command
layout_words (program ∷ limits ∷ []) = Some command.Layout
layout_words words = None

-- the `run` command of this mode
abbrev pub run_mode : Bytes → Option Command
run_mode mode =
    if bytes_eq mode (codes "whole") then Some command.RunWhole
    else if bytes_eq mode (codes "pipe") then Some command.RunPipe
    else None

-- with a placement, `run` has one mode
abbrev pub placed_mode : Bytes → Option Command
placed_mode mode = if bytes_eq mode (codes "placed") then Some command.RunPlaced else None

-- `run whole P L T`, `run pipe P L T`, `run placed P L T Q`
abbrev pub run_words : List Bytes → Option Command
run_words (mode ∷ program ∷ limits ∷ scenario ∷ []) = run_mode mode
run_words (mode ∷ program ∷ limits ∷ scenario ∷ placement ∷ []) = placed_mode mode
run_words words = None

-- `drive P L T`
abbrev pub drive_words : List Bytes → Option Command
drive_words (program ∷ limits ∷ scenario ∷ []) = Some command.Drive
drive_words words = None

-- `audit P L Q`
abbrev pub audit_words : List Bytes → Option Command
audit_words (program ∷ limits ∷ placement ∷ []) = Some command.Audit
audit_words words = None

-- `snap P L T K`
abbrev pub snap_words : List Bytes → Option Command
snap_words (program ∷ limits ∷ scenario ∷ after ∷ []) = option_map (λ k. command.Snap k) (number_of after)
snap_words words = None

-- which text is generated
abbrev pub kind_of : Bytes → Option GenKind
kind_of word =
    if bytes_eq word (codes "program") then Some kind.Program
    else if bytes_eq word (codes "limits") then Some kind.Limits
    else if bytes_eq word (codes "scene") then Some kind.Scene
    else None

-- `gen KIND SEED N`
abbrev pub gen_words : List Bytes → Option Command
gen_words (word ∷ seed ∷ events ∷ []) =
    option_and_then (λ k. option_and_then (λ s. option_map (λ n. command.Gen k s n) (count_of events)) (number_of seed)) (kind_of word)
gen_words words = None

-- `bench SEED N`
abbrev pub bench_words : List Bytes → Option Command
bench_words (seed ∷ events ∷ []) = option_and_then (λ s. option_map (λ n. command.Bench s n) (count_of events)) (number_of seed)
bench_words words = None

-- the command that the words ask for; None where they are none of the forms
abbrev pub command_of : List Bytes → Option Command
command_of [] = None
command_of (verb ∷ words) =
    if bytes_eq verb (codes "check") then check_words words
    else if bytes_eq verb (codes "once") then once_words words
    else if bytes_eq verb (codes "expand") then expand_words words
    else if bytes_eq verb (codes "layout") then layout_words words
    else if bytes_eq verb (codes "run") then run_words words
    else if bytes_eq verb (codes "drive") then drive_words words
    else if bytes_eq verb (codes "audit") then audit_words words
    else if bytes_eq verb (codes "snap") then snap_words words
    else if bytes_eq verb (codes "gen") then gen_words words
    else if bytes_eq verb (codes "bench") then bench_words words
    else None

-- a program file: at most one mebibyte
abbrev pub program_file : ℕ → NamedFile
program_file word = record { word = word; limit = 1048576 }

-- a limits file: at most one mebibyte
abbrev pub limits_file : ℕ → NamedFile
limits_file word = record { word = word; limit = 1048576 }

-- a scenario: at most eight mebibytes
abbrev pub scenario_file : ℕ → NamedFile
scenario_file word = record { word = word; limit = 8388608 }

-- a placement file: at most eight mebibytes
abbrev pub placement_file : ℕ → NamedFile
placement_file word = record { word = word; limit = 8388608 }

-- the words that name files, in word order
abbrev pub files_of : Command → List NamedFile
files_of command.Check = program_file 1 ∷ []
files_of (command.Once arguments) = program_file 1 ∷ []
files_of command.Expand = program_file 1 ∷ []
files_of command.Layout = program_file 1 ∷ limits_file 2 ∷ []
files_of command.RunWhole = program_file 2 ∷ limits_file 3 ∷ scenario_file 4 ∷ []
files_of command.RunPipe = program_file 2 ∷ limits_file 3 ∷ scenario_file 4 ∷ []
files_of command.RunPlaced = program_file 2 ∷ limits_file 3 ∷ scenario_file 4 ∷ placement_file 5 ∷ []
files_of command.Drive = program_file 1 ∷ limits_file 2 ∷ scenario_file 3 ∷ []
files_of command.Audit = program_file 1 ∷ limits_file 2 ∷ placement_file 3 ∷ []
files_of (command.Snap after) = program_file 1 ∷ limits_file 2 ∷ scenario_file 3 ∷ []
files_of (command.Gen k seed n) = []
files_of (command.Bench seed n) = []

-- a scenario that is generated has an event
abbrev pub HasCount : Command → Type 0
HasCount (command.Gen k seed n) = 0 < n
HasCount (command.Bench seed n) = 0 < n
HasCount c = Unit {0}
