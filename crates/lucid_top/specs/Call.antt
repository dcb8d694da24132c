-- The effect of a call, and its end: `Ended` is all that `lucid` promises.
use Rattle.std.specs.Prelude.{◌≡◌, ℕ, List, [], Option, Some, None, Result, Ok, Err, map, String, Vec, string_bytes}
use Rattle.std.specs.declared.alloc.Global.{Global}
use Rattle.lucid_code.specs.Parts as code
use Rattle.lucid_io.specs.Counts.{Rose}
use Rattle.lucid_pipe.specs.declared.sight.Sight.{Sight}
use Rattle.lucid_top_words.specs.declared.command.Command.{Command}
use Rattle.lucid_top_words.specs.declared.command.NamedFile.{NamedFile}
use Rattle.lucid_top_words.specs.declared.refusal.Refusal.{Refusal}
use Rattle.lucid_top_words.specs.declared.refusal.Refusal.TheVariants as refusal
use Rattle.lucid_top_words.specs.declared.status.Status.{Status}
use Rattle.lucid_top.specs.Answer.{Given, Question, CommandAnswers, CommandRuns, CommandShows, MayStop, command_files, given}
use Rattle.lucid_top_pipes.specs.Watching.{Seen, Shown}
use Rattle.lucid_top_fit.specs.Passes.{PassView, PassesRun}
use Rattle.lucid_top_words.specs.Command.{command_of}
use Rattle.lucid_top_words.specs.Files.{Texts, FilesRead, IsOneOf, texts_in}
use Rattle.lucid_top_words.specs.Outcome.{End, end_status}
use Rattle.lucid_top_words.specs.Refusal.{line_of}
use Rattle.lucid_top_words.specs.Views.{FilesView, Held, SinkView}
use Rattle.lucid_top_words.specs.Words.{Bytes, word_at}
use Rattle.lucid_top_words.specs.Writing.{Said, Untouched, Performs}

-- a call: its words, and the files, the output, the passes and the watch that it was handed, before and after; `err` is apart, since the
-- work is done before it is written
pub record Call : Type 0 where
  pub words : List Bytes
  pub files : FilesView
  pub files' : FilesView
  pub out : SinkView
  pub out' : SinkView
  pub passes : List PassView
  pub passes' : List PassView
  pub seen : Seen
  pub seen' : Seen

-- the inputs that determine its answer
abbrev pub question : Call → Question
question c = record { words = c.words; held = c.files.held; passes = c.passes }

-- The command is performed over the texts that were read; where a file was not taken, that is the end, and where the words are no
-- command, `Usage`.
abbrev pub PerformsOver : Option Command → Question → SinkView → SinkView → Texts → End → Type 0
PerformsOver None q out out' texts end = (end ≡ Err refusal.Usage) × Untouched SinkView.written SinkView.faults out out'
PerformsOver (Some c) q out out' (Err r) end = (end ≡ Err r) × Untouched SinkView.written SinkView.faults out out'
PerformsOver (Some c) q out out' (Ok texts) end =
    Performs (MayStop c (given q texts)) (CommandAnswers c (given q texts)) SinkView.written SinkView.faults out out' end

-- the code that passes are run on: none, but by a command whose files were read
abbrev pub RunsOver : Option Command → Question → Texts → code.CodeParts → Type 0
RunsOver (Some c) q (Ok texts) now = CommandRuns c (given q texts) now
RunsOver co q texts now = ⊥

-- the sights that are shown: none, but by a command whose files were read
abbrev pub ShowsOver : Option Command → Question → Texts → Result (List Sight) Refusal → Type 0
ShowsOver (Some c) q (Ok texts) o = CommandShows c (given q texts) o
ShowsOver co q texts o = o ≡ Ok []

-- nothing at Ok, else the line of the refusal
abbrev pub EndSaid : SinkView → SinkView → List Bytes → End → Type 0
EndSaid err err' words (Ok u) = Untouched SinkView.written SinkView.faults err err'
EndSaid err err' words (Err r) = Said SinkView.written SinkView.faults err err' (line_of words r)

-- the effect of a call up to this end: it read the files that the words name, and performed the command over their texts; with its effect
-- on the passes, and the sights of the watch
pub record Done (c : Call) (end : End) : Type 0 where
  pub texts : Texts
  pub reads : FilesRead c.words c.files c.files' (command_files (command_of c.words)) texts
  pub does : PerformsOver (command_of c.words) (question c) c.out c.out' texts end
  pub ran : PassesRun (RunsOver (command_of c.words) (question c) texts) c.passes c.passes' end
  pub shown : Shown (ShowsOver (command_of c.words) (question c) texts) c.seen c.seen' end

-- the end of a call: its status, its effect, and its text on `err`
pub record Ended (c : Call) (err err' : SinkView) (result : Status) : Type 0 where
  pub end : End
  pub status : result ≡ end_status end
  pub done : Done c end
  pub said : EndSaid err err' c.words end

-- ---- the same over the words as the call takes them

abbrev pub Words : Type 0
Words = List (String Global)

abbrev pub bytes_of : Words → List Bytes
bytes_of words = map string_bytes words

abbrev pub files_named : List Bytes → List NamedFile
files_named words = command_files (command_of words)

abbrev pub named_files : Words → List NamedFile
named_files words = files_named (bytes_of words)

-- this file is one that the words name
abbrev pub Names : Words → NamedFile → Type 0
Names words file = IsOneOf (named_files words) file

abbrev pub name_of : Words → NamedFile → Bytes
name_of words file = word_at (bytes_of words) file.word

-- a file that the words name has this name
abbrev pub IsNamed : Words → Bytes → Type 0
IsNamed words name = (file : NamedFile) × Names words file × (name ≡ name_of words file)

-- no count of a named file rose
abbrev pub Unfailed : {F : Type 0} → (F → Bytes → ℕ) → F → F → Words → Type 0
Unfailed counts old new words =
    (file : NamedFile) → Names words file → ¬ Rose (counts old (name_of words file)) (counts new (name_of words file))

-- the inputs that determine the answer of these words, over the contents of files and over passes
abbrev pub asked : Words → Held → List PassView → Question
asked words held passes = record { words = bytes_of words; held = held; passes = passes }

-- the inputs of a command, as the code has them
abbrev pub given' : Words → List (Vec ℕ Global) → List PassView → Given
given' words texts passes = record { words = bytes_of words; texts = texts_in texts; passes = passes }
