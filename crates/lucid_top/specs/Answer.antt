-- The answer that words, the contents of files and passes determine. A command is a line in `CommandAnswers`, in `MayStop`, and if it
-- runs the passes or shows the watch something, in `CommandRuns` and `CommandShows`.
use Rattle.std.specs.Prelude.{◌≡◌, ℕ, List, [], Option, None, Some, Result, Ok, Err, IsSome}
use Rattle.lucid_code.specs.Parts as code
use Rattle.lucid_gen.specs.Limits.{limits_text}
use Rattle.lucid_gen.specs.Program.{program_text}
use Rattle.lucid_pipe.specs.declared.sight.Sight.{Sight}
use Rattle.lucid_top_words.specs.declared.command.Command.{Command}
use Rattle.lucid_top_words.specs.declared.command.Command.TheVariants as command
use Rattle.lucid_top_words.specs.declared.command.NamedFile.{NamedFile}
use Rattle.lucid_top_words.specs.declared.refusal.Refusal.{Refusal}
use Rattle.lucid_top_words.specs.declared.refusal.Refusal.TheVariants as refusal
use Rattle.lucid_top.specs.Check.{CheckAnswers}
use Rattle.lucid_top_words.specs.Command.{command_of, files_of}
use Rattle.lucid_top_words.specs.Files.{Texts, contents}
use Rattle.lucid_top.specs.Drive.{DriveAnswers, DriveShows}
use Rattle.lucid_top.specs.Expand.{ExpandAnswers}
use Rattle.lucid_top.specs.Generated.{BenchAnswers, BenchShows, GenAnswers}
use Rattle.lucid_top.specs.Layout.{LayoutAnswers}
use Rattle.lucid_top.specs.Once.{OnceAnswers}
use Rattle.lucid_top.specs.Pipes.{RunsCode}
use Rattle.lucid_top.specs.Placed.{AuditAnswers, RunPlacedAnswers, RunPlacedShows, StopsPlaced}
use Rattle.lucid_top.specs.RunPipe.{RunPipeAnswers, RunPipeShows, StopsPiped}
use Rattle.lucid_top_words.specs.Outcome.{Outcome}
use Rattle.lucid_top.specs.RunWhole.{RunWholeAnswers}
use Rattle.lucid_top.specs.Snap.{SnapAnswers}
use Rattle.lucid_top_fit.specs.Passes.{PassView}
use Rattle.lucid_top_words.specs.Views.{Held}
use Rattle.lucid_top_words.specs.Words.{Bytes, word_at}
use Rattle.lucid_top_words.specs.Writing.{anywhere, nowhere}

-- the inputs of a command: the words of the call, the texts of the files that they name, in word order, and the passes
pub record Given : Type 0 where
  pub words : List Bytes
  pub texts : List Bytes
  pub passes : List PassView

-- the text of the file of this number, from 0
abbrev pub text : ℕ → Given → Bytes
text n g = word_at g.texts n

-- the answer of a command
abbrev pub CommandAnswers : Command → Given → Outcome → Type 0
CommandAnswers command.Check g o = CheckAnswers (text 0 g) o
CommandAnswers (command.Once arguments) g o = OnceAnswers (text 0 g) (word_at g.words 2) arguments o
CommandAnswers command.Expand g o = ExpandAnswers (text 0 g) o
CommandAnswers command.Layout g o = LayoutAnswers (text 0 g) (text 1 g) g.passes o
CommandAnswers command.RunWhole g o = RunWholeAnswers (text 0 g) (text 1 g) (text 2 g) o
CommandAnswers command.RunPipe g o = RunPipeAnswers (text 0 g) (text 1 g) (text 2 g) g.passes o
CommandAnswers command.RunPlaced g o = RunPlacedAnswers (text 0 g) (text 1 g) (text 2 g) (text 3 g) g.passes o
CommandAnswers command.Drive g o = DriveAnswers (text 0 g) (text 1 g) (text 2 g) g.passes o
CommandAnswers command.Audit g o = AuditAnswers (text 0 g) (text 1 g) (text 2 g) g.passes o
CommandAnswers (command.Snap after) g o = SnapAnswers after (text 0 g) (text 1 g) (text 2 g) g.passes o
CommandAnswers (command.Gen kind seed n) g o = GenAnswers kind seed n o
CommandAnswers (command.Bench seed n) g o = BenchAnswers seed n g.passes o

-- after which bytes of its text a command may run out of memory
abbrev pub MayStop : Command → Given → Bytes → Type 0
MayStop command.Check g = nowhere
MayStop (command.Once arguments) g = nowhere
MayStop command.Expand g = nowhere
MayStop command.Layout g = nowhere
MayStop command.RunWhole g = anywhere
MayStop command.RunPipe g = StopsPiped (text 0 g) (text 1 g) (text 2 g) g.passes
MayStop command.RunPlaced g = StopsPlaced (text 0 g) (text 1 g) (text 2 g) (text 3 g) g.passes
MayStop command.Drive g = nowhere
MayStop command.Audit g = nowhere
MayStop (command.Snap after) g = anywhere
MayStop (command.Gen kind seed n) g = nowhere
MayStop (command.Bench seed n) g = nowhere

-- the code that a command runs the passes on
abbrev pub CommandRuns : Command → Given → code.CodeParts → Type 0
CommandRuns command.Layout g now = RunsCode (text 0 g) (text 1 g) now
CommandRuns command.RunPipe g now = RunsCode (text 0 g) (text 1 g) now
CommandRuns command.RunPlaced g now = RunsCode (text 0 g) (text 1 g) now
CommandRuns command.Drive g now = RunsCode (text 0 g) (text 1 g) now
CommandRuns command.Audit g now = RunsCode (text 0 g) (text 1 g) now
CommandRuns (command.Snap after) g now = RunsCode (text 0 g) (text 1 g) now
CommandRuns (command.Bench seed n) g now = RunsCode (program_text seed) limits_text now
CommandRuns c g now = ⊥

-- the sights that a command shows the watch
abbrev pub CommandShows : Command → Given → Result (List Sight) Refusal → Type 0
CommandShows command.RunPipe g o = RunPipeShows (text 0 g) (text 1 g) (text 2 g) g.passes o
CommandShows command.RunPlaced g o = RunPlacedShows (text 0 g) (text 1 g) (text 2 g) (text 3 g) g.passes o
CommandShows command.Drive g o = DriveShows (text 0 g) (text 1 g) (text 2 g) g.passes o
CommandShows (command.Bench seed n) g o = BenchShows seed n g.passes o
CommandShows c g o = o ≡ Ok []

-- ---- the same for words that may be no command

abbrev pub AnswersTo : Option Command → Given → Outcome → Type 0
AnswersTo None g o = o ≡ Err refusal.Usage
AnswersTo (Some c) g o = CommandAnswers c g o

abbrev pub StopsOf : Option Command → Given → Bytes → Type 0
StopsOf None g = nowhere
StopsOf (Some c) g = MayStop c g

-- the words that name files
abbrev pub command_files : Option Command → List NamedFile
command_files None = []
command_files (Some c) = files_of c

-- ---- the same over the contents of files

-- the inputs that determine the answer of a call: its words, the contents of names, if they are specified, and the passes
pub record Question : Type 0 where
  pub words : List Bytes
  pub held : Held
  pub passes : List PassView

-- the inputs of a command if these are the texts of its files
abbrev pub given : Question → List Bytes → Given
given q texts = record { words = q.words; texts = texts; passes = q.passes }

-- the contents of the files of these words, or the first that is too long; None if one is unspecified
abbrev pub told_texts : Question → Option Texts
told_texts q = contents q.held q.words (command_files (command_of q.words))

-- no answer is required if the content of a file is unspecified; a file that is too long is the answer
abbrev pub OverTexts : Option Texts → (List Bytes → Outcome → Type 0) → Outcome → Type 0
OverTexts None answers o = ⊥
OverTexts (Some (Err r)) answers o = o ≡ Err r
OverTexts (Some (Ok texts)) answers o = answers texts o

-- over any texts, if the content of a file is unspecified
abbrev pub StopsOver : Option Texts → (List Bytes → Type 0) → Type 0
StopsOver None stops = (texts : List Bytes) × stops texts
StopsOver (Some (Err r)) stops = ⊥
StopsOver (Some (Ok texts)) stops = stops texts

-- the answer of the words over these files: the text that is written, or the reason why there is none
abbrev pub Answers : Question → Outcome → Type 0
Answers q o = OverTexts (told_texts q) (λ texts. AnswersTo (command_of q.words) (given q texts)) o

-- the contents of the files that the words name are specified
abbrev pub IsTold : Question → Type 0
IsTold q = IsSome (told_texts q)

-- the call may run out of memory after these bytes of its text, or after some
abbrev pub StopsAfter : Question → Bytes → Type 0
StopsAfter q begun = StopsOver (told_texts q) (λ texts. StopsOf (command_of q.words) (given q texts) begun)

abbrev pub CanStop : Question → Type 0
CanStop q = (begun : Bytes) × StopsAfter q begun
