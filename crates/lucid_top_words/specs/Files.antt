-- The files that the words name: how they are read in word order, and their specified contents. All claims about statuses 2 and 3 are on
-- this page.
use Rattle.std.specs.Prelude.{◌≡◌, ◌≢◌, ℕ, ◌+◌, ◌<◌, ◌≤◌, ◌⊎◌, true, List, [], ◌∷◌, ◌++◌, Option, Some, None, Result, Ok, Err, IfSome, if◌then◌else◌}
use Rattle.std.specs.Prelude.{length, map, nat_lt, option_map, Vec}
use Rattle.std.specs.declared.alloc.Global.{Global}
use Rattle.lucid_io.specs.Contents.{SameHeld}
use Rattle.lucid_io.specs.Counts.{Rose, NoneFell, SameCounts}
use Rattle.lucid_io.specs.History.{Heard, HeardPart, HeardWhole}
use Rattle.lucid_io.specs.declared.reading.Take.{Take}
use Rattle.lucid_io.specs.declared.reading.Take.TheVariants as take
use Rattle.lucid_top_words.specs.declared.command.NamedFile.{NamedFile}
use Rattle.lucid_top_words.specs.declared.refusal.Refusal.{Refusal}
use Rattle.lucid_top_words.specs.declared.refusal.Refusal.TheVariants as refusal
use Rattle.lucid_top_words.specs.Views.{FilesView, Held}
use Rattle.lucid_top_words.specs.Words.{Bytes, word_at}

-- the texts of files in word order, or why one was not taken
abbrev pub Texts : Type 0
Texts = Result (List Bytes) Refusal

-- why the file that this word names was not taken
abbrev pub of_take : ℕ → Take → Refusal
of_take word take.ReadFault = refusal.ReadFault word
of_take word take.TooLong = refusal.TooLong word
of_take word take.Memory = refusal.Memory

-- this text before those of the rest
abbrev pub before : Bytes → Texts → Texts
before text (Ok texts) = Ok (text ∷ texts)
before text (Err r) = Err r

-- the file of this name was read whole
pub record ReadsWhole (old new : FilesView) (name : Bytes) (limit : ℕ) (text : Bytes) : Type 0 where
  pub bytes : IfSome (old.held name) (λ bytes. text ≡ bytes)
  pub within : length text ≤ limit
  pub gave : new.given ≡ length text
  pub heard : HeardWhole old.heard new.heard name text
  pub same : SameHeld old.held new.held
  pub quiet : SameCounts old.faults new.faults

-- the file of this name was not taken, and this is why
pub record ReadsNot (old new : FilesView) (name : Bytes) (limit : ℕ) (why : Take) : Type 0 where
  pub read_fault : why ≡ take.ReadFault → Rose (old.faults name) (new.faults name)
  pub too_long : why ≡ take.TooLong → new.given ≡ limit + 1
  pub gave_more : new.given ≡ limit + 1 → (why ≡ take.TooLong) ⊎ (why ≡ take.Memory)
  pub longer : why ≡ take.TooLong → IfSome (old.held name) (λ bytes. limit < length bytes)
  pub heard : HeardPart old.heard new.heard name (old.held name) limit why
  pub same : SameHeld old.held new.held
  pub later : NoneFell old.faults new.faults
  pub quiet : why ≢ take.ReadFault → SameCounts old.faults new.faults

-- this file was read whole, and its text comes after those before
abbrev pub ReadsOne : List Bytes → FilesView → FilesView → NamedFile → List Bytes → List Bytes → Type 0
ReadsOne words old new file texts texts' =
    (text : Bytes) × ReadsWhole old new (word_at words file.word) file.limit text × (texts' ≡ texts ++ text ∷ [])

-- this file was refused so
abbrev pub ReadsNone : List Bytes → FilesView → FilesView → NamedFile → Refusal → Type 0
ReadsNone words old new file r =
    (why : Take) × ReadsNot old new (word_at words file.word) file.limit why × (r ≡ of_take file.word why)

-- The files were read in word order, each whole, up to the end or to the first that was refused.
abbrev pub FilesRead : List Bytes → FilesView → FilesView → List NamedFile → Texts → Type 0
FilesRead words old new [] end = (new ≡ old) × (end ≡ Ok [])
FilesRead words old new (file ∷ rest) end =
    ((r : Refusal) × ReadsNone words old new file r × (end ≡ Err r))
    ⊎ ((mid : FilesView) × (text : Bytes) × (later : Texts) × ReadsWhole old mid (word_at words file.word) file.limit text
    × FilesRead words mid new rest later × (end ≡ before text later))

-- the history after these files were read whole in word order, with these texts
abbrev pub read_whole : List Bytes → List NamedFile → List Bytes → List Heard → List Heard
read_whole words (file ∷ files) (text ∷ texts) all = read_whole words files texts (record { name = word_at words file.word; bytes = text; ended = true } ∷ all)
read_whole words files texts all = all

-- at most this many reads of these files: of each, one for each byte up to its limit, one for the byte past it, and one for the end
abbrev pub most_reads : List NamedFile → ℕ
most_reads [] = 0
most_reads (file ∷ files) = file.limit + 2 + most_reads files

-- The files that were begun are the first of these, each once, in word order. The history has the newest first.
abbrev pub BegunInOrder : List Bytes → List NamedFile → List Heard → List Heard → Type 0
BegunInOrder words [] old new = new ≡ old
BegunInOrder words (file ∷ files) old new = (new ≡ old) ⊎ ((h : Heard) × (h.name ≡ word_at words file.word) × BegunInOrder words files (h ∷ old) new)

-- the texts, as the code holds them
abbrev pub texts_in : List (Vec ℕ Global) → List Bytes
texts_in vs = map (λ v. v.items) vs

abbrev pub texts_of : Result (Vec (Vec ℕ Global) Global) Refusal → Texts
texts_of (Ok vs) = Ok (texts_in vs.items)
texts_of (Err r) = Err r

-- a file that holds this, and then the rest
abbrev pub held_with : NamedFile → Option Bytes → Option Texts → Option Texts
held_with file None rest = None
held_with file (Some text) rest =
    if nat_lt file.limit (length text) then Some (Err (refusal.TooLong file.word)) else option_map (before text) rest

-- The contents of the files, or the first that is too long; None if one is unspecified.
abbrev pub contents : Held → List Bytes → List NamedFile → Option Texts
contents held words [] = Some (Ok [])
contents held words (file ∷ rest) = held_with file (held (word_at words file.word)) (contents held words rest)

-- it is one of these files
abbrev pub IsOneOf : List NamedFile → NamedFile → Type 0
IsOneOf [] file = ⊥
IsOneOf (f ∷ rest) file = (file ≡ f) ⊎ IsOneOf rest file

-- one of these files has this name
abbrev pub IsNameIn : List Bytes → List NamedFile → Bytes → Type 0
IsNameIn words files name = (file : NamedFile) × IsOneOf files file × (name ≡ word_at words file.word)

-- a name that was tried now was tried before, or one of these files has it
abbrev pub TriesOnly : List Bytes → List NamedFile → (Bytes → Type 0) → (Bytes → Type 0) → Type 0
TriesOnly words files before now = (name : Bytes) → now name → before name ⊎ IsNameIn words files name
