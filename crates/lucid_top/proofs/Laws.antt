-- What follows from how a call ended, for each clause of the top call.
use Rattle.std.proofs.Common.{◌≡◌, ◌≢◌, ℕ, ◌+◌, ◌⊎◌, inl, inr, List, [], ◌∷◌, Option, Some, None, IsSome, Result, Ok, Err, refl, sym, ◌∙◌, ap, subst, arith, append-nil, length, map, take}
use Rattle.std.specs.Io.KnownBytes.{Appends, Keeps}
use Rattle.std.proofs.KnownBytes.{Appends-nil, Appends-kept}
use Rattle.lucid_io.specs.Contents.{SameHeld}
use Rattle.lucid_io.specs.Counts.{Rose, SameCounts}
use Rattle.lucid_io.specs.declared.reading.Take.{Take}
use Rattle.lucid_io.specs.declared.reading.Take.TheVariants as take
use Rattle.lucid_top_words.specs.declared.command.Command.{Command}
use Rattle.lucid_top_words.specs.declared.command.Command.TheVariants as command
use Rattle.lucid_top_words.specs.declared.command.NamedFile.{NamedFile}
use Rattle.lucid_top_words.specs.declared.refusal.Refusal.{Refusal}
use Rattle.lucid_top_words.specs.declared.refusal.Refusal.TheVariants as refusal
use Rattle.lucid_top_words.specs.declared.status.Status.{Status}
use Rattle.lucid_top_words.specs.declared.status.Status.TheVariants as status
use Rattle.lucid_top.specs.Answer.{Question, given, Answers, AnswersTo, CanStop, CommandShows, IsTold, MayStop, OverTexts, StopsAfter, StopsOf, StopsOver, command_files, told_texts}
use Rattle.lucid_top.specs.Call.{Call, Ended, EndSaid, PerformsOver, RunsOver, ShowsOver, files_named, question}
use Rattle.lucid_pipe.specs.Sights.{ShowsAll}
use Rattle.lucid_net.specs.Wanting.{StopsAt}
use Rattle.lucid_code.specs.Parts as code
use Rattle.lucid_pipe.specs.declared.sight.Sight.{Sight}
use Rattle.lucid_top.specs.Headline.{Accepted, AuditAccepts, FirstFitPlaces, Hold, Holds, NoneFailed, Three, bench_texts, drive, network_log, network_sights, placed_by, read_three, run_pipe, run_placed, run_whole, snap, snapshot_log, steps_log, steps_sights, whole_network}
use Rattle.lucid_top.specs.Passes.{SamePasses}
use Rattle.lucid_top.specs.Pipes.{Ready, network_of}
use Rattle.lucid_top.specs.Room.{CallLacksRoom, CommandsLackRoom}
use Rattle.lucid_top_pipes.specs.Watching.{Seen, Shown, ToldBefore}
use Rattle.lucid_top_fit.specs.Passes.{KeepNodes, PassView, PassesRun}
use Rattle.lucid_top.proofs.PremisesLemmas.{logged-pipe}
use Rattle.lucid_top.proofs.TopLemmas.{read-entries}
use Rattle.lucid_top.proofs.RoomLemmas.{call_lacks, no_place}
use Rattle.lucid_top.proofs.Headlines.{MakeSame, Makes, Quiet, answers-pipe, asks-drive, asks-pipe, asks-placed, asks-snap, asks-whole, audited_of, is-placed, is-ready, quiet-drive, quiet-pipe, quiet-placed, quiet-snap, quiet-whole, ready_of, shows-drive, shows-pipe, shows-placed, texts-drive, texts-pipe, texts-placed}
use Rattle.lucid_top_words.specs.Command.{command_of}
use Rattle.lucid_top_words.specs.Files.{BegunInOrder, FilesRead, IsOneOf, Texts, contents, of_take, read_whole}
use Rattle.lucid_top_words.specs.Outcome.{Alike, End, IsTheAnswer, Outcome, SameRefusal, end_status, outcome_status}
use Rattle.lucid_top_words.specs.Refusal.{line_of, status_of}
use Rattle.lucid_top_words.specs.Status.{IsDetermined}
use Rattle.lucid_top_words.specs.Views.{FilesView, SinkView}
use Rattle.lucid_top_words.specs.Words.{number_of, word_at}
use Rattle.lucid_top_words.specs.Writing.{Performs, Refuses}
use Rattle.lucid_top_words.proofs.Seen.{All, Part, Prefix, Nothing, Line}
use Rattle.lucid_top_words.proofs.FilesLemmas.{read-begun, read-texts}
use Rattle.lucid_top_words.proofs.Readings.{Agrees, read-agrees, read-why, read-rose, read-long, read-gave_more, read-held, read-length, read-quiet}

-- ---- what is alike

same-refl : (r : Refusal) → SameRefusal r r
same-refl (refusal.NoOrder decl line cycle) = (refl, refl)
same-refl r = refl

Alike-refl : (o : Outcome) → Alike o o
Alike-refl (Ok text) = refl
Alike-refl (Err r) = same-refl r

same-status : (r s : Refusal) → SameRefusal r s → status_of r ≡ status_of s
same-status (refusal.NoOrder decl line cycle) (refusal.NoOrder decl' line' cycle') same = refl
same-status r s same = ap status_of same

-- ---- an end, by what words and told files determine

-- an answer, where the files are told, and all answers are like it
pub record IsAnswer (told : Type 0) (answers : Outcome → Type 0) (o : Outcome) : Type 0 where
  pub is : told → answers o
  pub only : (p : Outcome) → answers p → Alike p o

abbrev pub By : Type 0 → (List ℕ → Type 0) → (Outcome → Type 0) → SinkView → SinkView → End → Type 0
By told stops answers out out' (Ok u) = (text : List ℕ) × IsAnswer told answers (Ok text) × All out out' text
By told stops answers out out' (Err refusal.WriteFault) = (text : List ℕ) × IsAnswer told answers (Ok text) × Part out out' text
By told stops answers out out' (Err refusal.Memory) =
    Nothing out out' ⊎ ((text : List ℕ) × IsAnswer told answers (Ok text) × (begun : Prefix out out' text) × stops (take begun.count text))
By told stops answers out out' (Err (refusal.ReadFault word)) = Nothing out out'
By told stops answers out out' (Err r) = IsAnswer told answers (Err r) × Nothing out out'

pub record Answered (told : Type 0) (stops : List ℕ → Type 0) (answers : Outcome → Type 0) (out out' : SinkView) (end : End) : Type 0 where
  pub by : By told stops answers out out' end

-- an answer over the texts that were read is one over the files
answer-as : {told : Type 0} {A B : Outcome → Type 0} (o : Outcome) → (told → (p : Outcome) → A p → B p) → ((p : Outcome) → B p → A p) → IsTheAnswer A o → IsAnswer told B o
answer-as o into back answer = record { is = λ told. into told o answer.is; only = λ p b. answer.only p (back p b) }

module _ {told : Type 0} {s s' : List ℕ → Type 0} {A B : Outcome → Type 0} (out out' : SinkView) (stops : (begun : List ℕ) → s begun → s' begun) (into : told → (p : Outcome) → A p → B p) (back : (p : Outcome) → B p → A p) where
  refuses-as : (r : Refusal) → Refuses s A SinkView.written SinkView.faults out out' r → By told s' B out out' (Err r)
  refuses-as refusal.WriteFault d = (d.0, answer-as (Ok d.0) into back d.1, d.2)
  refuses-as refusal.Memory d = elim d [ inl u ↦ inl u | inr p ↦ inr (p.0, answer-as (Ok p.0) into back p.1, p.2, stops _ p.3) ]
  refuses-as (refusal.ReadFault word) d = absurd d
  refuses-as (refusal.TooLong word) d = absurd d
  refuses-as r d = (answer-as (Err r) into back d.0, d.1)

  performs-as : (end : End) → Performs s A SinkView.written SinkView.faults out out' end → By told s' B out out' end
  performs-as (Ok u) d = (d.0, answer-as (Ok d.0) into back d.1, d.2)
  performs-as (Err r) d = refuses-as r d

into_texts : (texts : List (List ℕ)) (told : Option Texts) (A : List (List ℕ) → Outcome → Type 0) → Agrees (Ok texts) told → IsSome told → (p : Outcome) → A texts p → OverTexts told A p
into_texts texts None A agrees is p a = absurd (cc)
into_texts texts (Some t) A agrees is p a = subst (λ (s : Texts). OverTexts (Some s) A p) (sym agrees) a

from_texts : (texts : List (List ℕ)) (told : Option Texts) (A : List (List ℕ) → Outcome → Type 0) → Agrees (Ok texts) told → (p : Outcome) → OverTexts told A p → A texts p
from_texts texts None A agrees p a = absurd a
from_texts texts (Some t) A agrees p a = subst (λ (s : Texts). OverTexts (Some s) A p) agrees a

stop_texts : (texts : List (List ℕ)) (told : Option Texts) (S : List (List ℕ) → Type 0) → Agrees (Ok texts) told → S texts → StopsOver told S
stop_texts texts None S agrees s = (texts, s)
stop_texts texts (Some t) S agrees s = subst (λ (u : Texts). StopsOver (Some u) S) (sym agrees) s

long-answer : (word : ℕ) (told : Option Texts) (A : List (List ℕ) → Outcome → Type 0) → Agrees (Err (refusal.TooLong word)) told → IsAnswer (IsSome told) (OverTexts told A) (Err (refusal.TooLong word))
long-answer word None A agrees = record { is = λ told. absurd (cc); only = λ p a. absurd a }
long-answer word (Some t) A agrees =
    subst (λ (s : Texts). IsAnswer (IsSome (Some s)) (OverTexts (Some s) A) (Err (refusal.TooLong word))) (sym agrees)
    (record { is = λ told. refl; only = λ p a. subst (λ (o : Outcome). Alike o (Err (refusal.TooLong word))) (sym a) (Alike-refl (Err (refusal.TooLong word))) })

-- a file was not taken
taken-by : (told : Option Texts) (S : List ℕ → Type 0) (A : List (List ℕ) → Outcome → Type 0) (out out' : SinkView) (word : ℕ) (why : Take) →
    Agrees (Err (of_take word why)) told → Nothing out out' → By (IsSome told) S (OverTexts told A) out out' (Err (of_take word why))
taken-by told S A out out' word take.ReadFault agrees untouched = untouched
taken-by told S A out out' word take.Memory agrees untouched = inl untouched
taken-by told S A out out' word take.TooLong agrees untouched = (long-answer word told A agrees, untouched)

over-by : (co : Option Command) (q : Question) (files files' : FilesView) (out out' : SinkView) (texts : Texts) (end : End) (told : Option Texts) →
    Agrees texts told → (FilesRead q.words files files' (command_files co) texts) → PerformsOver co q out out' texts end →
    By (IsSome told) (λ begun. StopsOver told (λ ts. StopsOf co (given q ts) begun)) (OverTexts told (λ ts. AnswersTo co (given q ts))) out out' end
over-by None q files files' out out' texts end told agrees reads performs =
    let here : texts ≡ Ok [] = reads.1 in
    let ok : Agrees (Ok []) told = subst (λ (t : Texts). Agrees t told) here agrees in
    let usage : Outcome = Err refusal.Usage in
    let answer : IsTheAnswer (λ (o : Outcome). o ≡ usage) usage = record { is = refl; only = λ p a. subst (λ (o : Outcome). Alike o usage) (sym a) (Alike-refl usage) } in
    subst (By (IsSome told) (λ begun. StopsOver told (λ ts. ⊥)) (OverTexts told (λ ts (o : Outcome). o ≡ usage)) out out') (sym performs.0)
    (answer-as usage (λ is p a. into_texts [] told (λ ts (o : Outcome). o ≡ usage) ok is p a) (from_texts [] told (λ ts (o : Outcome). o ≡ usage) ok) answer, performs.1)
over-by (Some c) q files files' out out' (Ok texts) end told agrees reads performs =
    let A = λ (ts : List (List ℕ)). AnswersTo (Some c) (given q ts) in
    performs-as out out' (λ begun. stop_texts texts told (λ ts. StopsOf (Some c) (given q ts) begun) agrees) (λ is p a. into_texts texts told A agrees is p a) (from_texts texts told A agrees) end performs
over-by (Some c) q files files' out out' (Err r) end told agrees reads performs =
    let A = λ (ts : List (List ℕ)). AnswersTo (Some c) (given q ts) in
    let S = λ (begun : List ℕ). StopsOver told (λ ts. StopsOf (Some c) (given q ts) begun) in
    let why = read-why q.words files files' (command_files (Some c)) (Err r) r reads refl in
    let is : end ≡ Err (of_take why.0 why.1) = performs.0 ∙ ap (λ (s : Refusal). Err s) why.2 in
    subst (By (IsSome told) S (OverTexts told A) out out') (sym is)
    (taken-by told S A out out' why.0 why.1 (subst (λ (s : Refusal). Agrees (Err s) told) why.2 agrees) performs.1)

-- ---- what no end comes to

-- no refusal has the status of success
never_ok : (r : Refusal) → status_of r ≡ status.Ok → ⊥
never_ok refusal.Usage is = cc
never_ok r is = cc

alike-status : (p o : Outcome) → Alike p o → outcome_status o ≡ outcome_status p
alike-status (Ok a) (Ok b) same = refl
alike-status (Ok a) (Err s) same = absurd same
alike-status (Err r) (Ok b) same = absurd same
alike-status (Err r) (Err s) same = sym (same-status r s same)

-- nothing is a prefix
PutsSome-none : (out out' : SinkView) (text : List ℕ) → Nothing out out' → Prefix out out' text
PutsSome-none out out' text untouched = record {
  count = 0;
  within = omega arith;
  bytes = Appends-kept out.written out.written out'.written [] (Appends-nil out.written) untouched.keeps;
  quiet = untouched.quiet;
}

-- what was written before stays, and some text may follow it
kept-grows : (old new : Option (List ℕ)) → Keeps old new → (text : List ℕ) × Appends old new text
kept-grows old new keeps = ([], Appends-kept old old new [] (Appends-nil old) keeps)

-- an end by a file is that of the reading: a command meets no file
file-end : (co : Option Command) (q : Question) (out out' : SinkView) (texts : Texts) (end : End) (word : ℕ) (why : Take) →
    why ≢ take.Memory → PerformsOver co q out out' texts end → end ≡ Err (of_take word why) → texts ≡ Err (of_take word why)
file-end None q out out' texts end word take.ReadFault memory performs is = absurd (let no : ◌≡◌ {A = End} (Err refusal.Usage) (Err (refusal.ReadFault word)) = sym performs.0 ∙ is in cc)
file-end None q out out' texts end word take.TooLong memory performs is = absurd (let no : ◌≡◌ {A = End} (Err refusal.Usage) (Err (refusal.TooLong word)) = sym performs.0 ∙ is in cc)
file-end None q out out' texts end word take.Memory memory performs is = absurd (memory refl)
file-end (Some c) q out out' (Err r) end word why memory performs is =
    let both : ◌≡◌ {A = End} (Err r) (Err (of_take word why)) = sym performs.0 ∙ is in
    let same : r ≡ of_take word why = cc in
    ap (λ (s : Refusal). Err s) same
file-end (Some c) q out out' (Ok texts) end word why memory performs is =
    absurd (none why memory (subst (λ (e : End). PerformsOver (Some c) q out out' (Ok texts) e) is performs))
  where
    none : (w : Take) → w ≢ take.Memory → PerformsOver (Some c) q out out' (Ok texts) (Err (of_take word w)) → ⊥
    none take.ReadFault not p = p
    none take.TooLong not p = p
    none take.Memory not p = not refl

-- ---- an end that is answered

module _ {told : Type 0} {stops : List ℕ → Type 0} {answers : Outcome → Type 0} {out out' : SinkView} where
  determined-status : (end : End) → Answered told stops answers out out' end → IsDetermined (end_status end) → (p : Outcome) → answers p → end_status end ≡ outcome_status p
  determined-status (Ok u) a determined p asked = alike-status p (Ok a.by.0) (a.by.1.only p asked)
  determined-status (Err refusal.WriteFault) a determined p asked = absurd determined
  determined-status (Err refusal.Memory) a determined p asked = absurd determined
  determined-status (Err (refusal.ReadFault word)) a determined p asked = absurd determined
  determined-status (Err r) a determined p asked = alike-status p (Err r) (a.by.0.only p asked)

  ok-all : (end : End) → Answered told stops answers out out' end → end_status end ≡ status.Ok → (text : List ℕ) → answers (Ok text) → All out out' text
  ok-all (Ok u) a is text asked = subst (All out out') (sym (a.by.1.only (Ok text) asked)) a.by.2
  ok-all (Err r) a is text asked = absurd (never_ok r is)

  fault-part : (end : End) → Answered told stops answers out out' end → end_status end ≡ status.WriteFault → (text : List ℕ) → answers (Ok text) → Part out out' text
  fault-part (Err refusal.WriteFault) a is text asked = subst (Part out out') (sym (a.by.1.only (Ok text) asked)) a.by.2
  fault-part (Ok u) a is text asked = absurd (cc)
  fault-part (Err r) a is text asked = absurd (cc)

  fault-rose : (end : End) → Answered told stops answers out out' end → end_status end ≡ status.WriteFault → Rose out.faults out'.faults
  fault-rose (Err refusal.WriteFault) a is = a.by.2.cause
  fault-rose (Ok u) a is = absurd (cc)
  fault-rose (Err r) a is = absurd (cc)

  -- a refusal that is an answer is alike to the one that was given, which is an answer too
  refused-as : (end : End) → Answered told stops answers out out' end → IsDetermined (end_status end) → told → (r : Refusal) → answers (Err r) →
      (s : Refusal) × answers (Err s) × SameRefusal r s × (end ≡ Err s)
  refused-as (Ok u) a determined tells r asked = absurd (a.by.1.only (Err r) asked)
  refused-as (Err refusal.WriteFault) a determined tells r asked = absurd determined
  refused-as (Err refusal.Memory) a determined tells r asked = absurd determined
  refused-as (Err (refusal.ReadFault word)) a determined tells r asked = absurd determined
  refused-as (Err s) a determined tells r asked = (s, a.by.0.is tells, a.by.0.only (Err r) asked, refl)

  is-answered : (end : End) → Answered told stops answers out out' end → IsDetermined (end_status end) → told → (o : Outcome) × answers o
  is-answered (Ok u) a determined tells = (Ok a.by.0, a.by.1.is tells)
  is-answered (Err refusal.WriteFault) a determined tells = absurd determined
  is-answered (Err refusal.Memory) a determined tells = absurd determined
  is-answered (Err (refusal.ReadFault word)) a determined tells = absurd determined
  is-answered (Err r) a determined tells = (Err r, a.by.0.is tells)

  memory-prefix : (end : End) → Answered told stops answers out out' end → end_status end ≡ status.Memory → (text : List ℕ) → answers (Ok text) → Prefix out out' text
  memory-prefix (Err refusal.Memory) a is text asked = elim a.by [ inl u ↦ PutsSome-none out out' text u | inr p ↦ subst (Prefix out out') (sym (p.1.only (Ok text) asked)) p.2 ]
  memory-prefix (Ok u) a is text asked = absurd (cc)
  memory-prefix (Err r) a is text asked = absurd (cc)

  refused-silent : (end : End) → Answered told stops answers out out' end → end_status end ≢ status.Ok → end_status end ≢ status.WriteFault → (end_status end ≡ status.Memory → ¬ ((begun : List ℕ) × stops begun)) →
      Keeps out.written out'.written
  refused-silent (Ok u) a ok fault never = absurd (ok refl)
  refused-silent (Err refusal.WriteFault) a ok fault never = absurd (fault refl)
  refused-silent (Err refusal.Memory) a ok fault never = elim a.by [ inl u ↦ u.keeps | inr p ↦ absurd (never refl (_, p.3)) ]
  refused-silent (Err (refusal.ReadFault word)) a ok fault never = a.by.keeps
  refused-silent (Err r) a ok fault never = a.by.1.keeps

  -- memory ran out before anything was written, or the text may end where it does
  memory-stops : (end : End) → Answered told stops answers out out' end → end_status end ≡ status.Memory → Keeps out.written out'.written ⊎ ((begun : List ℕ) × stops begun × All out out' begun)
  memory-stops (Err refusal.Memory) a is = elim a.by [ inl u ↦ inl u.keeps | inr p ↦ inr (_, p.3, record { bytes = p.2.bytes; quiet = p.2.quiet }) ]
  memory-stops (Ok u) a is = absurd (cc)
  memory-stops (Err r) a is = absurd (cc)

  any-grows : (end : End) → Answered told stops answers out out' end → (text : List ℕ) × Appends out.written out'.written text
  any-grows (Ok u) a = (a.by.0, a.by.2.bytes)
  any-grows (Err refusal.WriteFault) a = (_, a.by.2.bytes.2)
  any-grows (Err refusal.Memory) a = elim a.by [ inl u ↦ kept-grows out.written out'.written u.keeps | inr p ↦ (_, p.2.bytes) ]
  any-grows (Err (refusal.ReadFault word)) a = kept-grows out.written out'.written a.by.keeps
  any-grows (Err r) a = kept-grows out.written out'.written a.by.1.keeps

  unfailed-done : (end : End) → Answered told stops answers out out' end → ((word : ℕ) → end ≡ Err (refusal.ReadFault word) → ⊥) → ¬ Rose out.faults out'.faults → (text : List ℕ) → answers (Ok text) →
      (end_status end ≡ status.Ok) ⊎ (end_status end ≡ status.Memory)
  unfailed-done (Ok u) a read unmet text asked = inl refl
  unfailed-done (Err refusal.WriteFault) a read unmet text asked = absurd (unmet a.by.2.cause)
  unfailed-done (Err refusal.Memory) a read unmet text asked = inr refl
  unfailed-done (Err (refusal.ReadFault word)) a read unmet text asked = absurd (read word refl)
  unfailed-done (Err r) a read unmet text asked = absurd (a.by.0.only (Ok text) asked)

-- words that have an answer name files that tell what they hold
over-told : (told : Option Texts) (A : List (List ℕ) → Outcome → Type 0) (o : Outcome) → OverTexts told A o → IsSome told
over-told None A o a = absurd a
over-told (Some t) A o a = refl

-- ---- which refusal a file's status has, and its line

fault-end : (end : End) → end_status end ≡ status.ReadFault → (word : ℕ) × (end ≡ Err (refusal.ReadFault word))
fault-end (Err (refusal.ReadFault word)) is = (word, refl)
fault-end (Ok u) is = absurd (cc)
fault-end (Err r) is = absurd (cc)

long-end : (end : End) → end_status end ≡ status.TooLong → (word : ℕ) × (end ≡ Err (refusal.TooLong word))
long-end (Err (refusal.TooLong word)) is = (word, refl)
long-end (Ok u) is = absurd (cc)
long-end (Err r) is = absurd (cc)

said-line : (err err' : SinkView) (words : List (List ℕ)) (end : End) → EndSaid err err' words end → end_status end ≢ status.Ok →
    (r : Refusal) × (status_of r ≡ end_status end) × Line err err' (line_of words r)
said-line err err' words (Ok u) said not = absurd (not refl)
said-line err err' words (Err r) said not = (r, refl, said)

said-unfit : (err err' : SinkView) (words : List (List ℕ)) (end : End) → EndSaid err err' words end → end_status end ≡ status.NoFit →
    (r : Refusal) × (end ≡ Err r) × Line err err' (line_of words r)
said-unfit err err' words (Ok u) said is = absurd (cc)
said-unfit err err' words (Err r) said is = (r, refl, said)

said-nothing : (err err' : SinkView) (words : List (List ℕ)) (end : End) → EndSaid err err' words end → end_status end ≡ status.Ok → Keeps err.written err'.written
said-nothing err err' words (Ok u) said is = said.keeps
said-nothing err err' words (Err r) said is = absurd (never_ok r is)

-- where one file is named and gave more than its limit
gave-end : (co : Option Command) (q : Question) (out out' : SinkView) (texts : Texts) (end : End) (word : ℕ) →
    (texts ≡ Err (refusal.TooLong word)) ⊎ (texts ≡ Err refusal.Memory) → (co ≡ None → ⊥) → PerformsOver co q out out' texts end →
    (end_status end ≡ status.TooLong) ⊎ (end_status end ≡ status.Memory)
gave-end None q out out' texts end word causes some performs = absurd (some refl)
gave-end (Some c) q out out' (Ok texts) end word causes some performs = absurd (elim causes [ inl h ↦ cc | inr h ↦ cc ])
gave-end (Some c) q out out' (Err r) end word causes some performs = elim causes [
  | inl h ↦ let same : r ≡ refusal.TooLong word = cc in let is : end ≡ Err (refusal.TooLong word) = performs.0 ∙ ap (λ (s : Refusal). Err s) same in inl (ap end_status is)
  | inr h ↦ let same : r ≡ refusal.Memory = cc in let is : end ≡ Err refusal.Memory = performs.0 ∙ ap (λ (s : Refusal). Err s) same in inr (ap end_status is)
]

-- the texts that were read end by a read fault only where the call does
not-fault : (co : Option Command) (q : Question) (out out' : SinkView) (texts : Texts) (end : End) (word : ℕ) →
    (co ≡ None → texts ≡ Ok []) → PerformsOver co q out out' texts end → end_status end ≢ status.ReadFault → texts ≡ Err (refusal.ReadFault word) → ⊥
not-fault None q out out' texts end word none performs not is = let no : ◌≡◌ {A = Texts} (Ok []) (Err (refusal.ReadFault word)) = sym (none refl) ∙ is in cc
not-fault (Some c) q out out' (Ok texts) end word none performs not is = cc
not-fault (Some c) q out out' (Err r) end word none performs not is =
    let same : r ≡ refusal.ReadFault word = cc in
    not (ap end_status (performs.0 ∙ ap (λ (s : Refusal). Err s) same))

no-files : (co : Option Command) (words : List (List ℕ)) (files files' : FilesView) (texts : Texts) → FilesRead words files files' (command_files co) texts → co ≡ None → texts ≡ Ok []
no-files None words files files' texts reads is = reads.1
no-files (Some c) words files files' texts reads is = absurd (cc)

some-files : (co : Option Command) (file : NamedFile) → command_files co ≡ file ∷ [] → co ≡ None → ⊥
some-files None file one is = cc
some-files (Some c) file one is = cc

-- at Ok the texts were read
ok-texts : (co : Option Command) (q : Question) (out out' : SinkView) (texts : Texts) (ts : List (List ℕ)) (end : End) → PerformsOver co q out out' texts end → end_status end ≡ status.Ok →
    Agrees texts (Some (Ok ts)) → texts ≡ Ok ts
ok-texts None q out out' texts ts end performs is agrees = let no : status.Usage ≡ status.Ok = sym (ap end_status performs.0) ∙ is in absurd (cc)
ok-texts (Some c) q out out' (Ok texts) ts end performs is agrees = sym agrees
ok-texts (Some c) q out out' (Err r) ts end performs is agrees = absurd (never_ok r (sym (ap end_status performs.0) ∙ is))

-- ---- the watch and the passes

shows-none : (old : Seen) → ShowsAll old old []
shows-none None = tt
shows-none (Some was) = sym (append-nil was)

-- the sights that are the answer were shown
shown-all : (shows : Result (List Sight) Refusal → Type 0) (old new : Seen) (end : End) (sights : List Sight) → Shown shows old new end → end_status end ≡ status.Ok → shows (Ok sights) → ShowsAll old new sights
shown-all shows old new (Ok u) sights shown is asked = elim shown [
  | inl none ↦ subst (λ (now : Seen). ShowsAll old now sights) (sym none.1) (subst (ShowsAll old old) (sym (none.0.only (Ok sights) asked)) (shows-none old))
  | inr all ↦ subst (ShowsAll old new) (sym (all.1.only (Ok sights) asked)) all.2
]
shown-all shows old new (Err r) sights shown is asked = absurd (never_ok r is)

-- what is told was told before
shows-told : (old new : Seen) (sights : List Sight) → ShowsAll old new sights → ToldBefore old new
shows-told old None sights shows told = absurd (cc)
shows-told None (Some now) sights shows told = absurd shows
shows-told (Some was) (Some now) sights shows told = refl

shown-told : (shows : Result (List Sight) Refusal → Type 0) (old new : Seen) (end : End) → Shown shows old new end → ToldBefore old new
shown-told shows old new (Ok u) shown told = elim shown [ inl none ↦ subst IsSome none.1 told | inr all ↦ shows-told old new all.0 all.2 told ]
shown-told shows old new (Err r) shown told = elim shown [ inl same ↦ subst IsSome same told | inr some ↦ shows-told old new some.2.first some.2.shows told ]

-- the passes that ran are those that there were
ran-same : (runs : code.CodeParts → Type 0) (old new : List PassView) (end : End) → PassesRun runs old new end → SamePasses old new
ran-same runs old new end ran = elim ran [
  | inl kept ↦ record { names = ap (λ (ps : List PassView). map PassView.name ps) kept.0; gives = ap (λ (ps : List PassView). map PassView.gives ps) kept.0 }
  | inr on ↦ record { names = on.3.names; gives = on.3.same }
]

-- a run on pipelines that ended well read three accepted texts, and wrote their log
safe-over : (names : Three) (q : Question) (files files' : FilesView) (out out' : SinkView) (texts : Texts) (end : End) → FilesRead (run_pipe names) files files' (command_files (Some command.RunPipe)) texts →
    PerformsOver (Some command.RunPipe) q out out' texts end → end_status end ≡ status.Ok →
    (three : Three) × (files'.heard ≡ read_three names three files.heard) × (a : Accepted three) × All out out' (network_log a)
safe-over names q files files' out out' (Err r) end reads does ok = absurd (never_ok r (sym (ap end_status does.0) ∙ ok))
safe-over names q files files' out out' (Ok texts) (Err r) reads does ok = absurd (never_ok r ok)
safe-over names q files files' out out' (Ok texts) (Ok u) reads does ok = at texts (read-length (run_pipe names) files files' (command_files (Some command.RunPipe)) texts reads) reads does
  where
    at : (ts : List (List ℕ)) → length ts ≡ 3 → FilesRead (run_pipe names) files files' (command_files (Some command.RunPipe)) (Ok ts) → PerformsOver (Some command.RunPipe) q out out' (Ok ts) (Ok u) →
        (three : Three) × (files'.heard ≡ read_three names three files.heard) × (a : Accepted three) × All out out' (network_log a)
    at [] long reads does = absurd (omega (arith, long))
    at (p ∷ []) long reads does = absurd (omega (arith, long))
    at (p ∷ l ∷ []) long reads does = absurd (omega (arith, long))
    at (p ∷ l ∷ s ∷ []) long reads does =
        let logged = logged-pipe p l s q.passes does.0 does.1.is in (
          record { program = p; limits = l; scenario = s },
          read-entries (run_pipe names) files files' (command_files (Some command.RunPipe)) (p ∷ l ∷ s ∷ []) reads,
          logged.0,
          subst (All out out') logged.1 does.2,
        )
    at (p ∷ l ∷ s ∷ t ∷ more) long reads does = absurd (omega (arith, long))

-- ---- the clauses of the top call

-- no count of a named file rose
abbrev pub Unmet : Call → Type 0
Unmet c = (file : NamedFile) → IsOneOf (files_named c.words) file → ¬ Rose (c.files.faults (word_at c.words file.word)) (c.files'.faults (word_at c.words file.word))

-- how it ended, by what words and told files determine
answered : {c : Call} {err err' : SinkView} {result : Status} (e : Ended c err err' result) → Answered (IsTold (question c)) (StopsAfter (question c)) (Answers (question c)) c.out c.out' e.end
answered {c} {err} {err'} {result} e = record {
  by = over-by (command_of c.words) (question c) c.files c.files' c.out c.out' e.done.texts e.end (told_texts (question c))
      (read-agrees c.words c.files c.files' (command_files (command_of c.words)) e.done.texts e.done.reads) e.done.reads e.done.does;
}

module _ {c : Call} {err err' : SinkView} {result : Status} (e : Ended c err err' result) where
  determined : IsDetermined result → IsDetermined (end_status e.end)
  determined d = subst IsDetermined e.status d

  pub status-clause : IsDetermined result → (o : Outcome) → Answers (question c) o → result ≡ outcome_status o
  status-clause d o asked = e.status ∙ determined-status e.end (answered e) (determined d) o asked

  pub out-clause : result ≡ status.Ok → (text : List ℕ) → Answers (question c) (Ok text) → All c.out c.out' text
  out-clause ok text asked = ok-all e.end (answered e) (sym e.status ∙ ok) text asked

  pub err-clause : IsDetermined result → (r : Refusal) → Answers (question c) (Err r) →
      (s : Refusal) × Answers (question c) (Err s) × SameRefusal r s × Line err err' (line_of c.words s)
  err-clause d r asked =
      let s = refused-as e.end (answered e) (determined d) (over-told (told_texts (question c)) _ _ asked) r asked in
      (s.0, s.1, s.2, subst (EndSaid err err' c.words) s.3 e.said)

  pub answered-clause : IsDetermined result → IsTold (question c) → (o : Outcome) × Answers (question c) o
  answered-clause d told = is-answered e.end (answered e) (determined d) told

  rose-clause : (word : ℕ) → e.end ≡ Err (refusal.ReadFault word) →
      (file : NamedFile) × IsOneOf (files_named c.words) file × (file.word ≡ word) × Rose (c.files.faults (word_at c.words file.word)) (c.files'.faults (word_at c.words file.word))
  rose-clause word is = read-rose c.words c.files c.files' (files_named c.words) e.done.texts word e.done.reads
      (file-end (command_of c.words) (question c) c.out c.out' e.done.texts e.end word take.ReadFault (λ same. cc) e.done.does is)

  pub complete-clause : (text : List ℕ) → Answers (question c) (Ok text) → Unmet c →
      ¬ Rose c.out.faults c.out'.faults → (result ≡ status.Ok) ⊎ (result ≡ status.Memory)
  complete-clause text asked quiet unmet =
      subst (λ (s : Status). (s ≡ status.Ok) ⊎ (s ≡ status.Memory)) (sym e.status)
      (unfailed-done e.end (answered e) (λ word is. let rose = rose-clause word is in quiet rose.0 rose.1 rose.3) unmet text asked)

  pub read_fault-clause : result ≡ status.ReadFault → (file : NamedFile) × IsOneOf (files_named c.words) file ×
      Rose (c.files.faults (word_at c.words file.word)) (c.files'.faults (word_at c.words file.word)) × Line err err' (line_of c.words (refusal.ReadFault file.word))
  read_fault-clause is =
      let end = fault-end e.end (sym e.status ∙ is) in
      let rose = rose-clause end.0 end.1 in
      (rose.0, rose.1, rose.3, subst (EndSaid err err' c.words) (end.1 ∙ ap (λ (n : ℕ). Err (refusal.ReadFault n)) (sym rose.2)) e.said)

  pub too_long-clause : result ≡ status.TooLong → (file : NamedFile) × IsOneOf (files_named c.words) file × (c.files'.given ≡ file.limit + 1) ×
      Line err err' (line_of c.words (refusal.TooLong file.word))
  too_long-clause is =
      let end = long-end e.end (sym e.status ∙ is) in
      let long = read-long c.words c.files c.files' (files_named c.words) e.done.texts end.0 e.done.reads
      (file-end (command_of c.words) (question c) c.out c.out' e.done.texts e.end end.0 take.TooLong (λ same. cc) e.done.does end.1) in
      (long.0, long.1, long.3, subst (EndSaid err err' c.words) (end.1 ∙ ap (λ (n : ℕ). Err (refusal.TooLong n)) (sym long.2)) e.said)

  pub gave_more-clause : (file : NamedFile) → files_named c.words ≡ file ∷ [] → c.files'.given ≡ file.limit + 1 → (result ≡ status.TooLong) ⊎ (result ≡ status.Memory)
  gave_more-clause file one more =
      subst (λ (s : Status). (s ≡ status.TooLong) ⊎ (s ≡ status.Memory)) (sym e.status)
      (gave-end (command_of c.words) (question c) c.out c.out' e.done.texts e.end file.word
      (read-gave_more c.words c.files c.files' file e.done.texts (subst (λ (l : List NamedFile). FilesRead c.words c.files c.files' l e.done.texts) one e.done.reads) more)
      (some-files (command_of c.words) file one) e.done.does)

  pub write_fault-clause : result ≡ status.WriteFault → Rose c.out.faults c.out'.faults
  write_fault-clause is = fault-rose e.end (answered e) (sym e.status ∙ is)

  pub cut-clause : result ≡ status.WriteFault → (text : List ℕ) → Answers (question c) (Ok text) → Part c.out c.out' text
  cut-clause is text asked = fault-part e.end (answered e) (sym e.status ∙ is) text asked

  pub memory-clause : result ≡ status.Memory → (text : List ℕ) → Answers (question c) (Ok text) → Prefix c.out c.out' text
  memory-clause is text asked = memory-prefix e.end (answered e) (sym e.status ∙ is) text asked

  pub silent-clause : result ≢ status.Ok → result ≢ status.WriteFault → (result ≡ status.Memory → ¬ CanStop (question c)) → Keeps c.out.written c.out'.written
  silent-clause ok fault never = refused-silent e.end (answered e) (λ is. ok (e.status ∙ is)) (λ is. fault (e.status ∙ is)) (λ is. never (e.status ∙ is))

  pub grows-clause : (text : List ℕ) × Appends c.out.written c.out'.written text
  grows-clause = any-grows e.end (answered e)

  pub said-clause : result ≢ status.Ok → (r : Refusal) × (status_of r ≡ result) × Line err err' (line_of c.words r)
  said-clause not = let line = said-line err err' c.words e.end e.said (λ is. not (e.status ∙ is)) in (line.0, line.1 ∙ sym e.status, line.2)

  pub room-clause : CommandsLackRoom → KeepNodes (map PassView.gives c.passes) → result ≡ status.NoFit →
      (r : Refusal) × (status_of r ≡ result) × Line err err' (line_of c.words r) × ((i : ℕ) → r ≡ no_place i → CallLacksRoom (question c) i)
  room-clause room keep is =
      let line = said-unfit err err' c.words e.end e.said (sym e.status ∙ is) in
      let agrees = read-agrees c.words c.files c.files' (command_files (command_of c.words)) e.done.texts e.done.reads in (
        line.0,
        sym (e.status ∙ ap end_status line.1),
        line.2,
        λ i same.
            call_lacks room (question c) c.files c.files' c.out c.out' e.end i keep (line.1 ∙ ap (λ (r : Refusal). Err r) same) e.done.texts e.done.reads agrees e.done.does,
      )

  pub unsaid-clause : result ≡ status.Ok → Keeps err.written err'.written
  unsaid-clause ok = said-nothing err err' c.words e.end e.said (sym e.status ∙ ok)

  pub held-clause : SameHeld c.files.held c.files'.held
  held-clause = read-held c.words c.files c.files' (files_named c.words) e.done.texts e.done.reads

  pub quiet-clause : result ≢ status.ReadFault → SameCounts c.files.faults c.files'.faults
  quiet-clause not = read-quiet c.words c.files c.files' (files_named c.words) e.done.texts e.done.reads
      (λ word is. not-fault (command_of c.words) (question c) c.out c.out' e.done.texts e.end word (no-files (command_of c.words) c.words c.files c.files' e.done.texts e.done.reads) e.done.does (λ s. not (e.status ∙ s)) is)

  -- ---- the headline

  -- a text that is asked for was written, where nothing failed
  wrote : {w : List (List ℕ)} (text : List ℕ) → c.words ≡ w → Answers (record { words = w; held = c.files.held; passes = c.passes }) (Ok text) → Quiet c.files.faults c.files'.faults w → ¬ Rose c.out.faults c.out'.faults →
      ((result ≡ status.Ok) × All c.out c.out' text) ⊎ ((result ≡ status.Memory) × Prefix c.out c.out' text)
  wrote {w} text is asked quiet unmet =
      let asks : Answers (question c) (Ok text) = subst (λ (ws : List (List ℕ)). Answers (record { words = ws; held = c.files.held; passes = c.passes }) (Ok text)) (sym is) asked in
      elim (complete-clause text asks (subst (Quiet c.files.faults c.files'.faults) (sym is) quiet) unmet) [
        | inl ok ↦ inl (ok, out-clause ok text asks)
        | inr out ↦ inr (out, memory-clause out text asks)
      ]

  pub whole-clause : (names texts : Three) → Hold c.files.held names texts → (a : Accepted texts) → NoneFailed c.files.faults c.files'.faults names → ¬ Rose c.out.faults c.out'.faults → c.words ≡ run_whole names →
      ((result ≡ status.Ok) × All c.out c.out' (network_log a)) ⊎ ((result ≡ status.Memory) × Prefix c.out c.out' (network_log a))
  whole-clause names texts hold a quiet unmet is = wrote (network_log a) is (asks-whole hold a c.passes) (quiet-whole quiet) unmet

  pub pipe-clause : {makes : Makes} → MakeSame makes c.passes → (names texts : Three) → Hold c.files.held names texts → (a : Accepted texts) → FirstFitPlaces makes a →
      NoneFailed c.files.faults c.files'.faults names → ¬ Rose c.out.faults c.out'.faults → c.words ≡ run_pipe names →
      ((result ≡ status.Ok) × All c.out c.out' (network_log a)) ⊎ ((result ≡ status.Memory) × Prefix c.out c.out' (network_log a))
  pipe-clause same names texts hold a f quiet unmet is = wrote (network_log a) is (asks-pipe hold a c.passes same f) (quiet-pipe quiet) unmet

  pub drive-clause : {makes : Makes} → MakeSame makes c.passes → (names texts : Three) → Hold c.files.held names texts → (a : Accepted texts) → (f : FirstFitPlaces makes a) →
      NoneFailed c.files.faults c.files'.faults names → ¬ Rose c.out.faults c.out'.faults → c.words ≡ drive names →
      ((result ≡ status.Ok) × All c.out c.out' (steps_log f)) ⊎ ((result ≡ status.Memory) × Prefix c.out c.out' (steps_log f))
  drive-clause same names texts hold a f quiet unmet is = wrote (steps_log f) is (asks-drive hold a c.passes same f) (quiet-drive quiet) unmet

  pub placed-clause : {makes : Makes} → MakeSame makes c.passes → (names texts : Three) → Hold c.files.held names texts → (placement text : List ℕ) → Holds c.files.held placement text 8388608 → (a : Accepted texts) →
      AuditAccepts makes a text → NoneFailed c.files.faults c.files'.faults names → ¬ Rose (c.files.faults placement) (c.files'.faults placement) → ¬ Rose c.out.faults c.out'.faults → c.words ≡ run_placed names placement →
      ((result ≡ status.Ok) × All c.out c.out' (network_log a)) ⊎ ((result ≡ status.Memory) × Prefix c.out c.out' (network_log a))
  placed-clause same names texts hold placement text holds a audit quiet last unmet is =
      wrote (network_log a) is (asks-placed hold a c.passes same holds audit) (quiet-placed quiet last) unmet

  pub snapped-clause : {makes : Makes} → MakeSame makes c.passes → (names texts : Three) → Hold c.files.held names texts → (a : Accepted texts) → (f : FirstFitPlaces makes a) → (word : List ℕ) (steps : ℕ) → number_of word ≡ Some steps →
      NoneFailed c.files.faults c.files'.faults names → ¬ Rose c.out.faults c.out'.faults → c.words ≡ snap names word →
      ((result ≡ status.Ok) × All c.out c.out' (snapshot_log f steps)) ⊎ ((result ≡ status.Memory) × Prefix c.out c.out' (snapshot_log f steps))
  snapped-clause same names texts hold a f word steps number quiet unmet is =
      wrote (snapshot_log f steps) is (asks-snap hold a c.passes same f word steps number) (quiet-snap word steps number quiet) unmet

  -- ---- by word

  -- a text that is asked for, over the texts that the history has
  pub by_word-clause : (ts : List (List ℕ)) → length ts ≡ length (files_named c.words) → c.files'.heard ≡ read_whole c.words (files_named c.words) ts c.files.heard → ¬ Rose c.out.faults c.out'.faults →
      (text : List ℕ) → AnswersTo (command_of c.words) (given (question c) ts) (Ok text) → ((result ≡ status.Ok) × All c.out c.out' text) ⊎ ((result ≡ status.Memory) × Prefix c.out c.out' text)
  by_word-clause ts long is unmet text asked =
      elim (unfailed-done e.end over (λ word fault. never word (file-end (command_of c.words) (question c) c.out c.out' e.done.texts e.end word take.ReadFault (λ same. cc) e.done.does fault)) unmet text asked) [
        | inl ok ↦ inl (e.status ∙ ok, ok-all e.end over ok text asked)
        | inr out ↦ inr (e.status ∙ out, memory-prefix e.end over out text asked)
      ]
    where
      read : (e.done.texts ≡ Ok ts) ⊎ (e.done.texts ≡ Err refusal.Memory)
      read = read-texts c.words c.files c.files' (files_named c.words) e.done.texts ts e.done.reads long is

      agrees : Agrees e.done.texts (Some (Ok ts))
      agrees = elim read [
        | inl ok ↦ subst (λ (t : Texts). Agrees t (Some (Ok ts))) (sym ok) refl
        | inr out ↦ subst (λ (t : Texts). Agrees t (Some (Ok ts))) (sym out) tt
      ]

      over : Answered (IsSome {T = Texts} (Some (Ok ts))) (λ begun. StopsOver (Some (Ok ts)) (λ texts. StopsOf (command_of c.words) (given (question c) texts) begun)) (AnswersTo (command_of c.words) (given (question c) ts)) c.out c.out' e.end
      over = record { by = over-by (command_of c.words) (question c) c.files c.files' c.out c.out' e.done.texts e.end (Some (Ok ts)) agrees e.done.reads e.done.does }

      never : (word : ℕ) → e.done.texts ≡ Err (refusal.ReadFault word) → ⊥
      never word fault = elim read [
        | inl ok ↦ let no : ◌≡◌ {A = Texts} (Ok ts) (Err (refusal.ReadFault word)) = sym ok ∙ fault in cc
        | inr out ↦ let no : ◌≡◌ {A = Texts} (Err refusal.Memory) (Err (refusal.ReadFault word)) = sym out ∙ fault in cc
      ]

  pub pipe_by_word-clause : {makes : Makes} → MakeSame makes c.passes → (names texts : Three) → c.files'.heard ≡ read_three names texts c.files.heard → (a : Accepted texts) → FirstFitPlaces makes a → ¬ Rose c.out.faults c.out'.faults →
      c.words ≡ run_pipe names → ((result ≡ status.Ok) × All c.out c.out' (network_log a)) ⊎ ((result ≡ status.Memory) × Prefix c.out c.out' (network_log a))
  pipe_by_word-clause same names texts heard a f unmet is =
      let ts = texts.program ∷ texts.limits ∷ texts.scenario ∷ [] in
      by_word-clause ts (subst (λ (w : List (List ℕ)). 3 ≡ length (files_named w)) (sym is) refl)
      (subst (λ (w : List (List ℕ)). c.files'.heard ≡ read_whole w (files_named w) ts c.files.heard) (sym is) heard) unmet (network_log a)
      (subst (λ (w : List (List ℕ)). AnswersTo (command_of w) (record { words = w; texts = ts; passes = c.passes }) (Ok (network_log a))) (sym is) (answers-pipe names a c.passes same f))

  pub begins-clause : BegunInOrder c.words (files_named c.words) c.files.heard c.files'.heard
  begins-clause = read-begun c.words c.files c.files' (files_named c.words) e.done.texts e.done.reads

  -- ---- safety on its own

  pub safe-clause : (names : Three) → c.words ≡ run_pipe names → result ≡ status.Ok → (three : Three) × (c.files'.heard ≡ read_three names three c.files.heard) × (a : Accepted three) × All c.out c.out' (network_log a)
  safe-clause names is ok =
      safe-over names (question c) c.files c.files' c.out c.out' e.done.texts e.end
      (subst (λ (w : List (List ℕ)). FilesRead w c.files c.files' (command_files (command_of w)) e.done.texts) is e.done.reads)
      (subst (λ (w : List (List ℕ)). PerformsOver (command_of w) (question c) c.out c.out' e.done.texts e.end) is e.done.does) (sym e.status ∙ ok)

  -- ---- want of memory

  -- nothing was written, or the command may end where it does
  stops-command : (cmd : Command) (ts : List (List ℕ)) → command_of c.words ≡ Some cmd → contents c.files.held c.words (command_files (Some cmd)) ≡ Some (Ok ts) → result ≡ status.Memory →
      Keeps c.out.written c.out'.written ⊎ ((begun : List ℕ) × MayStop cmd (given (question c) ts) begun × All c.out c.out' begun)
  stops-command cmd ts is told memory =
      let hold : told_texts (question c) ≡ Some (Ok ts) = ap (λ (co : Option Command). contents c.files.held c.words (command_files co)) is ∙ told in
      elim (memory-stops e.end (answered e) (sym e.status ∙ memory)) [
        | inl keeps ↦ inl keeps
        | inr some ↦ inr (
          some.0,
          subst (λ (co : Option Command). StopsOf co (given (question c) ts) some.0) is
              (subst (λ (t : Option Texts). StopsOver t (λ texts. StopsOf (command_of c.words) (given (question c) texts) some.0)) hold some.1),
          some.2,
        )
      ]

  pub memory_pipe-clause : {makes : Makes} → MakeSame makes c.passes → (names texts : Three) → Hold c.files.held names texts → (a : Accepted texts) → FirstFitPlaces makes a → c.words ≡ run_pipe names → result ≡ status.Memory →
      Keeps c.out.written c.out'.written ⊎ ((begun : List ℕ) × StopsAt (whole_network a) begun × All c.out c.out' begun)
  memory_pipe-clause same names texts hold a f is memory =
      elim (stops-command command.RunPipe (texts.program ∷ texts.limits ∷ texts.scenario ∷ []) (ap command_of is)
      (subst (λ (w : List (List ℕ)). contents c.files.held w (command_files (Some command.RunPipe)) ≡ Some (Ok (texts.program ∷ texts.limits ∷ texts.scenario ∷ []))) (sym is) (texts-pipe hold a)) memory) [
        | inl keeps ↦ inl keeps
        | inr some ↦ inr (some.0, subst (λ (r : Ready). StopsAt (network_of r) some.0) (sym (some.1.is.only (Ok (ready_of c.passes f)) (is-ready a c.passes same f))) some.1.stops, some.2)
      ]

  pub memory_placed-clause : {makes : Makes} → MakeSame makes c.passes → (names texts : Three) → Hold c.files.held names texts → (placement text : List ℕ) → Holds c.files.held placement text 8388608 → (a : Accepted texts) → AuditAccepts makes a text →
      c.words ≡ run_placed names placement → result ≡ status.Memory → Keeps c.out.written c.out'.written ⊎ ((begun : List ℕ) × StopsAt (whole_network a) begun × All c.out c.out' begun)
  memory_placed-clause same names texts hold placement text holds a audit is memory =
      elim (stops-command command.RunPlaced (texts.program ∷ texts.limits ∷ texts.scenario ∷ text ∷ []) (ap command_of is)
      (subst (λ (w : List (List ℕ)). contents c.files.held w (command_files (Some command.RunPlaced)) ≡ Some (Ok (texts.program ∷ texts.limits ∷ texts.scenario ∷ text ∷ []))) (sym is) (texts-placed hold a holds)) memory) [
        | inl keeps ↦ inl keeps
        | inr some ↦ inr (some.0, subst (λ (r : Ready). StopsAt (network_of r) some.0) (sym (some.1.is.only (Ok (audited_of c.passes audit)) (is-placed a c.passes same audit))) some.1.stops, some.2)
      ]

  -- the sights that are the answer of the command were shown
  shows-answer : (cmd : Command) (ts : List (List ℕ)) (sights : List Sight) → command_of c.words ≡ Some cmd → contents c.files.held c.words (command_files (Some cmd)) ≡ Some (Ok ts) →
      CommandShows cmd (given (question c) ts) (Ok sights) → result ≡ status.Ok → ShowsAll c.seen c.seen' sights
  shows-answer cmd ts sights is told shows ok =
      let ends : end_status e.end ≡ status.Ok = sym e.status ∙ ok in
      let hold : told_texts (question c) ≡ Some (Ok ts) = ap (λ (co : Option Command). contents c.files.held c.words (command_files co)) is ∙ told in
      let agrees : Agrees e.done.texts (Some (Ok ts)) = subst (Agrees e.done.texts) hold (read-agrees c.words c.files c.files' (command_files (command_of c.words)) e.done.texts e.done.reads) in
      let read : e.done.texts ≡ Ok ts = ok-texts (command_of c.words) (question c) c.out c.out' e.done.texts ts e.end e.done.does ends agrees in
      let shown : Shown (ShowsOver (command_of c.words) (question c) (Ok ts)) c.seen c.seen' e.end =
      subst (λ (t : Texts). Shown (ShowsOver (command_of c.words) (question c) t) c.seen c.seen' e.end) read e.done.shown in
      let over : Shown (CommandShows cmd (given (question c) ts)) c.seen c.seen' e.end =
      subst (λ (co : Option Command). Shown (ShowsOver co (question c) (Ok ts)) c.seen c.seen' e.end) is shown in
      shown-all (CommandShows cmd (given (question c) ts)) c.seen c.seen' e.end sights over ends shows

  pub shown-clause : {makes : Makes} → MakeSame makes c.passes → (names texts : Three) → Hold c.files.held names texts → (a : Accepted texts) → (f : FirstFitPlaces makes a) → c.words ≡ run_pipe names → result ≡ status.Ok →
      ShowsAll c.seen c.seen' (network_sights a (placed_by f))
  shown-clause same names texts hold a f is ok =
      shows-answer command.RunPipe (texts.program ∷ texts.limits ∷ texts.scenario ∷ []) (network_sights a (placed_by f)) (ap command_of is)
      (subst (λ (w : List (List ℕ)). contents c.files.held w (command_files (Some command.RunPipe)) ≡ Some (Ok (texts.program ∷ texts.limits ∷ texts.scenario ∷ []))) (sym is) (texts-pipe hold a))
      (shows-pipe hold a c.passes same f) ok

  pub shown_drive-clause : {makes : Makes} → MakeSame makes c.passes → (names texts : Three) → Hold c.files.held names texts → (a : Accepted texts) → (f : FirstFitPlaces makes a) → c.words ≡ drive names → result ≡ status.Ok →
      ShowsAll c.seen c.seen' (steps_sights f)
  shown_drive-clause same names texts hold a f is ok =
      shows-answer command.Drive (texts.program ∷ texts.limits ∷ texts.scenario ∷ []) (steps_sights f) (ap command_of is)
      (subst (λ (w : List (List ℕ)). contents c.files.held w (command_files (Some command.Drive)) ≡ Some (Ok (texts.program ∷ texts.limits ∷ texts.scenario ∷ []))) (sym is) (texts-drive hold a))
      (shows-drive hold a c.passes same f) ok

  pub shown_placed-clause : {makes : Makes} → MakeSame makes c.passes → (names texts : Three) → Hold c.files.held names texts → (placement text : List ℕ) → Holds c.files.held placement text 8388608 → (a : Accepted texts) → (audit : AuditAccepts makes a text) →
      c.words ≡ run_placed names placement → result ≡ status.Ok → ShowsAll c.seen c.seen' (network_sights a audit.placed)
  shown_placed-clause same names texts hold placement text holds a audit is ok =
      shows-answer command.RunPlaced (texts.program ∷ texts.limits ∷ texts.scenario ∷ text ∷ []) (network_sights a audit.placed) (ap command_of is)
      (subst (λ (w : List (List ℕ)). contents c.files.held w (command_files (Some command.RunPlaced)) ≡ Some (Ok (texts.program ∷ texts.limits ∷ texts.scenario ∷ text ∷ []))) (sym is) (texts-placed hold a holds))
      (shows-placed hold a c.passes same audit) ok

  pub shown_bench-clause : {makes : Makes} → MakeSame makes c.passes → (seed n : ℕ) → command_of c.words ≡ Some (command.Bench seed n) → (a : Accepted (bench_texts seed n)) → (f : FirstFitPlaces makes a) → result ≡ status.Ok →
      ShowsAll c.seen c.seen' (network_sights a (placed_by f))
  shown_bench-clause same seed n is a f ok = shows-answer (command.Bench seed n) [] (network_sights a (placed_by f)) is refl (Ok (ready_of c.passes f), is-ready a c.passes same f, refl) ok

  pub passes-clause : SamePasses c.passes c.passes'
  passes-clause = ran-same (RunsOver (command_of c.words) (question c) e.done.texts) c.passes c.passes' e.end e.done.ran

  pub told-clause : ToldBefore c.seen c.seen'
  told-clause = shown-told (ShowsOver (command_of c.words) (question c) e.done.texts) c.seen c.seen' e.end e.done.shown
