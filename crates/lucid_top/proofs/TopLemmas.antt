-- A call, by any contents of names that agree with the history.
use Rattle.std.proofs.Common.{◌≡◌, ℕ, List, [], ◌∷◌, Option, Some, None, Ok, Err, true, inl, inr, refl, sym, ◌∙◌, ap, subst}
use Rattle.lucid_code.specs.Parts as code
use Rattle.lucid_io.specs.History.{AgreesWithAll}
use Rattle.lucid_top.specs.Answer.{Question}
use Rattle.lucid_top.specs.Call.{Call, Ended, PerformsOver, RunsOver, ShowsOver, question}
use Rattle.lucid_top_fit.specs.Passes.{PassView, PassesRun}
use Rattle.lucid_top_pipes.specs.Watching.{Seen, Shown}
use Rattle.lucid_top_words.specs.Command.{command_of}
use Rattle.lucid_top_words.specs.declared.command.Command.{Command}
use Rattle.lucid_top_words.specs.declared.status.Status.{Status}
use Rattle.lucid_top_words.specs.declared.command.NamedFile.{NamedFile}
use Rattle.lucid_top_words.specs.Files.{FilesRead, Texts, before, read_whole}
use Rattle.lucid_top_words.specs.Outcome.{End}
use Rattle.lucid_top_words.specs.Views.{FilesView, Held, SinkView, holding}
use Rattle.lucid_top_words.specs.Words.{word_at}
use Rattle.lucid_top_words.proofs.FilesLemmas.{read-holding, read-agreed}

-- the same call, with these contents of names
abbrev pub call_holding : Held → Call → Call
call_holding contents c = record c { files = holding contents c.files; files' = holding contents c.files' }

module _ (contents : Held) where
  performs : (co : Option Command) (q : Question) (out out' : SinkView) (texts : Texts) (end : End) → PerformsOver co q out out' texts end → PerformsOver co (record q { held = contents }) out out' texts end
  performs None q out out' texts end does = does
  performs (Some c) q out out' (Ok texts) end does = does
  performs (Some c) q out out' (Err r) end does = does

  runs : (co : Option Command) (q : Question) (texts : Texts) (old new : List PassView) (end : End) → PassesRun (RunsOver co q texts) old new end → PassesRun (RunsOver co (record q { held = contents }) texts) old new end
  runs None q texts old new end ran = ran
  runs (Some c) q (Ok texts) old new end ran = ran
  runs (Some c) q (Err r) old new end ran = ran

  shows : (co : Option Command) (q : Question) (texts : Texts) (old new : Seen) (end : End) → Shown (ShowsOver co q texts) old new end → Shown (ShowsOver co (record q { held = contents }) texts) old new end
  shows None q texts old new end shown = shown
  shows (Some c) q (Ok texts) old new end shown = shown
  shows (Some c) q (Err r) old new end shown = shown

  pub ended-holding : {c : Call} {err err' : SinkView} {result : Status} → AgreesWithAll contents c.files'.heard → Ended c err err' result → Ended (call_holding contents c) err err' result
  ended-holding {c} {err} {err'} {result} agrees e = record {
    end = e.end;
    status = e.status;
    done = record {
      texts = e.done.texts;
      reads = read-holding contents c.words c.files c.files' _ e.done.texts e.done.reads agrees;
      does = performs (command_of c.words) (question c) c.out c.out' e.done.texts e.end e.done.does;
      ran = runs (command_of c.words) (question c) e.done.texts c.passes c.passes' e.end e.done.ran;
      shown = shows (command_of c.words) (question c) e.done.texts c.seen c.seen' e.end e.done.shown;
    };
    said = e.said;
  }

pub ended-agrees : {c : Call} {err err' : SinkView} {result : Status} → Ended c err err' result → AgreesWithAll c.files.held c.files.heard → AgreesWithAll c.files.held c.files'.heard
ended-agrees {c} {err} {err'} {result} e agrees = read-agreed c.words c.files c.files' _ e.done.texts e.done.reads agrees

-- ---- the history after a reading

-- The history after all files were read whole.
pub read-entries : (words : List (List ℕ)) (old new : FilesView) (named : List NamedFile) (ts : List (List ℕ)) → FilesRead words old new named (Ok ts) → new.heard ≡ read_whole words named ts old.heard
read-entries words old new [] ts reads = ap (λ (v : FilesView). v.heard) reads.0
read-entries words old new (file ∷ rest) ts reads =
    elim reads [
      | inl stop ↦ let no : ◌≡◌ {A = Texts} (Ok ts) (Err stop.0) = stop.2 in absurd (cc)
      | inr go ↦
          at go.0 go.1 go.2 go.3.heard go.5 (λ more is. read-entries words go.0 new rest more (subst (FilesRead words go.0 new rest) is go.4))
    ]
  where
    at : (mid : FilesView) (text : List ℕ) (later : Texts) → mid.heard ≡ record { name = word_at words file.word; bytes = text; ended = true } ∷ old.heard → ◌≡◌ {A = Texts} (Ok ts) (before text later) →
        ((more : List (List ℕ)) → later ≡ Ok more → new.heard ≡ read_whole words rest more mid.heard) → new.heard ≡ read_whole words (file ∷ rest) ts old.heard
    at mid text (Ok more) first is next =
        let whole : ts ≡ text ∷ more = cc in
        subst (λ (l : List (List ℕ)). new.heard ≡ read_whole words (file ∷ rest) l old.heard) (sym whole) (next more refl ∙ ap (read_whole words rest more) first)
    at mid text (Err r) first is next = absurd (cc)
