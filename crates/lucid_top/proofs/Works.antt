-- How the work of a call ends: each of its three exits.
use Rattle.std.proofs.Common.{◌≡◌, inl, ℕ, List, [], Option, Some, None, Ok, Err, refl, sym, subst, Vec, Global}
use Rattle.lucid_code.specs.Parts as code
use Rattle.lucid_top_words.specs.declared.command.Command.{Command}
use Rattle.lucid_top_words.specs.declared.command.NamedFile.{NamedFile}
use Rattle.lucid_top_words.specs.declared.refusal.Refusal.{Refusal}
use Rattle.lucid_top_words.specs.declared.refusal.Refusal.TheVariants as refusal
use Rattle.lucid_top.specs.Answer.{CommandRuns, CommandShows, command_files, given}
use Rattle.lucid_top.specs.Call.{Call, Done, PerformsOver, RunsOver, ShowsOver, question}
use Rattle.lucid_top_words.specs.Command.{command_of, files_of}
use Rattle.lucid_top_words.specs.Files.{FilesRead, texts_in}
use Rattle.lucid_top_words.specs.Outcome.{End}
use Rattle.lucid_top_fit.specs.Passes.{PassesRun}
use Rattle.lucid_top_pipes.specs.Watching.{Shown}
use Rattle.lucid_top_words.proofs.Seen.{Nothing}

-- the words are no command
pub does-usage : (c : Call) → command_of c.words ≡ None → c.files' ≡ c.files → Nothing c.out c.out' → c.passes' ≡ c.passes → c.seen' ≡ c.seen →
    Done c (Err refusal.Usage)
does-usage c is files nothing passes seen = record {
  texts = Ok [];
  reads = subst (λ (o : Option Command). FilesRead c.words c.files c.files' (command_files o) (Ok [])) (sym is) (files, refl);
  does = subst (λ (o : Option Command). PerformsOver o (question c) c.out c.out' (Ok []) (Err refusal.Usage)) (sym is) (refl, nothing);
  ran = inl (passes, subst (λ (o : Option Command). (now : code.CodeParts) → RunsOver o (question c) (Ok []) now → ⊥) (sym is) (λ now none. none));
  shown = inl seen;
}

-- a file was not taken
pub does-refused : (d : Command) (c : Call) {named : List NamedFile} {r : Refusal} {end : End} → command_of c.words ≡ Some d → named ≡ files_of d →
    FilesRead c.words c.files c.files' named (Err r) → end ≡ Err r → Nothing c.out c.out' → c.passes' ≡ c.passes → c.seen' ≡ c.seen → Done c end
does-refused d c {named} {r} {end} is names reads ends nothing passes seen = record {
  texts = Err r;
  reads = subst (λ (o : Option Command). FilesRead c.words c.files c.files' (command_files o) (Err r)) (sym is) (subst (λ (l : List NamedFile). FilesRead c.words c.files c.files' l (Err r)) names reads);
  does = subst (λ (o : Option Command). PerformsOver o (question c) c.out c.out' (Err r) end) (sym is) (ends, nothing);
  ran = inl (passes, λ now none. absurd (subst (λ (o : Option Command). (now : code.CodeParts) → RunsOver o (question c) (Err r) now → ⊥) (sym is) (λ now none. none) now none));
  shown = subst (Shown (ShowsOver (command_of c.words) (question c) (Err r)) c.seen c.seen') (sym ends) (inl seen);
}

-- all files were read, and the command was performed over their texts
pub does-performed : (d : Command) (c : Call) {named : List NamedFile} {vs slice : List (Vec ℕ Global)} {end : End} → command_of c.words ≡ Some d → named ≡ files_of d →
    FilesRead c.words c.files c.files' named (Ok (texts_in vs)) → slice ≡ vs → PerformsOver (Some d) (question c) c.out c.out' (Ok (texts_in slice)) end →
    PassesRun (CommandRuns d (given (question c) (texts_in slice))) c.passes c.passes' end → Shown (CommandShows d (given (question c) (texts_in slice))) c.seen c.seen' end → Done c end
does-performed d c {named} {vs} {slice} {end} is names reads same performs runs shows = record {
  texts = Ok (texts_in slice);
  reads = subst (λ (o : Option Command). FilesRead c.words c.files c.files' (command_files o) (Ok (texts_in slice))) (sym is)
      (subst (λ (l : List (Vec ℕ Global)). FilesRead c.words c.files c.files' (files_of d) (Ok (texts_in l))) (sym same)
      (subst (λ (l : List NamedFile). FilesRead c.words c.files c.files' l (Ok (texts_in vs))) names reads));
  does = subst (λ (o : Option Command). PerformsOver o (question c) c.out c.out' (Ok (texts_in slice)) end) (sym is) performs;
  ran = subst (λ (o : Option Command). PassesRun (RunsOver o (question c) (Ok (texts_in slice))) c.passes c.passes' end) (sym is) runs;
  shown = subst (λ (o : Option Command). Shown (ShowsOver o (question c) (Ok (texts_in slice))) c.seen c.seen' end) (sym is) shows;
}
