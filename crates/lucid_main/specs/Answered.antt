-- The call that the program makes: `lucid` with the four passes in their order, and a watch that sees nothing.
use Rattle.std.specs.Prelude.{◌≡◌, ◌≢◌, ◌⊎◌, ℕ, List, [], Option, None}
use Rattle.std.specs.declared.io.ErrorKind.{ErrorKind}
use Rattle.std.specs.declared.io.ErrorKind.TheVariants as kinds
use Rattle.lucid_io.specs.Puts.{PutsAll}
use Rattle.lucid_pass_spec.proofs.DirectRuns.{direct_replaces}
use Rattle.lucid_pass_spec.proofs.Gone.{dead_replaces}
use Rattle.lucid_pass_spec.proofs.Looking.{copies_replaces, fold_replaces}
use Rattle.lucid_pass_spec.specs.Dead.{alive}
use Rattle.lucid_pass_spec.specs.Direct.{direct}
use Rattle.lucid_pass_spec.specs.Looks.{copies, folded}
use Rattle.lucid_pass_spec.specs.Replace.{Rewrite}
use Rattle.lucid_top.specs.Call.{Ended}
pub use Rattle.lucid_top_fit.specs.Passes.{AreOurs, our_makes}
use Rattle.lucid_top_fit.specs.Passes.{PassView}
use Rattle.lucid_top_words.specs.declared.refusal.Refusal.{Refusal}
use Rattle.lucid_top_words.specs.declared.refusal.Refusal.TheVariants as refusal
use Rattle.lucid_top_words.specs.declared.status.Status.{Status}
use Rattle.lucid_top_words.specs.declared.status.Status.TheVariants as status
use Rattle.lucid_top_words.specs.Refusal.{line_of, status_of}
use Rattle.lucid_top_words.specs.Views.{FilesView, SinkView}
use Rattle.lucid_top_words.specs.Words.{Bytes}
use Rattle.lucid_top_words.specs.Writing.{PutsSome, Said}

-- The meaning of each pass: its function, with the law that this may replace valid code.
abbrev pub fold_pass : Rewrite
fold_pass = record { makes = folded; keeps = fold_replaces }

abbrev pub copies_pass : Rewrite
copies_pass = record { makes = copies; keeps = copies_replaces }

abbrev pub dead_pass : Rewrite
dead_pass = record { makes = alive; keeps = dead_replaces }

abbrev pub direct_pass : Rewrite
direct_pass = record { makes = direct; keeps = direct_replaces }

-- The call ended as `lucid` does with these passes.
pub record WithOurs (words : List Bytes) (files files' : FilesView) (out out' err err' : SinkView) (result : Status) : Type 0 where
  pub passes : List PassView
  pub passes' : List PassView
  pub are : AreOurs passes
  pub ended : Ended (record {
    words = words;
    files = files;
    files' = files';
    out = out;
    out' = out';
    passes = passes;
    passes' = passes';
    seen = None;
    seen' = None;
  }) err err' result

-- There was no memory for the passes: the line says so, and nothing else was done.
pub record WithNone (words : List Bytes) (files files' : FilesView) (out out' err err' : SinkView) (result : Status) : Type 0 where
  pub status : result ≡ status.Memory
  pub files_stay : files' ≡ files
  pub out_stays : out' ≡ out
  pub line : Said SinkView.written SinkView.faults err err' (line_of words refusal.Memory)

abbrev pub Called : List Bytes → FilesView → FilesView → SinkView → SinkView → SinkView → SinkView → Status → Type 0
Called words files files' out out' err err' result =
    WithOurs words files files' out out' err err' result ⊎ WithNone words files files' out out' err err' result

-- The machine gave no words, and its error has this kind: the line of the refusal was written, and nothing else was done.
pub record NoWords {F W E : Type 0} (written : E → Option Bytes) (faults : E → ℕ) (kind : ErrorKind) (files files' : F) (out out' : W) (err err' : E) (result : Status) : Type 0 where
  pub why : Refusal
  pub status : result ≡ status_of why
  pub usage : kind ≡ kinds.InvalidData → why ≡ refusal.Usage
  pub memory : kind ≢ kinds.InvalidData → why ≡ refusal.Memory
  pub files_stay : files' ≡ files
  pub out_stays : out' ≡ out
  pub line : Said written faults err err' (line_of [] why)

-- the program wrote the text and ended with code 0; or memory ran out, a prefix was written, and the code is 11
abbrev pub Finished : {T : Type 0} → (T → Option Bytes) → (T → ℕ) → T → T → ℕ → Bytes → Type 0
Finished written faults old new code text = ((code ≡ 0) × PutsAll written faults old new text) ⊎ ((code ≡ 11) × PutsSome written faults old new text)
