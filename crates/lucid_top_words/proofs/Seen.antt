-- What was put in the terms of a sink was put in those of its view, and the other way round.
use Rattle.std.proofs.Common.{ℕ, inl, inr, List, Option, Some, None, Ok, Err, refl}
use Rattle.std.specs.Io.KnownBytes.{Keeps}
use Rattle.lucid_io.specs.Puts.{PutsAll, PutsPart}
use Rattle.lucid_top_words.specs.declared.refusal.Refusal.{Refusal}
use Rattle.lucid_top_words.specs.declared.refusal.Refusal.TheVariants as refusal
use Rattle.lucid_top_words.specs.Outcome.{End, Outcome}
use Rattle.lucid_top_words.specs.Views.{SinkView, sink_view}
use Rattle.lucid_top_words.specs.Writing.{Performs, PutsSome, Refuses, Said, Untouched}

abbrev pub All : SinkView → SinkView → List ℕ → Type 0
All old new text = PutsAll SinkView.written SinkView.faults old new text

abbrev pub Part : SinkView → SinkView → List ℕ → Type 0
Part old new text = PutsPart SinkView.written SinkView.faults old new text

abbrev pub Prefix : SinkView → SinkView → List ℕ → Type 0
Prefix old new text = PutsSome SinkView.written SinkView.faults old new text

abbrev pub Nothing : SinkView → SinkView → Type 0
Nothing old new = Untouched SinkView.written SinkView.faults old new

abbrev pub Line : SinkView → SinkView → List ℕ → Type 0
Line old new text = Said SinkView.written SinkView.faults old new text

Keeps-refl : (o : Option (List ℕ)) → Keeps o o
Keeps-refl None = tt
Keeps-refl (Some s) = refl

pub nothing-kept : {out : SinkView} → Nothing out out
nothing-kept {out} = record { keeps = Keeps-refl out.written; quiet = refl }

-- a sink that is as it was
pub untouched : {W : Type 0} {w : W → Option (List ℕ)} {f : W → ℕ} {sink : W} → Untouched w f sink sink
untouched {W} {w} {f} {sink} = record { keeps = Keeps-refl (w sink); quiet = refl }

module _ {W : Type 0} (w : W → Option (List ℕ)) (f : W → ℕ) (old new : W) where
  all-in : (text : List ℕ) → PutsAll w f old new text → All (sink_view w f old) (sink_view w f new) text
  all-in text p = record { bytes = p.bytes; quiet = p.quiet }

  pub all-of : (text : List ℕ) → All (sink_view w f old) (sink_view w f new) text → PutsAll w f old new text
  all-of text p = record { bytes = p.bytes; quiet = p.quiet }

  part-in : (text : List ℕ) → PutsPart w f old new text → Part (sink_view w f old) (sink_view w f new) text
  part-in text p = record { bytes = p.bytes; cause = p.cause; later = p.later }

  pub part-of : (text : List ℕ) → Part (sink_view w f old) (sink_view w f new) text → PutsPart w f old new text
  part-of text p = record { bytes = p.bytes; cause = p.cause; later = p.later }

  pub some-of : (text : List ℕ) → Prefix (sink_view w f old) (sink_view w f new) text → PutsSome w f old new text
  some-of text p = record { count = p.count; within = p.within; bytes = p.bytes; quiet = p.quiet }

  nothing-in : Untouched w f old new → Nothing (sink_view w f old) (sink_view w f new)
  nothing-in u = record { keeps = u.keeps; quiet = u.quiet }

  pub line-of : (text : List ℕ) → Line (sink_view w f old) (sink_view w f new) text → Said w f old new text
  line-of text s = elim s [ inl p ↦ inl (all-of text p) | inr p ↦ inr (part-of text p) ]

  refuses-in : (stops : List ℕ → Type 0) (answers : Outcome → Type 0) (r : Refusal) → Refuses stops answers w f old new r →
      Refuses stops answers SinkView.written SinkView.faults (sink_view w f old) (sink_view w f new) r
  refuses-in stops answers refusal.WriteFault d = (d.0, d.1, part-in d.0 d.2)
  refuses-in stops answers refusal.Memory d = elim d [ inl u ↦ inl (nothing-in u) | inr p ↦ inr (p.0, p.1, record { count = p.2.count; within = p.2.within; bytes = p.2.bytes; quiet = p.2.quiet }, p.3) ]
  refuses-in stops answers (refusal.ReadFault word) d = d
  refuses-in stops answers (refusal.TooLong word) d = d
  refuses-in stops answers r d = (d.0, nothing-in d.1)

  pub performs-in : (stops : List ℕ → Type 0) (answers : Outcome → Type 0) (end : End) → Performs stops answers w f old new end →
      Performs stops answers SinkView.written SinkView.faults (sink_view w f old) (sink_view w f new) end
  performs-in stops answers (Ok u) d = (d.0, d.1, all-in d.0 d.2)
  performs-in stops answers (Err r) d = refuses-in stops answers r d
