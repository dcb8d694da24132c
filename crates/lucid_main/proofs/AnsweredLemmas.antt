-- The four passes, by what is known of the boxes that hold them.
use Rattle.std.proofs.Common.{◌≡◌, inl, inr, ℕ, List, [], ◌∷◌, Option, None, codes, map, refl, sym, ap, subst}
use Rattle.lucid_pass_spec.specs.Replace.{Rewrite}
use Rattle.lucid_top.specs.Call.{Ended}
use Rattle.lucid_top_fit.specs.Passes.{PassView, passes_view}
use Rattle.lucid_top_words.specs.declared.status.Status.{Status}
use Rattle.lucid_top_words.specs.Views.{FilesView, SinkView, sink_view}
use Rattle.lucid_top_words.specs.Words.{Bytes}
use Rattle.lucid_top_words.specs.Writing.{Said}
use Rattle.lucid_main.specs.Answered.{AreOurs, WithOurs, copies_pass, dead_pass, direct_pass, fold_pass}

four : {A X : Type 0} (f : A → X) (a b c d : A) (p q r s : X) → f a ≡ p → f b ≡ q → f c ≡ r → f d ≡ s → map f (a ∷ b ∷ c ∷ d ∷ []) ≡ p ∷ q ∷ r ∷ s ∷ []
four f a b c d p q r s e g h i = rw (e, g, h, i) refl

module _ {words : List Bytes} {files files' : FilesView} {out out' err err' : SinkView} {result : Status} where
  pub with_ours : {B : Type 0} (name : B → Bytes) (gives : B → Rewrite) (removed : B → ℕ) (old : List B) (passes' : List PassView) →
      Ended (record {
        words = words;
        files = files;
        files' = files';
        out = out;
        out' = out';
        passes = passes_view name gives removed old;
        passes' = passes';
        seen = None;
        seen' = None;
      }) err err' result →
      (a b c d : B) → old ≡ a ∷ b ∷ c ∷ d ∷ [] →
      name a ≡ codes "fold" → name b ≡ codes "copies" → name c ≡ codes "dead" → name d ≡ codes "direct" →
      gives a ≡ fold_pass → gives b ≡ copies_pass → gives c ≡ dead_pass → gives d ≡ direct_pass →
      WithOurs words files files' out out' err err' result
  with_ours name gives removed old passes' ended a b c d boxes called-a called-b called-c called-d gives-a gives-b gives-c gives-d = record {
    passes = passes_view name gives removed old;
    passes' = passes';
    are = subst (λ (bs : List _). AreOurs (passes_view name gives removed bs)) (sym boxes) (record {
      names = four name a b c d _ _ _ _ called-a called-b called-c called-d;
      makes = four (λ x. (gives x).makes) a b c d _ _ _ _ (ap Rewrite.makes gives-a) (ap Rewrite.makes gives-b) (ap Rewrite.makes gives-c) (ap Rewrite.makes gives-d);
    });
    ended = ended;
  }

-- A line that was put to a sink, by its view, where the sink was not changed before.
pub line_in : {E : Type 0} (w : E → Option Bytes) (f : E → ℕ) (old mid new : E) (text : Bytes) → mid ≡ old → Said w f mid new text →
    Said SinkView.written SinkView.faults (sink_view w f old) (sink_view w f new) text
line_in {E} w f old mid new text same said =
    subst (λ (e : E). Said SinkView.written SinkView.faults (sink_view w f e) (sink_view w f new) text) same
    (elim said [ inl p ↦ inl (record { bytes = p.bytes; quiet = p.quiet }) | inr p ↦ inr (record { bytes = p.bytes; cause = p.cause; later = p.later }) ])
