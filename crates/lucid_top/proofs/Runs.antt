-- How a command ends that prepares something and then writes it, over passes and a watch.
use Rattle.std.proofs.Common.{◌≡◌, ℕ, ◌⊎◌, inl, inr, List, [], Option, Result, Ok, Err, refl, sym, subst, append-nil}
use Rattle.lucid_top_words.specs.declared.refusal.Refusal.{Refusal}
use Rattle.lucid_top_words.specs.declared.refusal.Refusal.TheVariants as refusal
use Rattle.lucid_top_words.specs.declared.command.Command.{Command}
use Rattle.lucid_top.specs.Answer.{CommandAnswers, CommandRuns, CommandShows, Given, MayStop}
use Rattle.lucid_top_words.specs.Outcome.{End, IsTheAnswer, Declines, Outcome, FollowedBy}
use Rattle.lucid_top_fit.specs.Passes.{PassView, PassesRun, RanOut}
use Rattle.lucid_pipe.specs.declared.sight.Sight.{Sight}
use Rattle.lucid_code.specs.Parts as code
use Rattle.lucid_top.specs.Pipes.{IsTarget, RunsCode, Target}
use Rattle.lucid_top_fit.specs.Fit.{RunsOn}
use Rattle.lucid_top_pipes.specs.Watching.{Seen, Shown, ShowsSome}
use Rattle.lucid_top_words.specs.Writing.{Performs, Refuses, Untouched}
use Rattle.lucid_top_words.specs.declared.status.Status.{Status}
use Rattle.lucid_top_words.specs.declared.status.Status.TheVariants as status
use Rattle.lucid_top_words.specs.Views.{sink_view}
use Rattle.lucid_top_words.specs.Words.{word_at}
use Rattle.std.specs.Io.KnownBytes.{Keeps}
use Rattle.lucid_io.specs.Puts.{PutsPart}
use Rattle.lucid_net.specs.Wanting.{StopsAt}
use Rattle.lucid_net_spec.specs.Ways.{Network}
use Rattle.lucid_top.specs.Headline.{OutOfMemory, Wrote}
use Rattle.lucid_top_words.proofs.Seen.{All, Prefix, all-of, some-of}
use Rattle.lucid_top_words.proofs.Parts.{Declines-first, one-text, went_on}

-- memory ran out of a part as it did of the whole
ran-out : (X Y : Type 0) (r : Refusal) → RanOut {X = X} (Err r) → RanOut {X = Y} (Err r)
ran-out X Y refusal.Memory o = tt
ran-out X Y r o = absurd o

-- what ran, where a part ended so and with it the whole
pub ran-err : (X Y : Type 0) (runs : code.CodeParts → Type 0) (ps ps' : List PassView) (r : Refusal) (end : Result Y Refusal) → PassesRun {X = X} runs ps ps' (Err r) → end ≡ Err r → PassesRun {X = Y} runs ps ps' end
ran-err X Y runs ps ps' r end ran is = subst (PassesRun {X = Y} runs ps ps') (sym is) (elim ran [
  | inl kept ↦ inl (kept.0, λ now on. ran-out X Y r (kept.1 now on))
  | inr on ↦ inr (on.0, on.1, on.2, on.3, elim on.4 [ inl o ↦ inl (ran-out X Y r o) | inr all ↦ inr all ])
])

-- memory ran out before any pass ran
pub memory-ran : (Y : Type 0) (runs : code.CodeParts → Type 0) (ps : List PassView) (end : Result Y Refusal) → end ≡ Err refusal.Memory → PassesRun {X = Y} runs ps ps end
memory-ran Y runs ps end is = subst (PassesRun {X = Y} runs ps ps) (sym is) (inl (refl, λ now on. tt))

-- or went on from it: then all ran
pub ran-ok : (X Y : Type 0) (runs : code.CodeParts → Type 0) (ps ps' : List PassView) (x : X) (end : Result Y Refusal) → PassesRun {X = X} runs ps ps' (Ok x) → PassesRun {X = Y} runs ps ps' end
ran-ok X Y runs ps ps' x end ran = elim ran [
  | inl kept ↦ inl (kept.0, λ now on. absurd (kept.1 now on))
  | inr on ↦ inr (on.0, on.1, on.2, on.3, elim on.4 [ inl o ↦ absurd o | inr all ↦ inr all ])
]

-- no pass ran: the texts set up no target, or memory ran out
pub none-ran : (Y : Type 0) (program limits : List ℕ) (ps : List PassView) (r : Refusal) (end : Result Y Refusal) → Declines (IsTarget program limits) r → end ≡ Err r →
    PassesRun {X = Y} (RunsCode program limits) ps ps end
none-ran Y program limits ps r end declines is = subst (PassesRun {X = Y} (RunsCode program limits) ps ps) (sym is) (inl (refl, at r declines))
  where
    at : (s : Refusal) → Declines (IsTarget program limits) s → (now : code.CodeParts) → RunsCode program limits now → RanOut {X = Y} (Err s)
    at refusal.Memory d now on = tt
    at refusal.WriteFault d now on = absurd d
    at (refusal.ReadFault word) d now on = absurd d
    at (refusal.TooLong word) d now on = absurd d
    at s d now on = absurd (d.only (Ok on.under) on.is)

-- what ran on the code of the target that the texts set up
pub ran-under : (Y : Type 0) (program limits : List ℕ) (under : Target) (ps ps' : List PassView) (end : Result Y Refusal) → IsTheAnswer (IsTarget program limits) (Ok under) →
    PassesRun {X = Y} (RunsOn under.core) ps ps' end → PassesRun {X = Y} (RunsCode program limits) ps ps' end
ran-under Y program limits under ps ps' end answer ran = elim ran [
  | inl kept ↦ inl (kept.0, λ now on. kept.1 now (subst (λ (t : Target). RunsOn t.core now) (answer.only (Ok on.under) on.is) on.runs))
  | inr on ↦ inr (on.0, record { under = under; is = answer.is; runs = on.1 }, on.2, on.3, on.4)
]

-- what ran on the code of texts that are the same
pub ran-in : (Y : Type 0) (texts texts' : List (List ℕ)) (ps ps' : List PassView) (end : Result Y Refusal) → texts ≡ texts' →
    PassesRun {X = Y} (RunsCode (word_at texts 0) (word_at texts 1)) ps ps' end → PassesRun {X = Y} (RunsCode (word_at texts' 0) (word_at texts' 1)) ps ps' end
ran-in Y texts texts' ps ps' end same ran = subst (λ (l : List (List ℕ)). PassesRun {X = Y} (RunsCode (word_at l 0) (word_at l 1)) ps ps' end) same ran

-- ---- an answer that is known

module _ {W : Type 0} (w : W → Option (List ℕ)) (f : W → ℕ) (out out' : W) (stops : List ℕ → Type 0) (answers : Outcome → Type 0) where
  refused-as : (r : Refusal) → Declines answers r → Untouched w f out out' → Performs stops answers w f out out' (Err r)
  refused-as refusal.Memory d nothing = inl nothing
  refused-as refusal.WriteFault d nothing = absurd d
  refused-as (refusal.ReadFault word) d nothing = absurd d
  refused-as (refusal.TooLong word) d nothing = absurd d
  refused-as r d nothing = (d, nothing)

  -- the refusal is the answer, with nothing written
  pub refused : (r : Refusal) (end : End) → Declines answers r → end ≡ Err r → Untouched w f out out' → Performs stops answers w f out out' end
  refused r end d is nothing = subst (Performs stops answers w f out out') (sym is) (refused-as r d nothing)

  -- a write of the text failed
  pub answer-cut : (text : List ℕ) (end : End) → IsTheAnswer answers (Ok text) → PutsPart w f out out' text → end ≡ Err refusal.WriteFault → Performs stops answers w f out out' end
  answer-cut text end answer part is = subst (Performs stops answers w f out out') (sym is) (text, answer, part)

-- ---- a part, and what comes after it

module _ {W : Type 0} {X : Type 0} (w : W → Option (List ℕ)) (f : W → ℕ) (out out' : W) (stops : List ℕ → Type 0) (part : Result X Refusal → Type 0) (rest : X → Outcome → Type 0) where
  -- the part was declined, with nothing written
  pub declined : (r : Refusal) (end : End) → Declines part r → end ≡ Err r → Untouched w f out out' → Performs stops (FollowedBy part rest) w f out out' end
  declined r end d is nothing = refused w f out out' stops (FollowedBy part rest) r end (Declines-first part rest r d) is nothing

  module _ {x : X} {s : List ℕ → Type 0} (is : IsTheAnswer part (Ok x)) (may : (begun : List ℕ) → s begun → stops begun) where
    after-refusal : (r : Refusal) → Refuses s (rest x) w f out out' r → Refuses stops (FollowedBy part rest) w f out out' r
    after-refusal refusal.WriteFault d = (d.0, went_on part rest x (Ok d.0) is d.1, d.2)
    after-refusal refusal.Memory d = elim d [ inl u ↦ inl u | inr p ↦ inr (p.0, went_on part rest x (Ok p.0) is p.1, p.2, may _ p.3) ]
    after-refusal (refusal.ReadFault word) d = d
    after-refusal (refusal.TooLong word) d = d
    after-refusal r d = (went_on part rest x (Err r) is d.0, d.1)

    -- it gave something, and the rest was performed from it
    pub performs-after : (end : End) → Performs s (rest x) w f out out' end → Performs stops (FollowedBy part rest) w f out out' end
    performs-after (Ok u) d = (d.0, went_on part rest x (Ok d.0) is d.1, d.2)
    performs-after (Err r) d = after-refusal r d

-- it gave something, and what the rest shows from it was shown
pub shown-after : {X : Type 0} (part : Result X Refusal → Type 0) (rest : X → Result (List Sight) Refusal → Type 0) (x : X) (old new : Seen) (end : End) → IsTheAnswer part (Ok x) →
    Shown (rest x) old new end → Shown (FollowedBy part rest) old new end
shown-after part rest x old new (Ok u) is shown = elim shown [
  | inl none ↦ inl (went_on part rest x (Ok []) is none.0, none.1)
  | inr all ↦ inr (all.0, went_on part rest x (Ok all.0) is all.1, all.2)
]
shown-after part rest x old new (Err r) is shown = elim shown [
  | inl same ↦ inl same
  | inr some ↦ inr (some.0, went_on part rest x (Ok some.0) is some.1, some.2)
]

-- all of it was shown, and then a write failed
pub shown-cut : {P : Type 0} (shows : Result (List Sight) Refusal → Type 0) (old new : Seen) (x : P) (r : Refusal) (end : End) → Shown {P = P} shows old new (Ok x) → end ≡ Err r → Shown shows old new end
shown-cut {P} shows old new x r end shown is = subst (Shown shows old new) (sym is) (elim shown [
  | inl none ↦ inl none.1
  | inr all ↦ inr (all.0, all.1, record { first = all.0; rest = []; parts = sym (append-nil all.0); shows = all.2 })
])

-- what was shown by a part that was refused was shown by all of it
pub shown-refused : {Q : Type 0} (shows : Result (List Sight) Refusal → Type 0) (old new : Seen) (r : Refusal) (end : Result Q Refusal) →
    (new ≡ old) ⊎ ((sights : List Sight) × IsTheAnswer shows (Ok sights) × ShowsSome old new sights) → end ≡ Err r → Shown shows old new end
shown-refused shows old new r end shown is = subst (Shown shows old new) (sym is) shown

-- ---- commands that are known

-- what a command that is known wrote
pub performs-for : {W : Type 0} {c d : Command} (g : Given) (w : W → Option (List ℕ)) (f : W → ℕ) (old new : W) (end : End) → c ≡ d → Performs (MayStop d g) (CommandAnswers d g) w f old new end →
    Performs (MayStop c g) (CommandAnswers c g) w f old new end
performs-for g w f old new end is performs = subst (λ (e : Command). Performs (MayStop e g) (CommandAnswers e g) w f old new end) (sym is) performs

-- the table of the code that passes run on, and that of the sights, at a command that is known
pub runs-for : {c d : Command} (g : Given) (ps ps' : List PassView) (end : End) → c ≡ d → PassesRun (CommandRuns d g) ps ps' end → PassesRun (CommandRuns c g) ps ps' end
runs-for g ps ps' end is runs = subst (λ (e : Command). PassesRun (CommandRuns e g) ps ps' end) (sym is) runs

pub shows-for : {c d : Command} (g : Given) (old new : Seen) (end : End) → c ≡ d → Shown (CommandShows d g) old new end → Shown (CommandShows c g) old new end
shows-for g old new end is shown = subst (λ (e : Command). Shown (CommandShows e g) old new end) (sym is) shown

-- one that runs no passes left them as they were
pub no-passes : {c d : Command} (g : Given) (ps : List PassView) (end : End) → c ≡ d → ((now : code.CodeParts) → CommandRuns d g now → ⊥) → PassesRun (CommandRuns c g) ps ps end
no-passes g ps end is none = runs-for g ps ps end is (inl (refl, λ now on. absurd (none now on)))

-- one that shows the watch nothing
none-shown : (seen : Seen) (end : End) → Shown (λ o. o ≡ Ok []) seen seen end
none-shown seen (Ok u) = inl (one-text [], refl)
none-shown seen (Err r) = inl refl

pub no-sights : {c d : Command} (g : Given) (seen : Seen) (end : End) → c ≡ d → CommandShows d g ≡ (λ o. o ≡ Ok []) → Shown (CommandShows c g) seen seen end
no-sights g seen end is none = shows-for g seen seen end is (subst (λ (shows : Result (List Sight) Refusal → Type 0). Shown shows seen seen end) (sym none) (none-shown seen end))

-- what was written as a view has it was written to the sink
pub wrote-of : {W : Type 0} (w : W → Option (List ℕ)) (f : W → ℕ) (old new : W) (result : Status) (text : List ℕ) →
    ((result ≡ status.Ok) × All (sink_view w f old) (sink_view w f new) text) ⊎ ((result ≡ status.Memory) × Prefix (sink_view w f old) (sink_view w f new) text) → Wrote w f old new result text
wrote-of w f old new result text s = elim s [ inl p ↦ inl (p.0, all-of w f old new text p.1) | inr p ↦ inr (p.0, some-of w f old new text p.1) ]

-- the same of what was written before memory ran out
pub ran-short : {W : Type 0} (w : W → Option (List ℕ)) (f : W → ℕ) (old new : W) (net : Network) →
    Keeps (w old) (w new) ⊎ ((begun : List ℕ) × StopsAt net begun × All (sink_view w f old) (sink_view w f new) begun) → OutOfMemory w f old new net
ran-short w f old new net s = elim s [ inl keeps ↦ inl keeps | inr p ↦ inr (p.0, p.1, all-of w f old new p.0 p.2) ]
