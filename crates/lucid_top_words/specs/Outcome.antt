-- The outcome of a call, and when an outcome is the answer.
use Rattle.std.specs.Prelude.{◌≡◌, Result, Ok, Err}
use Rattle.lucid_top_words.specs.declared.refusal.Refusal.{Refusal}
use Rattle.lucid_top_words.specs.declared.refusal.Refusal.TheVariants as refusal
use Rattle.lucid_top_words.specs.declared.status.Status.{Status}
use Rattle.lucid_top_words.specs.declared.status.Status.TheVariants as status
use Rattle.lucid_top_words.specs.Refusal.{status_of}
use Rattle.lucid_top_words.specs.Words.{Bytes}

-- the text that is written, or the reason why there is none
abbrev pub Outcome : Type 0
Outcome = Result Bytes Refusal

abbrev pub outcome_status : Outcome → Status
outcome_status (Ok text) = status.Ok
outcome_status (Err r) = status_of r

-- how a call ended
abbrev pub End : Type 0
End = Result (Unit {0}) Refusal

abbrev pub end_status : End → Status
end_status (Ok u) = status.Ok
end_status (Err r) = status_of r

-- Either refusal may be given for the other. They are the same, except that a declaration which isn't in order may have several cycles,
-- of which any may be reported.
abbrev pub SameRefusal : Refusal → Refusal → Type 0
SameRefusal (refusal.NoOrder decl line cycle) (refusal.NoOrder decl' line' cycle') = (decl ≡ decl') × (line ≡ line')
SameRefusal r s = r ≡ s

-- either outcome may be given for the other
abbrev pub Alike : {X : Type 0} → Result X Refusal → Result X Refusal → Type 0
Alike (Ok x) (Ok y) = x ≡ y
Alike (Err r) (Err s) = SameRefusal r s
Alike p q = ⊥

-- the outcome is an answer, and all answers are alike
pub record IsTheAnswer {X : Type 0} (answers : Result X Refusal → Type 0) (o : Result X Refusal) : Type 0 where
  pub is : answers o
  pub only : (p : Result X Refusal) → answers p → Alike p o

-- The obligation of a part of the work that refuses: the refusal is the answer. Memory is free, and the part meets no file and writes
-- nothing.
abbrev pub Declines : {X : Type 0} → (Result X Refusal → Type 0) → Refusal → Type 0
Declines answers refusal.Memory = Unit {0}
Declines answers refusal.WriteFault = ⊥
Declines answers (refusal.ReadFault word) = ⊥
Declines answers (refusal.TooLong word) = ⊥
Declines answers r = IsTheAnswer answers (Err r)

-- the obligation of a part of the work that returns a value or refuses: the value, as `view` sees it, is the answer
abbrev pub Prepares : {P X : Type 0} → (Result X Refusal → Type 0) → (P → X) → Result P Refusal → Type 0
Prepares answers view (Ok p) = IsTheAnswer answers (Ok (view p))
Prepares answers view (Err r) = Declines answers r

-- the outcome after a part
abbrev pub After : {X Y : Type 0} → Result X Refusal → (X → Result Y Refusal → Type 0) → Result Y Refusal → Type 0
After (Ok x) rest o = rest x o
After (Err r) rest o = o ≡ Err r

-- one part, and then another over its result; if it refuses, that is the outcome
abbrev pub FollowedBy : {X Y : Type 0} → (Result X Refusal → Type 0) → (X → Result Y Refusal → Type 0) → Result Y Refusal → Type 0
FollowedBy {X} part rest o = (end : Result X Refusal) × part end × After end rest o
