-- One part after another: what each owes makes what the whole owes.
use Rattle.std.proofs.Common.{◌≡◌, Result, Ok, Err, refl, sym, subst}
use Rattle.lucid_top_words.specs.declared.refusal.Refusal.{Refusal}
use Rattle.lucid_top_words.specs.declared.refusal.Refusal.TheVariants as refusal
use Rattle.lucid_top_words.specs.Outcome.{Alike, IsTheAnswer, Declines, Prepares, After, FollowedBy}

refused : {X Y : Type 0} (part : Result X Refusal → Type 0) (rest : X → Result Y Refusal → Type 0) (r : Refusal) →
    IsTheAnswer part (Err r) → IsTheAnswer (FollowedBy part rest) (Err r)
refused {X} {Y} part rest r answer = record { is = (Err r, answer.is, refl); only = λ p over. at p over.0 over.1 over.2 }
  where
    at : (p : Result Y Refusal) (end : Result X Refusal) → part end → After end rest p → Alike p (Err r)
    at p (Ok x) is after = absurd (answer.only (Ok x) is)
    at p (Err s) is after = subst (λ (q : Result Y Refusal). Alike q (Err r)) (sym after) (answer.only (Err s) is)

pub went_on : {X Y : Type 0} (part : Result X Refusal → Type 0) (rest : X → Result Y Refusal → Type 0) (x : X) (o : Result Y Refusal) →
    IsTheAnswer part (Ok x) → IsTheAnswer (rest x) o → IsTheAnswer (FollowedBy part rest) o
went_on {X} {Y} part rest x o first second = record { is = (Ok x, first.is, second.is); only = λ p over. at p over.0 over.1 over.2 }
  where
    at : (p : Result Y Refusal) (end : Result X Refusal) → part end → After end rest p → Alike p o
    at p (Ok y) is after = second.only p (subst (λ (z : X). rest z p) (first.only (Ok y) is) after)
    at p (Err s) is after = absurd (first.only (Err s) is)

pub Declines-first : {X Y : Type 0} (part : Result X Refusal → Type 0) (rest : X → Result Y Refusal → Type 0) (r : Refusal) →
    Declines part r → Declines (FollowedBy part rest) r
Declines-first part rest refusal.Memory declines = tt
Declines-first part rest refusal.WriteFault declines = absurd declines
Declines-first part rest (refusal.ReadFault word) declines = absurd declines
Declines-first part rest (refusal.TooLong word) declines = absurd declines
Declines-first part rest r declines = refused part rest r declines

Declines-second : {X Y : Type 0} (part : Result X Refusal → Type 0) (rest : X → Result Y Refusal → Type 0) (x : X) (r : Refusal) →
    IsTheAnswer part (Ok x) → Declines (rest x) r → Declines (FollowedBy part rest) r
Declines-second part rest x refusal.Memory first declines = tt
Declines-second part rest x refusal.WriteFault first declines = absurd declines
Declines-second part rest x (refusal.ReadFault word) first declines = absurd declines
Declines-second part rest x (refusal.TooLong word) first declines = absurd declines
Declines-second part rest x r first declines = went_on part rest x (Err r) first declines

-- the first part refused
pub Prepares-err : {Q X Y : Type 0} (part : Result X Refusal → Type 0) (rest : X → Result Y Refusal → Type 0) (view : Q → Y) (r : Refusal) (result : Result Q Refusal) →
    result ≡ Err r → Declines part r → Prepares (FollowedBy part rest) view result
Prepares-err {Q} part rest view r result is declines = subst (λ (e : Result Q Refusal). Prepares (FollowedBy part rest) view e) (sym is) (Declines-first part rest r declines)

-- the first part gave something, and the rest went on from it
pub Prepares-ok : {Q X Y : Type 0} (part : Result X Refusal → Type 0) (rest : X → Result Y Refusal → Type 0) (view : Q → Y) (x : X) (result : Result Q Refusal) →
    IsTheAnswer part (Ok x) → Prepares (rest x) view result → Prepares (FollowedBy part rest) view result
Prepares-ok part rest view x (Ok q) first second = went_on part rest x (Ok (view q)) first second
Prepares-ok part rest view x (Err r) first second = Declines-second part rest x r first second

-- a text that is determined is the answer
pub one-text : {X : Type 0} (text : X) → IsTheAnswer (λ (o : Result X Refusal). o ≡ Ok text) (Ok text)
one-text {X} text = record { is = refl; only = only }
  where
    only : (p : Result X Refusal) → p ≡ Ok text → Alike p (Ok text)
    only (Ok y) same = cc
    only (Err r) same = absurd (cc)
