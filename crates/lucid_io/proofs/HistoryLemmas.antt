-- The history of files, one read after another.
use Rattle.std.specs.Prelude.{◌&&◌, if◌then◌else◌, nat_lt}
use Rattle.std.specs.Str.{bytes_eq}
use Rattle.std.proofs.lemmas.Slice.Eq.{bytes_eq-Decides}
use Rattle.std.proofs.Common.{◌≡◌, ◌≢◌, ℕ, zero, suc, ◌+◌, ◌≤◌, ◌++◌, List, [], ◌∷◌, Bool, true, false, IsTrue, inl, inr, Option, Some, None, IfSome, Result, Ok, Err, IfErr, IsErrAnd, length, take, refl, sym, ap, subst, ◌∙◌, arith, append_assoc, length-append}
use Rattle.std.proofs.KnownBytes.{Consumes-trans}
use Rattle.std.specs.Io.KnownBytes.{Consumes}
use Rattle.lucid_io.specs.Contents.{Tells}
use Rattle.lucid_io.specs.declared.reading.Take.{Take}
use Rattle.lucid_io.specs.declared.reading.Take.TheVariants as take
use Rattle.lucid_io.specs.History.{AgreesWith, AgreesWithAll, GavePart, Heard, HeardPart, IsAmong, IsNewest, begun_now, gave, heard_more, is_none, NamedOnce, shown}

-- a read adds no name
pub among_gave : (name bytes : List ℕ) (ended : Bool) (all : List Heard) → IsAmong name (gave bytes ended all) → IsAmong name all
among_gave name bytes ended [] among = among
among_gave name bytes ended (h ∷ rest) among = among

-- nor does it change the newest name
pub newest_gave : (name bytes : List ℕ) (ended : Bool) (all : List Heard) → IsNewest name all → IsNewest name (gave bytes ended all)
newest_gave name bytes ended [] newest = newest
newest_gave name bytes ended (h ∷ rest) newest = newest

pub newest_of_gave : (name bytes : List ℕ) (ended : Bool) (all : List Heard) → IsNewest name (gave bytes ended all) → IsNewest name all
newest_of_gave name bytes ended [] newest = newest
newest_of_gave name bytes ended (h ∷ rest) newest = newest

-- two reads gave the bytes of both
pub gave-gave : (xs ys : List ℕ) (a b : Bool) (all : List Heard) → gave ys b (gave xs a all) ≡ gave (xs ++ ys) b all
gave-gave xs ys a b [] = refl
gave-gave xs ys a b (h ∷ rest) = ap (λ (bytes : List ℕ). record { name = h.name; bytes = bytes; ended = b } ∷ rest) (append_assoc h.bytes xs ys)

-- bytes that were taken are no more than there were
taken-fits : (old new : Option (List ℕ)) (xs : List ℕ) → Consumes old new xs → IfSome old (λ all. length xs ≤ length all)
taken-fits None new xs taken = tt
taken-fits (Some all) None xs taken = absurd taken
taken-fits (Some all) (Some left) xs taken = omega (arith, ap length taken, length-append xs left)

none_of : (n : ℕ) → n ≢ 0 → is_none n ≡ false
none_of zero some = absurd (some refl)
none_of (suc n) some = refl

-- some bytes
pub gave_so_far : (old new : List Heard) (left left' : Option (List ℕ)) (xs : List ℕ) (limit : ℕ) (why : Take) → new ≡ gave xs false old → Consumes left left' xs → (why ≡ take.TooLong → length xs ≡ limit + 1) →
    GavePart old new left limit why
gave_so_far old new left left' xs limit why entry taken past = record { text = xs; entry = entry; fits = taken-fits left left' xs taken; past = past }

-- some bytes, and then those of one read more
pub gave_part : (old mid new : List Heard) (left left' left'' : Option (List ℕ)) (xs room : List ℕ) (n limit : ℕ) (why : Take) → mid ≡ gave xs false old → new ≡ heard_more n room mid →
    Consumes left left' xs → Consumes left' left'' (take n room) → n ≢ 0 → ¬ (why ≡ take.TooLong) → GavePart old new left limit why
gave_part old mid new left left' left'' xs room n limit why before read taken more some not = record {
  text = xs ++ take n room;
  entry =
      read ∙ ap (heard_more n room) before ∙ gave-gave xs (take n room) _ _ old
      ∙ ap (λ (none : Bool). gave (xs ++ take n room) (none && nat_lt 0 (length room)) old) (none_of n some);
  fits = taken-fits left left'' (xs ++ take n room) (Consumes-trans left left' left'' xs (take n room) taken more);
  past = λ is. absurd (not is);
}

-- a file that is begun, and then gives some bytes
pub heard_part : (old mid new : List Heard) (name : List ℕ) (held left : Option (List ℕ)) (limit : ℕ) (why : Take) → mid ≡ begun_now name ∷ old → Tells held left → GavePart mid new left limit why →
    HeardPart old new name held limit why
heard_part old mid new name held left limit why begun specified part = record {
  text = part.text;
  ended = false;
  entry = part.entry ∙ ap (gave part.text false) begun;
  fits = at held specified;
  memory = λ ended. absurd (cc);
  past = part.past;
}
  where
    at : (h : Option (List ℕ)) → Tells h left → IfSome h (λ bytes. (length part.text ≤ length bytes) × (IsTrue false → part.text ≡ bytes))
    at None specified = tt
    at (Some bytes) specified = (subst (λ (o : Option (List ℕ)). IfSome o (λ all. length part.text ≤ length all)) specified part.fits, λ ended. absurd (cc))

-- a file that can't be begun
pub heard_nothing : (old new : List Heard) (name : List ℕ) (held : Option (List ℕ)) (limit : ℕ) (why : Take) → new ≡ begun_now name ∷ old → ¬ (why ≡ take.TooLong) → HeardPart old new name held limit why
heard_nothing old new name held limit why begun not = record { text = []; ended = false; entry = begun; fits = at held; memory = λ ended. absurd (cc); past = λ is. absurd (not is) }
  where
    at : (h : Option (List ℕ)) → IfSome h (λ bytes. (0 ≤ length bytes) × (IsTrue false → [] ≡ bytes))
    at None = tt
    at (Some bytes) = (omega arith, λ ended. absurd (cc))

-- what is so of each error of one kind, where there is no other
pub if_err_of : {T E : Type 0} {P Q : E → Type 0} (r : Result T E) → IsErrAnd r Q → ((e : E) → Q e → P e) → IfErr r P
if_err_of (Ok x) is step = tt
if_err_of (Err e) is step = step e is

pub if_err_weaker : {T E : Type 0} {P Q : E → Type 0} (r : Result T E) → ((e : E) → Q e → P e) → IfErr r Q → IfErr r P
if_err_weaker (Ok x) step is = tt
if_err_weaker (Err e) step is = step e is

-- ---- the contents that a history shows agree with it

none_shown : (heard : List Heard) (name : List ℕ) → ¬ IsAmong name heard → shown heard name ≡ None
none_shown [] name not = refl
none_shown (h ∷ rest) name not = at h.ended (bytes_eq h.name name) ((bytes_eq-Decides h.name name).0) (none_shown rest name (λ among. not (inl among)))
  where
    at : (ended same : Bool) → (same ≡ true → h.name ≡ name) → shown rest name ≡ None → (if ended && same then Some h.bytes else shown rest name) ≡ None
    at true true decides none = absurd (not (inr (sym (decides refl))))
    at true false decides none = none
    at false same decides none = none

-- the newest entry
shown_first : (h : Heard) (rest : List Heard) → ¬ IsAmong h.name rest → AgreesWith (shown (h ∷ rest)) h
shown_first h rest not = at h.ended refl (bytes_eq h.name h.name) ((bytes_eq-Decides h.name h.name).1)
  where
    at : (ended : Bool) → h.ended ≡ ended → (same : Bool) → (h.name ≡ h.name → same ≡ true) →
        IfSome (if ended && same then Some h.bytes else shown rest h.name) (λ bytes. (length h.bytes ≤ length bytes) × (IsTrue h.ended → h.bytes ≡ bytes))
    at true is true decides = (omega arith, λ ended. refl)
    at true is false decides = let no : false ≡ true = decides refl in absurd (cc)
    at false is same decides = subst (λ (o : Option (List ℕ)). IfSome o (λ bytes. (length h.bytes ≤ length bytes) × (IsTrue h.ended → h.bytes ≡ bytes))) (sym (none_shown rest h.name not)) tt

-- an older one, of another name
shown_later : (h : Heard) (rest : List Heard) (all : List Heard) → ¬ IsAmong h.name all → AgreesWithAll (shown rest) all → AgreesWithAll (shown (h ∷ rest)) all
shown_later h rest [] not agrees = tt
shown_later h rest (g ∷ all) not agrees = (at h.ended (bytes_eq h.name g.name) ((bytes_eq-Decides h.name g.name).0), shown_later h rest all (λ among. not (inl among)) agrees.1)
  where
    at : (ended same : Bool) → (same ≡ true → h.name ≡ g.name) →
        IfSome (if ended && same then Some h.bytes else shown rest g.name) (λ bytes. (length g.bytes ≤ length bytes) × (IsTrue g.ended → g.bytes ≡ bytes))
    at true true decides = absurd (not (inr (decides refl)))
    at true false decides = agrees.0
    at false same decides = agrees.0

pub shown_agrees : (heard : List Heard) → NamedOnce heard → AgreesWithAll (shown heard) heard
shown_agrees [] once = tt
shown_agrees (h ∷ rest) once = (shown_first h rest once.0, shown_later h rest rest once.0 (shown_agrees rest once.1))
