-- The lines of a reading that succeeds.
use Rattle.std.proofs.Common.{◌≡◌, ℕ, List, [], ◌∷◌, ◌++◌, length, Bool, true, false, ◌&&◌, nat_le, if◌then◌else◌, Option, None, Some, Ok, Err, refl, subst}
use Rattle.std.proofs.lemmas.Bool.{and_parts, leb-true}
use Rattle.serde_json.specs.Data.{Data, Items, no_items, item}
use Rattle.serde_json.specs.Find.{get}
use Rattle.lucid_conf.specs.declared.key.Key.{Key}
use Rattle.lucid_conf.specs.Keys.{name_of}
use Rattle.lucid_conf.specs.Reading.{◌>>=◌, Reading, IsBetween, check, each, items, list, number, number_in, number_or, or_bad, or_bad_at, within}
use Rattle.lucid_conf.proofs.ItemsLemmas.{found, same_some}

pub same_ok : {A : Type 0} (x y : A) → ◌≡◌ {A = Reading A} (Ok x) (Ok y) → x ≡ y
same_ok x y h = cc

pub bound : {A B : Type 0} (r : Reading A) (f : A → Reading B) (y : B) → (r >>= f) ≡ Ok y → (x : A) × (r ≡ Ok x) × (f x ≡ Ok y)
bound (Ok x) f y h = (x, refl, h)
bound (Err e) f y h = absurd (cc)

pub checked : (k : Key) (b : Bool) (u : Unit {0}) → check k b ≡ Ok u → b ≡ true
checked k true u h = refl
checked k false u h = absurd (cc)

not_bad : {A : Type 0} (k : Key) (o : Option A) (x : A) → or_bad k o ≡ Ok x → o ≡ Some x
not_bad k (Some y) x h = cc
not_bad k None x h = absurd (cc)

not_bad_at : {A : Type 0} (k : Key) (place : ℕ) (o : Option A) (x : A) → or_bad_at k place o ≡ Ok x → o ≡ Some x
not_bad_at k place (Some y) x h = cc
not_bad_at k place None x h = absurd (cc)

chosen : (b : Bool) (m n : ℕ) → (if b then Some m else None) ≡ Some n → (b ≡ true) × (m ≡ n)
chosen true m n h = (refl, same_some m n h)
chosen false m n h = absurd (cc)

within_is : (least most m n : ℕ) → within least most m ≡ Some n → IsBetween least most n
within_is least most m n h =
    let both = chosen (nat_le least m && nat_le m most) m n h in
    let parts = and_parts (nat_le least m) (nat_le m most) both.0 in
    subst (IsBetween least most) both.1 (leb-true least m parts.0, leb-true m most parts.1)

between : (k : Key) (least most default n : ℕ) (o : Option Data) → IsBetween least most default → number_or k least most default o ≡ Ok n →
    IsBetween least most n
between k least most default n None is h = subst (IsBetween least most) (same_ok default n h) is
between k least most default n (Some d) is h =
    let read = found (number_in d) (within least most) n (not_bad k _ n h) in
    within_is least most read.0 n read.2

pub number_between : (d : Data) (k : Key) (least most default n : ℕ) → IsBetween least most default → number d k least most default ≡ Ok n →
    IsBetween least most n
number_between d k least most default n is h = between k least most default n (get (name_of k) d) is h

-- A fact of the items so far that each item keeps is one of all items.
each_keeps : {A : Type 0} (Holds : List A → Type 0) (k : Key) (one : List A → Data → Option A) →
    ((before : List A) (d : Data) (x : A) → Holds before → one before d ≡ Some x → Holds (before ++ x ∷ [])) →
    (ds : Items) (before all : List A) → Holds before → each k one before ds ≡ Ok all → Holds all
each_keeps Holds k one keeps no_items before all is h = subst Holds (same_ok before all h) is
each_keeps Holds k one keeps (item d ds) before all is h =
    let read = bound (or_bad_at k (length before) (one before d)) _ all h in
    each_keeps Holds k one keeps ds (before ++ read.0 ∷ []) all (keeps before d read.0 is (not_bad_at k (length before) (one before d) read.0 read.1)) read.2

pub list_keeps : {A : Type 0} (Holds : List A → Type 0) (d : Data) (k : Key) (one : List A → Data → Option A) (all : List A) →
    ((before : List A) (d : Data) (x : A) → Holds before → one before d ≡ Some x → Holds (before ++ x ∷ [])) →
    Holds [] → list d k one ≡ Ok all → Holds all
list_keeps Holds d k one all keeps none h =
    let read = bound (items d k) _ all h in
    each_keeps Holds k one keeps read.0 [] all none read.2
