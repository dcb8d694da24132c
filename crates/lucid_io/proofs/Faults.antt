-- The counts of faults: how often a name is among those of the calls that failed.
use Rattle.std.proofs.Common.{◌≡◌, ℕ, suc, ◌≤◌, Bool, true, false, List, [], ◌∷◌, if◌then◌else◌, refl, sym, ap, subst, arith}
use Rattle.std.proofs.lemmas.Bool.Decides.{nat_tests}
use Rattle.std.proofs.lemmas.Slice.Eq.{bytes_eq-Decides}
use Rattle.std.specs.Str.{bytes_eq}
use Rattle.lucid_io.specs.Counts.{Rose, NoneFell, SameCounts, AllRose, OthersKept}
use Rattle.lucid_io.specs.History.{Heard, IsNewest, faulted_now, times}

-- the count of each name
abbrev pub counts : List (List ℕ) → List ℕ → ℕ
counts faulted name = times name faulted

pub rose-suc : (n : ℕ) → Rose n (suc n)
rose-suc n = grind (arith, nat_tests)

times-later : (name n : List ℕ) (faulted : List (List ℕ)) → times name faulted ≤ times name (n ∷ faulted)
times-later name n faulted = at (bytes_eq n name)
  where
    at : (same : Bool) → times name faulted ≤ (if same then suc (times name faulted) else times name faulted)
    at true = omega arith
    at false = omega arith

times-same : (name n : List ℕ) (faulted : List (List ℕ)) → name ≡ n → Rose (times name faulted) (times name (n ∷ faulted))
times-same name n faulted is = at (bytes_eq n name) ((bytes_eq-Decides n name).1)
  where
    at : (same : Bool) → (n ≡ name → same ≡ true) → Rose (times name faulted) (if same then suc (times name faulted) else times name faulted)
    at true decides = rose-suc (times name faulted)
    at false decides = let no : false ≡ true = decides (sym is) in absurd (cc)

times-other : (name n : List ℕ) (faulted : List (List ℕ)) → ¬ (name ≡ n) → times name (n ∷ faulted) ≡ times name faulted
times-other name n faulted not = at (bytes_eq n name) ((bytes_eq-Decides n name).0)
  where
    at : (same : Bool) → (same ≡ true → n ≡ name) → (if same then suc (times name faulted) else times name faulted) ≡ times name faulted
    at true decides = absurd (not (sym (decides refl)))
    at false decides = refl

-- ---- no call failed

module _ (old new : List (List ℕ)) (is : new ≡ old) where
  pub none_same : SameCounts (counts old) (counts new)
  none_same name = ap (times name) is

  pub none_later : NoneFell (counts old) (counts new)
  none_later name = let same : times name new ≡ times name old = none_same name in omega (arith, same)

  pub none_others : (P : List ℕ → Type 0) → OthersKept P (counts old) (counts new)
  none_others P name not = none_same name

-- ---- a call on a file of this name failed

module _ (n : List ℕ) (old new : List (List ℕ)) (is : new ≡ n ∷ old) where
  pub one_later : NoneFell (counts old) (counts new)
  one_later name = subst (λ (l : List (List ℕ)). times name old ≤ times name l) (sym is) (times-later name n old)

  pub one_rose : Rose (times n old) (times n new)
  one_rose = subst (λ (l : List (List ℕ)). Rose (times n old) (times n l)) (sym is) (times-same n n old refl)

  pub one_others : OthersKept (λ name. name ≡ n) (counts old) (counts new)
  one_others name not = subst (λ (l : List (List ℕ)). times name l ≡ times name old) (sym is) (times-other name n old not)

-- ---- a call on the file that was begun last failed

pub now_later : (heard : List Heard) (old new : List (List ℕ)) → new ≡ faulted_now heard old → NoneFell (counts old) (counts new)
now_later [] old new is = none_later old new is
now_later (h ∷ rest) old new is = one_later h.name old new is

pub now_rose : (heard : List Heard) (old new : List (List ℕ)) → new ≡ faulted_now heard old → AllRose (λ name. IsNewest name heard) (counts old) (counts new)
now_rose [] old new is name newest = absurd newest
now_rose (h ∷ rest) old new is name newest = subst (λ (l : List (List ℕ)). Rose (times name old) (times name l)) (sym is) (times-same name h.name old newest)

pub now_others : (heard : List Heard) (old new : List (List ℕ)) → new ≡ faulted_now heard old → OthersKept (λ name. IsNewest name heard) (counts old) (counts new)
now_others [] old new is name not = none_same old new is name
now_others (h ∷ rest) old new is name not = one_others h.name old new is name not
