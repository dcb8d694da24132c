-- The result of `Dead`: the writers of fields that no operation reads are removed, until there are none.
use Rattle.std.specs.Prelude.{◌≡◌, ℕ, zero, suc, IsTrue, false, List, [], ◌∷◌, ◌++◌, Bool, true, if◌then◌else◌, nat_eq}
use Rattle.std.specs.List.{list_all, list_any}
use Rattle.std.specs.Option.{option_map_or}
use Rattle.lucid_code.specs.declared.op.Op.{Op}
use Rattle.lucid_code.specs.Parts.{CodeParts}
use Rattle.lucid_code.specs.Uses.{only_writes, read_by}

abbrev pub reads : Op → ℕ → Bool
reads o k = list_any (λ j. nat_eq j k) (read_by o)

abbrev pub is_read : List Op → ℕ → Bool
is_read ops k = list_any (λ o. reads o k) ops

-- It does more than write a field, or one of these operations reads the field.
abbrev pub is_needed : List Op → Op → Bool
is_needed ops o = option_map_or (is_read ops) (only_writes o.act) true

abbrev pub kept_if : Bool → Op → List Op → List Op
kept_if b o ops = if b then o ∷ ops else ops

-- From the back, where each operation is kept that later ones need: in valid code only later operations read a written field.
abbrev pub live : List Op → List Op
live [] = []
live (o ∷ ops) = kept_if (is_needed (live ops) o) o (live ops)

abbrev pub alive : CodeParts → CodeParts
alive code = record code { ops = live code.ops }

-- Each of these operations is needed.
abbrev pub NoneDead : List Op → Type 0
NoneDead ops = IsTrue (list_all (is_needed ops) ops)

-- This many are removed, one after another, each of which isn't needed in the list at that point.
abbrev pub Strips : ℕ → List Op → List Op → Type 0
Strips zero xs ys = xs ≡ ys
Strips (suc n) xs ys = (front : List Op) × (o : Op) × (back : List Op) × (xs ≡ front ++ o ∷ back) × (is_needed xs o ≡ false) × Strips n (front ++ back) ys

-- The remaining operations of valid code: none can be removed, they remain after removing single operations, and every order of removal
-- leaves the same.
pub record IsLeft (ops left : List Op) : Type 0 where
  pub none : NoneDead left
  pub strips : (n : ℕ) × Strips n ops left
  pub unique : (n : ℕ) (other : List Op) → Strips n ops other → NoneDead other → other ≡ left
