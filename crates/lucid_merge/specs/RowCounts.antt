-- The inputs on which the number of rows of a product depends, so that a table's refusal can be remembered.
use Rattle.std.specs.Prelude.{◌≡◌, List, [], ◌∷◌, Bool, true, false, map, length}
use Rattle.lucid_code.specs.declared.op.Literal.{Literal}
use Rattle.lucid_code.specs.Guards.{opposed, contradict}
use Rattle.lucid_tables.specs.declared.table.Row.{Row}
use Rattle.lucid_tables.specs.Numbers.{is_in}
use Rattle.lucid_tables.specs.Rows.{named_fields}
use Rattle.lucid_merge.specs.Product.{is_same, has, product}

abbrev pub patterns_of : List Row → List (List Literal)
patterns_of rows = map (λ (r : Row). r.pattern) rows

-- Of the fields that these rows name, the two patterns have the same literals.
abbrev pub SameFor : List Row → List Literal → List Literal → Type 0
SameFor rows p q = (l : Literal) → is_in l.field (named_fields rows) ≡ true → has p l ≡ has q l

-- The pattern has a literal of a field that these rows don't name.
abbrev pub IsNew : List Row → List Literal → Type 0
IsNew rows p = (l : Literal) × (has p l ≡ true) × (is_in l.field (named_fields rows) ≡ false)

-- The row could match: its pattern doesn't ask for two values of one field.
abbrev pub CanMatch : Row → Type 0
CanMatch r = contradict r.pattern r.pattern ≡ false

-- To read literals as others keeps which of them are the same and which are opposed.
abbrev pub KeepsApart : (Literal → Literal → Bool) → Type 0
KeepsApart reads =
    (l k m n : Literal) → reads l k ≡ true → reads m n ≡ true → (is_same l m ≡ is_same k n) × (opposed l m ≡ opposed k n)

-- The one pattern is read as the other, literal by literal.
abbrev pub Reads : (Literal → Literal → Bool) → List Literal → List Literal → Type 0
Reads reads [] [] = Unit {0}
Reads reads [] (k ∷ q) = ⊥
Reads reads (l ∷ p) [] = ⊥
Reads reads (l ∷ p) (k ∷ q) = (reads l k ≡ true) × Reads reads p q

abbrev pub AllReads : (Literal → Literal → Bool) → List (List Literal) → List (List Literal) → Type 0
AllReads reads [] [] = Unit {0}
AllReads reads [] (q ∷ qs) = ⊥
AllReads reads (p ∷ ps) [] = ⊥
AllReads reads (p ∷ ps) (q ∷ qs) = Reads reads p q × AllReads reads ps qs

pub record RowsAreCounted : Type 0 where
  -- the patterns of a product turn on the patterns of its tables alone
  pub patterns : (a b c d : List Row) → patterns_of a ≡ patterns_of c → patterns_of b ≡ patterns_of d
      → patterns_of (product a b) ≡ patterns_of (product c d)
  -- and with a row that names a field that is new to the table, their number on the row's literals of the table's fields
  pub new_field : (a : List Row) (r s : Row) → CanMatch r → CanMatch s → SameFor a r.pattern s.pattern → IsNew a r.pattern → IsNew a s.pattern
      → length (product a (r ∷ [])) ≡ length (product a (s ∷ []))
  -- and it stays the same where all literals are read as others of which the same are the same and the same are opposed
  pub read_otherwise : (reads : Literal → Literal → Bool) → KeepsApart reads → (a b c d : List Row)
      → AllReads reads (patterns_of a) (patterns_of c) → AllReads reads (patterns_of b) (patterns_of d)
      → length (product a b) ≡ length (product c d)
