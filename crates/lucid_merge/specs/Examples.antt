-- Products that are worked by hand.
use Rattle.std.specs.Prelude.{◌≡◌, ℕ, List, [], ◌∷◌, Some, None}
use Rattle.lucid_code.specs.Examples.{is, isnt}
use Rattle.lucid_tables.specs.declared.table.Row.{Row}
use Rattle.lucid_tables.specs.Examples.{row}
use Rattle.lucid_tables.specs.Rows.{rows_of}
use Rattle.lucid_merge.specs.Product.{union, product, within}

-- Operation 0 where field 0 is 1 and field 5 isn't 0, operation 1 where field 0 is 2.
abbrev pub first : List Row
first = rows_of (is 0 1 ∷ isnt 5 0 ∷ []) 0

abbrev pub second : List Row
second = rows_of (is 0 2 ∷ []) 1

abbrev pub of_both : List Row
of_both = row (is 5 0 ∷ is 0 2 ∷ []) (1 ∷ []) ∷ row (is 5 0 ∷ []) [] ∷ row (is 0 1 ∷ []) (0 ∷ []) ∷ row (is 0 2 ∷ []) (1 ∷ []) ∷ []

-- A row for each of two fields, and one for both.
abbrev pub a_row : ℕ → Row
a_row op = row (is 0 1 ∷ []) (op ∷ [])

abbrev pub b_row : ℕ → Row
b_row op = row (is 5 2 ∷ []) (op ∷ [])

abbrev pub both_row : ℕ → Row
both_row op = row (is 5 2 ∷ is 0 1 ∷ []) (op ∷ [])

pub record ProductExamples : Type 0 where
  pub both : product first second ≡ of_both
  pub four_rows : within 4 (product first second) ≡ Some (record { keys = 0 ∷ 5 ∷ []; rows = of_both })
  pub three_rows : within 3 (product first second) ≡ None
  -- no table, or a table without rows
  pub none : product [] [] ≡ []
  pub none_before : product [] second ≡ second
  pub none_behind : product second [] ≡ second
  -- the defaults: each row of a table alone comes after its pairs
  pub one_key : product (a_row 0 ∷ []) (a_row 1 ∷ []) ≡ row (is 0 1 ∷ []) (0 ∷ 1 ∷ []) ∷ []
  pub two_keys : product (a_row 0 ∷ []) (b_row 1 ∷ []) ≡ row (is 0 1 ∷ is 5 2 ∷ []) (0 ∷ 1 ∷ []) ∷ a_row 0 ∷ b_row 1 ∷ []
  -- two values for one field
  pub two_values : product (a_row 0 ∷ []) (row (is 0 2 ∷ []) (1 ∷ []) ∷ []) ≡ a_row 0 ∷ row (is 0 2 ∷ []) (1 ∷ []) ∷ []
  -- and where one row alone asks for them
  pub two_values_behind : product [] (row (is 0 1 ∷ is 0 2 ∷ []) (0 ∷ []) ∷ []) ≡ []
  pub two_values_before : product (row (is 0 1 ∷ is 0 2 ∷ []) (0 ∷ []) ∷ []) [] ≡ []
  -- a row behind one that asks for less never decides
  pub asks_nothing : product (row [] (0 ∷ []) ∷ []) (a_row 1 ∷ []) ≡ row (is 0 1 ∷ []) (0 ∷ 1 ∷ []) ∷ row [] (0 ∷ []) ∷ []
  pub includes_earlier : product [] (a_row 0 ∷ both_row 1 ∷ []) ≡ a_row 0 ∷ []
  pub includes_later : product [] (both_row 1 ∷ a_row 0 ∷ []) ≡ both_row 1 ∷ a_row 0 ∷ []
  -- equal rows, and a literal that occurs twice
  pub equal_rows : product [] (a_row 0 ∷ a_row 1 ∷ []) ≡ a_row 0 ∷ []
  pub one_literal : union (is 0 1 ∷ is 5 2 ∷ is 0 1 ∷ []) (is 5 2 ∷ is 3 0 ∷ []) ≡ is 0 1 ∷ is 5 2 ∷ is 3 0 ∷ []
  -- an operation that never acts leaves no row that names it
  pub never : product [] (rows_of (is 0 1 ∷ isnt 0 1 ∷ []) 0) ≡ row (is 0 1 ∷ []) [] ∷ []
