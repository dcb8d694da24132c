-- The rows of the rest of a table that act.
use Rattle.std.proofs.Common.{◌≡◌, ℕ, ◌+◌, ◌<◌, List, true, false, if◌then◌else◌, drop, length, slice_index_or, sym, ap, ◌∙◌}
use Rattle.std.proofs.lemmas.List.{at_drop_more}
use Rattle.lucid_code.specs.Guards.{Fields, all_hold}
use Rattle.lucid_tables.specs.declared.table.Row.{Row}
use Rattle.lucid_tables.specs.Rows.{acts}

module _ (fields : Fields) (rows : List Row) (i : ℕ) where
  turn : (r : Row) → i < length rows → r ≡ slice_index_or rows i r → acts fields (drop i rows) ≡ (if all_hold fields r.pattern then r.ops else acts fields (drop (i + 1) rows))
  turn r l e = at_drop_more (acts fields) rows i r l ∙ ap (λ (s : Row). if all_hold fields s.pattern then s.ops else acts fields (drop (i + 1) rows)) (sym e)

  -- The row at i acts, or is passed over.
  pub acts_here : (r : Row) → i < length rows → r ≡ slice_index_or rows i r → all_hold fields r.pattern ≡ true → acts fields (drop i rows) ≡ r.ops
  acts_here r l e h = turn r l e ∙ ap (λ b. if b then r.ops else acts fields (drop (i + 1) rows)) h

  pub acts_next : (r : Row) → i < length rows → r ≡ slice_index_or rows i r → all_hold fields r.pattern ≡ false → acts fields (drop (i + 1) rows) ≡ acts fields (drop i rows)
  acts_next r l e h = sym (turn r l e ∙ ap (λ b. if b then r.ops else acts fields (drop (i + 1) rows)) h)
