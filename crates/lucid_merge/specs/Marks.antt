-- Marks of literals by their slots, so that most literals that a pattern doesn't have need no comparison.
use Rattle.std.specs.Prelude.{◌≡◌, ℕ, ◌+◌, ◌*◌, ◌%◌, List, Bool, true, not, nat_eq, slice_index_or, bit_xor}
use Rattle.std.specs.List.{list_all}
use Rattle.lucid_code.specs.declared.op.Literal.{Literal}

-- The index of a literal's mark and bits.
abbrev pub slot : Literal → ℕ
slot l = bit_xor l.value (l.field * 521) % 4096 + 1

-- All is marked past the end.
abbrev pub is_marked : List ℕ → ℕ → Bool
is_marked marks i = not (nat_eq (slice_index_or marks i 1) 0)

-- While a pattern is put together: each of its literals has its mark.
abbrev pub AreSeen : List ℕ → List Literal → Type 0
AreSeen seen pattern = list_all (λ l. is_marked seen (slot l)) pattern ≡ true
