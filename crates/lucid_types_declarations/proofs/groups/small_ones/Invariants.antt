-- The numbers so far are small, and what is left decides.
use Rattle.std.proofs.Common.{◌≡◌, take, drop, nat_lt}
use Rattle.std.specs.List.{list_all}
use Rattle.lucid_types_declarations.proofs.groups.small_ones.Given as goal

abbrev pub invariant-loop-member : goal.invariant-loop-member
invariant-loop-member l = record {
  so_far : l.small ≡ take l.member-index l.members;
  left : list_all (λ m. nat_lt m 64) (drop l.member-index l.members) ≡ list_all (λ m. nat_lt m 64) l.members;
}
