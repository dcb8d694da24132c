use Rattle.std.proofs.Common.{◌≡◌, ℕ, ◌*◌, ◌-◌, ◌/◌, ◌%◌, ◌^◌, ◌<◌, length, get_or}
use Rattle.lucid_log.specs.Pieces.{hex_digit}
use Rattle.lucid_log.proofs.pieces.hex_digits.Given as goal

-- The digits so far, from the highest on.
abbrev pub invariant-loop-i : goal.invariant-loop-i
invariant-loop-i l = record {
  long : length l.digits ≡ 16;
  so_far : (k : ℕ) → k < l.i → get_or l.digits k 0 ≡ hex_digit (l.n / 2 ^ (60 - 4 * k) % 16);
}
