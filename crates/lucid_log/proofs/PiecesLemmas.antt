-- The next of the pieces, the last of them, none and all.
use Rattle.std.proofs.Common.{◌≡◌, ℕ, zero, suc, ◌+◌, ◌-◌, ◌<◌, ◌≤◌, List, [], ◌++◌, sym, ◌∙◌, ap, append_assoc, append-nil, arith}
use Rattle.lucid_log.specs.Pieces.{pieces}

pub pieces-push : (piece : ℕ → List ℕ) (from n at : ℕ) → from + n ≡ at → pieces piece from (suc n) ≡ pieces piece from n ++ piece at
pieces-push piece from zero at is = append-nil (piece from) ∙ ap piece (omega (arith, is))
pieces-push piece from (suc n) at is =
    ap (λ (l : List ℕ). piece from ++ l) (pieces-push piece (from + 1) n at (omega (arith, is)))
    ∙ sym (append_assoc (piece from) (pieces piece (from + 1) n) (piece at))

pub pieces-next : (piece : ℕ → List ℕ) (i n : ℕ) → i < n → pieces piece i (n - i) ≡ piece i ++ pieces piece (i + 1) (n - (i + 1))
pieces-next piece i n lt = ap (pieces piece i) more
  where
    more : n - i ≡ suc (n - (i + 1))
    more = omega (arith, lt)

pub pieces-none : (piece : ℕ → List ℕ) (i n : ℕ) → n ≤ i → pieces piece i (n - i) ≡ []
pieces-none piece i n le = ap (pieces piece i) none
  where
    none : n - i ≡ zero
    none = omega (arith, le)

pub pieces-all : (piece : ℕ → List ℕ) (n : ℕ) → pieces piece 0 n ≡ pieces piece 0 (n - 0)
pieces-all piece n = ap (pieces piece 0) all
  where
    all : n ≡ n - 0
    all = omega arith
