-- One more value in a short list.
use Rattle.std.proofs.Common.{ℕ, ◌+◌, ◌-◌, ◌<◌, List, drop, set, replicate, ◌∙◌, sym, ap, arith}
use Rattle.std.proofs.lemmas.List.{length-set, drop-set-lt, drop-drop, drop-replicate}
use Rattle.lucid_base.specs.Small.{IsSmall}

-- a value written past the cells in use leaves the filler after it
pub IsSmall-push : {A : Type 0} (room : ℕ) (filler : A) (len : ℕ) (cells : List A) (v : A) →
    IsSmall room filler len cells → len < room → IsSmall room filler (len + 1) (set cells len v)
IsSmall-push room filler len cells v small room_left = record {
  within = omega arith;
  room_is = length-set cells len v ∙ small.room_is;
  rest =
      drop-set-lt (len + 1) cells len v (omega arith) ∙ sym (drop-drop 1 len cells) ∙ ap (drop 1) small.rest
      ∙ drop-replicate 1 (room - len) filler ∙ ap (λ n. replicate n filler) (omega arith);
}
