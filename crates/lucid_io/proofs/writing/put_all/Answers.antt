use Rattle.std.proofs.Common.{◌≡◌, ℕ, ◌+◌, ◌-◌, List, Option, length, take, drop, rules, arith, sym, subst, length-drop}
use Rattle.std.proofs.lemmas.List.{take_all}
use Rattle.std.proofs.Math.Seq.{take-add}
use Rattle.std.proofs.KnownBytes.{Appends-trans}
use Rattle.std.specs.Io.KnownBytes.{Appends}
use Rattle.lucid_io.proofs.writing.put_all.Goals as goal

-- the first i bytes of the piece, and then n more of the rest, as `&piece[i..]` gives it
Appends-take : (a b c : Option (List ℕ)) (piece : List ℕ) (i n : ℕ) → Appends a b (take i piece) → Appends b c (take n (take (length piece - i) (drop i piece))) → Appends a c (take (i + n) piece)
Appends-take a b c piece i n before more =
    let rest : take (length piece - i) (drop i piece) ≡ drop i piece = take_all _ _ (omega (arith, length-drop i piece)) in
    subst (Appends a c) (sym (take-add i n piece)) (Appends-trans a b c (take i piece) (take n (drop i piece)) before (subst (λ (l : List ℕ). Appends b c (take n l)) rest more))

pub put-preserved : goal.put-preserved
put-preserved g c = record {
  within = search rules;
  so_far = Appends-take _ _ _ c.args.piece.now c.put.at c.in-Ok.count c.put.invariant.so_far c.in-Ok.ensures.bytes;
  quiet = search rules;
}
