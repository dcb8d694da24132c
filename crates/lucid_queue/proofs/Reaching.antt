-- One more switch, with an empty queue, changes nothing of the queue.
use Rattle.std.proofs.Common.{◌≡◌, ℕ, suc, List, [], ◌∷◌, ◌++◌, map, refl, ap}
use Rattle.lucid_queue.specs.Kept.{Entries, all_from, pending_at}
use Rattle.lucid_queue.specs.declared.pending.Pending.{Pending}

pub one_further : (k : ℕ) (all : List Entries) → all_from k (all ++ [] ∷ []) ≡ all_from k all
one_further k [] = refl
one_further k (es ∷ all) = ap (λ (l : List Pending). map (pending_at k) es ++ l) (one_further (suc k) all)
