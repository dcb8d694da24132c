-- Fields are written before they are read, for each two operations at their positions in the list: the meaning of the two tests, and
-- facts for them.
use Rattle.std.proofs.Common.{◌≡◌, ℕ, List, true, Some}
use Rattle.std.specs.List.{enumerate_from}
use Rattle.lucid_code.specs.declared.op.Op.{Op}
use Rattle.lucid_code.specs.Nodes.{nodes_follow_writes}
use Rattle.lucid_code.specs.Uses.{read_by, written_by}
use Rattle.lucid_code.specs.Valid.{reads_follow_writes}
use Rattle.lucid_code.proofs.Facts.{Before, read_before, reads_from_pairs, nodes_apart, nodes_from_pairs}
use Rattle.lucid_code.proofs.Members.{In}

-- The writer of a field precedes its readers.
abbrev pub Everywhere : List Op → Type 0
Everywhere ops = (r w : ℕ × Op) → In r (enumerate_from 0 ops) → In w (enumerate_from 0 ops) → (k : ℕ) → In k (read_by r.1) → written_by w.1.act ≡ Some k → Before w r

pub everywhere : (ops : List Op) → reads_follow_writes ops ≡ true → nodes_follow_writes ops ≡ true → Everywhere ops
everywhere ops reads nodes r w i j k h e =
    let goes = read_before (enumerate_from 0 ops) reads r w i j k h e in
    record { place = goes.0; key = goes.1; apart = nodes_apart (enumerate_from 0 ops) nodes r w i j k h e }

pub reads_follow : (ops : List Op) → Everywhere ops → reads_follow_writes ops ≡ true
reads_follow ops f = reads_from_pairs (enumerate_from 0 ops) (λ r w i j k h e. let b = f r w i j k h e in (b.place, b.key))

pub nodes_follow : (ops : List Op) → Everywhere ops → nodes_follow_writes ops ≡ true
nodes_follow ops f = nodes_from_pairs (enumerate_from 0 ops) f
