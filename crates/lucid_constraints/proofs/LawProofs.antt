-- The laws, for the functions that state them and for crates above.
use Rattle.std.proofs.Common.{◌≡◌, ℕ, max, List, [], arith, inl, inr}
use Rattle.lucid_base.specs.declared.array.ArrayName.{ArrayName}
use Rattle.lucid_base.specs.declared.array.ArrayName.TheVariants.{Global}
use Rattle.lucid_constraints.specs.declared.pair.Atom.{Atom}
use Rattle.lucid_constraints.specs.Laws.{AllowedNumberingsRise, PairsKeepMeaning, through}
use Rattle.lucid_constraints.specs.Means.{greatest}
use Rattle.lucid_constraints.specs.Substitution.{ends_from}
use Rattle.lucid_constraints.proofs.CycleLemmas.{asked_is, needed_from}
use Rattle.lucid_constraints.proofs.MeansLemmas.{allow-join_all, allow-from, greatest-join_all, needs-from, ends-from}
use Rattle.lucid_constraints.proofs.NumberingLemmas.{rises_from, allow_from_rises}

called_ends : (N : ArrayName → ℕ) (c : ℕ) (names : List ArrayName) (start xs : List Atom) → greatest N c (ends_from names start [] xs) ≡ greatest (through names N) (greatest N c start) xs
called_ends N c names start xs =
    let e : greatest N c (ends_from names start [] xs) ≡ max 0 (greatest (through names N) (greatest N c start) xs) = ends-from N c names start [] xs in
    omega (arith, e)

pub pairs_keep_meaning : PairsKeepMeaning
pairs_keep_meaning = record {
  joined_pairs = allow-join_all;
  joined_ends = greatest-join_all;
  before_array = allow-from;
  called_pairs = λ N c names start ps. needs-from N c names start [] ps;
  called_ends = called_ends;
}

pub allowed_numberings_rise : AllowedNumberingsRise
allowed_numberings_rise N arrays ps = (
  λ h x y need. rises_from N 0 arrays ps h.0 h.1 x y (needed_from ps arrays x y need),
  λ up. (λ a b l m. up (Global a) (Global b) (inr (l, m)), allow_from_rises N ps (λ x y e. up x y (inl (asked_is ps arrays x y e)))),
)
