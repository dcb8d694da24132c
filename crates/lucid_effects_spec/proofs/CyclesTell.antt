-- The meaning of a cycle of a scheme's pairs for its body, and that of its absence.
use Rattle.std.proofs.Common.{ℕ, List, [], ◌∷◌, refl, subst, inl, inr, slice_index_or}
use Rattle.std.specs.Prelude.{Any}
use Rattle.lucid_base.specs.declared.array.ArrayName.{ArrayName}
use Rattle.lucid_core.specs.declared.body.Stmt.{Stmt}
use Rattle.lucid_core.specs.declared.defs.FunDef.{FunDef}
use Rattle.lucid_constraints.specs.declared.pair.Atom.TheVariants.{After}
use Rattle.lucid_constraints.specs.declared.pair.Pair.{Pair}
use Rattle.lucid_constraints.specs.Circle.{Member}
use Rattle.lucid_constraints.specs.Cycle.{HasNumbering, Leads, Needed}
use Rattle.lucid_constraints.specs.Cycle as c
use Rattle.lucid_constraints.specs.Means.{greatest}
use Rattle.lucid_constraints.proofs.LawProofs.{allowed_numberings_rise}
use Rattle.lucid_effects_spec.specs.Cycle.{CallsThen, IsCycle, NeededBefore}
use Rattle.lucid_effects_spec.specs.Order.{InOrder}
use Rattle.lucid_effects_spec.specs.Paths.{Path, paths}
use Rattle.lucid_effects_spec.proofs.Members.{contains, in_at}
use Rattle.lucid_effects_spec.specs.declared.scheme.Scheme.{Scheme}
use Rattle.lucid_effects_spec.specs.SchemeLaws.{CyclesTell}
use Rattle.lucid_effects_spec.specs.Schemes.{scheme_of, schemes_of}
use Rattle.lucid_effects_spec.proofs.Explained.{Explained, explained}
use Rattle.lucid_effects_spec.proofs.Principal.{principal}

some_calls : (x y : ArrayName) (q : Path) (ps : List Path) → Member q ps → CallsThen x y q → Any (CallsThen x y) ps
some_calls x y q ps h calls = let found = contains q ps h in (found.0, q, found.1, found.2, calls)

module _ (arrays : ℕ) (s : Scheme) (ps : List Path) (h : Explained s ps) where
  needed_by_path : (x y : ArrayName) → Needed arrays s.needs x y → NeededBefore arrays ps x y
  needed_by_path x y (inl there) =
      let p : Pair = record { atom = After x; array = y } in
      let asked = h.needs p (subst (λ z. Member z s.needs) there.2 (in_at s.needs there.0 p there.1)) in
      inl (some_calls x y asked.0 ps asked.1 asked.2)
  needed_by_path x y (inr early) = inr early

  leads_by_path : (xs : List ArrayName) (z : ArrayName) → Leads (Needed arrays s.needs) xs z → Leads (NeededBefore arrays ps) xs z
  leads_by_path [] z l = l
  leads_by_path (x ∷ xs) z l = (needed_by_path x (slice_index_or xs 0 z) l.0, leads_by_path xs z l.1)

  cycle_by_path : (first : ArrayName) (others : List ArrayName) → c.IsCycle (Needed arrays s.needs) first others → IsCycle arrays ps first others
  cycle_by_path first others found = record { distinct = found.distinct; leads = leads_by_path (first ∷ others) first found.leads; earliest = found.earliest }

module _ (arrays : ℕ) (funs : List FunDef) (body : List Stmt) where
  abbrev asks : Scheme
  asks = scheme_of (schemes_of funs) body

  in_order : HasNumbering (Needed arrays asks.needs) → InOrder arrays funs body
  in_order numbering =
      let N = numbering.0 in
      let rises = (allowed_numberings_rise N arrays asks.needs).1 numbering.1 in
      record { numbering = N; rises = rises.0; end = greatest N 0 asks.ends; derived = (principal funs body N 0 (greatest N 0 asks.ends)).1 (rises.1, refl) }

pub cycles_tell : CyclesTell
cycles_tell arrays funs body = (in_order arrays funs body, cycle_by_path arrays (scheme_of (schemes_of funs) body) (paths funs body) (explained funs body))
