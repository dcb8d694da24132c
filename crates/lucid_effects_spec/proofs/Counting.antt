-- The finding doesn't depend on the steps counted before.
use Rattle.std.proofs.Common.{◌≡◌, ℕ, List, [], Option, None, Some, slice_get, refl, ap, ap₂, map}
use Rattle.lucid_base.specs.declared.array.ArrayName.{ArrayName}
use Rattle.lucid_core.specs.declared.body.Stmt.{Stmt}
use Rattle.lucid_constraints.specs.declared.pair.Atom.{Atom}
use Rattle.lucid_constraints.specs.declared.pair.Pair.{Pair}
use Rattle.lucid_constraints.specs.Same.{same_atom, same_pair, join_all}
use Rattle.lucid_constraints.specs.Substitution.{ends_from, needs_from, pair}
use Rattle.lucid_effects_spec.proofs.Walks.{bodies_relate}
use Rattle.lucid_effects_spec.specs.declared.scheme.Scheme.{Scheme}
use Rattle.lucid_effects_spec.specs.Schemes.{Advance, Walked, begun, body_found, either, finds, scheme, scheme_of, through, visit}

-- Two with the same constraints and places.
abbrev Alike : Walked → Walked → Type 0
Alike u v = (u.needs ≡ v.needs) × (u.ends ≡ v.ends)

abbrev Keeps : Advance → Advance → Type 0
Keeps f g = (fs : List Scheme) (u v : Walked) → Alike u v → Alike (f fs u) (g fs v)

branches : (f g h k : Advance) → Keeps f h → Keeps g k → Keeps (either f g) (either h k)
branches f g h k first second fs u v same =
    let left = first fs u v same in
    let right = second fs (record (f fs u) { ends = u.ends }) (record (h fs v) { ends = v.ends }) (left.0, same.1) in
    (right.0, ap₂ (join_all same_atom) left.1 right.1)

array : (a : ArrayName) → Keeps (finds.array a) (finds.array a)
array a fs u v same = (ap₂ (λ ns es. join_all same_pair ns (map (pair a) es)) same.0 same.1, refl)

called : (o : Option Scheme) (names : List ArrayName) (u v : Walked) → Alike u v → Alike (through o names u) (through o names v)
called None names u v same = same
called (Some f) names u v same = (ap₂ (λ ns es. join_all same_pair ns (needs_from names es [] f.needs)) same.0 same.1, ap (λ es. ends_from names es [] f.ends) same.1)

body_keeps : (body : List Stmt) → Keeps (body_found body) (body_found body)
body_keeps = bodies_relate finds finds Keeps (λ fs u v same. same) (λ f g h k first second fs u v same. second fs (f fs u) (h fs v) (first fs u v same))
    branches array (λ k names fs u v same. called (slice_get fs k) names (visit u) (visit v) same) (λ f g keeps fs u v same. keeps fs (visit u) (visit v) same)

pub scheme_is : (fs : List Scheme) (body : List Stmt) (steps : ℕ) → scheme (body_found body fs (begun steps)) ≡ scheme_of fs body
scheme_is fs body steps = let same = body_keeps body fs (begun steps) (begun 0) (refl, refl) in ap₂ (λ ns es. the ns es) same.0 same.1
  where
    the : List Pair → List Atom → Scheme
    the ns es = record { needs = ns; ends = es }
