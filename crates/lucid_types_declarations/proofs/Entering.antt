-- A parameter before the rest.
use Rattle.std.proofs.Common.{◌≡◌, ℕ, ◌+◌, List, [], ◌∷◌, ◌++◌, Option, None, Some, Bool, true, false, refl, ap, append_assoc, arith}
use Rattle.lucid_base.specs.declared.array.ArrayName.TheVariants as array_name
use Rattle.lucid_core.specs.Typing.{◌>>=◌}
use Rattle.lucid_parse_tree.specs.declared.tree.P.{P}
use Rattle.lucid_parse_tree.specs.declared.tree.P.TheVariants as p
use Rattle.lucid_types_spec.specs.declared.scope.Entry.TheVariants as entry
use Rattle.lucid_types_spec.specs.declared.scope.Param.{Param}
use Rattle.lucid_types_spec.specs.declared.scope.Param.TheVariants as param
use Rattle.lucid_types_spec.specs.declared.scope.ValueType.{ValueType}
use Rattle.lucid_types_spec.specs.Names.{Names, called}
use Rattle.lucid_types_laws.specs.Declaration.{parameters}
use Rattle.lucid_types_laws.specs.Partial.{given, when}
use Rattle.lucid_types_laws.specs.Reading.{is_width}
use Rattle.lucid_types_laws.specs.Statement.{type_of}
use Rattle.lucid_types_statements.proofs.Kept.{keeps_same, keeps_more}
use Rattle.lucid_types_declarations.specs.declared.parameters.Entered.{Entered}
use Rattle.lucid_types_declarations.specs.Parameters.{one_more, with_params}

before : (front : List Param) (q : Param) (o : Option (List Param × Names)) →
    with_params front (o >>= (λ r. Some (q ∷ r.0, r.1))) ≡ with_params (front ++ q ∷ []) o
before front q None = refl
before front q (Some r) = ap (λ (qs : List Param). Some (qs, r.1)) (grind (arith, append_assoc))

abbrev with_value : Entered → ValueType → Entered
with_value f v = record { params = f.params ++ param.Value v ∷ []; values = f.values + 1; arrays = f.arrays }

abbrev with_array : Entered → ℕ → Entered
with_array f w = record { params = f.params ++ param.Array w ∷ []; values = f.values; arrays = f.arrays + 1 }

abbrev value_added : Entered → List ℕ → Names → ValueType → Option (Entered × Names)
value_added f n s v = Some (with_value f v, called n (entry.Local f.values v) ∷ s)

abbrev array_added : Entered → List ℕ → Names → ℕ → Entered × Names
array_added f n s w = (with_array f w, called n (entry.Array (array_name.Param f.arrays) w) ∷ s)

pub parameter_is : (f : Entered) (s : Names) (x : P) (ps : List P) →
    with_params f.params (parameters f.values f.arrays s (x ∷ ps))
    ≡ (one_more f s x >>= (λ q. with_params q.0.params (parameters q.0.values q.0.arrays q.1 ps)))
parameter_is f s (p.Value t n) ps = by_type (type_of t)
  where
    by_type : (o : Option ValueType) →
        with_params f.params (o >>= (λ v. parameters (f.values + 1) f.arrays (called n (entry.Local f.values v) ∷ s) ps
        >>= (λ r. Some (param.Value v ∷ r.0, r.1))))
        ≡ ((o >>= value_added f n s) >>= (λ q. with_params q.0.params (parameters q.0.values q.0.arrays q.1 ps)))
    by_type None = refl
    by_type (Some v) = before f.params (param.Value v) (parameters (f.values + 1) f.arrays (called n (entry.Local f.values v) ∷ s) ps)
parameter_is f s (p.Array short w n) ps = by_width (is_width w)
  where
    by_width : (b : Bool) →
        with_params f.params (when b (parameters f.values (f.arrays + 1) (called n (entry.Array (array_name.Param f.arrays) w) ∷ s) ps)
        >>= (λ r. Some (param.Array w ∷ r.0, r.1)))
        ≡ (given b (array_added f n s w) >>= (λ q. with_params q.0.params (parameters q.0.values q.0.arrays q.1 ps)))
    by_width true =
        before f.params (param.Array w) (parameters f.values (f.arrays + 1) (called n (entry.Array (array_name.Param f.arrays) w) ∷ s) ps)
    by_width false = refl

pub ruleset entering = (parameter_is, keeps_same, keeps_more)
