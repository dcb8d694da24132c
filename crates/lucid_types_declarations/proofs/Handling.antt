-- A handler is that of the event of its name.
use Rattle.std.proofs.Common.{◌≡◌, ℕ, List, Option, None, Some, Bool, true, false, slice_get, refl}
use Rattle.lucid_core.specs.Typing.{◌>>=◌, same}
use Rattle.lucid_parse_tree.specs.declared.tree.P.{P}
use Rattle.lucid_parse_tree.specs.declared.tree.S.{S}
use Rattle.lucid_types_spec.specs.Declaration.{Definitions}
use Rattle.lucid_types_spec.specs.Names.{seen}
use Rattle.lucid_types_laws.specs.Declaration.{event_at, handle, int_params, parameters}
use Rattle.lucid_types_laws.specs.Partial.{when}
use Rattle.lucid_types_laws.specs.Sending.{is_none}
use Rattle.lucid_types_laws.specs.Statement.{body_of}
use Rattle.lucid_types_declarations.specs.Events.{handle_event}

under : {A B : Type 0} (o : Option A) (f g : A → Option B) → ((a : A) → f a ≡ g a) → (o >>= f) ≡ (o >>= g)
under None f g e = refl
under (Some a) f g e = e a

grouped : {A B C : Type 0} (o : Option A) (f : A → Option B) (g : B → Option C) → (o >>= (λ a. f a >>= g)) ≡ ((o >>= f) >>= g)
grouped None f g = refl
grouped (Some a) f g = refl

regrouped : {A B C D : Type 0} (free : Bool) (o : Option A) (f : A → Option B) (h : A → B → Option C) (g : C → Option D) →
    (when free o >>= (λ a. f a >>= (λ b. h a b >>= g))) ≡ (when free (o >>= (λ a. f a >>= h a)) >>= g)
regrouped true None f h g = refl
regrouped true (Some a) f h g = grouped (f a) (h a) g
regrouped false o f h g = refl

pub handle_is : (decl line : ℕ) (n : List ℕ) (ps : List P) (body : List S) (m : Definitions) →
    handle decl line n ps body m ≡ (event_at (seen n m.names) >>= (λ y. handle_event decl line y.0 y.1 ps body m))
handle_is decl line n ps body m =
    under (event_at (seen n m.names)) _ _ (λ y. under (slice_get m.events y.0) _ _ (λ e.
    regrouped (is_none e.handler) (parameters 0 0 m.names ps) (λ qs. int_params qs.0)
    (λ qs ws. when (same ws y.1) (body_of body None qs.1 (record { locals = y.1; forms = m.forms }))) _))
