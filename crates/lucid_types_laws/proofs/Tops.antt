-- What names at the top of a program stand for is there, stays there, and is there at every place in a body.
use Rattle.std.proofs.Common.{◌≡◌, ℕ, suc, ◌+◌, List, ◌∷◌, Some, true, false, length, nat_le, refl, sym, subst, slice_get, arith}
use Rattle.std.specs.List.{list_all}
use Rattle.std.proofs.lemmas.Option.{slice_get_within}
use Rattle.lucid_base.specs.Memop.{memop_fits}
use Rattle.lucid_base.specs.declared.array.ArrayName.TheVariants as array_name
use Rattle.lucid_core.specs.declared.defs.FunDef.{FunDef}
use Rattle.lucid_core.specs.Limits.{are_members}
use Rattle.lucid_base.specs.Numbers.{is_in}
use Rattle.lucid_core.specs.Numbers.{places}
use Rattle.lucid_core.proofs.WidthLists.{passes_at}
use Rattle.lucid_core_laws.specs.Place.{Place}
use Rattle.lucid_parse_tree.specs.declared.tree.P.{P}
use Rattle.lucid_types_spec.specs.declared.scope.Entry.{Entry}
use Rattle.lucid_types_spec.specs.declared.scope.Entry.TheVariants as entry
use Rattle.lucid_types_spec.specs.declared.scope.Param.{Param}
use Rattle.lucid_types_spec.specs.Names.{Names, called, seen}
use Rattle.lucid_types_spec.specs.Types.{Parameters, cell_widths, value_widths, width_of}
use Rattle.lucid_types_spec.specs.Types as rule
use Rattle.lucid_types_laws.proofs.Lists.{Grows, places_have}
use Rattle.lucid_types_laws.proofs.Suits.{Holds, IsFun, Suits, seen_more, suits_more}

-- The cell widths of arrays, the parameters of events, and the functions.
pub record Tops : Type 0 where
  pub arrays : List ℕ
  pub events : List (List ℕ)
  pub funs : List FunDef

pub record TopsGrow (t u : Tops) : Type 0 where
  pub arrays : Grows t.arrays u.arrays
  pub events : Grows t.events u.events
  pub funs : Grows t.funs u.funs

pub same_tops : (t : Tops) → TopsGrow t t
same_tops t = record { arrays = λ i x h. h; events = λ i x h. h; funs = λ i x h. h }

abbrev pub TopHolds : Tops → Entry → Type 0
TopHolds t (entry.Constant b) = Unit {0}
TopHolds t (entry.Array (array_name.Global a) w) = slice_get t.arrays a ≡ Some w
TopHolds t (entry.Array (array_name.Param i) w) = ⊥
TopHolds t (entry.Memop m) = memop_fits m ≡ true
TopHolds t (entry.Event i ws) = slice_get t.events i ≡ Some ws
TopHolds t (entry.Fun k ps a) = IsFun t.funs k ps a
TopHolds t (entry.Local i v) = ⊥
TopHolds t (entry.Group members) = are_members members ≡ true

abbrev pub TopSuits : Tops → Names → Type 0
TopSuits t s = (n : List ℕ) (d : Entry) → seen n s ≡ Some d → TopHolds t d

pub top_stays : (t u : Tops) → TopsGrow t u → (d : Entry) → TopHolds t d → TopHolds u d
top_stays t u g (entry.Constant b) h = tt
top_stays t u g (entry.Array (array_name.Global a) w) h = g.arrays a w h
top_stays t u g (entry.Array (array_name.Param i) w) h = absurd h
top_stays t u g (entry.Memop m) h = h
top_stays t u g (entry.Event i ws) h = g.events i ws h
top_stays t u g (entry.Fun k ps a) h = record { def = h.def; there = g.funs k h.def h.there; arrays = h.arrays; values = h.values; answer = h.answer }
top_stays t u g (entry.Local i v) h = absurd h
top_stays t u g (entry.Group members) h = h

-- One name more, and what they stand for grows.
pub top_more : (t u : Tops) (s : Names) (n : List ℕ) (d : Entry) → TopsGrow t u → TopSuits t s → TopHolds u d → TopSuits u (called n d ∷ s)
top_more t u s n d g h x = seen_more (TopHolds u) s (called n d) (λ k e is. top_stays t u g e (h k e is)) x

-- ---- at a place

abbrev pub place : Tops → List ℕ → List ℕ → List (List ℕ) → List ℕ → Place
place t params locals forms known = record {
  scope = record { arrays = t.arrays; params = params; locals = locals; events = t.events; forms = forms; funs = t.funs };
  known = known;
  flat = false;
}

-- Events have at most 8 parameters.
abbrev pub Few : Tops → Type 0
Few t = list_all (λ (ws : List ℕ). nat_le (length ws) 8) t.events ≡ true

module _ (t : Tops) (params locals : List ℕ) (forms : List (List ℕ)) (known : List ℕ) (few : Few t) where
  top_holds : (d : Entry) → TopHolds t d → Holds (place t params locals forms known) d
  top_holds (entry.Constant b) h = tt
  top_holds (entry.Array (array_name.Global a) w) h = h
  top_holds (entry.Array (array_name.Param i) w) h = absurd h
  top_holds (entry.Memop m) h = h
  top_holds (entry.Event i ws) h = record { there = h; few = passes_at (λ (vs : List ℕ). nat_le (length vs) 8) t.events i ws few h }
  top_holds (entry.Fun k ps a) h = h
  top_holds (entry.Local i v) h = absurd h
  top_holds (entry.Group members) h = h

  pub top_suits : (s : Names) → TopSuits t s → Suits (place t params locals forms known) s
  top_suits s h = record { core = refl; holds = λ n d is. top_holds d (h n d is) }

-- ---- parameters

-- At a place whose locals from the first number on, and whose array parameters from the second on, are these parameters.
record Has (q : Place) (i j : ℕ) (qs : List Param) : Type 0 where
  locals : (n w : ℕ) → slice_get (value_widths qs) n ≡ Some w → slice_get q.scope.locals (i + n) ≡ Some w
  known : (n w : ℕ) → slice_get (value_widths qs) n ≡ Some w → is_in (i + n) q.known ≡ true
  arrays : (n w : ℕ) → slice_get (cell_widths qs) n ≡ Some w → slice_get q.scope.params (j + n) ≡ Some w

at_start : (i : ℕ) → i + 0 ≡ i
at_start i = omega arith

one_on : (i n : ℕ) → i + suc n ≡ i + 1 + n
one_on i n = omega arith

parameters : {i j : ℕ} {s k : Names} {ps : List P} {qs : List Param} → Parameters i j s ps qs k → (q : Place) → Has q i j qs → Suits q s → Suits q k
parameters (rule.none i j s) q has h = h
parameters (rule.value i j s k t v n ps qs ok rest) q has h =
    let there = subst (λ (x : ℕ). slice_get q.scope.locals x ≡ Some (width_of v)) (at_start i) (has.locals 0 (width_of v) refl) in
    let known = subst (λ (x : ℕ). is_in x q.known ≡ true) (at_start i) (has.known 0 (width_of v) refl) in
    parameters rest q
    (record {
      locals = λ x w is. subst (λ (y : ℕ). slice_get q.scope.locals y ≡ Some w) (one_on i x) (has.locals (suc x) w is);
      known = λ x w is. subst (λ (y : ℕ). is_in y q.known ≡ true) (one_on i x) (has.known (suc x) w is);
      arrays = has.arrays;
    })
    (suits_more q s (called n (entry.Local i v)) h (record { there = there; assigned = known }))
parameters (rule.array i j s k short w n ps qs ok rest) q has h =
    parameters rest q
    (record {
      locals = has.locals;
      known = has.known;
      arrays = λ x v is. subst (λ (y : ℕ). slice_get q.scope.params y ≡ Some v) (one_on j x) (has.arrays (suc x) v is);
    })
    (suits_more q s (called n (entry.Array (array_name.Param j) w)) h (subst (λ (x : ℕ). slice_get q.scope.params x ≡ Some w) (at_start j) (has.arrays 0 w refl)))

-- At the place of a body: its first locals are the value parameters, which are assigned, and its array parameters are there.
pub parameters_suit : {s k : Names} {ps : List P} {qs : List Param} → Parameters 0 0 s ps qs k → (q : Place) → Suits q s →
    Grows (value_widths qs) q.scope.locals → q.known ≡ places (value_widths qs) → Grows (cell_widths qs) q.scope.params → Suits q k
parameters_suit {qs = qs} of q h locals known arrays =
    let front : (n : ℕ) → n ≡ 0 + n = λ n. omega arith in
    parameters of q
    (record {
      locals = λ n w is. subst (λ (x : ℕ). slice_get q.scope.locals x ≡ Some w) (front n) (locals n w is);
      known = λ n w is. subst (λ (xs : List ℕ). is_in (0 + n) xs ≡ true) (sym known) (there n w is);
      arrays = λ n w is. subst (λ (x : ℕ). slice_get q.scope.params x ≡ Some w) (front n) (arrays n w is);
    }) h
  where
    there : (n w : ℕ) → slice_get (value_widths qs) n ≡ Some w → is_in (0 + n) (places (value_widths qs)) ≡ true
    there n w is = let within = slice_get_within (value_widths qs) n w is in places_have (value_widths qs) 0 (0 + n) (omega arith) (omega (arith, within))
