-- A walk takes few steps: no more than a fixed number for each node, since places and pairs of the arrays are few.
use Rattle.std.proofs.Common.{◌≡◌, ℕ, zero, suc, ◌+◌, ◌*◌, ◌≤◌, Bool, true, List, [], ◌∷◌, ◌++◌, map, fold, length, slice_get, slice_index_or, subst, ◌&&◌, nat_le, take, arith}
use Rattle.std.specs.List.{list_all}
use Rattle.std.proofs.lemmas.Bool.{and_parts, leb-true, ltb-true}
use Rattle.std.proofs.lemmas.List.{length-map}
use Rattle.std.proofs.Math.Seq.{take-length}
use Rattle.lucid_base.specs.Arrays.{name_at}
use Rattle.lucid_base.specs.declared.array.ArrayName.{ArrayName}
use Rattle.lucid_base.specs.declared.array.ArrayName.TheVariants.{Global, Param}
use Rattle.lucid_core.specs.declared.body.Stmt.{Stmt}
use Rattle.lucid_core.specs.Names.{is_array, stmt_names}
use Rattle.lucid_core.specs.declared.defs.FunDef.{FunDef}
use Rattle.lucid_core.specs.declared.defs.HandlerDef.{HandlerDef}
use Rattle.lucid_core.specs.Parts.{CoreParts}
use Rattle.lucid_core.specs.Scope.{Scope, each, fun_scope, funs_pass, handler_scope}
use Rattle.lucid_core.specs.Valid.{IsSound}
use Rattle.lucid_core.proofs.Static.{funs_pass-at}
use Rattle.lucid_core.proofs.WidthLists.{passes_at}
use Rattle.lucid_constraints.specs.declared.pair.Atom.{Atom}
use Rattle.lucid_constraints.specs.declared.pair.Atom.TheVariants.{Start, After}
use Rattle.lucid_constraints.specs.declared.pair.Pair.{Pair}
use Rattle.lucid_constraints.specs.Same.{same_atom, same_pair, join_all}
use Rattle.lucid_constraints.specs.Substitution.{atoms_at, ends_from, needs_from, pair, pairs_at}
use Rattle.lucid_effects_spec.specs.Evaluation.{body_walk}
use Rattle.lucid_effects_spec.specs.Size.{size}
use Rattle.lucid_effects_spec.proofs.Walks.{first_of, paired, second_of}
use Rattle.lucid_effects_spec.proofs.Within.{body_keeps as within}
use Rattle.lucid_effects_spec.specs.declared.scheme.Scheme.{Scheme}
use Rattle.lucid_effects_spec.specs.SchemeLaws.{WalksAreShort, steps_a_node}
use Rattle.lucid_effects_spec.specs.Schemes.{Advance, Walked, begun, body_found, either, finds, goes_through, passes, scheme_of, schemes_of, through, visit}
use Rattle.lucid_effects_spec.proofs.Codes.{AtomIn, NameIn, PairIn, atom_below, atom_code, atom_tells, pair_below, pair_code, pair_tells}
use Rattle.lucid_effects_spec.proofs.Few.{Apart, Each, apart-few, apart-join_all}

abbrev EndsIn : ℕ → List Atom → Type 0
EndsIn n xs = Apart (AtomIn n) (atom_code n) same_atom (atom_tells n) xs

abbrev NeedsIn : ℕ → List Pair → Type 0
NeedsIn n ps = Apart (PairIn n) (pair_code n) same_pair (pair_tells n) ps

abbrev pub SchemeIn : ℕ → Scheme → Type 0
SchemeIn n s = NeedsIn n s.needs × Each (AtomIn n) s.ends

abbrev pub Good : ℕ → Walked → Type 0
Good n w = NeedsIn n w.needs × EndsIn n w.ends

few_ends : (n : ℕ) (xs : List Atom) → EndsIn n xs → length xs ≤ n + 10
few_ends n xs h = apart-few (AtomIn n) (atom_code n) same_atom (atom_tells n) (n + 10) (atom_below n) xs h

few_needs : (n : ℕ) (ps : List Pair) → NeedsIn n ps → length ps ≤ (n + 10) * (n + 9)
few_needs n ps h = apart-few (PairIn n) (pair_code n) same_pair (pair_tells n) ((n + 10) * (n + 9)) (pair_below n) ps h

pairs_in : (n : ℕ) (a : ArrayName) → NameIn n a → (xs : List Atom) → Each (AtomIn n) xs → Each (PairIn n) (map (pair a) xs)
pairs_in n a h [] k = tt
pairs_in n a h (x ∷ xs) k = ((k.0, h), pairs_in n a h xs k.1)

-- ---- substitution stays among the names

module _ (n : ℕ) (names : List ArrayName) (named : Each (NameIn n) names) where
  name_in_at : (x : ArrayName) → NameIn n x → NameIn n (name_at names x)
  name_in_at (Global a) h = h
  name_in_at (Param i) h = of names named i
    where
      of : (xs : List ArrayName) → Each (NameIn n) xs → (i : ℕ) → NameIn n (slice_index_or xs i (Global 0))
      of [] k i = omega arith
      of (x ∷ xs) k zero = k.0
      of (x ∷ xs) k (suc i) = of xs k.1 i

  atoms_in : (start : List Atom) → Each (AtomIn n) start → (x : Atom) → AtomIn n x → Each (AtomIn n) (atoms_at names start x)
  atoms_in start h Start k = h
  atoms_in start h (After x) k = (name_in_at x k, tt)

  needs_in : (start : List Atom) → Each (AtomIn n) start → (done ps : List Pair) → NeedsIn n done → Each (PairIn n) ps → NeedsIn n (needs_from names start done ps)
  needs_in start h done [] d k = d
  needs_in start h done (p ∷ ps) d k =
      let more = pairs_in n (name_at names p.array) (name_in_at p.array k.0.1) (atoms_at names start p.atom) (atoms_in start h p.atom k.0.0) in
      needs_in start h (join_all same_pair done (pairs_at names start p)) ps (apart-join_all (PairIn n) (pair_code n) same_pair (pair_tells n) done (pairs_at names start p) d more) k.1

  ends_in : (start : List Atom) → Each (AtomIn n) start → (done xs : List Atom) → EndsIn n done → Each (AtomIn n) xs → EndsIn n (ends_from names start done xs)
  ends_in start h done [] d k = d
  ends_in start h done (x ∷ xs) d k =
      ends_in start h (join_all same_atom done (atoms_at names start x)) xs (apart-join_all (AtomIn n) (atom_code n) same_atom (atom_tells n) done (atoms_at names start x) d (atoms_in start h x k.0)) k.1

-- ---- walks

mul_more : (a b k : ℕ) → (a + b) * k ≡ a * k + b * k
mul_more a b k = omega arith

-- After these schemes the walk keeps good states good, and takes at most this many steps.
abbrev Costs : ℕ → List Scheme → Advance → ℕ → Type 0
Costs n fs f most = (w : Walked) → Good n w → Good n (f fs w) × ((f fs w).steps ≤ w.steps + most)

enough : (n : ℕ) → n + 11 ≤ steps_a_node n
enough n = omega arith

enough_for_calls : (n : ℕ) → (n + 10) * (n + 9) + 1 ≤ steps_a_node n
enough_for_calls n = omega arith

module _ (n : ℕ) (fs : List Scheme) (known : Each (SchemeIn n) fs) (s : Scope) (arrays : length s.arrays ≤ n) (params : length s.params ≤ 8) where
  abbrev Cheap : Advance × ℕ → Type 0
  Cheap x = Costs n fs x.0 (x.1 * steps_a_node n)

  silent : Cheap ((λ fs w. w), 0)
  silent w good = (good, omega arith)

  in_turn : (f g : Advance × ℕ) → Cheap f → Cheap g → Cheap (finds.in_turn f.0 g.0, f.1 + g.1)
  in_turn f g h k w good =
      let one = h w good in
      let two = k (f.0 fs w) one.0 in
      let a = one.1 in
      let b = two.1 in
      let both : (f.1 + g.1) * steps_a_node n ≡ f.1 * steps_a_node n + g.1 * steps_a_node n = mul_more f.1 g.1 (steps_a_node n) in
      (two.0, omega (arith, a, b, both))

  branches : (f g : Advance × ℕ) → Cheap f → Cheap g → Cheap (either f.0 g.0, f.1 + g.1)
  branches f g h k w good =
      let one = h w good in
      let left : Walked = f.0 fs w in
      let two = k (record left { ends = w.ends }) (one.0.0, good.1) in
      let a = one.1 in
      let b = two.1 in
      let both : (f.1 + g.1) * steps_a_node n ≡ f.1 * steps_a_node n + g.1 * steps_a_node n = mul_more f.1 g.1 (steps_a_node n) in
      ((two.0.0, apart-join_all (AtomIn n) (atom_code n) same_atom (atom_tells n) left.ends (g.0 fs (record left { ends = w.ends })).ends one.0.1 two.0.1.0), omega (arith, a, b, both))

  node : (f : Advance × ℕ) → Cheap f → Cheap (finds.node f.0, 1 + f.1)
  node f h w good =
      let one = h (visit w) good in
      let a = one.1 in
      let both : (1 + f.1) * steps_a_node n ≡ 1 * steps_a_node n + f.1 * steps_a_node n = mul_more 1 f.1 (steps_a_node n) in
      let some = enough n in
      (one.0, omega (arith, a, both, some))

  name_in : (x : ArrayName) → is_array s.arrays s.params x ≡ true → NameIn n x
  name_in (Global a) h = let l = ltb-true a (length s.arrays) h in omega (arith, l, arrays)
  name_in (Param i) h = let l = ltb-true i (length s.params) h in omega (arith, l, params)

  names_in : (xs : List ArrayName) → list_all (is_array s.arrays s.params) xs ≡ true → Each (NameIn n) xs
  names_in [] h = tt
  names_in (x ∷ xs) h = let both = and_parts _ _ h in (name_in x both.0, names_in xs both.1)

  array : (a : ArrayName) → is_array s.arrays s.params a ≡ true → Cheap (passes a, 1)
  array a h w good =
      let i = name_in a h in
      let l = few_ends n w.ends good.1 in
      let e : length (map (pair a) w.ends) ≡ length w.ends = length-map w.ends (pair a) in
      let some = enough n in
      ((apart-join_all (PairIn n) (pair_code n) same_pair (pair_tells n) w.needs (map (pair a) w.ends) good.0 (pairs_in n a i w.ends good.1.0), ((i, tt), ((λ h. h), tt))), omega (arith, l, e, some))

  called : (names : List ArrayName) → Each (NameIn n) names → (gs : List Scheme) → Each (SchemeIn n) gs → (k : ℕ) (w : Walked) → Good n w →
      Good n (through (slice_get gs k) names w) × ((through (slice_get gs k) names w).steps ≤ w.steps + (n + 10) * (n + 9))
  called names i [] h k w good = (good, omega arith)
  called names i (f ∷ gs) h (suc k) w good = called names i gs h.1 k w good
  called names i (f ∷ gs) h zero w good =
      let needs = needs_in n names i w.ends good.1.0 [] f.needs (tt, tt) h.0.0.0 in
      let l = few_needs n f.needs h.0.0 in
      ((apart-join_all (PairIn n) (pair_code n) same_pair (pair_tells n) w.needs (needs_from names w.ends [] f.needs) good.0 needs.0, ends_in n names i w.ends good.1.0 [] f.ends (tt, tt) h.0.1), omega (arith, l))

  function : (k : ℕ) (names : List ArrayName) → list_all (is_array s.arrays s.params) names ≡ true → Cheap (goes_through k names, 1)
  function k names h w good =
      let one = called names (names_in names h) fs known k (visit w) good in
      let a = one.1 in
      let some = enough_for_calls n in
      (one.0, omega (arith, a, some))

  pub body_cheap : (body : List Stmt) → each (map stmt_names body) s ≡ true → Costs n fs (body_found body) (body_walk size body * steps_a_node n)
  body_cheap body named = subst (λ f. Costs n fs f (body_walk size body * steps_a_node n)) (first_of finds size body)
      (subst (λ m. Costs n fs (body_walk (paired finds size) body).0 (m * steps_a_node n)) (second_of finds size body) (within s (paired finds size) Cheap silent in_turn branches array function node body named))

-- ---- programs

module _ (n : ℕ) (fs : List Scheme) (known : Each (SchemeIn n) fs) (s : Scope) (arrays : length s.arrays ≤ n) (params : length s.params ≤ 8) (body : List Stmt) (named : each (map stmt_names body) s ≡ true) where
  began : (steps : ℕ) → Good n (begun steps)
  began steps = ((tt, tt), ((tt, tt), ((λ h. h), tt)))

  scheme_in : SchemeIn n (scheme_of fs body)
  scheme_in = let good = (body_cheap n fs known s arrays params body named (begun 0) (began 0)).0 in (good.0, good.1.0)

  few_steps : (steps : ℕ) → (body_found body fs (begun steps)).steps ≤ steps + (1 + body_walk size body) * steps_a_node n
  few_steps steps =
      let most = (body_cheap n fs known s arrays params body named (begun steps) (began steps)).1 in
      let both : (1 + body_walk size body) * steps_a_node n ≡ 1 * steps_a_node n + body_walk size body * steps_a_node n = mul_more 1 (body_walk size body) (steps_a_node n) in
      let some = enough n in
      omega (arith, most, both, some)

abbrev fun_named : CoreParts → List FunDef → FunDef → Bool
fun_named parts before f = each (map stmt_names f.body) (fun_scope parts before f)

abbrev few_params : FunDef → Bool
few_params f = nat_le (length f.arrays) 8 && nat_le f.params 8

counted : (parts : CoreParts) → length (map (λ a. a.width) parts.arrays) ≤ length parts.arrays
counted parts = let e : length (map (λ a. a.width) parts.arrays) ≡ length parts.arrays = length-map parts.arrays (λ a. a.width) in omega arith

funs_in : (parts : CoreParts) (before : List FunDef) (done : List Scheme) (fs : List FunDef) (i : ℕ) → Each (SchemeIn (length parts.arrays)) done → funs_pass (fun_named parts) before fs ≡ true → list_all few_params fs ≡ true →
    Each (SchemeIn (length parts.arrays)) (fold (λ ss f. ss ++ scheme_of ss f.body ∷ []) done (take i fs))
funs_in parts before done [] zero known named few = known
funs_in parts before done [] (suc i) known named few = known
funs_in parts before done (f ∷ fs) zero known named few = known
funs_in parts before done (f ∷ fs) (suc i) known named few =
    let names = and_parts _ _ named in
    let limits = and_parts _ _ few in
    let params = leb-true (length f.arrays) 8 (and_parts _ _ limits.0).0 in
    let one = scheme_in (length parts.arrays) done known (fun_scope parts before f) (counted parts) params f.body names.0 in
    funs_in parts (before ++ f ∷ []) (done ++ scheme_of done f.body ∷ []) fs i (each_push done (scheme_of done f.body) known one) names.1 limits.1
  where
    each_push : (ss : List Scheme) (s : Scheme) → Each (SchemeIn (length parts.arrays)) ss → SchemeIn (length parts.arrays) s → Each (SchemeIn (length parts.arrays)) (ss ++ s ∷ [])
    each_push [] s h last = (last, tt)
    each_push (x ∷ ss) s h last = (h.0, each_push ss s h.1 last)

-- The rules for the names in bodies, and for the array parameters.
names_of : (parts : CoreParts) → IsSound parts → (funs_pass (fun_named parts) [] parts.funs ≡ true) × (list_all (λ (g : HandlerDef). each (map stmt_names g.body) (handler_scope parts g)) parts.handlers ≡ true)
names_of parts sound = and_parts _ _ (and_parts _ _ sound.names).0

params_of : (parts : CoreParts) → IsSound parts → list_all few_params parts.funs ≡ true
params_of parts sound = (and_parts _ _ sound.declarations).1

behind : (parts : CoreParts) → IsSound parts → (k : ℕ) → Each (SchemeIn (length parts.arrays)) (schemes_of (take k parts.funs))
behind parts sound k = funs_in parts [] [] parts.funs k tt (names_of parts sound).0 (params_of parts sound)

pub walks_are_short : (parts : CoreParts) → IsSound parts → WalksAreShort parts
walks_are_short parts sound = record {
  functions = λ k f is.
      let params = leb-true (length f.arrays) 8 (and_parts _ _ (passes_at few_params parts.funs k f (params_of parts sound) is)).0 in
      few_steps (length parts.arrays) (schemes_of (take k parts.funs)) (behind parts sound k) (fun_scope parts (take k parts.funs) f) (counted parts) params f.body
      (funs_pass-at (fun_named parts) [] parts.funs k f (names_of parts sound).0 is);
  handlers = λ k h is.
      few_steps (length parts.arrays) (schemes_of parts.funs) (subst (λ (fs : List FunDef). Each (SchemeIn (length parts.arrays)) (schemes_of fs)) (take-length parts.funs) (behind parts sound (length parts.funs)))
      (handler_scope parts h) (counted parts) (omega arith) h.body (passes_at (λ (g : HandlerDef). each (map stmt_names g.body) (handler_scope parts g)) parts.handlers k h (names_of parts sound).1 is);
}
