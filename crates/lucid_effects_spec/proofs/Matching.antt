-- Where a body ends and its paths: it has a derivation where the numbering rises along each path, and ends at the greatest of their ends.
use Rattle.std.proofs.Common.{◌≡◌, ℕ, zero, suc, ◌+◌, ◌<◌, ◌≤◌, max, List, [], ◌∷◌, ◌++◌, Bool, true, false, if◌then◌else◌, Option, None, Some, map, fold, refl, ap, subst, ◌∙◌, arith, option_and_then, nat_le, slice_get, slice_index_or, ◌⊎◌, inl, inr}
use Rattle.std.specs.Option.{option_map_or}
use Rattle.std.proofs.lemmas.Bool.{cases_lt, leb-true, le-leb}
use Rattle.lucid_base.specs.Arrays.{name_at}
use Rattle.lucid_base.specs.declared.array.ArrayName.{ArrayName}
use Rattle.lucid_core.specs.declared.body.Stmt.{Stmt}
use Rattle.lucid_core.specs.declared.defs.FunDef.{FunDef}
use Rattle.lucid_core.proofs.Pairwise.{Pairwise, one_more}
use Rattle.lucid_effects_spec.specs.Ends as o
use Rattle.lucid_effects_spec.specs.Ends.{End, FunEnd, Numbering, body_end}
use Rattle.lucid_effects_spec.specs.Laws.{RisesAlong, path_end}
use Rattle.lucid_effects_spec.specs.Paths as u
use Rattle.lucid_effects_spec.specs.Paths.{Path, Paths, each_then, body_paths}
use Rattle.lucid_constraints.specs.Circle.{Member}
use Rattle.lucid_constraints.proofs.MemberLemmas.{member_split, member_left, member_right}
use Rattle.lucid_effects_spec.proofs.Members.{in_map, in_then, of_map, of_then}
use Rattle.lucid_effects_spec.proofs.Transfer.{some_then}
use Rattle.lucid_effects_spec.proofs.Walks.{bodies_relate}

-- ---- paths under a numbering

-- The numbering rises along the path, from this place, and the path ends at `d` or before it.
abbrev pub Climbs : Numbering → ℕ → Path → ℕ → Type 0
Climbs N c [] d = c ≤ d
Climbs N c (a ∷ p) d = (c ≤ N a) × Climbs N (N a + 1) p d

climbs_later : (N : Numbering) (c : ℕ) (p : Path) (d e : ℕ) → d ≤ e → Climbs N c p d → Climbs N c p e
climbs_later N c [] d e h k = omega arith
climbs_later N c (a ∷ p) d e h k = (k.0, climbs_later N (N a + 1) p d e h k.1)

climbs_from : (N : Numbering) (c e : ℕ) (p : Path) (d : ℕ) → c ≤ e → Climbs N e p d → Climbs N c p d
climbs_from N c e [] d h k = omega arith
climbs_from N c e (a ∷ p) d h k = let le = k.0 in (omega arith, k.1)

climbs_on : (N : Numbering) (c : ℕ) (p q : Path) (e d : ℕ) → Climbs N c p e → Climbs N e q d → Climbs N c (p ++ q) d
climbs_on N c [] q e d h k = climbs_from N c e q d h k
climbs_on N c (a ∷ p) q e d h k = (h.0, climbs_on N (N a + 1) p q e d h.1 k)

pub climbs_rise : (N : Numbering) (c : ℕ) (p : Path) (d : ℕ) → Climbs N c p d → RisesAlong N c p × (path_end N c p ≤ d)
climbs_rise N c [] d h = (tt, h)
climbs_rise N c (a ∷ p) d h = let rest = climbs_rise N (N a + 1) p d h.1 in ((h.0, rest.0), rest.1)

rises_first : (N : Numbering) (c : ℕ) (p q : Path) → RisesAlong N c (p ++ q) → RisesAlong N c p
rises_first N c [] q h = tt
rises_first N c (a ∷ p) q h = (h.0, rises_first N (N a + 1) p q h.1)

pub rises_next : (N : Numbering) (c : ℕ) (p q : Path) → RisesAlong N c (p ++ q) → RisesAlong N (path_end N c p) q
rises_next N c [] q h = h
rises_next N c (a ∷ p) q h = rises_next N (N a + 1) p q h.1

ends_next : (N : Numbering) (c : ℕ) (p q : Path) → path_end N c (p ++ q) ≡ path_end N (path_end N c p) q
ends_next N c [] q = refl
ends_next N c (a ∷ p) q = ends_next N (N a + 1) p q

-- ---- a part and its paths

-- Under this numbering: where a part ends, each path climbs to there; where the numbering rises along each path, the part ends, and one path ends at the same place.
pub record Matches (N : Numbering) (f : ℕ → Option ℕ) (ps : List Path) : Type 0 where
  pub some : (p : Path) × Member p ps
  pub climbs : (c d : ℕ) → f c ≡ Some d → (p : Path) → Member p ps → Climbs N c p d
  pub ends : (c : ℕ) → ((p : Path) → Member p ps → RisesAlong N c p) → (d : ℕ) × (f c ≡ Some d) × (p : Path) × Member p ps × (path_end N c p ≡ d)

silent : (N : Numbering) → Matches N (λ c. Some c) ([] ∷ [])
silent N = record {
  some = ([], inl refl);
  climbs = λ c d h p k. empty c d h p k;
  ends = λ c all. (c, refl, [], inl refl, refl);
}
  where
    empty : (c d : ℕ) → Some c ≡ Some d → (p : Path) → ([] ≡ p) ⊎ ⊥ → Climbs N c p d
    empty c d h p (inl e) = let same : c ≡ d = cc in subst (λ (q : Path). Climbs N c q d) e (omega arith)
    empty c d h p (inr k) = absurd k

passing : (N : Numbering) (a : ArrayName) → Matches N (λ c. if nat_le c (N a) then Some (N a + 1) else None) ((a ∷ []) ∷ [])
passing N a = record {
  some = (a ∷ [], inl refl);
  climbs = λ c d h p k. one c d p k (nat_le c (N a)) refl h;
  ends = λ c all. (N a + 1, ap (λ (b : Bool). if b then Some (N a + 1) else None) (le-leb c (N a) (all (a ∷ []) (inl refl)).0), a ∷ [], inl refl, refl);
}
  where
    one : (c d : ℕ) (p : Path) → ((a ∷ []) ≡ p) ⊎ ⊥ → (b : Bool) → nat_le c (N a) ≡ b → (if b then Some (N a + 1) else None) ≡ Some d → Climbs N c p d
    one c d p (inr k) b t h = absurd k
    one c d p (inl e) true t h = let last : N a + 1 ≡ d = cc in subst (λ (q : Path). Climbs N c q d) e (leb-true c (N a) t, omega arith)
    one c d p (inl e) false t h = cc

module _ (N : Numbering) where
  in_turn : (f g : ℕ → Option ℕ) (ps qs : List Path) → Matches N f ps → Matches N g qs → Matches N (λ c. option_and_then g (f c)) (each_then ps qs)
  in_turn f g ps qs h k = record {
    some = (h.some.0 ++ k.some.0, in_then h.some.0 k.some.0 ps qs h.some.1 k.some.1);
    climbs = λ c d e r m. climbing c d e r (of_then r ps qs m);
    ends = ending;
  }
    where
      climbing : (c d : ℕ) → option_and_then g (f c) ≡ Some d → (r : Path) → (p : Path) × (q : Path) × Member p ps × Member q qs × (p ++ q ≡ r) → Climbs N c r d
      climbing c d e r m =
          let split = some_then g (f c) d e in
          subst (λ (x : Path). Climbs N c x d) m.4 (climbs_on N c m.0 m.1 split.0 d (h.climbs c split.0 split.1 m.0 m.2) (k.climbs split.0 d split.2 m.1 m.3))

      ending : (c : ℕ) → ((r : Path) → Member r (each_then ps qs) → RisesAlong N c r) → (d : ℕ) × (option_and_then g (f c) ≡ Some d) × (r : Path) × Member r (each_then ps qs) × (path_end N c r ≡ d)
      ending c all =
          let a = h.ends c (λ p m. rises_first N c p k.some.0 (all (p ++ k.some.0) (in_then p k.some.0 ps qs m k.some.1))) in
          let b = k.ends a.0 (λ q m. subst (λ x. RisesAlong N x q) a.4 (rises_next N c a.2 q (all (a.2 ++ q) (in_then a.2 q ps qs a.3 m)))) in
          (b.0, ap (option_and_then g) a.1 ∙ b.1, a.2 ++ b.2, in_then a.2 b.2 ps qs a.3 b.3, ends_next N c a.2 b.2 ∙ ap (λ x. path_end N x b.2) a.4 ∙ b.4)

  of_either : (f g : ℕ → Option ℕ) (ps qs : List Path) → Matches N f ps → Matches N g qs → Matches N (λ c. option_and_then (λ d. option_and_then (λ e. Some (max d e)) (g c)) (f c)) (ps ++ qs)
  of_either f g ps qs h k = record {
    some = (h.some.0, member_left h.some.0 ps qs h.some.1);
    climbs = λ c d e r m. climbing c d e r (member_split r ps qs m);
    ends = ending;
  }
    where
      climbing : (c d : ℕ) → option_and_then (λ x. option_and_then (λ y. Some (max x y)) (g c)) (f c) ≡ Some d → (r : Path) → Member r ps ⊎ Member r qs → Climbs N c r d
      climbing c d e r m =
          let left = some_then (λ x. option_and_then (λ y. Some (max x y)) (g c)) (f c) d e in
          let right = some_then (λ y. Some (max left.0 y)) (g c) d left.2 in
          let most : max left.0 right.0 ≡ d = let z = right.2 in cc in
          of left.0 right.0 left.1 right.1 most m
        where
          of : (x y : ℕ) → f c ≡ Some x → g c ≡ Some y → max x y ≡ d → Member r ps ⊎ Member r qs → Climbs N c r d
          of x y fx gy most (inl i) = climbs_later N c r x d (omega arith) (h.climbs c x fx r i)
          of x y fx gy most (inr i) = climbs_later N c r y d (omega arith) (k.climbs c y gy r i)

      ending : (c : ℕ) → ((r : Path) → Member r (ps ++ qs) → RisesAlong N c r) →
          (d : ℕ) × (option_and_then (λ x. option_and_then (λ y. Some (max x y)) (g c)) (f c) ≡ Some d) × (r : Path) × Member r (ps ++ qs) × (path_end N c r ≡ d)
      ending c all =
          let a = h.ends c (λ p m. all p (member_left p ps qs m)) in
          let b = k.ends c (λ q m. all q (member_right q ps qs m)) in
          let best = greatest a.0 b.0 a.2 b.2 a.3 b.3 a.4 b.4 (cases_lt a.0 b.0) in
          (max a.0 b.0, ap (option_and_then (λ x. option_and_then (λ y. Some (max x y)) (g c))) a.1 ∙ ap (option_and_then (λ y. Some (max a.0 y))) b.1, best.0, best.1, best.2)
        where
          greatest : (x y : ℕ) (p q : Path) → Member p ps → Member q qs → path_end N c p ≡ x → path_end N c q ≡ y → (x < y) ⊎ (y ≤ x) → (r : Path) × Member r (ps ++ qs) × (path_end N c r ≡ max x y)
          greatest x y p q i j e f (inl l) = (q, member_right q ps qs j, omega arith)
          greatest x y p q i j e f (inr l) = (p, member_left p ps qs i, omega arith)

-- The paths of a function in its caller's names, where the caller's numbering is seen through these names.
module _ (N : Numbering) (name : ArrayName → ArrayName) where
  climbs_named : (c : ℕ) (p : Path) (d : ℕ) → Climbs (λ y. N (name y)) c p d → Climbs N c (map name p) d
  climbs_named c [] d h = h
  climbs_named c (a ∷ p) d h = (h.0, climbs_named (N (name a) + 1) p d h.1)

  rises_named : (c : ℕ) (p : Path) → RisesAlong N c (map name p) → RisesAlong (λ y. N (name y)) c p
  rises_named c [] h = tt
  rises_named c (a ∷ p) h = (h.0, rises_named (N (name a) + 1) p h.1)

  ends_named : (c : ℕ) (p : Path) → path_end N c (map name p) ≡ path_end (λ y. N (name y)) c p
  ends_named c [] = refl
  ends_named c (a ∷ p) = ends_named (N (name a) + 1) p

  named : (f : ℕ → Option ℕ) (ps : List Path) → Matches (λ y. N (name y)) f ps → Matches N f (map (map name) ps)
  named f ps h = record {
    some = (map name h.some.0, in_map (map name) h.some.0 ps h.some.1);
    climbs = λ c d e r m. let found = of_map (map name) r ps m in subst (λ (x : Path). Climbs N c x d) found.2 (climbs_named c found.0 d (h.climbs c d e found.0 found.1));
    ends = λ c all. let a = h.ends c (λ p m. rises_named c p (all (map name p) (in_map (map name) p ps m))) in (a.0, a.1, map name a.2, in_map (map name) a.2 ps a.3, ends_named c a.2 ∙ a.4);
  }

abbrev pub FunMatches : FunEnd → List Path → Type 0
FunMatches g qs = (N : Numbering) → Matches N (g N) qs

-- ---- the trees

module _ (fs : List FunEnd) (gs : List (List Path)) (ok : Pairwise FunMatches fs gs) (N : Numbering) where
  abbrev pub Agrees : End → Paths → Type 0
  Agrees end paths = Matches N (end fs N) (paths gs)

  found : (name : ArrayName → ArrayName) (fs : List FunEnd) (gs : List (List Path)) → Pairwise FunMatches fs gs → (k : ℕ) →
      Matches N (λ c. option_map_or (λ f. f (λ y. N (name y)) c) (slice_get fs k) (Some c)) (map (map name) (slice_index_or gs k ([] ∷ [])))
  found name [] [] all k = silent N
  found name [] (g ∷ gs) all k = absurd all
  found name (f ∷ fs) [] all k = absurd all
  found name (f ∷ fs) (g ∷ gs) all zero = named N name (f (λ y. N (name y))) g (all.0 (λ y. N (name y)))
  found name (f ∷ fs) (g ∷ gs) all (suc k) = found name fs gs all.1 k

  body_agrees : (ss : List Stmt) → Agrees (body_end ss) (body_paths ss)
  body_agrees = bodies_relate o.ends u.all_paths Agrees (silent N)
      (λ f g p q h k. in_turn N (f fs N) (g fs N) (p gs) (q gs) h k)
      (λ f g p q h k. of_either N (f fs N) (g fs N) (p gs) (q gs) h k)
      (passing N)
      (λ k names. found (name_at names) fs gs ok k)
      (λ f p h. h)

-- Functions, each behind those before it.
funs_agree : (ends : List FunEnd) (known : List (List Path)) (funs : List FunDef) → Pairwise FunMatches ends known →
    Pairwise FunMatches (fold (λ before f. before ++ body_end f.body before ∷ []) ends funs) (fold (λ before f. before ++ body_paths f.body before ∷ []) known funs)
funs_agree ends known [] all = all
funs_agree ends known (f ∷ funs) all =
    funs_agree (ends ++ body_end f.body ends ∷ []) (known ++ body_paths f.body known ∷ []) funs
    (one_more FunMatches ends known (body_end f.body ends) (body_paths f.body known) all (λ N. body_agrees ends known all N f.body))

-- A body, where it ends and its paths.
pub body_matches : (funs : List FunDef) (body : List Stmt) (N : Numbering) → Matches N (body_end body (o.ends_of funs) N) (u.paths funs body)
body_matches funs body N = body_agrees (o.ends_of funs) (u.paths_of funs) (funs_agree [] [] funs tt) N body
