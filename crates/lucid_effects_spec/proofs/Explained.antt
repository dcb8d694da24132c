-- Each pair that a walk finds is called for by a path of the body, and each of its ends is the end of one.
use Rattle.std.proofs.Common.{◌≡◌, ℕ, zero, suc, Bool, true, false, if◌then◌else◌, List, [], ◌∷◌, ◌++◌, map, fold, slice_get, Some, refl, sym, ◌∙◌, ap, ap₂, subst, append_assoc, append-nil, ◌⊎◌, inl, inr}
use Rattle.std.specs.List.{list_any}
use Rattle.std.proofs.lemmas.List.{map-append}
use Rattle.lucid_base.specs.Arrays.{name_at}
use Rattle.lucid_base.specs.declared.array.ArrayName.{ArrayName}
use Rattle.lucid_core.specs.declared.body.Stmt.{Stmt}
use Rattle.lucid_core.specs.declared.defs.FunDef.{FunDef}
use Rattle.lucid_core.proofs.Pairwise.{Pairwise, one_more}
use Rattle.lucid_constraints.specs.Circle.{Member}
use Rattle.lucid_constraints.specs.declared.pair.Atom.{Atom}
use Rattle.lucid_constraints.specs.declared.pair.Atom.TheVariants.{Start, After}
use Rattle.lucid_constraints.specs.declared.pair.Pair.{Pair}
use Rattle.lucid_constraints.specs.Same.{same_atom, same_pair, joined, join_all}
use Rattle.lucid_constraints.specs.Substitution.{pair, atoms_at, pairs_at, needs_from, ends_from}
use Rattle.lucid_constraints.proofs.MemberLemmas.{member_left, member_right, member_split}
use Rattle.lucid_effects_spec.specs.Cycle.{CallsThen}
use Rattle.lucid_effects_spec.specs.Paths as u
use Rattle.lucid_effects_spec.specs.Paths.{Path, Paths, all_paths, body_paths, each_then, paths, paths_of}
use Rattle.lucid_effects_spec.proofs.Members.{in_map, in_then, of_map}
use Rattle.lucid_effects_spec.proofs.Walks.{bodies_relate}
use Rattle.lucid_effects_spec.specs.declared.scheme.Scheme.{Scheme}
use Rattle.lucid_effects_spec.specs.Schemes as v
use Rattle.lucid_effects_spec.specs.Schemes.{Advance, Walked, begun, body_found, either, finds, scheme_of, schemes_of, through, visit}

-- ---- members of lists without repeats

in_joined : {A : Type 0} (same : A → A → Bool) (xs : List A) (y z : A) → Member z (joined same xs y) → Member z xs ⊎ (y ≡ z)
in_joined same xs y z = of (list_any (same y) xs)
  where
    of : (b : Bool) → Member z (if b then xs else xs ++ y ∷ []) → Member z xs ⊎ (y ≡ z)
    of true h = inl h
    of false h = last (member_split z xs (y ∷ []) h)
      where
        last : Member z xs ⊎ Member z (y ∷ []) → Member z xs ⊎ (y ≡ z)
        last (inl k) = inl k
        last (inr (inl e)) = inr e
        last (inr (inr k)) = absurd k

in_join_all : {A : Type 0} (same : A → A → Bool) (xs ys : List A) (z : A) → Member z (join_all same xs ys) → Member z xs ⊎ Member z ys
in_join_all same xs [] z h = inl h
in_join_all same xs (y ∷ ys) z h = of (in_join_all same (joined same xs y) ys z h)
  where
    old : Member z xs ⊎ (y ≡ z) → Member z xs ⊎ Member z (y ∷ ys)
    old (inl k) = inl k
    old (inr e) = inr (inl e)

    of : Member z (joined same xs y) ⊎ Member z ys → Member z xs ⊎ Member z (y ∷ ys)
    of (inl k) = old (in_joined same xs y z k)
    of (inr k) = inr (inr k)

in_ends : (names : List ArrayName) (start : List Atom) (a : Atom) (done xs : List Atom) → Member a (ends_from names start done xs) → Member a done ⊎ ((x : Atom) × Member x xs × Member a (atoms_at names start x))
in_ends names start a done [] h = inl h
in_ends names start a done (x ∷ xs) h = of (in_ends names start a (join_all same_atom done (atoms_at names start x)) xs h)
  where
    old : Member a done ⊎ Member a (atoms_at names start x) → Member a done ⊎ ((y : Atom) × Member y (x ∷ xs) × Member a (atoms_at names start y))
    old (inl k) = inl k
    old (inr k) = inr (x, inl refl, k)

    of : Member a (join_all same_atom done (atoms_at names start x)) ⊎ ((y : Atom) × Member y xs × Member a (atoms_at names start y)) → Member a done ⊎ ((y : Atom) × Member y (x ∷ xs) × Member a (atoms_at names start y))
    of (inl k) = old (in_join_all same_atom done (atoms_at names start x) a k)
    of (inr k) = inr (k.0, inr k.1, k.2)

in_needs : (names : List ArrayName) (start : List Atom) (n : Pair) (done ps : List Pair) → Member n (needs_from names start done ps) → Member n done ⊎ ((m : Pair) × Member m ps × Member n (pairs_at names start m))
in_needs names start n done [] h = inl h
in_needs names start n done (m ∷ ps) h = of (in_needs names start n (join_all same_pair done (pairs_at names start m)) ps h)
  where
    old : Member n done ⊎ Member n (pairs_at names start m) → Member n done ⊎ ((y : Pair) × Member y (m ∷ ps) × Member n (pairs_at names start y))
    old (inl k) = inl k
    old (inr k) = inr (m, inl refl, k)

    of : Member n (join_all same_pair done (pairs_at names start m)) ⊎ ((y : Pair) × Member y ps × Member n (pairs_at names start y)) → Member n done ⊎ ((y : Pair) × Member y (m ∷ ps) × Member n (pairs_at names start y))
    of (inl k) = old (in_join_all same_pair done (pairs_at names start m) n k)
    of (inr k) = inr (k.0, inr k.1, k.2)

-- ---- paths one after another

then_silent : (ps : List Path) → each_then ps ([] ∷ []) ≡ ps
then_silent [] = refl
then_silent (p ∷ ps) = ap₂ (λ (q : Path) (qs : List Path). q ∷ qs) (append-nil p) (then_silent ps)

then_append : (ps qs rs : List Path) → each_then (ps ++ qs) rs ≡ each_then ps rs ++ each_then qs rs
then_append [] qs rs = refl
then_append (p ∷ ps) qs rs = ap (λ (xs : List Path). map (λ r. p ++ r) rs ++ xs) (then_append ps qs rs) ∙ sym (append_assoc (map (λ r. p ++ r) rs) (each_then ps rs) (each_then qs rs))

map_twice : (p q : Path) (rs : List Path) → map (λ r. (p ++ q) ++ r) rs ≡ map (λ r. p ++ r) (map (λ r. q ++ r) rs)
map_twice p q [] = refl
map_twice p q (r ∷ rs) = ap₂ (λ (x : Path) (xs : List Path). x ∷ xs) (append_assoc p q r) (map_twice p q rs)

then_map : (p : Path) (qs rs : List Path) → each_then (map (λ q. p ++ q) qs) rs ≡ map (λ q. p ++ q) (each_then qs rs)
then_map p [] rs = refl
then_map p (q ∷ qs) rs = ap₂ (λ (xs ys : List Path). xs ++ ys) (map_twice p q rs) (then_map p qs rs) ∙ sym (map-append (λ x. p ++ x) (map (λ r. q ++ r) rs) (each_then qs rs))

then_then : (ps qs rs : List Path) → each_then (each_then ps qs) rs ≡ each_then ps (each_then qs rs)
then_then [] qs rs = refl
then_then (p ∷ ps) qs rs = then_append (map (λ q. p ++ q) qs) (each_then ps qs) rs ∙ ap₂ (λ (xs ys : List Path). xs ++ ys) (then_map p qs rs) (then_then ps qs rs)

-- ---- the meaning of ends and pairs

abbrev pub Into : List Path → List Path → Type 0
Into ps qs = (r : Path) → Member r ps → Member r qs

-- A path ends there.
abbrev pub EndsAt : Atom → List Path → Type 0
EndsAt Start ps = Member [] ps
EndsAt (After x) ps = (q : Path) × Member (q ++ x ∷ []) ps

-- A path calls the array there.
abbrev pub AskedAt : ArrayName → Atom → List Path → Type 0
AskedAt y Start ps = (q : Path) × Member (y ∷ q) ps
AskedAt y (After x) ps = (q : Path) × Member q ps × CallsThen x y q

abbrev pub Asked : Pair → List Path → Type 0
Asked n ps = AskedAt n.array n.atom ps

abbrev pub EndsOf : List Path → List Atom → Type 0
EndsOf ps xs = (a : Atom) → Member a xs → EndsAt a ps

abbrev pub SomePath : List Path → Type 0
SomePath ps = (q : Path) × Member q ps

some_then : (ps qs : List Path) → SomePath ps → SomePath qs → SomePath (each_then ps qs)
some_then ps qs h k = (h.0 ++ k.0, in_then h.0 k.0 ps qs h.1 k.1)

ends_into : (ps qs : List Path) → Into ps qs → (a : Atom) → EndsAt a ps → EndsAt a qs
ends_into ps qs i Start h = i [] h
ends_into ps qs i (After x) h = (h.0, i (h.0 ++ x ∷ []) h.1)

asked_into : (ps qs : List Path) → Into ps qs → (y : ArrayName) (a : Atom) → AskedAt y a ps → AskedAt y a qs
asked_into ps qs i y Start h = (h.0, i (y ∷ h.0) h.1)
asked_into ps qs i y (After x) h = (h.0, i h.0 h.1, h.2)

calls_before : (x y : ArrayName) (q r : Path) → CallsThen x y q → CallsThen x y (q ++ r)
calls_before x y q r h = record {
  before = h.before;
  between = h.between;
  after = h.after ++ r;
  is = ap (λ (p : Path). p ++ r) h.is ∙ append_assoc h.before (x ∷ (h.between ++ y ∷ h.after)) r ∙ ap (λ (p : Path). h.before ++ x ∷ p) (append_assoc h.between (y ∷ h.after) r);
}

calls_after : (x y : ArrayName) (p q : Path) → CallsThen x y q → CallsThen x y (p ++ q)
calls_after x y p q h = record { before = p ++ h.before; between = h.between; after = h.after; is = ap (λ (r : Path). p ++ r) h.is ∙ sym (append_assoc p h.before (x ∷ (h.between ++ y ∷ h.after))) }

-- The calls of a path are calls of each of its continuations.
asked_later : (ps qs : List Path) → SomePath qs → (y : ArrayName) (a : Atom) → AskedAt y a ps → AskedAt y a (each_then ps qs)
asked_later ps qs some y Start h = (h.0 ++ some.0, in_then (y ∷ h.0) some.0 ps qs h.1 some.1)
asked_later ps qs some y (After x) h = (h.0 ++ some.0, in_then h.0 some.0 ps qs h.1 some.1, calls_before x y h.0 some.0 h.2)

-- ---- the law

-- A walk's ends are ends of paths, and one of the paths needs each pair that it adds.
pub record Finds (walk : Walked → Walked) (qs : List Path) : Type 0 where
  pub some : SomePath qs
  pub ends : (ps : List Path) (w : Walked) → SomePath ps → EndsOf ps w.ends → EndsOf (each_then ps qs) (walk w).ends
  pub needs : (ps : List Path) (w : Walked) → SomePath ps → EndsOf ps w.ends → (n : Pair) → Member n (walk w).needs → Member n w.needs ⊎ Asked n (each_then ps qs)

-- A scheme is explained by the paths of its function.
pub record Explained (f : Scheme) (qs : List Path) : Type 0 where
  pub some : SomePath qs
  pub ends : EndsOf qs f.ends
  pub needs : (n : Pair) → Member n f.needs → Asked n qs

abbrev pub Explains : List Scheme → List (List Path) → Advance → Paths → Type 0
Explains fs gs act paths = Finds (act fs) (paths gs)

-- The finding of a walk that adds nothing.
silent : Finds (λ w. w) ([] ∷ [])
silent = record {
  some = ([], inl refl);
  ends = λ ps w some h. subst (λ (qs : List Path). EndsOf qs w.ends) (sym (then_silent ps)) h;
  needs = λ ps w some h n k. inl k;
}

visited : (f : Walked → Walked) (qs : List Path) → Finds f qs → Finds (λ w. f (visit w)) qs
visited f qs one = record {
  some = one.some;
  ends = λ ps w some k. one.ends ps (visit w) some k;
  needs = λ ps w some k n i. one.needs ps (visit w) some k n i;
}

in_turn : (f g : Walked → Walked) (F G : List Path) → Finds f F → Finds g G → Finds (λ w. g (f w)) (each_then F G)
in_turn f g F G one two = record {
  some = some_then F G one.some two.some;
  ends = λ ps w some e. subst (λ (qs : List Path). EndsOf qs (g (f w)).ends) (then_then ps F G) (two.ends (each_then ps F) (f w) (some_then ps F some one.some) (one.ends ps w some e));
  needs = λ ps w some e n i. of ps w some e n (two.needs (each_then ps F) (f w) (some_then ps F some one.some) (one.ends ps w some e) n i);
}
  where
    first : (ps : List Path) (w : Walked) (n : Pair) → Member n w.needs ⊎ Asked n (each_then ps F) → Member n w.needs ⊎ Asked n (each_then ps (each_then F G))
    first ps w n (inl a) = inl a
    first ps w n (inr a) = inr (subst (λ (qs : List Path). Asked n qs) (then_then ps F G) (asked_later (each_then ps F) G two.some n.array n.atom a))

    of : (ps : List Path) (w : Walked) → SomePath ps → EndsOf ps w.ends → (n : Pair) → Member n (f w).needs ⊎ Asked n (each_then (each_then ps F) G) → Member n w.needs ⊎ Asked n (each_then ps (each_then F G))
    of ps w some e n (inl i) = first ps w n (one.needs ps w some e n i)
    of ps w some e n (inr a) = inr (subst (λ (qs : List Path). Asked n qs) (then_then ps F G) a)

-- A call of an array after a path that ends at an atom.
asked_next : (ps : List Path) (a : Atom) (y : ArrayName) (q : Path) (qs : List Path) → Member (y ∷ q) qs → EndsAt a ps → AskedAt y a (each_then ps qs)
asked_next ps Start y q qs k h = (q, in_then [] (y ∷ q) ps qs h k)
asked_next ps (After x) y q qs k h = ((h.0 ++ x ∷ []) ++ y ∷ q, in_then (h.0 ++ x ∷ []) (y ∷ q) ps qs h.1 k, record { before = h.0; between = []; after = q; is = append_assoc h.0 (x ∷ []) (y ∷ q) })

array : (fs : List Scheme) (a : ArrayName) → Finds (v.passes a fs) ((a ∷ []) ∷ [])
array fs a = record {
  some = (a ∷ [], inl refl);
  ends = λ ps w some h b i. of ps some b i;
  needs = λ ps w some h n i. last ps w h n (in_join_all same_pair w.needs (map (pair a) w.ends) n i);
}
  where
    of : (ps : List Path) → SomePath ps → (b : Atom) → Member b (After a ∷ []) → EndsAt b (each_then ps ((a ∷ []) ∷ []))
    of ps some b (inl e) = subst (λ (c : Atom). EndsAt c (each_then ps ((a ∷ []) ∷ []))) e (some.0, in_then some.0 (a ∷ []) ps ((a ∷ []) ∷ []) some.1 (inl refl))
    of ps some b (inr k) = absurd k

    last : (ps : List Path) (w : Walked) → EndsOf ps w.ends → (n : Pair) → Member n w.needs ⊎ Member n (map (pair a) w.ends) → Member n w.needs ⊎ Asked n (each_then ps ((a ∷ []) ∷ []))
    last ps w h n (inl k) = inl k
    last ps w h n (inr k) =
        let m = of_map (pair a) n w.ends k in
        inr (subst (λ (r : Pair). Asked r (each_then ps ((a ∷ []) ∷ []))) m.2 (asked_next ps m.0 a [] ((a ∷ []) ∷ []) (inl refl) (h m.0 m.1)))

-- Paths of one branch are paths of the if.
then_left : (ps F G : List Path) → Into (each_then ps F) (each_then ps (F ++ G))
then_left [] F G r h = absurd h
then_left (p ∷ ps) F G r h = of (λ k. then_left ps F G r k) (member_split r (map (λ q. p ++ q) F) (each_then ps F) h)
  where
    of : (Member r (each_then ps F) → Member r (each_then ps (F ++ G))) → Member r (map (λ q. p ++ q) F) ⊎ Member r (each_then ps F) → Member r (map (λ q. p ++ q) (F ++ G) ++ each_then ps (F ++ G))
    of more (inl k) = member_left r (map (λ q. p ++ q) (F ++ G)) (each_then ps (F ++ G)) (subst (Member r) (sym (map-append (λ q. p ++ q) F G)) (member_left r (map (λ q. p ++ q) F) (map (λ q. p ++ q) G) k))
    of more (inr k) = member_right r (map (λ q. p ++ q) (F ++ G)) (each_then ps (F ++ G)) (more k)

then_right : (ps F G : List Path) → Into (each_then ps G) (each_then ps (F ++ G))
then_right [] F G r h = absurd h
then_right (p ∷ ps) F G r h = of (λ k. then_right ps F G r k) (member_split r (map (λ q. p ++ q) G) (each_then ps G) h)
  where
    of : (Member r (each_then ps G) → Member r (each_then ps (F ++ G))) → Member r (map (λ q. p ++ q) G) ⊎ Member r (each_then ps G) → Member r (map (λ q. p ++ q) (F ++ G) ++ each_then ps (F ++ G))
    of more (inl k) = member_left r (map (λ q. p ++ q) (F ++ G)) (each_then ps (F ++ G)) (subst (Member r) (sym (map-append (λ q. p ++ q) F G)) (member_right r (map (λ q. p ++ q) F) (map (λ q. p ++ q) G) k))
    of more (inr k) = member_right r (map (λ q. p ++ q) (F ++ G)) (each_then ps (F ++ G)) (more k)

branches : (fs : List Scheme) (f g : Advance) (F G : List Path) → Finds (f fs) F → Finds (g fs) G → Finds (either f g fs) (F ++ G)
branches fs f g F G one two = record {
  some = (one.some.0, member_left one.some.0 F G one.some.1);
  ends = λ ps w some e a i. ends ps w some e a (in_join_all same_atom (f fs w).ends (g fs (record (f fs w) { ends = w.ends })).ends a i);
  needs = λ ps w some e n i. needs ps w some e n (two.needs ps (record (f fs w) { ends = w.ends }) some e n i);
}
  where
    ends : (ps : List Path) (w : Walked) → SomePath ps → EndsOf ps w.ends → (a : Atom) → Member a (f fs w).ends ⊎ Member a (g fs (record (f fs w) { ends = w.ends })).ends → EndsAt a (each_then ps (F ++ G))
    ends ps w some e a (inl i) = ends_into (each_then ps F) (each_then ps (F ++ G)) (then_left ps F G) a (one.ends ps w some e a i)
    ends ps w some e a (inr i) = ends_into (each_then ps G) (each_then ps (F ++ G)) (then_right ps F G) a (two.ends ps (record (f fs w) { ends = w.ends }) some e a i)

    left : (ps : List Path) (w : Walked) (n : Pair) → Member n w.needs ⊎ Asked n (each_then ps F) → Member n w.needs ⊎ Asked n (each_then ps (F ++ G))
    left ps w n (inl i) = inl i
    left ps w n (inr a) = inr (asked_into (each_then ps F) (each_then ps (F ++ G)) (then_left ps F G) n.array n.atom a)

    needs : (ps : List Path) (w : Walked) → SomePath ps → EndsOf ps w.ends → (n : Pair) → Member n (f fs w).needs ⊎ Asked n (each_then ps G) → Member n w.needs ⊎ Asked n (each_then ps (F ++ G))
    needs ps w some e n (inl i) = left ps w n (one.needs ps w some e n i)
    needs ps w some e n (inr a) = inr (asked_into (each_then ps G) (each_then ps (F ++ G)) (then_right ps F G) n.array n.atom a)

-- ---- a call of a function

module _ (names : List ArrayName) where
  abbrev renamed : List Path → List Path
  renamed qs = map (map (name_at names)) qs

  calls_renamed : (x y : ArrayName) (q : Path) → CallsThen x y q → CallsThen (name_at names x) (name_at names y) (map (name_at names) q)
  calls_renamed x y q h = record {
    before = map (name_at names) h.before;
    between = map (name_at names) h.between;
    after = map (name_at names) h.after;
    is = ap (map (name_at names)) h.is ∙ map-append (name_at names) h.before (x ∷ (h.between ++ y ∷ h.after)) ∙ ap (λ (r : Path). map (name_at names) h.before ++ name_at names x ∷ r) (map-append (name_at names) h.between (y ∷ h.after));
  }

  ends_there : (ps qs : List Path) (start : List Atom) → SomePath ps → EndsOf ps start → (x a : Atom) → EndsAt x qs → Member a (atoms_at names start x) → EndsAt a (each_then ps (renamed qs))
  ends_there ps qs start some h Start a k i = of a (h a i)
    where
      of : (b : Atom) → EndsAt b ps → EndsAt b (each_then ps (renamed qs))
      of Start e = in_then [] [] ps (renamed qs) e (in_map (map (name_at names)) [] qs k)
      of (After z) e = (e.0, subst (λ (r : Path). Member r (each_then ps (renamed qs))) (append-nil (e.0 ++ z ∷ [])) (in_then (e.0 ++ z ∷ []) [] ps (renamed qs) e.1 (in_map (map (name_at names)) [] qs k)))
  ends_there ps qs start some h (After z) a k (inl e) =
      subst (λ (b : Atom). EndsAt b (each_then ps (renamed qs))) e (
        some.0 ++ map (name_at names) k.0,
        subst (λ (r : Path). Member r (each_then ps (renamed qs))) (ap (λ (r : Path). some.0 ++ r) (map-append (name_at names) k.0 (z ∷ [])) ∙ sym (append_assoc some.0 (map (name_at names) k.0) (name_at names z ∷ [])))
            (in_then some.0 (map (name_at names) (k.0 ++ z ∷ [])) ps (renamed qs) some.1 (in_map (map (name_at names)) (k.0 ++ z ∷ []) qs k.1)),
      )
  ends_there ps qs start some h (After z) a k (inr i) = absurd i

  asked_there : (ps qs : List Path) (start : List Atom) → SomePath ps → EndsOf ps start → (y : ArrayName) (x b : Atom) → AskedAt y x qs → Member b (atoms_at names start x) → AskedAt (name_at names y) b (each_then ps (renamed qs))
  asked_there ps qs start some h y Start b k i = asked_next ps b (name_at names y) (map (name_at names) k.0) (renamed qs) (in_map (map (name_at names)) (y ∷ k.0) qs k.1) (h b i)
  asked_there ps qs start some h y (After z) b k (inl e) =
      subst (λ (c : Atom). AskedAt (name_at names y) c (each_then ps (renamed qs))) e
      (some.0 ++ map (name_at names) k.0, in_then some.0 (map (name_at names) k.0) ps (renamed qs) some.1 (in_map (map (name_at names)) k.0 qs k.1), calls_after (name_at names z) (name_at names y) some.0 (map (name_at names) k.0) (calls_renamed z y k.0 k.2))
  asked_there ps qs start some h y (After z) b k (inr i) = absurd i

  through_finds : (f : Scheme) (qs : List Path) → Explained f qs → Finds (through (Some f) names) (renamed qs)
  through_finds f qs h = record {
    some = (map (name_at names) h.some.0, in_map (map (name_at names)) h.some.0 qs h.some.1);
    ends = λ ps w some e a i. ends ps w some e a (in_ends names w.ends a [] f.ends i);
    needs = λ ps w some e n i. needs ps w some e n (in_join_all same_pair w.needs (needs_from names w.ends [] f.needs) n i);
  }
    where
      ends : (ps : List Path) (w : Walked) → SomePath ps → EndsOf ps w.ends → (a : Atom) → Member a [] ⊎ ((x : Atom) × Member x f.ends × Member a (atoms_at names w.ends x)) → EndsAt a (each_then ps (renamed qs))
      ends ps w some e a (inl i) = absurd i
      ends ps w some e a (inr i) = ends_there ps qs w.ends some e i.0 a (h.ends i.0 i.1) i.2

      one : (ps : List Path) (w : Walked) → SomePath ps → EndsOf ps w.ends → (n : Pair) → Member n [] ⊎ ((m : Pair) × Member m f.needs × Member n (pairs_at names w.ends m)) → Asked n (each_then ps (renamed qs))
      one ps w some e n (inl i) = absurd i
      one ps w some e n (inr i) =
          let m = i.0 in
          let b = of_map (pair (name_at names m.array)) n (atoms_at names w.ends m.atom) i.2 in
          subst (λ (r : Pair). Asked r (each_then ps (renamed qs))) b.2 (asked_there ps qs w.ends some e m.array m.atom b.0 (h.needs m i.1) b.1)

      needs : (ps : List Path) (w : Walked) → SomePath ps → EndsOf ps w.ends → (n : Pair) → Member n w.needs ⊎ Member n (needs_from names w.ends [] f.needs) → Member n w.needs ⊎ Asked n (each_then ps (renamed qs))
      needs ps w some e n (inl i) = inl i
      needs ps w some e n (inr i) = inr (one ps w some e n (in_needs names w.ends n [] f.needs i))

found : (fs : List Scheme) (gs : List (List Path)) → Pairwise Explained fs gs → (k : ℕ) (names : List ArrayName) → Finds (through (slice_get fs k) names) (u.goes_through k names gs)
found [] [] h k names = silent
found [] (g ∷ gs) h k names = absurd h
found (f ∷ fs) [] h k names = absurd h
found (f ∷ fs) (g ∷ gs) h (suc k) names = found fs gs h.1 k names
found (f ∷ fs) (g ∷ gs) h zero names = through_finds names f g h.0

function : (fs : List Scheme) (gs : List (List Path)) → Pairwise Explained fs gs → (k : ℕ) (names : List ArrayName) → Finds (v.goes_through k names fs) (u.goes_through k names gs)
function fs gs h k names = visited (through (slice_get fs k) names) (u.goes_through k names gs) (found fs gs h k names)

body_finds : (fs : List Scheme) (gs : List (List Path)) → Pairwise Explained fs gs → (body : List Stmt) → Explains fs gs (body_found body) (body_paths body)
body_finds fs gs h = bodies_relate finds all_paths (Explains fs gs) silent (λ f g F G one two. in_turn (f fs) (g fs) (F gs) (G gs) one two) (λ f g F G one two. branches fs f g (F gs) (G gs) one two)
    (array fs) (λ k names. function fs gs h k names) (λ f F one. visited (f fs) (F gs) one)

body_explained : (fs : List Scheme) (gs : List (List Path)) → Pairwise Explained fs gs → (body : List Stmt) → Explained (scheme_of fs body) (body_paths body gs)
body_explained fs gs h body = record {
  some = found.some;
  ends = λ a i. subst (λ (qs : List Path). EndsAt a qs) (from_start (body_paths body gs)) (found.ends ([] ∷ []) (begun 0) ([], inl refl) starts a i);
  needs = λ n i. of n (found.needs ([] ∷ []) (begun 0) ([], inl refl) starts n i);
}
  where
    found : Finds (body_found body fs) (body_paths body gs)
    found = body_finds fs gs h body

    from_start : (qs : List Path) → each_then ([] ∷ []) qs ≡ qs
    from_start qs = append-nil (map (λ (q : Path). q) qs) ∙ same qs
      where
        same : (xs : List Path) → map (λ (q : Path). q) xs ≡ xs
        same [] = refl
        same (x ∷ xs) = ap (λ (ys : List Path). x ∷ ys) (same xs)

    starts : EndsOf ([] ∷ []) (Start ∷ [])
    starts a (inl e) = subst (λ (b : Atom). EndsAt b ([] ∷ [])) e (inl refl)
    starts a (inr i) = absurd i

    of : (n : Pair) → Member n [] ⊎ Asked n (each_then ([] ∷ []) (body_paths body gs)) → Asked n (body_paths body gs)
    of n (inl i) = absurd i
    of n (inr a) = subst (λ (qs : List Path). Asked n qs) (from_start (body_paths body gs)) a

-- Of functions, each behind those before it.
funs_explained : (fs : List Scheme) (gs : List (List Path)) (funs : List FunDef) → Pairwise Explained fs gs →
    Pairwise Explained (fold (λ before f. before ++ scheme_of before f.body ∷ []) fs funs) (fold (λ before f. before ++ body_paths f.body before ∷ []) gs funs)
funs_explained fs gs [] h = h
funs_explained fs gs (f ∷ funs) h =
    funs_explained (fs ++ scheme_of fs f.body ∷ []) (gs ++ body_paths f.body gs ∷ []) funs (one_more Explained fs gs (scheme_of fs f.body) (body_paths f.body gs) h (body_explained fs gs h f.body))

pub explained : (funs : List FunDef) (body : List Stmt) → Explained (scheme_of (schemes_of funs) body) (paths funs body)
explained funs body = body_explained (schemes_of funs) (paths_of funs) (funs_explained [] [] funs tt) body
