-- The locals that the inlined calls of a body name, part by part.
use Rattle.std.proofs.Common.{◌≡◌, ◌⊎◌, inl, inr, ℕ, ◌+◌, ◌<◌, ◌≤◌, List, [], ◌∷◌, ◌++◌, true, ◌&&◌, refl, sym, subst, ◌∙◌, arith, nat_eq, nat_le}
use Rattle.std.specs.List.{list_all}
use Rattle.std.proofs.lemmas.Bool.{and_from, cases_lt, eq-eqb, le-leb}
use Rattle.lucid_core.specs.Numbers.{are_in}
use Rattle.lucid_core.specs.Uses.{Uses, Inlining, all_keep_to_themselves, assigning, inlining, keeps_to_itself, named, times_in}
use Rattle.lucid_core_laws.proofs.Times.{is_in-from, times-append, times-cons, times-none, times-one}
use Rattle.lucid_core_laws.specs.InlinedNodes.{AllKeepToThemselves, InlinedNodes, Outside, Owns, count_of, joined, nothing_named}

-- Every number in `names` that occurs there is in `known`.
are_in-from : (known xs : List ℕ) → ((x : ℕ) → 0 < times_in xs x → 0 < times_in known x) → are_in known xs ≡ true
are_in-from known [] h = refl
are_in-from known (y ∷ ys) h = and_from _ _
    (is_in-from known y (h y (let e = times-one y ys y refl in omega arith)))
    (are_in-from known ys (λ x k. h x (let e = times-cons y ys x in omega arith)))

pub keep_both : (lo hi : ℕ) (count : ℕ → ℕ) (is js : List Inlining) → AllKeepToThemselves lo hi count is → AllKeepToThemselves lo hi count js → AllKeepToThemselves lo hi count (is ++ js)
keep_both lo hi count [] js h k = k
keep_both lo hi count (i ∷ is) js h k = (h.0, keep_both lo hi count is js h.1 k)

-- In a wider range, if the counts there are the same.
pub keep_wider : (lo hi lo2 hi2 : ℕ) (count count2 : ℕ → ℕ) (is : List Inlining) → lo2 ≤ lo → hi ≤ hi2 → ((a : ℕ) → lo ≤ a → a < hi → count2 a ≡ count a) → AllKeepToThemselves lo hi count is → AllKeepToThemselves lo2 hi2 count2 is
keep_wider lo hi lo2 hi2 count count2 [] l h e k = tt
keep_wider lo hi lo2 hi2 count count2 (i ∷ is) l h e k = (
  record {
    within = λ a there. let w = k.0.within a there in (omega arith, omega arith);
    as_often = λ a there. let w = k.0.within a there in e a w.0 w.1 ∙ k.0.as_often a there;
    reads = k.0.reads;
  },
  keep_wider lo hi lo2 hi2 count count2 is l h e k.1,
)

owns_nothing : (b n lo : ℕ) → Owns b n lo lo nothing_named
owns_nothing b n lo = record { rises = omega arith; reads = λ x o. refl; assigns = λ x o. refl; covers = λ x l h. absurd (omega arith); kept = tt }

pub count_joined : (u v : Uses) (x : ℕ) → count_of (joined u v) x ≡ count_of u x + count_of v x
count_joined u v x =
    let e1 = times-append (u.reads ++ v.reads) (u.assigns ++ v.assigns) x in
    let e2 = times-append u.reads v.reads x in
    let e3 = times-append u.assigns v.assigns x in
    let e4 = times-append u.reads u.assigns x in
    let e5 = times-append v.reads v.assigns x in
    omega arith

not_named : (b n lo hi : ℕ) (u : Uses) → Owns b n lo hi u → (x : ℕ) → Outside b n lo hi x → count_of u x ≡ 0
not_named b n lo hi u k x o = let e = times-append u.reads u.assigns x in let r = k.reads x o in let a = k.assigns x o in omega arith

owns_both : (b n lo mid hi : ℕ) (u v : Uses) → b + n ≤ lo → Owns b n lo mid u → Owns b n mid hi v → Owns b n lo hi (joined u v)
owns_both b n lo mid hi u v bound k1 k2 =
    let r1 = k1.rises in
    let r2 = k2.rises in record {
      rises = omega arith;
      reads = λ x o. let e = times-append u.reads v.reads x in let p = k1.reads x (first x o) in let q = k2.reads x (second x o) in omega arith;
      assigns = λ x o. let e = times-append u.assigns v.assigns x in let p = k1.assigns x (first x o) in let q = k2.assigns x (second x o) in omega arith;
      covers = λ x l h. let e = times-append u.assigns v.assigns x in which x l h e (cases_lt x mid);
      kept = keep_both lo hi (count_of (joined u v)) u.inlined v.inlined
          (keep_wider lo mid lo hi (count_of u) (count_of (joined u v)) u.inlined (omega arith) (omega arith)
          (λ a l h. let e = count_joined u v a in let z = not_named b n mid hi v k2 a (inr (omega arith), inl h) in omega arith) k1.kept)
          (keep_wider mid hi lo hi (count_of v) (count_of (joined u v)) v.inlined (omega arith) (omega arith)
          (λ a l h. let e = count_joined u v a in let z = not_named b n lo mid u k1 a (inr (omega arith), inr l) in omega arith) k2.kept);
    }
  where
    first : (x : ℕ) → Outside b n lo hi x → Outside b n lo mid x
    first x o = (o.0, here o.1)
      where
        here : (x < lo) ⊎ (hi ≤ x) → (x < lo) ⊎ (mid ≤ x)
        here (inl l) = inl l
        here (inr h) = inr (let r = k2.rises in omega arith)

    second : (x : ℕ) → Outside b n lo hi x → Outside b n mid hi x
    second x o = (o.0, here o.1)
      where
        here : (x < lo) ⊎ (hi ≤ x) → (x < mid) ⊎ (hi ≤ x)
        here (inl l) = inl (let r = k1.rises in omega arith)
        here (inr h) = inr h

    which : (x : ℕ) → lo ≤ x → x < hi → times_in (u.assigns ++ v.assigns) x ≡ times_in u.assigns x + times_in v.assigns x → (x < mid) ⊎ (mid ≤ x) → 0 < times_in (u.assigns ++ v.assigns) x
    which x l h e (inl m) = let c = k1.covers x l m in omega arith
    which x l h e (inr m) = let c = k2.covers x m h in omega arith

-- A local of the body is read.
owns_read : (b n lo i : ℕ) → i < n → Owns b n lo lo (record { reads = (b + i) ∷ []; assigns = []; inlined = [] })
owns_read b n lo i h = record {
  rises = omega arith;
  reads = λ x o. times-none (b + i) [] x (λ e. outside x e o.0);
  assigns = λ x o. refl;
  covers = λ x l k. absurd (omega arith);
  kept = tt;
}
  where
    outside : (x : ℕ) → x ≡ b + i → (x < b) ⊎ (b + n ≤ x) → ⊥
    outside x e (inl l) = omega arith
    outside x e (inr l) = omega arith

-- A local of the body is assigned.
owns_assign : (b n lo hi i : ℕ) (u : Uses) → i < n → b + n ≤ lo → Owns b n lo hi u → Owns b n lo hi (assigning ((b + i) ∷ []) u)
owns_assign b n lo hi i u h bound k = record {
  rises = k.rises;
  reads = k.reads;
  assigns = λ x o. times-none (b + i) u.assigns x (λ e. outside x e o.0) ∙ k.assigns x o;
  covers = λ x l m. let c = k.covers x l m in let e = times-cons (b + i) u.assigns x in omega arith;
  kept = keep_wider lo hi lo hi (count_of u) (count_of (assigning ((b + i) ∷ []) u)) u.inlined (omega arith) (omega arith)
      (λ a l m. let e1 = times-append u.reads ((b + i) ∷ u.assigns) a in let e2 = times-append u.reads u.assigns a in let e3 = times-none (b + i) u.assigns a (λ e. absurd (omega arith)) in omega arith) k.kept;
}
  where
    outside : (x : ℕ) → x ≡ b + i → (x < b) ⊎ (b + n ≤ x) → ⊥
    outside x e (inl l) = omega arith
    outside x e (inr l) = omega arith

-- An inlined call: its parameters and its statements name only locals from mid on, and assign all of them.
owns_inlined : (b n lo mid own hi : ℕ) (args body : Uses) (params : List ℕ) → b + n ≤ lo → Owns b n lo mid args → Owns mid own (mid + own) hi body →
    ((x : ℕ) → (x < mid) ⊎ (mid + own ≤ x) → times_in params x ≡ 0) → ((x : ℕ) → mid ≤ x → x < mid + own → 0 < times_in params x + times_in body.assigns x) →
    Owns b n lo hi (inlining args (assigning params body))
owns_inlined b n lo mid own hi args body params bound k1 k2 none some =
    let r1 = k1.rises in
    let r2 = k2.rises in record {
      rises = omega arith;
      reads = λ x o. let e = times-append args.reads body.reads x in let p = k1.reads x (first x o) in let q = k2.reads x (second x o) in omega arith;
      assigns = λ x o. let e = times-append args.assigns (params ++ body.assigns) x in let e2 = times-append params body.assigns x in
          let p = k1.assigns x (first x o) in let q = k2.assigns x (second x o) in let z = none x (third x o) in omega arith;
      covers = λ x l h. let e = times-append args.assigns (params ++ body.assigns) x in let e2 = times-append params body.assigns x in which x l h e e2 (cases_lt x mid);
      kept = (
        record {
          within = λ a h. inside a h (cases_lt a mid) (cases_lt a hi);
          as_often = λ a h. whole a (from_mid a h (cases_lt a mid));
          reads = are_in-from (params ++ body.assigns) body.reads (λ x h. read x h (cases_lt x mid) (cases_lt x hi));
        },
        keep_both lo hi (count_of (inlining args (assigning params body))) args.inlined body.inlined
            (keep_wider lo mid lo hi (count_of args) (count_of (inlining args (assigning params body))) args.inlined (omega arith) (omega arith)
            (λ a l h. let e = sums a in let z = not_named mid own (mid + own) hi body k2 a (inl h, inl (omega arith)) in let z2 = none a (inl h) in omega arith) k1.kept)
            (keep_wider (mid + own) hi lo hi (count_of body) (count_of (inlining args (assigning params body))) body.inlined (omega arith) (omega arith)
            (λ a l h. let e = sums a in let z = not_named b n lo mid args k1 a (inr (omega arith), inr (omega arith)) in let z2 = none a (inr l) in omega arith) k2.kept),
      );
    }
  where
    sums : (a : ℕ) → count_of (inlining args (assigning params body)) a ≡ count_of args a + times_in params a + count_of body a
    sums a =
        let e1 = times-append (args.reads ++ body.reads) (args.assigns ++ (params ++ body.assigns)) a in
        let e2 = times-append args.reads body.reads a in
        let e3 = times-append args.assigns (params ++ body.assigns) a in
        let e4 = times-append params body.assigns a in
        let e5 = times-append args.reads args.assigns a in
        let e6 = times-append body.reads body.assigns a in
        omega arith

    from_mid : (a : ℕ) → 0 < times_in (params ++ body.assigns) a → (a < mid) ⊎ (mid ≤ a) → mid ≤ a
    from_mid a h (inl m) = absurd (let e = times-append params body.assigns a in let z = none a (inl m) in let q = k2.assigns a (inl m, inl (omega arith)) in omega arith)
    from_mid a h (inr m) = m

    whole : (a : ℕ) → mid ≤ a → count_of (inlining args (assigning params body)) a ≡ times_in (named (assigning params body)) a
    whole a m =
        let e = sums a in
        let r = k1.rises in
        let z = not_named b n lo mid args k1 a (inr (omega arith), inr m) in
        let e2 = times-append body.reads (params ++ body.assigns) a in
        let e4 = times-append params body.assigns a in
        let e6 = times-append body.reads body.assigns a in
        omega arith

    first : (x : ℕ) → Outside b n lo hi x → Outside b n lo mid x
    first x o = (o.0, here o.1)
      where
        here : (x < lo) ⊎ (hi ≤ x) → (x < lo) ⊎ (mid ≤ x)
        here (inl l) = inl l
        here (inr h) = inr (let r = k2.rises in omega arith)

    second : (x : ℕ) → Outside b n lo hi x → Outside mid own (mid + own) hi x
    second x o = here o.1
      where
        here : (x < lo) ⊎ (hi ≤ x) → Outside mid own (mid + own) hi x
        here (inl l) = let r = k1.rises in (inl (omega arith), inl (omega arith))
        here (inr h) = let r = k2.rises in (inr (omega arith), inr h)

    third : (x : ℕ) → Outside b n lo hi x → (x < mid) ⊎ (mid + own ≤ x)
    third x o = here o.1
      where
        here : (x < lo) ⊎ (hi ≤ x) → (x < mid) ⊎ (mid + own ≤ x)
        here (inl l) = let r = k1.rises in inl (omega arith)
        here (inr h) = let r = k2.rises in inr (omega arith)

    later : (x : ℕ) → mid ≤ x → x < hi → (x < mid + own) ⊎ (mid + own ≤ x) → 0 < times_in params x + times_in body.assigns x
    later x l h (inl m) = some x l m
    later x l h (inr m) = let c = k2.covers x m h in omega arith

    which : (x : ℕ) → lo ≤ x → x < hi → times_in (args.assigns ++ (params ++ body.assigns)) x ≡ times_in args.assigns x + times_in (params ++ body.assigns) x →
        times_in (params ++ body.assigns) x ≡ times_in params x + times_in body.assigns x → (x < mid) ⊎ (mid ≤ x) → 0 < times_in (args.assigns ++ (params ++ body.assigns)) x
    which x l h e e2 (inl m) = let c = k1.covers x l m in omega arith
    which x l h e e2 (inr m) = let c = later x m h (cases_lt x (mid + own)) in omega arith

    inside : (a : ℕ) → 0 < times_in (params ++ body.assigns) a → (a < mid) ⊎ (mid ≤ a) → (a < hi) ⊎ (hi ≤ a) → (lo ≤ a) × (a < hi)
    inside a h (inl m) t = absurd (let e = times-append params body.assigns a in let z = none a (inl m) in let q = k2.assigns a (inl m, inl (omega arith)) in omega arith)
    inside a h (inr m) (inl t) = let r = k1.rises in (omega arith, t)
    inside a h (inr m) (inr t) = absurd (let r = k2.rises in let e = times-append params body.assigns a in let z = none a (inr (omega arith)) in let q = k2.assigns a (inr (omega arith), inr t) in omega arith)

    read : (x : ℕ) → 0 < times_in body.reads x → (x < mid) ⊎ (mid ≤ x) → (x < hi) ⊎ (hi ≤ x) → 0 < times_in (params ++ body.assigns) x
    read x h (inl m) t = absurd (let q = k2.reads x (inl m, inl (omega arith)) in omega arith)
    read x h (inr m) (inl t) = let e = times-append params body.assigns x in let c = later x m t (cases_lt x (mid + own)) in omega arith
    read x h (inr m) (inr t) = absurd (let r = k2.rises in let q = k2.reads x (inr (omega arith), inr t) in omega arith)

whole_body : (params b n lo hi : ℕ) (u : Uses) → params ≤ lo → Owns b n lo hi u → all_keep_to_themselves params u ≡ true
whole_body params b n lo hi u bound k = each u.inlined k.kept
  where
    often : (i : Inlining) (xs : List ℕ) → ((a : ℕ) → 0 < times_in xs a → (lo ≤ a) × (count_of u a ≡ times_in i.names a)) →
        list_all (λ a. nat_le params a && nat_eq (times_in (named u) a) (times_in i.names a)) xs ≡ true
    often i [] h = refl
    often i (x ∷ xs) h =
        let there = h x (let e = times-one x xs x refl in omega arith) in
        let low = there.0 in
        and_from _ _ (and_from _ _ (le-leb params x (omega arith)) (eq-eqb _ _ there.1)) (often i xs (λ a l. h a (let e = times-cons x xs a in omega arith)))

    each : (is : List Inlining) → AllKeepToThemselves lo hi (count_of u) is → list_all (keeps_to_itself params (named u)) is ≡ true
    each [] h = refl
    each (i ∷ is) h = and_from _ _ (and_from _ _ (often i i.assigns (λ a l. ((h.0.within a l).0, h.0.as_often a l))) h.0.reads) (each is h.1)

-- As often named is as well kept: only how often a local is read and assigned counts.
owns_same : (b n lo hi : ℕ) (u v : Uses) → ((x : ℕ) → times_in v.reads x ≡ times_in u.reads x) → ((x : ℕ) → times_in v.assigns x ≡ times_in u.assigns x) → v.inlined ≡ u.inlined → Owns b n lo hi u → Owns b n lo hi v
owns_same b n lo hi u v reads assigns inlined k = record {
  rises = k.rises;
  reads = λ x o. reads x ∙ k.reads x o;
  assigns = λ x o. assigns x ∙ k.assigns x o;
  covers = λ x l h. let c = k.covers x l h in let e = assigns x in omega arith;
  kept = subst (λ (is : List Inlining). AllKeepToThemselves lo hi (count_of v) is) (sym inlined)
      (keep_wider lo hi lo hi (count_of u) (count_of v) u.inlined (omega arith) (omega arith)
      (λ a l h. let e1 = times-append v.reads v.assigns a in let e2 = times-append u.reads u.assigns a in let e3 = reads a in let e4 = assigns a in omega arith) k.kept);
}

pub inlined_nodes : InlinedNodes
inlined_nodes = record { nothing = owns_nothing; both = owns_both; read = owns_read; assign = owns_assign; inlined = owns_inlined; same = owns_same; body = whole_body }
