-- Which locals the flat form of a part names, and that it assigns those that it adds: part by part.
use Rattle.std.proofs.Common.{◌≡◌, ◌⊎◌, inl, inr, ℕ, zero, suc, ◌+◌, ◌<◌, ◌≤◌, List, [], ◌∷◌, ◌++◌, Bool, true, false, length, map, refl, sym, ap, ap₂, subst, ◌∙◌, arith, append-nil, append_assoc}
use Rattle.std.specs.List.{enumerate_from, flat_map}
use Rattle.std.proofs.lemmas.Bool.{cases_lt}
use Rattle.std.proofs.lemmas.List.Concat.{flat_map-append}
use Rattle.lucid_base.specs.Bits.{bits_of}
use Rattle.lucid_core.specs.declared.body.Expr.{Expr}
use Rattle.lucid_core.specs.declared.body.Stmt.{Stmt}
use Rattle.lucid_core.specs.declared.body.Touch.{Touch}
use Rattle.lucid_core.specs.declared.body.Expr.TheOpen.{Expr-F, Stmt-F}
use Rattle.lucid_core.specs.declared.body.Expr.TheViews.{roll-Expr, roll-Stmt}
use Rattle.lucid_core.specs.declared.body.Expr.TheFolds.{fold-roll-Expr, fold-roll-Stmt, map-Expr, map-Stmt}
use Rattle.lucid_core.specs.ExamplePrograms.{local}
use Rattle.lucid_core.specs.Uses as u
use Rattle.lucid_core.specs.Uses.{Inlining, Uses, all_uses, assigning, body_uses, expr_uses, inlining, named, stmt_uses, times_in, touch_uses}
use Rattle.lucid_core_laws.specs.InlinedNodes.{AllKeepToThemselves, Owns, count_of, joined, nothing_named}
use Rattle.lucid_inline_spec.specs.Flat.{locals_from, to_member}
use Rattle.lucid_inline_spec.proofs.Numbered.{numbers_of}
use Rattle.lucid_core_laws.proofs.Owning.{count_joined, keep_both, keep_wider}
use Rattle.lucid_core_laws.proofs.Times.{times-append, times-cons, times-none}
use Rattle.lucid_inline_spec.proofs.Times.{numbers_above, numbers_below, numbers_there}

-- ---- the uses of lists

pub uses_append : (xs ys : List Uses) → all_uses (xs ++ ys) ≡ joined (all_uses xs) (all_uses ys)
uses_append xs ys =
    ap (λ (q : List ℕ). record { reads = q; assigns = flat_map (λ (v : Uses). v.assigns) (xs ++ ys); inlined = flat_map (λ (v : Uses). v.inlined) (xs ++ ys) }) (flat_map-append (λ (v : Uses). v.reads) xs ys)
    ∙ ap (λ (q : List ℕ). record { reads = (joined (all_uses xs) (all_uses ys)).reads; assigns = q; inlined = flat_map (λ (v : Uses). v.inlined) (xs ++ ys) }) (flat_map-append (λ (v : Uses). v.assigns) xs ys)
    ∙ ap (λ (q : List Inlining). record { reads = (joined (all_uses xs) (all_uses ys)).reads; assigns = (joined (all_uses xs) (all_uses ys)).assigns; inlined = q }) (flat_map-append (λ (v : Uses). v.inlined) xs ys)

pub joined-assoc : (x y z : Uses) → joined (joined x y) z ≡ joined x (joined y z)
joined-assoc x y z =
    ap (λ (q : List ℕ). record { reads = q; assigns = (x.assigns ++ y.assigns) ++ z.assigns; inlined = (x.inlined ++ y.inlined) ++ z.inlined }) (append_assoc x.reads y.reads z.reads)
    ∙ ap (λ (q : List ℕ). record { reads = x.reads ++ (y.reads ++ z.reads); assigns = q; inlined = (x.inlined ++ y.inlined) ++ z.inlined }) (append_assoc x.assigns y.assigns z.assigns)
    ∙ ap (λ (q : List Inlining). record { reads = x.reads ++ (y.reads ++ z.reads); assigns = x.assigns ++ (y.assigns ++ z.assigns); inlined = q }) (append_assoc x.inlined y.inlined z.inlined)

pub uses_one : (x : Uses) → all_uses (x ∷ []) ≡ x
uses_one x =
    ap (λ (q : List ℕ). record { reads = q; assigns = x.assigns ++ []; inlined = x.inlined ++ [] }) (append-nil x.reads)
    ∙ ap (λ (q : List ℕ). record { reads = x.reads; assigns = q; inlined = x.inlined ++ [] }) (append-nil x.assigns)
    ∙ ap (λ (q : List Inlining). record { reads = x.reads; assigns = x.assigns; inlined = q }) (append-nil x.inlined)

-- ---- calls that keep to themselves

keep_parts : (lo hi : ℕ) (count : ℕ → ℕ) (is js : List Inlining) → AllKeepToThemselves lo hi count (is ++ js) → AllKeepToThemselves lo hi count is × AllKeepToThemselves lo hi count js
keep_parts lo hi count [] js h = (tt, h)
keep_parts lo hi count (i ∷ is) js h = let rest = keep_parts lo hi count is js h.1 in ((h.0, rest.0), rest.1)

-- The order of two parts is no matter.
pub owns_turned : (b n lo hi : ℕ) (x y : Uses) → Owns b n lo hi (joined x y) → Owns b n lo hi (joined y x)
owns_turned b n lo hi x y k = record {
  rises = k.rises;
  reads = λ a o. let e1 = times-append x.reads y.reads a in let e2 = times-append y.reads x.reads a in let z = k.reads a o in omega arith;
  assigns = λ a o. let e1 = times-append x.assigns y.assigns a in let e2 = times-append y.assigns x.assigns a in let z = k.assigns a o in omega arith;
  covers = λ a l h. let e1 = times-append x.assigns y.assigns a in let e2 = times-append y.assigns x.assigns a in let z = k.covers a l h in omega arith;
  kept =
      let parts = keep_parts lo hi (count_of (joined x y)) x.inlined y.inlined k.kept in
      keep_wider lo hi lo hi (count_of (joined x y)) (count_of (joined y x)) (y.inlined ++ x.inlined) (omega arith) (omega arith) (λ a l h. let e1 = count_joined x y a in let e2 = count_joined y x a in omega arith)
      (keep_both lo hi (count_of (joined x y)) y.inlined x.inlined parts.1 parts.0);
}

-- ---- a group

pub expr_at : (y : Expr-F Expr Stmt Touch) → expr_uses (roll-Expr y) ≡ u.expr_step (map-Expr Expr Stmt Touch Uses Uses Uses expr_uses stmt_uses touch_uses y)
expr_at y = fold-roll-Expr Uses Uses Uses u.expr_step u.stmt_step u.touch_step y

abbrev pub node_uses : Stmt-F Expr Stmt Touch → Uses
node_uses y = u.stmt_step (map-Stmt Expr Stmt Touch Uses Uses Uses expr_uses stmt_uses touch_uses y)

abbrev pub uses_of_nodes : List (Stmt-F Expr Stmt Touch) → Uses
uses_of_nodes ys = all_uses (map node_uses ys)

pub stmts_at : (ys : List (Stmt-F Expr Stmt Touch)) → map stmt_uses (map roll-Stmt ys) ≡ map node_uses ys
stmts_at [] = refl
stmts_at (y ∷ ys) = ap₂ (λ (c : Uses) (cs : List Uses). c ∷ cs) (fold-roll-Stmt Uses Uses Uses u.expr_step u.stmt_step u.touch_step y) (stmts_at ys)

abbrev pub exprs_uses : List Expr → Uses
exprs_uses xs = all_uses (map expr_uses xs)

abbrev pub assigns : ℕ → List Expr → List (Stmt-F Expr Stmt Touch)
assigns b xs = map (λ (g : ℕ × Expr). Stmt-F.Assign g.0 g.1) (enumerate_from b xs)

held_reads : (b : ℕ) (xs : List Expr) → (uses_of_nodes (assigns b xs)).reads ≡ (exprs_uses xs).reads
held_reads b [] = refl
held_reads b (x ∷ xs) = ap (λ (q : List ℕ). (expr_uses x).reads ++ q) (held_reads (b + 1) xs)

held_inlined : (b : ℕ) (xs : List Expr) → (uses_of_nodes (assigns b xs)).inlined ≡ (exprs_uses xs).inlined
held_inlined b [] = refl
held_inlined b (x ∷ xs) = ap (λ (q : List Inlining). (expr_uses x).inlined ++ q) (held_inlined (b + 1) xs)

pub held_assigns : (b : ℕ) (xs : List Expr) (a : ℕ) → times_in (uses_of_nodes (assigns b xs)).assigns a ≡ times_in (numbers_of b xs) a + times_in (exprs_uses xs).assigns a
held_assigns b [] a = refl
held_assigns b (x ∷ xs) a =
    let e1 = times-append (b ∷ (expr_uses x).assigns) (uses_of_nodes (assigns (b + 1) xs)).assigns a in
    let e2 = times-cons b (expr_uses x).assigns a in
    let e3 = times-cons b (numbers_of (b + 1) xs) a in
    let e4 = times-append (expr_uses x).assigns (exprs_uses xs).assigns a in
    let e5 = held_assigns (b + 1) xs a in
    omega arith

-- A part that reads none but the numbers from b to hi, and assigns none.
pub record Reads (b hi : ℕ) (x : Uses) : Type 0 where
  pub reads : (a : ℕ) → (a < b) ⊎ (hi ≤ a) → times_in x.reads a ≡ 0
  pub assigns : x.assigns ≡ []
  pub inlined : x.inlined ≡ []

reads_both : (b hi : ℕ) (x y : Uses) → Reads b hi x → Reads b hi y → Reads b hi (joined x y)
reads_both b hi x y h k = record {
  reads = λ a o. let e = times-append x.reads y.reads a in let z = h.reads a o in let w = k.reads a o in omega arith;
  assigns = ap₂ (λ (p q : List ℕ). p ++ q) h.assigns k.assigns;
  inlined = ap₂ (λ (p q : List Inlining). p ++ q) h.inlined k.inlined;
}

reads_none : (b hi : ℕ) → Reads b hi nothing_named
reads_none b hi = record { reads = λ a o. refl; assigns = refl; inlined = refl }

reads_one : (b hi i : ℕ) → b ≤ i → i < hi → Reads b hi (expr_uses (local i))
reads_one b hi i l h = subst (Reads b hi) (sym (expr_at (Expr-F.Local i))) (record { reads = λ a o. times-none i [] a (λ e. other a e o); assigns = refl; inlined = refl })
  where
    other : (a : ℕ) → a ≡ i → (a < b) ⊎ (hi ≤ a) → ⊥
    other a e (inl q) = omega arith
    other a e (inr q) = omega arith

reads_fixed : (b hi m : ℕ) → Reads b hi (expr_uses (roll-Expr (Expr-F.Fixed (bits_of 32 m))))
reads_fixed b hi m = subst (Reads b hi) (sym (expr_at (Expr-F.Fixed (bits_of 32 m)))) (reads_none b hi)

reads_locals : (n b hi lo : ℕ) → lo ≤ b → b + n ≤ hi → Reads lo hi (exprs_uses (locals_from b n))
reads_locals zero b hi lo l h = reads_none lo hi
reads_locals (suc n) b hi lo l h = reads_both lo hi (expr_uses (local b)) (exprs_uses (locals_from (b + 1) n)) (reads_one lo hi b l (omega arith)) (reads_locals n (b + 1) hi lo (omega arith) (omega arith))

member_reads : (event b n hi : ℕ) (delayed : Bool) (m : ℕ) → b + n ≤ hi → (delayed ≡ true → b + n < hi) → Reads b hi (node_uses (to_member event b n delayed m))
member_reads event b n hi true m h k =
    let fixed = roll-Expr (Expr-F.Fixed (bits_of 32 m)) in
    subst (Reads b hi) (sym (uses_append (map expr_uses (locals_from b n) ++ expr_uses (local (b + n)) ∷ []) (expr_uses fixed ∷ [])))
    (reads_both b hi _ _ (subst (Reads b hi) (sym (uses_append (map expr_uses (locals_from b n)) (expr_uses (local (b + n)) ∷ [])))
    (reads_both b hi _ _ (reads_locals n b hi b (omega arith) h) (reads_both b hi _ _ (reads_one b hi (b + n) (omega arith) (k refl)) (reads_none b hi))))
    (reads_both b hi _ _ (reads_fixed b hi m) (reads_none b hi)))
member_reads event b n hi false m h k =
    let fixed = roll-Expr (Expr-F.Fixed (bits_of 32 m)) in
    subst (Reads b hi) (sym (uses_append (map expr_uses (locals_from b n) ++ []) (expr_uses fixed ∷ [])))
    (reads_both b hi _ _ (subst (Reads b hi) (sym (uses_append (map expr_uses (locals_from b n)) [])) (reads_both b hi _ _ (reads_locals n b hi b (omega arith) h) (reads_none b hi)))
    (reads_both b hi _ _ (reads_fixed b hi m) (reads_none b hi)))

pub members_read : (event b n hi : ℕ) (delayed : Bool) (members : List ℕ) → b + n ≤ hi → (delayed ≡ true → b + n < hi) → Reads b hi (uses_of_nodes (map (to_member event b n delayed) members))
members_read event b n hi delayed [] h k = reads_none b hi
members_read event b n hi delayed (m ∷ members) h k = reads_both b hi _ _ (member_reads event b n hi delayed m h k) (members_read event b n hi delayed members h k)

-- The locals of the arguments, and their readers.
pub group_owns : (b n lo mid : ℕ) (xs : List Expr) (sent : Uses) → b + n ≤ lo → Owns b n lo mid (exprs_uses xs) → Reads mid (mid + length xs) sent → Owns b n lo (mid + length xs) (joined (uses_of_nodes (assigns mid xs)) sent)
group_owns b n lo mid xs sent bound k r0 =
    let held = uses_of_nodes (assigns mid xs) in
    let args = exprs_uses xs in
    let up = k.rises in record {
      rises = omega arith;
      reads = λ a o.
          let e1 = times-append held.reads sent.reads a in
          let e2 = ap (λ (q : List ℕ). times_in q a) (held_reads mid xs) in
          let e3 = k.reads a (o.0, before o.1) in
          let e4 = r0.reads a (beside a o.1) in
          omega arith;
      assigns = λ a o.
          let e1 = times-append held.assigns sent.assigns a in
          let e2 = held_assigns mid xs a in
          let e3 = k.assigns a (o.0, before o.1) in
          let e4 = none a (beside a o.1) in
          let e5 = ap (λ (q : List ℕ). times_in q a) r0.assigns in
          omega arith;
      covers = λ a l h. let e1 = times-append held.assigns sent.assigns a in let e2 = held_assigns mid xs a in which a l h e1 e2 (cases_lt a mid);
      kept = subst (λ (is : List Inlining). AllKeepToThemselves lo (mid + length xs) (count_of (joined held sent)) is)
          (sym (ap₂ (λ (p q : List Inlining). p ++ q) (held_inlined mid xs) r0.inlined ∙ append-nil args.inlined))
          (keep_wider lo mid lo (mid + length xs) (count_of args) (count_of (joined held sent)) args.inlined (omega arith) (omega arith)
          (λ a l h.
          let e1 = count_joined held sent a in
          let e2 = times-append held.reads held.assigns a in
          let e3 = ap (λ (q : List ℕ). times_in q a) (held_reads mid xs) in
          let e4 = held_assigns mid xs a in
          let e5 = numbers_below xs mid a h in
          let e6 = times-append args.reads args.assigns a in
          let e7 = times-append sent.reads sent.assigns a in
          let e8 = r0.reads a (inl h) in
          let e9 = ap (λ (q : List ℕ). times_in q a) r0.assigns in
          omega arith) k.kept);
    }
  where
    before : {a : ℕ} → (a < lo) ⊎ (mid + length xs ≤ a) → (a < lo) ⊎ (mid ≤ a)
    before (inl q) = inl q
    before (inr q) = inr (omega arith)

    beside : (a : ℕ) → (a < lo) ⊎ (mid + length xs ≤ a) → (a < mid) ⊎ (mid + length xs ≤ a)
    beside a (inl q) = let up = k.rises in inl (omega arith)
    beside a (inr q) = inr q

    none : (a : ℕ) → (a < mid) ⊎ (mid + length xs ≤ a) → times_in (numbers_of mid xs) a ≡ 0
    none a (inl q) = numbers_below xs mid a q
    none a (inr q) = numbers_above xs mid a q

    which : (a : ℕ) → lo ≤ a → a < mid + length xs → times_in ((uses_of_nodes (assigns mid xs)).assigns ++ sent.assigns) a ≡ times_in (uses_of_nodes (assigns mid xs)).assigns a + times_in sent.assigns a →
        times_in (uses_of_nodes (assigns mid xs)).assigns a ≡ times_in (numbers_of mid xs) a + times_in (exprs_uses xs).assigns a → (a < mid) ⊎ (mid ≤ a) → 0 < times_in ((uses_of_nodes (assigns mid xs)).assigns ++ sent.assigns) a
    which a l h e1 e2 (inl q) = let c = k.covers a l q in omega arith
    which a l h e1 e2 (inr q) = let c = numbers_there xs mid a q h in omega arith
