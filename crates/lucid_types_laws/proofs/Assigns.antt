-- Each local that a block adds is assigned in it.
use Rattle.std.proofs.Common.{◌≡◌, ℕ, ◌+◌, ◌≤◌, ◌<◌, ◌⊎◌, inl, inr, List, [], ◌∷◌, ◌++◌, Option, length, append-nil, append_assoc, refl, sym, subst, arith}
use Rattle.std.proofs.lemmas.List.{length-append}
use Rattle.std.proofs.lemmas.Bool.{cases_lt}
use Rattle.lucid_core.specs.declared.body.Expr.{Expr}
use Rattle.lucid_core.specs.declared.body.Stmt.{Stmt}
use Rattle.lucid_core.specs.declared.body.Stmt.TheVariants as core
use Rattle.lucid_core_laws.specs.AssigningNodes.{Assigns}
use Rattle.lucid_core_laws.proofs.Assigning.{assigning_nodes}
use Rattle.lucid_parse_tree.specs.declared.tree.No.{No}
use Rattle.lucid_parse_tree.specs.declared.tree.S.{S}
use Rattle.lucid_types_spec.specs.declared.body.Body.{Body}
use Rattle.lucid_types_spec.specs.declared.scope.ValueType.{ValueType}
use Rattle.lucid_types_spec.specs.Block.{Block, Branches, Cases, Numbered, Statement, is_number, one_local}
use Rattle.lucid_types_spec.specs.Block as rule
use Rattle.lucid_types_spec.specs.Names.{Names}
use Rattle.lucid_types_spec.specs.Types.{width_of}

-- ---- the laws of nodes at the variants

at_assign : (i : ℕ) (c : Expr) (xs : List Stmt) → Assigns i (core.Assign i c ∷ xs)
at_assign i c xs = subst (λ (x : Stmt). Assigns i (x ∷ xs)) (core.rolls-Assign i c) (assigning_nodes.assign i c xs)

in_yes : (i : ℕ) (c : Expr) (ss ts xs : List Stmt) → Assigns i ss → Assigns i (core.If c ss ts ∷ xs)
in_yes i c ss ts xs h = subst (λ (x : Stmt). Assigns i (x ∷ xs)) (core.rolls-If c ss ts) (assigning_nodes.first_branch i c ss ts xs h)

in_no : (i : ℕ) (c : Expr) (ss ts xs : List Stmt) → Assigns i ts → Assigns i (core.If c ss ts ∷ xs)
in_no i c ss ts xs h = subst (λ (x : Stmt). Assigns i (x ∷ xs)) (core.rolls-If c ss ts) (assigning_nodes.second_branch i c ss ts xs h)

later : (i : ℕ) (xs ys : List Stmt) → Assigns i ys → Assigns i (xs ++ ys)
later i [] ys h = h
later i (x ∷ xs) ys h = assigning_nodes.later i x (xs ++ ys) (later i xs ys h)

-- ---- the locals between two

-- A property of each local that was numbered between these.
abbrev pub Between : Numbered → Numbered → (ℕ → Type 0) → Type 0
Between m k P = (i : ℕ) → length m.locals ≤ i → i < length k.locals → P i

none_between : (m k : Numbered) (P : ℕ → Type 0) → k.locals ≡ m.locals → Between m k P
none_between m k P same i low high = let high_again : i < length m.locals = subst (λ (ws : List ℕ). i < length ws) same high in absurd (omega (arith, low, high_again))

two : (m l k : Numbered) (P : ℕ → Type 0) → Between m l P → Between l k P → Between m k P
two m l k P f g i low high = either (cases_lt i (length l.locals))
  where
    either : (i < length l.locals) ⊎ (length l.locals ≤ i) → P i
    either (inl below) = f i low below
    either (inr above) = g i above high

the_one : (n i : ℕ) → n ≤ i → i < n + 1 → n ≡ i
the_one n i low high = omega arith

new_one : (w : ℕ) (m : Numbered) (P : ℕ → Type 0) → P (length m.locals) → Between m (one_local w m) P
new_one w m P h i low high =
    let below : i < length m.locals + 1 = subst (λ (n : ℕ). i < n) (length-append m.locals (w ∷ [])) high in
    subst P (the_one (length m.locals) i low below) h

weaker : (m k : Numbered) (P Q : ℕ → Type 0) → ((i : ℕ) → P i → Q i) → Between m k P → Between m k Q
weaker m k P Q f h i low high = f i (h i low high)

-- Nothing follows.
whole : (m k : Numbered) (xs : List Stmt) → Between m k (λ i. Assigns i (xs ++ [])) → Between m k (λ i. Assigns i xs)
whole m k xs h = subst (λ (ys : List Stmt). Between m k (λ i. Assigns i ys)) (append-nil xs) h

both_assign : (m l k : Numbered) (c : Expr) (b d : Body) (ys : List Stmt) → Between m l (λ i. Assigns i (b.steps ++ [])) → Between l k (λ i. Assigns i (d.steps ++ [])) →
    Between m k (λ i. Assigns i (core.If c b.steps d.steps ∷ ys))
both_assign m l k c b d ys f g =
    two m l k (λ (j : ℕ). Assigns j (core.If c b.steps d.steps ∷ ys))
    (weaker m l (λ (j : ℕ). Assigns j b.steps) (λ (j : ℕ). Assigns j (core.If c b.steps d.steps ∷ ys)) (λ j h. in_yes j c b.steps d.steps ys h) (whole m l b.steps f))
    (weaker l k (λ (j : ℕ). Assigns j d.steps) (λ (j : ℕ). Assigns j (core.If c b.steps d.steps ∷ ys)) (λ j h. in_no j c b.steps d.steps ys h) (whole l k d.steps g))

-- ---- rule by rule

mutual
  -- whatever follows the statement
  statement_assigns : {a : Option ValueType} {s : Names} {m : Numbered} {x : S} {d : Body} {k : Numbered} → Statement a s m x d k →
      (ys : List Stmt) → Between m k (λ i. Assigns i (d.steps ++ ys))
  statement_assigns (rule.assign s m n i t x c is of) ys = none_between m m _ refl
  statement_assigns (rule.call s m n xs t c of) ys = none_between m m _ refl
  statement_assigns (rule.array s m x w c of) ys = none_between m m _ refl
  statement_assigns (rule.generate s m x g of) ys = none_between m m _ refl
  statement_assigns (rule.printf s m text xs cs all filled) ys = none_between m (rule.one_form text m) _ refl
  statement_assigns (rule.return_nothing s m is) ys = none_between m m _ refl
  statement_assigns (rule.return_value s m t x c is of) ys = none_between m m _ refl
  statement_assigns (rule.choose s m x yes_block other c b d k of both) ys = branches_assign both c ys
  statement_assigns (rule.matched s m x w c y rest last b k of far all) ys =
      let i = length m.locals in
      let whole = core.Assign i c ∷ (b.steps ++ ys) in
      two m (one_local w m) k (λ (j : ℕ). Assigns j whole) (new_one w m (λ (j : ℕ). Assigns j whole) (at_assign i c (b.steps ++ ys)))
      (weaker (one_local w m) k (λ (j : ℕ). Assigns j (b.steps ++ ys)) (λ (j : ℕ). Assigns j whole) (λ j h. assigning_nodes.later j (core.Assign i c) (b.steps ++ ys) h) (cases_assign all ys))

  pub block_assigns : {a : Option ValueType} {s : Names} {m : Numbered} {xs : List S} {b : Body} {k : Numbered} → Block a s m xs b k →
      (ys : List Stmt) → Between m k (λ i. Assigns i (b.steps ++ ys))
  block_assigns (rule.end s m) ys = none_between m m _ refl
  block_assigns (rule.declare s m t v n x c xs b k ok of rest) ys =
      let i = length m.locals in
      let w = width_of v in
      let whole = core.Assign i c ∷ (b.steps ++ ys) in
      two m (one_local w m) k (λ (j : ℕ). Assigns j whole) (new_one w m (λ (j : ℕ). Assigns j whole) (at_assign i c (b.steps ++ ys)))
      (weaker (one_local w m) k (λ (j : ℕ). Assigns j (b.steps ++ ys)) (λ (j : ℕ). Assigns j whole) (λ j h. assigning_nodes.later j (core.Assign i c) (b.steps ++ ys) h) (block_assigns rest ys))
  block_assigns (rule.goes_on s m x d l xs b k of is rest) ys =
      subst (λ (zs : List Stmt). Between m k (λ i. Assigns i zs)) (sym (append_assoc d.steps b.steps ys))
      (two m l k (λ (j : ℕ). Assigns j (d.steps ++ (b.steps ++ ys))) (statement_assigns of (b.steps ++ ys))
      (weaker l k (λ (j : ℕ). Assigns j (b.steps ++ ys)) (λ (j : ℕ). Assigns j (d.steps ++ (b.steps ++ ys))) (λ j h. later j d.steps (b.steps ++ ys) h) (block_assigns rest ys)))
  block_assigns (rule.stops s m x d k of is) ys = statement_assigns of ys
  block_assigns (rule.guards s m x c zs d l xs b k of first is rest) ys = both_assign m l k c d b ys (block_assigns first []) (block_assigns rest [])

  branches_assign : {a : Option ValueType} {s : Names} {m : Numbered} {zs : List S} {other : No} {b d : Body} {k : Numbered} → Branches a s m zs other b d k →
      (c : Expr) (ys : List Stmt) → Between m k (λ i. Assigns i (core.If c b.steps d.steps ∷ ys))
  branches_assign (rule.alone s m zs b k of is) c ys = weaker m k (λ (j : ℕ). Assigns j b.steps) (λ (j : ℕ). Assigns j (core.If c b.steps [] ∷ ys)) (λ j h. in_yes j c b.steps [] ys h) (whole m k b.steps (block_assigns of []))
  branches_assign (rule.block s m zs b l vs d k of and) c ys = both_assign m l k c b d ys (block_assigns of []) (block_assigns and [])
  branches_assign (rule.chain s m zs b l z d k of and) c ys = both_assign m l k c b d ys (block_assigns of []) (block_assigns and [])

  cases_assign : {a : Option ValueType} {s : Names} {m : Numbered} {i w : ℕ} {cases : List (ℕ × List S)} {last : Option (List S)} {b : Body} {k : Numbered} →
      Cases a s m i w cases last b k → (ys : List Stmt) → Between m k (λ j. Assigns j (b.steps ++ ys))
  cases_assign (rule.no_last s m i w) ys = none_between m m _ refl
  cases_assign (rule.last_arm s m i w zs b k of) ys = block_assigns of ys
  cases_assign (rule.next s m i w n zs b l cases last d k fits of rest) ys = both_assign m l k (is_number i w n) b d ys (block_assigns of []) (cases_assign rest [])
