-- A block that ends in an `if`, gone along by the second branches.
use Rattle.std.proofs.Common.{◌+◌, ◌*◌, ◌&&◌, if◌then◌else◌, subst, ◌≡◌, ℕ, ◌<◌, ◌≤◌, List, [], ◌∷◌, ◌++◌, Bool, true, false, Option, None, ◌||◌, drop, fold, get_or, length, map, refl, sym, ap, ap₂, ◌∙◌, arith, append-nil}
use Rattle.std.proofs.lemmas.List.{drop_all, drop_more, map-append}
use Rattle.std.specs.List.{list_any}
use Rattle.std.proofs.lemmas.List.Concat.{flat_map-append}
use Rattle.std.proofs.lemmas.List.Folds.{list_any-append}
use Rattle.std.proofs.lemmas.List.Sums.{fold-append}
use denote.Param.Weighed.{most}
use Rattle.lucid_core.specs.declared.body.Expr.{Expr}
use Rattle.lucid_core.specs.declared.body.Stmt.{Stmt}
use Rattle.lucid_core.specs.declared.body.Expr.TheViews as v
use Rattle.lucid_core.specs.declared.body.Expr.TheViews.{size-Expr, size-Stmt}
use Rattle.lucid_core.specs.declared.body.Expr.TheFolds.{fold-roll-Stmt}
use Rattle.lucid_core.specs.declared.body.Expr.TheOpen.{Stmt-F}
use Rattle.lucid_core.specs.declared.body.Stmt.TheVariants as s
use Rattle.lucid_inline_spec.proofs.Kept.{or_false}
use Rattle.lucid_inline_count.specs.declared.body.Body.{Body}
use Rattle.lucid_inline_count.specs.declared.body.Part.{Part}
use Rattle.lucid_inline_count.specs.declared.branches.Open.{Open}
use Rattle.lucid_inline_count.specs.declared.counts.Counts.{Counts}
use Rattle.lucid_inline_count.specs.Branches.{chosen, followed, held_behind}
use Rattle.lucid_inline_count.specs.Counts.{capped, counted, plus}
use Rattle.lucid_inline_count.specs.Flags.{put_back}
use Rattle.lucid_inline_count.specs.Held.{AreHeld, Assigns, AssignsBoth, IsAlike, Keeps}
use Rattle.lucid_inline_count.proofs.HeldLemmas.{added_alike, all_behind, assigns_more, joined_alike, kept_assigns, themselves}
use Rattle.lucid_inline_count.specs.Found.{ExprTally, Round, Running, Tally, any_returns, any_value, block_counts, block_part, condition, expr_found, expr_step, held_with, names_of, one_more, part_of, stmt_step, stmt_tally, touch_step}

-- ---- the last of some statements

part_last : (ts : List Tally) (t : Tally) (r : Round) → block_part (ts ++ t ∷ []) r ≡ followed (block_part ts r) (part_of t (record { funs = r.funs; held = held_behind ts r }))
part_last ts t r =
    ap (λ (run : Running). made run.counts (any_returns (ts ++ t ∷ [])) (any_value (ts ++ t ∷ []))) (fold-append (one_more r.funs) (record { counts = counted 0 0; held = r.held }) ts (t ∷ []))
    ∙ ap₂ (λ (a b : Bool). made (plus (block_counts ts r) (t.counts (record { funs = r.funs; held = held_behind ts r }))) a b)
    (list_any-append (λ (u : Tally). u.returns) ts (t ∷ []) ∙ ap (λ (b : Bool). any_returns ts || b) (sym (or_false t.returns)))
    (list_any-append (λ (u : Tally). u.value) ts (t ∷ []) ∙ ap (λ (b : Bool). any_value ts || b) (sym (or_false t.value)))
  where
    made : Counts → Bool → Bool → Part
    made c a b = record { counts = c; sets = None; returns = a; value = b }

abbrev tallies : List Stmt → List Tally
tallies ss = map stmt_tally ss

pub if_is : (x : Expr) (ss ts : List Stmt) → stmt_tally (s.If x ss ts) ≡ stmt_step (Stmt-F.If (expr_found x) (tallies ss) (tallies ts))
if_is x ss ts = ap stmt_tally (sym (s.rolls-If x ss ts)) ∙ fold-roll-Stmt ExprTally Tally ExprTally expr_step stmt_step touch_step (Stmt-F.If x ss ts)

-- ---- an `if`

-- The count depends on the names only as far as their locals are held.
chosen_alike : (tested : Counts) (first second : Part) (held : List Bool) (xs ys : List ℕ) → IsAlike held xs ys → chosen tested first second held xs ≡ chosen tested first second held ys
chosen_alike tested first second held xs ys same = ap with_joined (joined_alike held xs ys same)
  where
    with_joined : ℕ → Part
    with_joined n = record {
      counts = plus (plus tested second.counts) (counted (if first.returns || second.returns then (if first.value && second.value then 2 else 0) else capped (2 * n)) 0);
      sets = None;
      returns = first.returns || second.returns;
      value = first.value && second.value;
    }

-- An `if` whose branches assigned these locals after the first ones.
module _ (x : ExprTally) (ss ts : List Tally) (held : List Bool) (from : ℕ) (earlier between later : List ℕ) (from_is : from ≡ length earlier)
    (one : Assigns held earlier between (names_of ss)) (two : Assigns held between later (names_of ts)) where
  both_assign : Assigns held earlier later (names_of ss ++ names_of ts)
  both_assign = assigns_more held held earlier between later (names_of ss) (names_of ts) (themselves held) one two

  pub if_counted : (funs : List Counts) (tested : Counts) (first second : Part) →
      first ≡ block_part ss (record { funs = funs; held = held }) → second ≡ block_part ts (record { funs = funs; held = held }) → tested ≡ plus (condition x funs) first.counts →
      chosen tested first second held (drop from later) ≡ part_of (stmt_step (Stmt-F.If x ss ts)) (record { funs = funs; held = held })
  if_counted funs tested first second first_is second_is tested_is =
      chosen_alike tested first second held (drop from later) (names_of ss ++ names_of ts) (added_alike held earlier later (names_of ss ++ names_of ts) from from_is both_assign)
      ∙ ap (λ (c : Counts). chosen c first second held (names_of ss ++ names_of ts)) tested_is
      ∙ ap₂ (λ (p q : Part). chosen (plus (condition x funs) p.counts) p q held (names_of ss ++ names_of ts)) first_is second_is

  pub if_assigns : (kept : List ℕ) → Keeps held from later kept → Assigns held earlier kept (names_of ss ++ names_of ts)
  if_assigns kept keeps = kept_assigns held earlier later kept (names_of ss ++ names_of ts) from from_is keeps both_assign

-- ---- statements one after another

-- One statement, and the rest.
module _ (stmts : List Stmt) (i : ℕ) (x : Stmt) (within : i < length stmts) (is : get_or stmts i x ≡ x) where
  rest_is : drop i stmts ≡ x ∷ drop (i + 1) stmts
  rest_is = drop_more stmts i x within ∙ ap (λ (y : Stmt). y ∷ drop (i + 1) stmts) is

  pub each_more : (held more : List Bool) (earlier between all : List ℕ) → AreHeld held more → Assigns held earlier between (stmt_tally x).names →
      Assigns more between all (names_of (tallies (drop (i + 1) stmts))) → Assigns held earlier all (names_of (tallies (drop i stmts)))
  each_more held more earlier between all are one rest =
      subst (λ (us : List Stmt). Assigns held earlier all (names_of (tallies us))) (sym rest_is)
      (assigns_more held more earlier between all (stmt_tally x).names (names_of (tallies (drop (i + 1) stmts))) are one rest)

  pub each_run : (funs : List Counts) (counts : Counts) (part : Part) (held more : List Bool) (whole : Running) →
      part ≡ part_of (stmt_tally x) (record { funs = funs; held = held }) → more ≡ held_with held part.sets →
      fold (one_more funs) (record { counts = counts; held = held }) (tallies (drop i stmts)) ≡ whole →
      fold (one_more funs) (record { counts = plus counts part.counts; held = more }) (tallies (drop (i + 1) stmts)) ≡ whole
  each_run funs counts part held more whole part_is more_is same =
      ap₂ (λ (c : Counts) (h : List Bool). fold (one_more funs) (record { counts = c; held = h }) (tallies (drop (i + 1) stmts)))
      (ap (λ (p : Part). plus counts p.counts) part_is) (more_is ∙ ap (λ (p : Part). held_with held p.sets) part_is)
      ∙ sym (ap (λ (us : List Stmt). fold (one_more funs) (record { counts = counts; held = held }) (tallies us)) rest_is) ∙ same

  pub each_any : (f : Tally → Bool) (so_far now whole : Bool) → now ≡ f (stmt_tally x) → (so_far || list_any f (tallies (drop i stmts))) ≡ whole →
      ((so_far || now) || list_any f (tallies (drop (i + 1) stmts))) ≡ whole
  each_any f so_far now whole now_is same =
      ap (λ (b : Bool). (so_far || b) || list_any f (tallies (drop (i + 1) stmts))) now_is
      ∙ or_more so_far (f (stmt_tally x)) (list_any f (tallies (drop (i + 1) stmts)))
      ∙ sym (ap (λ (us : List Stmt). so_far || list_any f (tallies us)) rest_is) ∙ same
    where
      or_more : (a b c : Bool) → ((a || b) || c) ≡ (a || (b || c))
      or_more true b c = refl
      or_more false b c = refl

-- No statement is left.
module _ (stmts : List Stmt) (i : ℕ) (past : length stmts ≤ i) where
  pub all_run : (funs : List Counts) (counts : Counts) (held : List Bool) (whole : Running) →
      fold (one_more funs) (record { counts = counts; held = held }) (tallies (drop i stmts)) ≡ whole → record { counts = counts; held = held } ≡ whole
  all_run funs counts held whole same = sym (ap (λ (us : List Stmt). fold (one_more funs) (record { counts = counts; held = held }) (tallies us)) (drop_all i stmts past)) ∙ same

  pub all_any : (f : Tally → Bool) (so_far whole : Bool) → (so_far || list_any f (tallies (drop i stmts))) ≡ whole → so_far ≡ whole
  all_any f so_far whole same = or_false so_far ∙ sym (ap (λ (us : List Stmt). so_far || list_any f (tallies us)) (drop_all i stmts past)) ∙ same

pub part_is : (p : Part) (counts : Counts) (returns value : Bool) → p.counts ≡ counts → p.sets ≡ None → p.returns ≡ returns → p.value ≡ value →
    p ≡ record { counts = counts; sets = None; returns = returns; value = value }
part_is p counts returns value a b c d = ap₂ (λ (k : Counts) (s : Option ℕ). record { counts = k; sets = s; returns = p.returns; value = p.value }) a b
    ∙ ap₂ (λ (r v : Bool). record { counts = counts; sets = None; returns = r; value = v }) c d

-- ---- along second branches, and back

-- The statements that end in an `if`, as tallies.
pub tallies_split : (left front : List Stmt) (x : Expr) (ss ts : List Stmt) → left ≡ front ++ s.If x ss ts ∷ [] →
    tallies left ≡ tallies front ++ stmt_step (Stmt-F.If (expr_found x) (tallies ss) (tallies ts)) ∷ []
tallies_split left front x ss ts is = ap tallies is ∙ map-append stmt_tally front (s.If x ss ts ∷ []) ∙ ap (λ (t : Tally). tallies front ++ t ∷ []) (if_is x ss ts)

-- What is left to count, with these flags and after these names.
pub record Place : Type 0 where
  pub rest : List Tally
  pub held : List Bool
  pub names : List ℕ

abbrev pub place : List Stmt → Body → Place
place ss body = record { rest = tallies ss; held = body.held.items; names = body.assigned.items }

abbrev part_at : List Counts → Place → Part
part_at funs p = block_part p.rest (record { funs = funs; held = p.held })

-- The block `outer` was counted up to its second branch `inner`.
pub record Opened (funs : List Counts) (o : Open) (outer inner : Place) : Type 0 where
  pub front : List Tally
  pub x : ExprTally
  pub first : List Tally
  pub rest_is : outer.rest ≡ front ++ stmt_step (Stmt-F.If x first inner.rest) ∷ []
  pub front_is : o.front ≡ block_part front (record { funs = funs; held = outer.held })
  pub yes_is : o.yes ≡ block_part first (record { funs = funs; held = inner.held })
  pub tested_is : o.tested ≡ plus (condition x funs) o.yes.counts
  pub back : put_back o.notes.items inner.held ≡ outer.held
  pub held_is : inner.held ≡ held_behind front (record { funs = funs; held = outer.held })
  pub both : AssignsBoth o.from outer.held inner.held outer.names inner.names (names_of front) (names_of first)

module _ (funs : List Counts) (o : Open) (outer inner : Place) (p : Opened funs o outer inner) (all : List ℕ) (more : Assigns inner.held inner.names all (names_of inner.rest)) where
  abbrev last : Tally
  last = stmt_step (Stmt-F.If p.x p.first inner.rest)

  closed_part : (second : Part) → second ≡ part_at funs inner → followed o.front (chosen o.tested o.yes second inner.held (drop o.from all)) ≡ part_at funs outer
  closed_part second second_is =
      ap₂ followed p.front_is
      (if_counted p.x p.first inner.rest inner.held o.from p.both.between inner.names all p.both.from_is p.both.two more funs o.tested o.yes second p.yes_is second_is p.tested_is)
      ∙ ap (λ (h : List Bool). followed (block_part p.front (record { funs = funs; held = outer.held })) (part_of last (record { funs = funs; held = h }))) p.held_is
      ∙ sym (part_last p.front last (record { funs = funs; held = outer.held }))
      ∙ sym (ap (λ (us : List Tally). block_part us (record { funs = funs; held = outer.held })) p.rest_is)

  closed_assigns : (kept : List ℕ) → Keeps inner.held o.from all kept → Assigns outer.held outer.names kept (names_of outer.rest)
  closed_assigns kept keeps =
      let branches = if_assigns p.x p.first inner.rest inner.held o.from p.both.between inner.names all p.both.from_is p.both.two more kept keeps in
      let are = subst (λ (h : List Bool). AreHeld outer.held h) (sym p.held_is) (all_behind p.front (record { funs = funs; held = outer.held })) in
      let names = names_of p.first ++ names_of inner.rest in
      let same : names_of outer.rest ≡ names_of p.front ++ names =
      ap names_of p.rest_is ∙ flat_map-append (λ (t : Tally). t.names) p.front (last ∷ []) ∙ ap (λ (ns : List ℕ). names_of p.front ++ ns) (append-nil names) in
      subst (λ (ns : List ℕ). Assigns outer.held outer.names kept ns) (sym same)
      (assigns_more outer.held inner.held outer.names p.both.between kept (names_of p.front) names are p.both.one branches)

-- The blocks that wait, from the outermost, lead from here to there.
abbrev pub Waits : List Counts → Place → List Open → Place → Type 0
Waits funs here [] there = there ≡ here
Waits funs here (o ∷ os) there = (inner : Place) × Opened funs o here inner × Waits funs inner os there

pub opens : (funs : List Counts) (os : List Open) (o : Open) (here left there : Place) → Waits funs here os left → Opened funs o left there → Waits funs here (os ++ o ∷ []) there
opens funs [] o here left there is p = (there, subst (λ (q : Place). Opened funs o q there) is p, refl)
opens funs (u ∷ os) o here left there (inner, first, waits) p = (inner, first, opens funs os o inner left there waits p)

closes : (funs : List Counts) (os : List Open) (o : Open) (here there : Place) → Waits funs here (os ++ o ∷ []) there → (left : Place) × Waits funs here os left × Opened funs o left there
closes funs [] o here there (inner, p, is) = (here, refl, subst (λ (q : Place). Opened funs o here q) (sym is) p)
closes funs (u ∷ os) o here there (inner, first, waits) = let rest = closes funs os o inner there waits in (rest.0, (inner, first, rest.1), rest.2)

-- What was left is counted, with this part.
pub record IsLeft (funs : List Counts) (here : Place) (os : List Open) (part : Part) (held : List Bool) (all : List ℕ) : Type 0 where
  pub there : Place
  pub waits : Waits funs here os there
  pub held_is : held ≡ there.held
  pub part_is : part ≡ part_at funs there
  pub assigns : Assigns there.held there.names all (names_of there.rest)

-- The innermost block is closed.
pub closed_one : (funs : List Counts) (here : Place) (os left : List Open) (o : Open) (part new_part : Part) (held new_held : List Bool) (all kept : List ℕ) →
    IsLeft funs here os part held all → os ≡ left ++ o ∷ [] → new_part ≡ followed o.front (chosen o.tested o.yes part held (drop o.from all)) →
    new_held ≡ put_back o.notes.items held → Keeps held o.from all kept → IsLeft funs here left new_part new_held kept
closed_one funs here os left o part new_part held new_held all kept is popped new_is back keeps =
    let found = closes funs left o here is.there (subst (λ (us : List Open). Waits funs here us is.there) popped is.waits) in record {
      there = found.0;
      waits = found.1;
      held_is = back ∙ ap (λ (h : List Bool). put_back o.notes.items h) is.held_is ∙ found.2.back;
      part_is = new_is ∙ ap (λ (h : List Bool). followed o.front (chosen o.tested o.yes part h (drop o.from all))) is.held_is
          ∙ closed_part funs o found.0 is.there found.2 all is.assigns part is.part_is;
      assigns = closed_assigns funs o found.0 is.there found.2 all is.assigns kept (subst (λ (h : List Bool). Keeps h o.from all kept) is.held_is keeps);
    }

-- No block waits: all is counted.
pub closed_all : (funs : List Counts) (here : Place) (os : List Open) (part : Part) (held : List Bool) (all : List ℕ) → IsLeft funs here os part held all → os ≡ [] →
    (part ≡ part_at funs here) × (held ≡ here.held) × Assigns here.held here.names all (names_of here.rest)
closed_all funs here os part held all is none =
    let same : is.there ≡ here = subst (λ (us : List Open). Waits funs here us is.there) none is.waits in (
      is.part_is ∙ ap (λ (q : Place). part_at funs q) same,
      is.held_is ∙ ap (λ (q : Place). q.held) same,
      subst (λ (q : Place). Assigns q.held q.names all (names_of q.rest)) same is.assigns,
    )

-- ---- measures

-- The front of a block that ends in an `if` is no deeper than the block, and the parts of the `if` are less deep.
pub parts_are_less : (left front : List Stmt) (x : Expr) (ss ts : List Stmt) → left ≡ front ++ s.If x ss ts ∷ [] →
    (most (λ t. size-Stmt t) front ≤ most (λ t. size-Stmt t) left) × (size-Expr x < most (λ t. size-Stmt t) left)
    × (most (λ t. size-Stmt t) ss < most (λ t. size-Stmt t) left) × (most (λ t. size-Stmt t) ts < most (λ t. size-Stmt t) left)
parts_are_less left front x ss ts is =
    let size = v.sized-If x ss ts in
    let all = within front in
    rw is (omega arith, omega arith, omega arith, omega arith)
  where
    within : (front : List Stmt) → (most (λ t. size-Stmt t) front ≤ most (λ t. size-Stmt t) (front ++ s.If x ss ts ∷ [])) × (size-Stmt (s.If x ss ts) ≤ most (λ t. size-Stmt t) (front ++ s.If x ss ts ∷ []))
    within [] = (omega arith, omega arith)
    within (y ∷ ys) = let rest = within ys in (omega arith, omega arith)
