-- Each block that is derived keeps the rules of a valid core, at every place that has what its names stand for and what it numbers in the end.
use Rattle.std.proofs.Common.{◌≡◌, ℕ, List, [], ◌∷◌, ◌++◌, Option, None, Some, true, false, length, append-nil, refl, sym, ap, subst, slice_get}
use Rattle.lucid_base.specs.Bits.{bits_of}
use Rattle.lucid_base.specs.declared.ops.CmpOp.TheVariants.{Eq}
use Rattle.lucid_core.specs.declared.body.Expr.{Expr}
use Rattle.lucid_core.specs.declared.body.Expr.TheVariants as expr
use Rattle.lucid_core.specs.declared.body.Stmt.{Stmt}
use Rattle.lucid_core.specs.declared.body.Stmt.TheVariants as core
use Rattle.lucid_core.specs.Limits.{are_members}
use Rattle.lucid_base.specs.Numbers.{is_in}
use Rattle.lucid_core.specs.Typing.{Answer}
use Rattle.lucid_core.specs.declared.ending.Ending.{Ending}
use Rattle.lucid_core.specs.declared.ending.Ending.TheVariants.{Never, Always}
use Rattle.lucid_core.specs.Endings.{of_either}
use Rattle.lucid_core_laws.specs.Keeps.{KeepsAll, KeepsBlock, KeepsExpr, KeepsStmt, MayKeep}
use Rattle.lucid_core_laws.specs.Place.{Place, behind}
use Rattle.lucid_core_laws.specs.StmtNodes.{IsEvent}
use Rattle.lucid_core_laws.proofs.Statements.{stmt_nodes}
use Rattle.lucid_parse_tree.specs.declared.tree.No.{No}
use Rattle.lucid_parse_tree.specs.declared.tree.S.{S}
use Rattle.lucid_parse_tree.specs.declared.tree.V.{V}
use Rattle.lucid_types_spec.specs.declared.body.Body.{Body}
use Rattle.lucid_types_spec.specs.declared.body.Destination.{Destination}
use Rattle.lucid_types_spec.specs.declared.body.Destination.TheVariants.{Here, Switch, Group}
use Rattle.lucid_types_spec.specs.declared.body.Sending.{Sending}
use Rattle.lucid_types_spec.specs.declared.scope.Entry.TheVariants as entry
use Rattle.lucid_types_spec.specs.declared.scope.ValueType.{ValueType}
use Rattle.lucid_types_spec.specs.Block.{Block, Branches, Cases, Numbered, Statement, form_number, is_number, one, one_form}
use Rattle.lucid_types_spec.specs.Block as rule
use Rattle.lucid_types_spec.specs.Names.{Names, called}
use Rattle.lucid_types_spec.specs.Sends.{Sends, sent, sent_to}
use Rattle.lucid_types_spec.specs.Sends as sends_rule
use Rattle.lucid_types_spec.specs.Types.{answer_width, ints, value_widths, width_of}
use Rattle.lucid_types_laws.proofs.Expressions as expression
use Rattle.lucid_types_laws.proofs.Expressions.{typed, free, all_free, touched, called as called_keeps, given}
use Rattle.lucid_types_laws.proofs.Numbering.{Covers, block_grows, cases_grow, covered, covers_behind, form_there, local_there}
use Rattle.lucid_base.proofs.NumbersLemmas.{in_second, itself_in}
use Rattle.lucid_types_laws.proofs.Suits.{Suits, suits_behind, suits_more}

-- ---- what is sent

-- A target keeps the rules: a switch as an expression, a group by its members.
abbrev IsTarget : Place → Destination → Type 0
IsTarget p Here = Unit {0}
IsTarget p (Switch c) = (w : ℕ) × KeepsExpr p (Some w) c
IsTarget p (Group members) = are_members members ≡ true

record KeepsSending (p : Place) (g : Sending) : Type 0 where
  params : List ℕ
  event : IsEvent p g.event params
  args : KeepsAll p params g.args
  delay : MayKeep p g.delay
  to : IsTarget p g.to

pub params_are : (ws : List ℕ) → value_widths (ints ws) ≡ ws
params_are [] = refl
params_are (w ∷ ws) = ap (λ vs. w ∷ vs) (params_are ws)

sends : {s : Names} {x : V} {g : Sending} → Sends s x g → (p : Place) → Suits p s → KeepsSending p g
sends (sends_rule.call n i ws xs cs is all) p h = record {
  params = ws;
  event = h.holds n (entry.Event i ws) is;
  args = subst (λ vs. KeepsAll p vs cs) (params_are ws) (given all p h).values;
  delay = tt;
  to = tt;
}
sends (sends_rule.paren x g of) p h = sends of p h
sends (sends_rule.delay x g y w c of none by) p h =
    let f = sends of p h in
    record { params = f.params; event = f.event; args = f.args; delay = (w, free by p h); to = f.to }
sends (sends_rule.locate x g y w c of here by) p h =
    let f = sends of p h in
    record { params = f.params; event = f.event; args = f.args; delay = f.delay; to = (w, free by p h) }
sends (sends_rule.group x g n members of here is) p h =
    let f = sends of p h in
    record { params = f.params; event = f.event; args = f.args; delay = f.delay; to = h.holds n (entry.Group members) is }

sent_keeps : (p : Place) (a : Answer) (g : Sending) → p.flat ≡ false → KeepsSending p g → (to : Destination) → g.to ≡ to → KeepsStmt p a Never [] (sent_to to g)
sent_keeps p a g flat f Here is =
    subst (KeepsStmt p a Never []) (core.rolls-Gen g.event g.args g.delay None g.delay_first)
    (stmt_nodes.generate p a g.event f.params g.args g.delay None g.delay_first f.event f.args f.delay tt)
sent_keeps p a g flat f (Switch c) is =
    subst (KeepsStmt p a Never []) (core.rolls-Gen g.event g.args g.delay (Some c) g.delay_first)
    (stmt_nodes.generate p a g.event f.params g.args g.delay (Some c) g.delay_first f.event f.args f.delay (subst (IsTarget p) is f.to))
sent_keeps p a g flat f (Group members) is =
    subst (KeepsStmt p a Never []) (core.rolls-Multi g.event g.args g.delay members)
    (stmt_nodes.to_each p a g.event f.params g.args g.delay members flat f.event (subst (IsTarget p) is f.to) f.args f.delay)

-- ---- statements

-- What a statement becomes keeps the rules alone, and where it returns nowhere also before what keeps them behind what it assigns.
record KeepsStatement (p : Place) (a : Answer) (d : Body) : Type 0 where
  alone : KeepsBlock p a d.ending d.steps
  assigns : List ℕ
  first : d.ending ≡ Never → (r : Ending) (xs : List Stmt) → KeepsBlock (behind p assigns) a r xs → KeepsBlock p a r (d.steps ++ xs)

single : (p : Place) (a : Answer) (r : Ending) (ks : List ℕ) (x : Stmt) → KeepsStmt p a r ks x → KeepsStatement p a (one x r)
single p a r ks x f = record {
  alone = stmt_nodes.last p a r ks x f;
  assigns = ks;
  first = λ is q xs rest. stmt_nodes.first p a q ks x xs (subst (λ (e : Ending). KeepsStmt p a e ks x) is f) rest;
}

assigned : (p : Place) (a : Answer) (i w : ℕ) (c : Expr) → slice_get p.scope.locals i ≡ Some w → KeepsExpr p (Some w) c → KeepsStmt p a Never (i ∷ []) (core.Assign i c)
assigned p a i w c there x = subst (KeepsStmt p a Never (i ∷ [])) (core.rolls-Assign i c) (stmt_nodes.assign p a i w c there x)

dropped : (p : Place) (a b : Answer) (c : Expr) → KeepsExpr p b c → KeepsStatement p a (one (core.Drop c) Never)
dropped p a b c x = single p a Never [] (core.Drop c) (subst (KeepsStmt p a Never []) (core.rolls-Drop c) (stmt_nodes.drop_value p a b c x))

chosen : (p : Place) (a : Answer) (c : Expr) (b d : Body) → KeepsExpr p (Some 1) c → KeepsBlock p a b.ending b.steps → KeepsBlock p a d.ending d.steps →
    KeepsStmt p a (of_either b.ending d.ending) [] (core.If c b.steps d.steps)
chosen p a c b d x yes_part no_part =
    subst (KeepsStmt p a (of_either b.ending d.ending) []) (core.rolls-If c b.steps d.steps) (stmt_nodes.choose p a b.ending d.ending c b.steps d.steps x yes_part no_part)

-- An assignment before a statement.
assigned_first : (p : Place) (a : Answer) (i w : ℕ) (c : Expr) (x : Stmt) (r : Ending) → slice_get p.scope.locals i ≡ Some w → KeepsExpr p (Some w) c →
    KeepsStmt (behind p (i ∷ [])) a r [] x → KeepsStatement p a (rule.before (core.Assign i c ∷ []) (one x r))
assigned_first p a i w c x r there value f = record {
  alone = stmt_nodes.first p a r (i ∷ []) (core.Assign i c) (x ∷ []) (assigned p a i w c there value) (stmt_nodes.last (behind p (i ∷ [])) a r [] x f);
  assigns = (i ∷ []) ++ [];
  first = λ is q xs rest. stmt_nodes.first p a q (i ∷ []) (core.Assign i c) (x ∷ xs) (assigned p a i w c there value)
      (stmt_nodes.first (behind p (i ∷ [])) a q [] x xs (subst (λ (e : Ending). KeepsStmt (behind p (i ∷ [])) a e [] x) is f) (again rest));
}
  where
    again : {q : Ending} {xs : List Stmt} → KeepsBlock (behind p (i ∷ [])) a q xs → KeepsBlock (behind (behind p (i ∷ [])) []) a q xs
    again {q} {xs} rest = subst (λ (ks : List ℕ). KeepsBlock (record p { known = ks }) a q xs) (sym (append-nil (p.known ++ i ∷ []))) rest

-- A local is a number of its width.
is_number_keeps : (p : Place) (i w n : ℕ) → slice_get p.scope.locals i ≡ Some w → is_in i p.known ≡ true → KeepsExpr p (Some 1) (is_number i w n)
is_number_keeps p i w n there known =
    expression.cmp p w Eq (expr.Local i) (expr.Fixed (bits_of w n)) (expression.local p i w there known) (expression.fixed p (bits_of w n))

-- What the cases of a match become: a choice, or where there are none the last arm.
abbrev KeepsCases : Place → Answer → List (ℕ × List S) → Body → Type 0
KeepsCases p a [] b = KeepsBlock p a b.ending b.steps
KeepsCases p a (y ∷ ys) b = (x : Stmt) × (one x b.ending ≡ b) × KeepsStmt p a b.ending [] x

as_block : (p : Place) (a : Answer) (cases : List (ℕ × List S)) (b : Body) → KeepsCases p a cases b → KeepsBlock p a b.ending b.steps
as_block p a [] b keeps = keeps
as_block p a (y ∷ ys) b keeps = subst (λ (d : Body). KeepsBlock p a d.ending d.steps) keeps.1 (stmt_nodes.last p a b.ending [] keeps.0 keeps.2)

-- ---- rule by rule

mutual
  statement : {a : Option ValueType} {s : Names} {m : Numbered} {x : S} {d : Body} {k : Numbered} → Statement a s m x d k →
      (p : Place) → Suits p s → Covers p k → KeepsStatement p (answer_width a) d
  statement {a} (rule.assign s m n i t x c is of) p h g =
      single p (answer_width a) Never (i ∷ []) (core.Assign i c) (assigned p (answer_width a) i (width_of t) c (h.holds n (entry.Local i t) is).there (typed of p h))
  statement {a} (rule.call s m n xs t c of) p h g = dropped p (answer_width a) (answer_width t) c (called_keeps of p h)
  statement {a} (rule.array s m x w c of) p h g = dropped p (answer_width a) w (expr.Array c) (expression.array p w c (touched of p h))
  statement {a} (rule.generate s m x g of) p h covers = single p (answer_width a) Never [] (sent g) (sent_keeps p (answer_width a) g h.core (sends of p h) g.to refl)
  statement {a} (rule.printf s m text xs cs all filled) p h g =
      let fs = all_free all p h in
      let i = form_number text m.forms in
      single p (answer_width a) Never [] (core.Say i cs)
      (subst (KeepsStmt p (answer_width a) Never []) (core.rolls-Say i cs) (stmt_nodes.say p (answer_width a) i text fs.0 cs (g.forms i text (form_there text m)) filled fs.1))
  statement (rule.return_nothing s m is) p h g =
      subst (λ (b : Option ValueType). KeepsStatement p (answer_width b) (one (core.Return None) Always)) (sym is)
      (single p None Always [] (core.Return None) (subst (KeepsStmt p None Always []) (core.rolls-Return None) (stmt_nodes.return_nothing p)))
  statement (rule.return_value s m t x c is of) p h g =
      let w = width_of t in
      subst (λ (b : Option ValueType). KeepsStatement p (answer_width b) (one (core.Return (Some c)) Always)) (sym is)
      (single p (Some w) Always [] (core.Return (Some c)) (subst (KeepsStmt p (Some w) Always []) (core.rolls-Return (Some c)) (stmt_nodes.return_value p w c (typed of p h))))
  statement {a} (rule.choose s m x ys other c b d k of both) p h g =
      let parts = branches both p h g in
      single p (answer_width a) (of_either b.ending d.ending) [] (core.If c b.steps d.steps) (chosen p (answer_width a) c b d (typed of p h) parts.0 parts.1)
  statement {a} (rule.matched s m x w c y ys last b k of far all) p h g =
      let i = length m.locals in
      let there = local_there m p w (cases_grow all) g in
      let choice = cases_keep all (behind p (i ∷ [])) (suits_behind p (i ∷ []) s h) (covers_behind p (i ∷ []) k g) there (in_second p.known (i ∷ []) i (itself_in i)) in
      subst (λ (d : Body). KeepsStatement p (answer_width a) (rule.before (core.Assign i c ∷ []) d)) choice.1
      (assigned_first p (answer_width a) i w c choice.0 b.ending there (free of p h) choice.2)

  pub block : {a : Option ValueType} {s : Names} {m : Numbered} {xs : List S} {b : Body} {k : Numbered} → Block a s m xs b k →
      (p : Place) → Suits p s → Covers p k → KeepsBlock p (answer_width a) b.ending b.steps
  block {a} (rule.end s m) p h g = stmt_nodes.empty p (answer_width a)
  block {a} (rule.declare s m t v n x c xs b k ok of rest) p h g =
      let i = length m.locals in
      let w = width_of v in
      let there = local_there m p w (block_grows rest) g in
      let q = behind p (i ∷ []) in
      stmt_nodes.first p (answer_width a) b.ending (i ∷ []) (core.Assign i c) b.steps (assigned p (answer_width a) i w c there (typed of p h))
      (block rest q (suits_more q s (called n (entry.Local i v)) (suits_behind p (i ∷ []) s h) (record { there = there; assigned = in_second p.known (i ∷ []) i (itself_in i) }))
      (covers_behind p (i ∷ []) k g))
  block (rule.goes_on s m x d l xs b k of is rest) p h g =
      let f = statement of p h (covered p (block_grows rest) g) in
      f.first is b.ending b.steps (block rest (behind p f.assigns) (suits_behind p f.assigns s h) (covers_behind p f.assigns k g))
  block (rule.stops s m x d k of is) p h g = (statement of p h g).alone
  block {a} (rule.guards s m x c ys d l xs b k of first is rest) p h g =
      stmt_nodes.last p (answer_width a) (of_either d.ending b.ending) [] (core.If c d.steps b.steps)
      (chosen p (answer_width a) c d b (typed of p h) (block first p h (covered p (block_grows rest) g)) (block rest p h g))

  branches : {a : Option ValueType} {s : Names} {m : Numbered} {ys : List S} {other : No} {b d : Body} {k : Numbered} → Branches a s m ys other b d k →
      (p : Place) → Suits p s → Covers p k → KeepsBlock p (answer_width a) b.ending b.steps × KeepsBlock p (answer_width a) d.ending d.steps
  branches {a} (rule.alone s m ys b k of is) p h g = (block of p h g, stmt_nodes.empty p (answer_width a))
  branches (rule.block s m ys b l zs d k of and) p h g = (block of p h (covered p (block_grows and) g), block and p h g)
  branches (rule.chain s m ys b l z d k of and) p h g = (block of p h (covered p (block_grows and) g), block and p h g)

  cases_keep : {a : Option ValueType} {s : Names} {m : Numbered} {i w : ℕ} {cases : List (ℕ × List S)} {last : Option (List S)} {b : Body} {k : Numbered} →
      Cases a s m i w cases last b k → (p : Place) → Suits p s → Covers p k → slice_get p.scope.locals i ≡ Some w → is_in i p.known ≡ true →
      KeepsCases p (answer_width a) cases b
  cases_keep {a} (rule.no_last s m i w) p h g there known = stmt_nodes.empty p (answer_width a)
  cases_keep (rule.last_arm s m i w zs b k of) p h g there known = block of p h g
  cases_keep {a} (rule.next s m i w n ys b l cases last d k fits of rest) p h g there known = (
    core.If (is_number i w n) b.steps d.steps,
    refl,
    chosen p (answer_width a) (is_number i w n) b d (is_number_keeps p i w n there known) (block of p h (covered p (cases_grow rest) g))
        (as_block p (answer_width a) cases d (cases_keep rest p h g there known)),
  )
