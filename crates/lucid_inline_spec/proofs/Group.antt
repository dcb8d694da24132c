-- Events to the members of a group, whose arguments and delay are held by locals.
use Rattle.std.proofs.Common.{◌≡◌, ℕ, suc, ◌+◌, ◌<◌, ◌%◌, ◌^◌, List, [], ◌∷◌, ◌++◌, Bool, true, false, if◌then◌else◌, nat_lt, length, map, refl, sym, ap, ap₂, ◌∙◌, arith, append_assoc, append-nil}
use Rattle.std.specs.List.{list_all}
use Rattle.std.proofs.lemmas.Bool.{and_parts, ltb-true}
use Rattle.std.proofs.Math.Nat.{mod-eq_of_lt}
use Rattle.lucid_base.specs.Bits.{bits_of}
use Rattle.lucid_base.specs.declared.bits.Bits.{Bits}
use Rattle.lucid_base.specs.declared.event.Out.{Out}
use Rattle.lucid_base.specs.declared.event.Target.{Target}
use Rattle.lucid_base.specs.declared.event.Target.TheVariants.{At}
use Rattle.lucid_core.specs.declared.body.Expr.{Expr}
use Rattle.lucid_core.specs.declared.body.Stmt.{Stmt}
use Rattle.lucid_core.specs.declared.body.Touch.{Touch}
use Rattle.lucid_core.specs.declared.body.Expr.TheOpen.{Expr-F, Stmt-F}
use Rattle.lucid_core.specs.declared.body.Expr.TheViews.{roll-Expr}
use Rattle.lucid_core.specs.declared.body.Expr.TheFolds.{fold-roll-Expr, map-Stmt}
use Rattle.lucid_core.specs.Computations.{Computation, Effect, Frame, State, Ran, all, block}
use Rattle.lucid_core.specs.Meaning as m
use Rattle.lucid_core.specs.Meaning.{effect_of, generated, touch_of, value_of}
use Rattle.lucid_core.specs.ExamplePrograms.{local}
use Rattle.lucid_inline_spec.specs.Flat.{locals_from, to_member}
use Rattle.lucid_inline_spec.proofs.Locals.{local_at}

abbrev meaning : Stmt-F Expr Stmt Touch → Effect
meaning y = m.stmt_step (map-Stmt Expr Stmt Touch (Computation Bits) Effect (Computation Bits) value_of effect_of touch_of y)

local_reads : (i : ℕ) (v : Frame) (q : State) → value_of (local i) v q ≡ record { gives = local_at q.locals i; after = q; calls = [] }
local_reads i v q = ap (λ (f : Computation Bits). f v q) (fold-roll-Expr (Computation Bits) Effect (Computation Bits) m.expr_step m.stmt_step m.touch_step (Expr-F.Local i))

fixed_reads : (n : ℕ) (v : Frame) (q : State) → value_of (roll-Expr (Expr-F.Fixed (bits_of 32 n))) v q ≡ record { gives = bits_of 32 n; after = q; calls = [] }
fixed_reads n v q = ap (λ (f : Computation Bits). f v q) (fold-roll-Expr (Computation Bits) Effect (Computation Bits) m.expr_step m.stmt_step m.touch_step (Expr-F.Fixed (bits_of 32 n)))

locals_read : (vs : List Bits) (b : ℕ) (v : Frame) (q : State) → ((i : ℕ) → i < length vs → local_at q.locals (b + i) ≡ local_at vs i) →
    all (map value_of (locals_from b (length vs))) v q ≡ record { gives = vs; after = q; calls = [] }
locals_read [] b v q h = refl
locals_read (x ∷ vs) b v q h =
    let z : b + 0 ≡ b = omega arith in
    let first : local_at q.locals b ≡ x = ap (local_at q.locals) (sym z) ∙ h 0 (omega arith) in
    let rest = locals_read vs (b + 1) v q (λ i l. let e : b + 1 + i ≡ b + suc i = omega arith in ap (local_at q.locals) e ∙ h (suc i) (omega arith)) in
    ap (λ (one : Ran Bits). let more = all (map value_of (locals_from (b + 1) (length vs))) v one.after in
    record { gives = one.gives ∷ more.gives; after = more.after; calls = one.calls ++ (more.calls ++ []) }) (local_reads b v q)
    ∙ ap₂ (λ (y : Bits) (more : Ran (List Bits)). record { gives = y ∷ more.gives; after = more.after; calls = more.calls ++ [] }) first rest

-- The out to one member.
abbrev pub member_out : ℕ → List Bits → ℕ → ℕ → Out
member_out event vs ticks n = generated event vs ticks (At n)

abbrev pub Sends : Effect → Frame → State → List Out → Type 0
Sends f v q outs = f v q ≡ record { gives = tt; after = record q { outs = q.outs ++ outs }; calls = [] }

-- The outs if arguments, delay and target are these runs.
abbrev sent_by : ℕ → Ran (List Bits) → (State → Ran ℕ) → (State → Ran Target) → Ran (Unit {0})
sent_by event args delay to = let t = to args.after in let d = delay t.after in
    record { gives = tt; after = record d.after { outs = d.after.outs ++ generated event args.gives d.gives t.gives ∷ [] }; calls = args.calls ++ ((t.calls ++ (d.calls ++ [])) ++ []) }

abbrev delay_run : Bool → ℕ → Frame → State → Ran ℕ
delay_run delayed i v s = if delayed then (let r = value_of (local i) v s in record { gives = r.gives.value; after = r.after; calls = r.calls ++ [] }) else record { gives = 0; after = s; calls = [] }

-- The number of ticks that the locals hold.
abbrev pub ticks_in : Bool → ℕ → State → ℕ
ticks_in delayed i q = if delayed then (local_at q.locals i).value else 0

delay_reads : (delayed : Bool) (i : ℕ) (v : Frame) (q : State) → delay_run delayed i v q ≡ record { gives = ticks_in delayed i q; after = q; calls = [] }
delay_reads true i v q = ap (λ (r : Ran Bits). record { gives = r.gives.value; after = r.after; calls = r.calls ++ [] }) (local_reads i v q)
delay_reads false i v q = refl

abbrev target_run : ℕ → Frame → State → Ran Target
target_run n v s = let r = value_of (roll-Expr (Expr-F.Fixed (bits_of 32 n))) v s in record { gives = At r.gives.value; after = r.after; calls = r.calls ++ [] }

target_reads : (n : ℕ) → n < 64 → (v : Frame) (q : State) → target_run n v q ≡ record { gives = At n; after = q; calls = [] }
target_reads n l v q =
    let e : n % 2 ^ 32 ≡ n = mod-eq_of_lt (omega arith) in
    ap (λ (r : Ran Bits). record { gives = At r.gives.value; after = r.after; calls = r.calls ++ [] }) (fixed_reads n v q) ∙ ap (λ (k : ℕ). record { gives = At k; after = q; calls = [] }) e

member_is : (event b n : ℕ) (delayed : Bool) (k : ℕ) (v : Frame) (q : State) →
    meaning (to_member event b n delayed k) v q ≡ sent_by event (all (map value_of (locals_from b n)) v q) (delay_run delayed (b + n) v) (target_run k v)
member_is event b n true k v q = refl
member_is event b n false k v q = refl

member_sends : (event b : ℕ) (vs : List Bits) (delayed : Bool) (k : ℕ) (v : Frame) (q : State) → k < 64 → ((i : ℕ) → i < length vs → local_at q.locals (b + i) ≡ local_at vs i) →
    Sends (meaning (to_member event b (length vs) delayed k)) v q (member_out event vs (ticks_in delayed (b + length vs) q) k ∷ [])
member_sends event b vs delayed k v q l h =
    let ticks = ticks_in delayed (b + length vs) q in
    member_is event b (length vs) delayed k v q
    ∙ ap (λ (args : Ran (List Bits)). sent_by event args (delay_run delayed (b + length vs) v) (target_run k v)) (locals_read vs b v q h)
    ∙ ap (λ (t : Ran Target). let d = delay_run delayed (b + length vs) v t.after in
    record { gives = tt; after = record d.after { outs = d.after.outs ++ generated event vs d.gives t.gives ∷ [] }; calls = (t.calls ++ (d.calls ++ [])) ++ [] }) (target_reads k l v q)
    ∙ ap (λ (d : Ran ℕ). record { gives = tt; after = record d.after { outs = d.after.outs ++ generated event vs d.gives (At k) ∷ [] }; calls = (d.calls ++ []) ++ [] }) (delay_reads delayed (b + length vs) v q)

pub members_send : (event b : ℕ) (vs : List Bits) (delayed : Bool) (ks : List ℕ) (v : Frame) (q : State) → list_all (λ k. nat_lt k 64) ks ≡ true → ((i : ℕ) → i < length vs → local_at q.locals (b + i) ≡ local_at vs i) →
    Sends (block (map meaning (map (to_member event b (length vs) delayed) ks))) v q (map (generated event vs (ticks_in delayed (b + length vs) q)) (map At ks))
members_send event b vs delayed [] v q few h = let e = append-nil q.outs in ap (λ (o : List Out). record { gives = tt; after = record q { outs = o }; calls = [] }) (sym e)
members_send event b vs delayed (k ∷ ks) v q few h =
    let fews = and_parts _ _ few in
    let ticks = ticks_in delayed (b + length vs) q in
    let one = member_out event vs ticks k in
    let q2 : State = record q { outs = q.outs ++ one ∷ [] } in
    let rest = map (generated event vs ticks) (map At ks) in
    ap (λ (r : Ran (Unit {0})). let more = block (map meaning (map (to_member event b (length vs) delayed) ks)) v r.after in record { gives = tt; after = more.after; calls = r.calls ++ more.calls })
    (member_sends event b vs delayed k v q (ltb-true k 64 fews.0) h)
    ∙ ap (λ (r : Ran (Unit {0})). record { gives = tt; after = r.after; calls = r.calls }) (members_send event b vs delayed ks v q2 fews.1 h)
    ∙ ap (λ (o : List Out). record { gives = tt; after = record q { outs = o }; calls = [] }) (append_assoc q.outs (one ∷ []) rest)
