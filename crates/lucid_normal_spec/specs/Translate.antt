-- The operations that a body of a flat core becomes: a translation of each expression and statement, by recursion on the tree.
use Rattle.std.specs.Prelude.{⊤, ℕ, ◌+◌, max, List, [], ◌∷◌, ◌++◌, Option, None, Some, Bool, true, false, ◌&&◌, if◌then◌else◌}
use Rattle.std.specs.Prelude.{is_some, length, map, fold, nat_eq, slice_index_or, slice_set}
use Rattle.lucid_base.specs.declared.memory_alu.MemAlu.{MemAlu}
use Rattle.lucid_code.specs.declared.op.Act.{Act}
use Rattle.lucid_code.specs.declared.op.Act.TheVariants as act
use Rattle.lucid_code.specs.declared.op.Literal.{Literal}
use Rattle.lucid_code.specs.declared.op.Op.{Op}
use Rattle.lucid_code.specs.declared.op.Operand.{Operand}
use Rattle.lucid_code.specs.declared.op.Operand.TheVariants.{Fixed, Field}
use Rattle.lucid_core.specs.declared.body.Expr.{Expr}
use Rattle.lucid_core.specs.declared.body.Stmt.{Stmt}
use Rattle.lucid_core.specs.declared.body.Touch.{Touch}
use Rattle.lucid_core.specs.declared.body.Expr.TheOpen.{Expr-F, Stmt-F, Touch-F}
use Rattle.lucid_core.specs.declared.body.Expr.TheFolds.{fold-Expr, fold-Stmt, fold-Touch}
use Rattle.lucid_core.specs.Computations.{array_of}
use Rattle.lucid_normal_spec.specs.declared.env.Env.{Env}
use Rattle.lucid_normal_spec.specs.declared.env.Typed.{Typed}

-- The translation of a part: its value, its operations, and the environment after it. It is fine if each value that it needs exists, of
-- the required width; in a flat core every part is.
pub record Translated (A : Type 0) : Type 0 where
  pub value : A
  pub ops : List Op
  pub env : Env
  pub fine : Bool

abbrev pub Translation : Type 0 → Type 0
Translation A = Env → Translated A

-- An expression, which may have no value. As a condition it needs a move if it is a number, a local, or an inlined call.
pub record Expressed : Type 0 where
  pub made : Translation (Option Typed)
  pub needs_move : Bool

-- ---- how translations follow one another

abbrev pub done : {A : Type 0} → A → Translation A
done x env = record { value = x; ops = []; env = env; fine = true }

infixl 10 ◌>>=◌
abbrev pub ◌>>=◌ : {A B : Type 0} → Translation A → (A → Translation B) → Translation B
t >>= f = λ env. let a = t env in let b = f a.value a.env in
    record { value = b.value; ops = a.ops ++ b.ops; env = b.env; fine = a.fine && b.fine }

abbrev pub both_made : {A B : Type 0} → Translation A → Translation B → Translation (A × B)
both_made t u env = let a = t env in let b = u a.env in
    record { value = (a.value, b.value); ops = a.ops ++ b.ops; env = b.env; fine = a.fine && b.fine }

-- Both, the first one first where the test holds.
abbrev pub ordered_made : {A B : Type 0} → Bool → Translation A → Translation B → Translation (A × B)
ordered_made true t u = both_made t u
ordered_made false t u = do p ← both_made u t; done (p.1, p.0)

abbrev pub held_by : Option Typed → Typed
held_by None = record { operand = Fixed 0; width = 1 }
held_by (Some t) = t

-- The value, which must be there.
abbrev pub needed : Option Typed → Translation Typed
needed o env = record { value = held_by o; ops = []; env = env; fine = is_some o }

abbrev pub valued : Translation (Option Typed) → Translation Typed
valued t = do o ← t; needed o

-- From left to right.
abbrev pub each_made : List Expressed → Translation (List Typed)
each_made [] = done []
each_made (x ∷ xs) = do p ← both_made (valued x.made) (each_made xs); done (p.0 ∷ p.1)

-- Arguments, each with the local that is to hold it.
abbrev pub given_made : List (ℕ × Expressed) → Translation (List (ℕ × Typed))
given_made [] = done []
given_made (g ∷ gs) = do p ← both_made (valued g.1.made) (given_made gs); done ((g.0, p.0) ∷ p.1)

abbrev pub seq : List (Translation ⊤) → Translation ⊤
seq [] = done tt
seq (t ∷ ts) = do _ ← t; seq ts

-- ---- operations

abbrev pub operands : List Typed → List Operand
operands ts = map (λ t. t.operand) ts

abbrev pub op : ℕ → Act → Op
op level a = record { guard = []; level = level; act = a }

abbrev pub new_field : Env → ℕ → Typed
new_field env w = record { operand = Field (length env.widths); width = w }

abbrev pub with_field : Env → ℕ → Env
with_field env w = record env { widths = env.widths ++ w ∷ [] }

-- One operation, which writes a new field of this width.
abbrev pub emit : ℕ → (ℕ → Act) → Translation (Option Typed)
emit w a env = record {
  value = Some (new_field env w);
  ops = op env.place (a (length env.widths)) ∷ [];
  env = with_field env w;
  fine = true;
}

abbrev pub read : ℕ → Translation (Option Typed)
read i env = done (slice_index_or env.held i None) env

abbrev pub given : ℕ → Operand → Translation (Option Typed)
given w o = done (Some (record { operand = o; width = w }))

-- A call of an array; behind it the next array may be called. Where it answers it writes a new field.
abbrev pub touch_made : ℕ → MemAlu → MemAlu → Bool → Typed × (Typed × Typed) → Translation (Option Typed)
touch_made array get set true p env = record {
  value = Some (new_field env get.width);
  ops = op env.place (act.Touch array p.0.operand get p.1.0.operand set p.1.1.operand (Some (length env.widths))) ∷ [];
  env = record (with_field env get.width) { place = array + 1 };
  fine = true;
}
touch_made array get set false p env = record {
  value = None;
  ops = op env.place (act.Touch array p.0.operand get p.1.0.operand set p.1.1.operand None) ∷ [];
  env = record env { place = array + 1 };
  fine = true;
}

abbrev pub holding : List (Option Typed) → List (ℕ × Typed) → List (Option Typed)
holding held gs = fold (λ hs g. slice_set hs g.0 (Some g.1)) held gs

-- An inlined body, with its parameters bound to their arguments. After it the caller's locals and answer are as before.
abbrev pub call_made : Translation ⊤ → List (ℕ × Typed) → Translation (Option Typed)
call_made body gs env = let a = body (record env { held = holding env.held gs; answer = None }) in
    record { value = a.env.answer; ops = a.ops; env = record a.env { held = env.held; answer = env.answer }; fine = a.fine }

-- A move to a new field, which holds the local from now on.
abbrev pub assign : ℕ → Typed → Translation ⊤
assign i t env = record {
  value = tt;
  ops = op env.place (act.Move t.operand (length env.widths)) ∷ [];
  env = record (with_field env t.width) { held = slice_set env.held i (Some (new_field env t.width)) };
  fine = true;
}

abbrev pub return_made : Typed → Translation ⊤
return_made t env = record { value = tt; ops = []; env = record env { held = []; answer = Some t }; fine = true }

abbrev pub return_none : Translation ⊤
return_none env = record { value = tt; ops = []; env = record env { held = [] }; fine = true }

-- An operation that sends something out in the next slot.
abbrev pub out_made : (ℕ → Act) → Translation ⊤
out_made a env = record { value = tt; ops = op env.place (a env.slot) ∷ []; env = record env { slot = env.slot + 1 }; fine = true }

abbrev pub delay_made : Option Expressed → Translation Operand
delay_made None = done (Fixed 0)
delay_made (Some x) = do t ← valued x.made; done t.operand

abbrev pub target_made : Option Expressed → Translation (Option Operand)
target_made None = done None
target_made (Some x) = do t ← valued x.made; done (Some t.operand)

-- ---- ifs

abbrev pub moved : Typed → Translation ℕ
moved t env = record {
  value = length env.widths;
  ops = op env.place (act.Move t.operand (length env.widths)) ∷ [];
  env = with_field env 1;
  fine = nat_eq t.width 1;
}

-- The field of one bit that holds a condition: a new one where it needs a move.
abbrev pub bit_field : Bool → Operand → Typed → Translation ℕ
bit_field true o t env = moved t env
bit_field false (Fixed v) t env = moved t env
bit_field false (Field k) t env = record { value = k; ops = []; env = env; fine = nat_eq t.width 1 }

abbrev pub condition : Expressed → Translation ℕ
condition x = do t ← valued x.made; bit_field x.needs_move t.operand t

abbrev pub guarded : Literal → Op → Op
guarded l o = record o { guard = l ∷ o.guard }

abbrev pub is : ℕ → ℕ → Literal
is k v = record { field = k; equal = true; value = v }

abbrev pub same_operand : Operand → Operand → Bool
same_operand (Fixed a) (Fixed b) = nat_eq a b
same_operand (Field a) (Field b) = nat_eq a b
same_operand (Fixed a) (Field b) = false
same_operand (Field a) (Fixed b) = false

abbrev pub same : Typed → Typed → Bool
same a b = same_operand a.operand b.operand && nat_eq a.width b.width

-- The operands of some locals after an if, the moves that make them, and the widths of the fields then.
pub record Joined : Type 0 where
  pub held : List (Option Typed)
  pub ops : List Op
  pub widths : List ℕ
  pub fine : Bool

abbrev pub nothing_joined : List ℕ → Joined
nothing_joined widths = record { held = []; ops = []; widths = widths; fine = true }

abbrev pub keep_one : Option Typed → Joined → Joined
keep_one o rest = record rest { held = o ∷ rest.held }

-- Field k takes the one operand where condition c holds, and the other where it doesn't.
abbrev pub moves : ℕ → ℕ → ℕ → Operand → Operand → List Op → List Op
moves level c k a b rest = guarded (is c 1) (op level (act.Move a k)) ∷ (guarded (is c 0) (op level (act.Move b k)) ∷ rest)

abbrev pub join_one : ℕ → ℕ → List ℕ → Typed → Typed → (List ℕ → Joined) → Joined
join_one level c widths a b rest = let r = rest (widths ++ a.width ∷ []) in record {
  held = Some (record { operand = Field (length widths); width = a.width }) ∷ r.held;
  ops = moves level c (length widths) a.operand b.operand r.ops;
  widths = r.widths;
  fine = nat_eq a.width b.width && r.fine;
}

-- A local, from its operands before the if and at the ends of the two branches. One that no branch assigns keeps its operand.
abbrev pub join_at : ℕ → ℕ → List ℕ → Option Typed → Option Typed → Option Typed → (List ℕ → Joined) → Joined
join_at level c widths None x y rest = keep_one None (rest widths)
join_at level c widths (Some o) None y rest = keep_one None (rest widths)
join_at level c widths (Some o) (Some a) None rest = keep_one None (rest widths)
join_at level c widths (Some o) (Some a) (Some b) rest =
    if same a b then keep_one (Some a) (rest widths) else join_one level c widths a b rest

-- The locals from outside the if, in the order of their numbers. None where a branch returned.
abbrev pub joins : ℕ → ℕ → List (Option Typed) → List (Option Typed) → List (Option Typed) → List ℕ → Joined
joins level c [] xs ys widths = nothing_joined widths
joins level c (o ∷ os) [] ys widths = nothing_joined widths
joins level c (o ∷ os) (x ∷ xs) [] widths = nothing_joined widths
joins level c (o ∷ os) (x ∷ xs) (y ∷ ys) widths = join_at level c widths o x y (joins level c os xs ys)

-- The answer, where both branches return a value.
abbrev pub join_answer : ℕ → ℕ → Option Typed → Option Typed → List ℕ → Joined
join_answer level c None y widths = keep_one None (nothing_joined widths)
join_answer level c (Some a) None widths = keep_one None (nothing_joined widths)
join_answer level c (Some a) (Some b) widths = join_one level c widths a b nothing_joined

-- Both branches begin at the end of the condition, and each is guarded by the value of the condition's field there; then come the joins.
abbrev pub branch : Translation ⊤ → Translation ⊤ → ℕ → Translation ⊤
branch t e c env =
    let a = t env in
    let b = e (record env { widths = a.env.widths }) in
    let level = max a.env.place b.env.place in
    let j = joins level c env.held a.env.held b.env.held b.env.widths in
    let k = join_answer level c a.env.answer b.env.answer j.widths in
    record {
      value = tt;
      ops = map (guarded (is c 1)) a.ops ++ (map (guarded (is c 0)) b.ops ++ (j.ops ++ k.ops));
      env = record {
        widths = k.widths;
        held = j.held;
        answer = slice_index_or k.held 0 None;
        slot = max a.env.slot b.env.slot;
        place = level;
      };
      fine = a.fine && (b.fine && (j.fine && k.fine));
    }

-- ---- bodies

-- A form that no flat core has.
abbrev pub absent : {A : Type 0} → A → Translation A
absent x env = record { value = x; ops = []; env = env; fine = false }

abbrev pub made_by : Translation (Option Typed) → Expressed
made_by t = record { made = t; needs_move = false }

abbrev pub plainly : Translation (Option Typed) → Expressed
plainly t = record { made = t; needs_move = true }

abbrev pub expr_step : Expr-F Expressed (Translation ⊤) Expressed → Expressed
expr_step (Expr-F.Fixed n) = plainly (given n.width (Fixed n.value))
expr_step (Expr-F.Local i) = plainly (read i)
expr_step Expr-F.Now = plainly (given 32 (Field 1))
expr_step Expr-F.Me = plainly (given 32 (Field 2))
expr_step (Expr-F.Un o x) = made_by (do a ← valued x.made; emit a.width (act.Un o a.width a.operand))
expr_step (Expr-F.Bin o x y) =
    made_by (do p ← both_made (valued x.made) (valued y.made); emit p.0.width (act.Bin o p.0.width p.0.operand p.1.operand))
expr_step (Expr-F.Cmp o x y) =
    made_by (do p ← both_made (valued x.made) (valued y.made); emit 1 (act.Cmp o p.0.width p.0.operand p.1.operand))
expr_step (Expr-F.Cast w x) = made_by (do a ← valued x.made; emit w (act.Cast a.operand))
expr_step (Expr-F.Hash w xs) = made_by (do ts ← each_made xs; emit w (act.Hash (operands ts)))
expr_step (Expr-F.Array t) = t
expr_step (Expr-F.Fun k names xs) = plainly (absent None)
expr_step (Expr-F.Inlined gs ss) = plainly (do held ← given_made gs; call_made (seq ss) held)

abbrev pub touch_step : Touch-F Expressed (Translation ⊤) Expressed → Expressed
touch_step t =
    let operands = both_made (valued t.index.made) (both_made (valued t.get_arg.made) (valued t.set_arg.made)) in
    made_by (do p ← operands; touch_made (array_of [] t.array) t.get t.set t.answers p)

abbrev pub stmt_step : Stmt-F Expressed (Translation ⊤) Expressed → Translation ⊤
stmt_step (Stmt-F.Assign i x) = do t ← valued x.made; assign i t
stmt_step (Stmt-F.Drop x) = do _ ← x.made; done tt
stmt_step (Stmt-F.If x ss ts) = do c ← condition x; branch (seq ss) (seq ts) c
stmt_step (Stmt-F.Gen event xs delay to delay_first) =
    let parts = both_made (each_made xs) (ordered_made delay_first (delay_made delay) (target_made to)) in
    do p ← parts; out_made (λ slot. act.Gen slot event (operands p.0) p.1.0 p.1.1)
stmt_step (Stmt-F.Multi event xs delay members) = absent tt
stmt_step (Stmt-F.Say form xs) = do ts ← each_made xs; out_made (λ slot. act.Say slot form (operands ts))
stmt_step (Stmt-F.Return None) = return_none
stmt_step (Stmt-F.Return (Some x)) = do t ← valued x.made; return_made t

abbrev pub expr_code : Expr → Expressed
expr_code = fold-Expr Expressed (Translation ⊤) Expressed expr_step stmt_step touch_step

abbrev pub stmt_code : Stmt → Translation ⊤
stmt_code = fold-Stmt Expressed (Translation ⊤) Expressed expr_step stmt_step touch_step

abbrev pub touch_code : Touch → Expressed
touch_code = fold-Touch Expressed (Translation ⊤) Expressed expr_step stmt_step touch_step

abbrev pub body_code : List Stmt → Translation ⊤
body_code ss = seq (map stmt_code ss)
