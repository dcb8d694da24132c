-- The worked examples. Each is computed from the translations of its nodes, one by one: a translation is taken apart only once it is
-- whole.
use Rattle.std.proofs.Common.{◌≡◌, ℕ, List, [], ◌∷◌, ◌++◌, None, Some, Bool, true, false, ◌&&◌, map, refl, ap, ap₂, ◌∙◌}
use Rattle.std.specs.Prelude.{⊤}
use Rattle.lucid_base.specs.declared.array.ArrayName.{ArrayName}
use Rattle.lucid_base.specs.declared.array.ArrayName.TheVariants.{Global}
use Rattle.lucid_base.specs.Bits.{bits_of}
use Rattle.lucid_base.specs.declared.memory_alu.MemAlu.{MemAlu}
use Rattle.lucid_base.specs.declared.ops.BinOp.TheVariants.{Add}
use Rattle.lucid_base.specs.declared.ops.CmpOp.TheVariants.{Lt}
use Rattle.lucid_base.specs.declared.ops.UnOp.TheVariants.{Neg}
use Rattle.lucid_core.specs.declared.body.Expr.{Expr}
use Rattle.lucid_core.specs.declared.body.Stmt.{Stmt}
use Rattle.lucid_core.specs.declared.body.Touch.{Touch}
use Rattle.lucid_core.specs.declared.body.Expr.TheOpen.{Expr-F, Stmt-F, Touch-F}
use Rattle.lucid_core.specs.declared.body.Expr.TheViews.{roll-Expr, roll-Stmt, roll-Touch}
use Rattle.lucid_core.specs.declared.body.Expr.TheFolds.{fold-roll-Expr, fold-roll-Stmt, fold-roll-Touch, map-Expr, map-Stmt, map-Touch}
use Rattle.lucid_core.specs.declared.defs.HandlerDef.{HandlerDef}
use Rattle.lucid_core.specs.ExamplePrograms as word
use Rattle.lucid_core.specs.ExamplePrograms.{plus}
use Rattle.lucid_core.specs.Parts.{CoreParts}
use Rattle.lucid_normal_spec.specs.Examples as ex
use Rattle.lucid_normal_spec.specs.Examples.{BranchExamples, FormExamples, ProgramExamples, bit_plus}
use Rattle.lucid_normal_spec.specs.Program.{Codes, all_codes, codes_of, input_widths, start}
use Rattle.lucid_normal_spec.specs.Translate as t
use Rattle.lucid_normal_spec.specs.Translate.{Expressed, Translated, Translation, expr_code, guarded, is, seq, stmt_code, touch_code}

-- ---- nodes

expr_is : (y : Expr-F Expr Stmt Touch) → expr_code (roll-Expr y) ≡ t.expr_step (map-Expr Expr Stmt Touch Expressed (Translation ⊤) Expressed expr_code stmt_code touch_code y)
expr_is y = fold-roll-Expr Expressed (Translation ⊤) Expressed t.expr_step t.stmt_step t.touch_step y

stmt_is : (y : Stmt-F Expr Stmt Touch) → stmt_code (roll-Stmt y) ≡ t.stmt_step (map-Stmt Expr Stmt Touch Expressed (Translation ⊤) Expressed expr_code stmt_code touch_code y)
stmt_is y = fold-roll-Stmt Expressed (Translation ⊤) Expressed t.expr_step t.stmt_step t.touch_step y

touch_is : (y : Touch-F Expr Stmt Touch) → touch_code (roll-Touch y) ≡ t.touch_step (map-Touch Expr Stmt Touch Expressed (Translation ⊤) Expressed expr_code stmt_code touch_code y)
touch_is y = fold-roll-Touch Expressed (Translation ⊤) Expressed t.expr_step t.stmt_step t.touch_step y

-- ---- trees with their translations

record E : Type 0 where
  tree : Expr
  code : Expressed
  same : expr_code tree ≡ code

record S : Type 0 where
  tree : Stmt
  code : Translation ⊤
  same : stmt_code tree ≡ code

abbrev exprs : List E → List Expr
exprs es = map (λ (e : E). e.tree) es

abbrev stmts : List S → List Stmt
stmts ss = map (λ (s : S). s.tree) ss

abbrev expr_codes : List E → List Expressed
expr_codes es = map (λ (e : E). e.code) es

abbrev stmt_codes : List S → List (Translation ⊤)
stmt_codes ss = map (λ (s : S). s.code) ss

exprs_same : (es : List E) → map expr_code (exprs es) ≡ expr_codes es
exprs_same [] = refl
exprs_same (e ∷ es) = ap₂ (λ (x : Expressed) (xs : List Expressed). x ∷ xs) e.same (exprs_same es)

stmts_same : (ss : List S) → map stmt_code (stmts ss) ≡ stmt_codes ss
stmts_same [] = refl
stmts_same (s ∷ ss) = ap₂ (λ (x : Translation ⊤) (xs : List (Translation ⊤)). x ∷ xs) s.same (stmts_same ss)

abbrev leaf : Expr-F Expr Stmt Touch → E
leaf y = record { tree = roll-Expr y; code = t.expr_step (map-Expr Expr Stmt Touch Expressed (Translation ⊤) Expressed expr_code stmt_code touch_code y); same = expr_is y }

abbrev number : ℕ → E
number n = leaf (Expr-F.Fixed (bits_of 32 n))

abbrev one : E
one = number 1

abbrev yes_ : E
yes_ = leaf (Expr-F.Fixed (bits_of 1 1))

abbrev local : ℕ → E
local i = leaf (Expr-F.Local i)

abbrev minus : E → E
minus e = record { tree = ex.minus e.tree; code = t.expr_step (Expr-F.Un Neg e.code); same = expr_is (Expr-F.Un Neg e.tree) ∙ ap (λ (x : Expressed). t.expr_step (Expr-F.Un Neg x)) e.same }

abbrev sum : E → E → E
sum e f = record {
  tree = ex.sum e.tree f.tree;
  code = t.expr_step (Expr-F.Bin Add e.code f.code);
  same = expr_is (Expr-F.Bin Add e.tree f.tree) ∙ ap₂ (λ (x y : Expressed). t.expr_step (Expr-F.Bin Add x y)) e.same f.same;
}

abbrev less : E → E → E
less e f = record {
  tree = word.less e.tree f.tree;
  code = t.expr_step (Expr-F.Cmp Lt e.code f.code);
  same = expr_is (Expr-F.Cmp Lt e.tree f.tree) ∙ ap₂ (λ (x y : Expressed). t.expr_step (Expr-F.Cmp Lt x y)) e.same f.same;
}

abbrev cast : ℕ → E → E
cast w e = record { tree = ex.cast w e.tree; code = t.expr_step (Expr-F.Cast w e.code); same = expr_is (Expr-F.Cast w e.tree) ∙ ap (λ (x : Expressed). t.expr_step (Expr-F.Cast w x)) e.same }

abbrev hash : ℕ → E → E
hash seed e = let es = number seed ∷ e ∷ [] in record {
  tree = word.hash seed e.tree;
  code = t.expr_step (Expr-F.Hash 32 (expr_codes es));
  same = expr_is (Expr-F.Hash 32 (exprs es)) ∙ ap (λ (xs : List Expressed). t.expr_step (Expr-F.Hash 32 xs)) (exprs_same es);
}

-- A call of an array with the same memop twice.
abbrev touching : {A : Type 0} → ArrayName → MemAlu → Bool → A → A → A → Touch-F A (Translation ⊤) Expressed
touching a m answers i x y = record { array = a; index = i; get = m; get_arg = x; set = m; set_arg = y; answers = answers }

abbrev touch : ArrayName → MemAlu → Bool → E → E → E → E
touch a m answers i x y = record {
  tree = roll-Expr (Expr-F.Array (roll-Touch (record { array = a; index = i.tree; get = m; get_arg = x.tree; set = m; set_arg = y.tree; answers = answers })));
  code = t.touch_step (touching a m answers i.code x.code y.code);
  same = expr_is (Expr-F.Array (roll-Touch (record { array = a; index = i.tree; get = m; get_arg = x.tree; set = m; set_arg = y.tree; answers = answers })))
      ∙ touch_is (record { array = a; index = i.tree; get = m; get_arg = x.tree; set = m; set_arg = y.tree; answers = answers })
      ∙ ap₂ (λ (p : Expressed) (q : Expressed × Expressed). t.touch_step (touching a m answers p q.0 q.1)) i.same (ap₂ (λ (p q : Expressed). (p, q)) x.same y.same);
}

abbrev put_in : List S → E
put_in ss = record {
  tree = ex.put_in (stmts ss);
  code = t.expr_step (Expr-F.Inlined ((3, (local 0).code) ∷ []) (stmt_codes ss));
  same = expr_is (Expr-F.Inlined ((3, word.local 0) ∷ []) (stmts ss)) ∙ ap₂ (λ (x : Expressed) (xs : List (Translation ⊤)). t.expr_step (Expr-F.Inlined ((3, x) ∷ []) xs)) (local 0).same (stmts_same ss);
}

abbrev assign : ℕ → E → S
assign i e = record { tree = word.assign i e.tree; code = t.stmt_step (Stmt-F.Assign i e.code); same = stmt_is (Stmt-F.Assign i e.tree) ∙ ap (λ (x : Expressed). t.stmt_step (Stmt-F.Assign i x)) e.same }

abbrev drop_value : E → S
drop_value e = record { tree = word.drop_value e.tree; code = t.stmt_step (Stmt-F.Drop e.code); same = stmt_is (Stmt-F.Drop e.tree) ∙ ap (λ (x : Expressed). t.stmt_step (Stmt-F.Drop x)) e.same }

abbrev choose : E → List S → List S → S
choose e ss us = record {
  tree = word.choose e.tree (stmts ss) (stmts us);
  code = t.stmt_step (Stmt-F.If e.code (stmt_codes ss) (stmt_codes us));
  same = stmt_is (Stmt-F.If e.tree (stmts ss) (stmts us))
      ∙ ap₂ (λ (x : Expressed) (p : List (Translation ⊤) × List (Translation ⊤)). t.stmt_step (Stmt-F.If x p.0 p.1)) e.same (ap₂ (λ (p q : List (Translation ⊤)). (p, q)) (stmts_same ss) (stmts_same us));
}

abbrev generate : List E → S
generate es = record {
  tree = word.generate 0 (exprs es);
  code = t.stmt_step (Stmt-F.Gen 0 (expr_codes es) None None false);
  same = stmt_is (Stmt-F.Gen 0 (exprs es) None None false) ∙ ap (λ (xs : List Expressed). t.stmt_step (Stmt-F.Gen 0 xs None None false)) (exprs_same es);
}

abbrev sent_to : List E → E → S
sent_to es e = record {
  tree = word.generate_with 0 (exprs es) None (Some e.tree) false;
  code = t.stmt_step (Stmt-F.Gen 0 (expr_codes es) None (Some e.code) false);
  same = stmt_is (Stmt-F.Gen 0 (exprs es) None (Some e.tree) false) ∙ ap₂ (λ (xs : List Expressed) (x : Expressed). t.stmt_step (Stmt-F.Gen 0 xs None (Some x) false)) (exprs_same es) e.same;
}

abbrev sent_after : E → E → Bool → S
sent_after e f first = record {
  tree = word.generate_with 0 [] (Some e.tree) (Some f.tree) first;
  code = t.stmt_step (Stmt-F.Gen 0 [] (Some e.code) (Some f.code) first);
  same = stmt_is (Stmt-F.Gen 0 [] (Some e.tree) (Some f.tree) first) ∙ ap₂ (λ (x y : Expressed). t.stmt_step (Stmt-F.Gen 0 [] (Some x) (Some y) first)) e.same f.same;
}

abbrev print : E → S
print e = record { tree = ex.print e.tree; code = t.stmt_step (Stmt-F.Say 0 (e.code ∷ [])); same = stmt_is (Stmt-F.Say 0 (e.tree ∷ [])) ∙ ap (λ (x : Expressed). t.stmt_step (Stmt-F.Say 0 (x ∷ []))) e.same }

abbrev return_none : S
return_none = record { tree = word.return None; code = t.stmt_step (Stmt-F.Return None); same = stmt_is (Stmt-F.Return None) }

abbrev gives : E → List S
gives e = record { tree = word.return (Some e.tree); code = t.stmt_step (Stmt-F.Return (Some e.code)); same = stmt_is (Stmt-F.Return (Some e.tree)) ∙ ap (λ (x : Expressed). t.stmt_step (Stmt-F.Return (Some x))) e.same } ∷ []

abbrev is_small : E
is_small = less (local 0) one

abbrev other_small : E
other_small = less (local 1) one

abbrev updated : ℕ → E
updated a = touch (Global a) plus true (local 0) one one

abbrev add_to : ℕ → E → S
add_to a e = drop_value (touch (Global a) plus false (number 0) one e)

abbrev set_bit : E
set_bit = touch (Global 0) bit_plus true (number 0) yes_ yes_

-- ---- handlers

-- Handlers with the translations of their statements.
abbrev codes_with : CoreParts → List ℕ → List (HandlerDef × List (Translation ⊤)) → Codes
codes_with parts widths [] = record { ops = []; widths = widths; fine = true }
codes_with parts widths (p ∷ ps) =
    let a = seq p.1 (start parts widths p.0) in
    let r = codes_with parts a.env.widths ps in
    record { ops = map (guarded (is 0 p.0.event)) a.ops ++ r.ops; widths = r.widths; fine = a.fine && r.fine }

abbrev handlers_with : List (HandlerDef × List S) → List HandlerDef
handlers_with ps = map (λ (p : HandlerDef × List S). record p.0 { body = stmts p.1 }) ps

abbrev with_codes : List (HandlerDef × List S) → List (HandlerDef × List (Translation ⊤))
with_codes ps = map (λ (p : HandlerDef × List S). (p.0, stmt_codes p.1)) ps

abbrev behind : HandlerDef → Translated ⊤ → Codes → Codes
behind h a r = record { ops = map (guarded (is 0 h.event)) a.ops ++ r.ops; widths = r.widths; fine = a.fine && r.fine }

abbrev one_more : CoreParts → List ℕ → HandlerDef → List (Translation ⊤) → (List ℕ → Codes) → Codes
one_more parts widths h ts rest = let a = seq ts (start parts widths h) in behind h a (rest a.env.widths)

whole : (parts : CoreParts) (widths : List ℕ) (ps : List (HandlerDef × List S)) → codes_of parts widths (handlers_with ps) ≡ codes_with parts widths (with_codes ps)
whole parts widths [] = refl
whole parts widths (p ∷ ps) =
    let a = seq (stmt_codes p.1) (start parts widths p.0) in
    ap (λ (ts : List (Translation ⊤)). one_more parts widths p.0 ts (λ ws. codes_of parts ws (handlers_with ps))) (stmts_same p.1)
    ∙ ap (λ (r : Codes). behind p.0 a r) (whole parts a.env.widths ps)

becomes : (ss : List S) → all_codes (word.flat (stmts ss)) ≡ codes_with (word.flat []) (input_widths (word.flat [])) ((word.handler [], stmt_codes ss) ∷ [])
becomes ss = whole (word.flat []) (input_widths (word.flat [])) ((word.handler [], ss) ∷ [])

becomes_with : (locals : List ℕ) (ss : List S) → all_codes (ex.flat_with locals (stmts ss)) ≡ codes_with (word.flat []) (input_widths (word.flat [])) ((record (word.handler []) { locals = locals }, stmt_codes ss) ∷ [])
becomes_with locals ss = whole (word.flat []) (input_widths (word.flat [])) ((record (word.handler []) { locals = locals }, ss) ∷ [])

abbrev four : List ℕ
four = 32 ∷ 32 ∷ 32 ∷ 32 ∷ []

pub form_examples : FormExamples
form_examples = record {
  nothing = becomes [];
  fixed_number = becomes (assign 2 one ∷ []);
  locals = becomes (assign 2 (local 0) ∷ assign 0 (local 2) ∷ assign 0 (local 0) ∷ []);
  unary = becomes (assign 2 (minus (local 0)) ∷ []);
  binary = becomes (assign 2 (sum (local 0) (minus (local 1))) ∷ []);
  comparison_cast = becomes (assign 2 (cast 32 is_small) ∷ []);
  hashed = becomes (assign 2 (hash 7 (local 0)) ∷ []);
  tick_and_switch = becomes (assign 2 (sum (leaf Expr-F.Now) (leaf Expr-F.Me)) ∷ []);
  calls = becomes (assign 2 (updated 0) ∷ add_to 1 (local 2) ∷ []);
  dropped = becomes (drop_value (updated 0) ∷ drop_value (local 0) ∷ []);
  sent_and_printed = becomes (print (local 0) ∷ generate (local 0 ∷ one ∷ []) ∷ []);
  delay_first = becomes (sent_after (minus (local 0)) (minus (local 1)) true ∷ []);
  target_first = becomes (sent_after (minus (local 0)) (minus (local 1)) false ∷ []);
  group = becomes (assign 2 (local 0) ∷ sent_to (local 2 ∷ []) (number 4) ∷ sent_to (local 2 ∷ []) (number 2) ∷ []);
}

pub branch_examples : BranchExamples
branch_examples = record {
  of_comparison = becomes (choose is_small (print (local 0) ∷ []) (print one ∷ []) ∷ []);
  of_truth = becomes (choose yes_ (print one ∷ []) [] ∷ []);
  of_local = becomes_with (32 ∷ 32 ∷ 1 ∷ []) (assign 2 is_small ∷ choose (local 2) (print one ∷ []) [] ∷ []);
  of_call = becomes_with four (choose (put_in (gives (less (local 3) one))) (print one ∷ []) [] ∷ []);
  of_array_call = whole (word.flat []) (input_widths (word.flat [])) ((word.handler [], choose set_bit (print one ∷ []) [] ∷ []) ∷ []);
  joined = becomes (choose is_small (assign 0 one ∷ []) [] ∷ []);
  joined_in_order = becomes (choose is_small (assign 1 one ∷ assign 0 one ∷ []) [] ∷ []);
  joined_once = becomes (choose is_small (assign 0 one ∷ []) (assign 0 (local 1) ∷ []) ∷ []);
  not_held = becomes (choose is_small (assign 2 one ∷ []) [] ∷ []);
  nested = becomes (choose is_small (choose other_small (assign 0 one ∷ []) [] ∷ []) [] ∷ []);
  level_of_joins = becomes (choose is_small (assign 0 (updated 0) ∷ []) [] ∷ add_to 1 (local 0) ∷ []);
  level_of_second = becomes (choose is_small [] (assign 0 (updated 0) ∷ []) ∷ add_to 1 (local 0) ∷ []);
  slots = becomes (choose is_small (print one ∷ print one ∷ []) (print one ∷ []) ∷ print (local 0) ∷ []);
  slots_of_second = becomes (choose is_small [] (print one ∷ []) ∷ print (local 0) ∷ []);
  returns = becomes (choose is_small (choose other_small (return_none ∷ []) [] ∷ []) (assign 0 one ∷ []) ∷ []);
  joins_and_returns = becomes (choose is_small (choose other_small (assign 0 one ∷ []) [] ∷ print (local 0) ∷ return_none ∷ []) [] ∷ []);
  call = becomes_with four (assign 2 (put_in (assign 3 (minus (local 3)) ∷ gives (local 3))) ∷ []);
  call_without_answer = becomes_with four (drop_value (put_in (print (local 3) ∷ return_none ∷ [])) ∷ print (local 0) ∷ []);
  answers = becomes_with four (print (put_in (choose is_small (gives one) (gives (number 2)) ∷ [])) ∷ []);
  nested_answers = becomes_with four (print (put_in (choose is_small (choose other_small (gives one) (gives one) ∷ []) (gives (number 3)) ∷ [])) ∷ []);
  updates_either = becomes (assign 2 one ∷ choose is_small (assign 2 (updated 0) ∷ []) (assign 2 (updated 0) ∷ []) ∷ generate (local 0 ∷ local 2 ∷ []) ∷ []);
}

pub program_examples : ProgramExamples
program_examples = record {
  inputs = refl;
  handlers = whole ex.three_events (input_widths ex.three_events)
      ((word.handler [], assign 2 (local 1) ∷ print (local 0) ∷ []) ∷ (record (word.handler []) { event = 1; locals = 16 ∷ 64 ∷ 8 ∷ [] }, assign 0 (local 0) ∷ print (local 2) ∷ []) ∷ []);
}
