-- The core of that program, by the typing rules, and the order of its arrays.
use Rattle.std.proofs.Common.{◌≡◌, ◌<◌, ◌^◌, ◌∙◌, ℕ, List, [], ◌∷◌, true, false, None, Some, ap, arith, codes, refl, subst, sym}
use Rattle.std.proofs.lemmas.Bool.{and_from}
use Rattle.std.specs.Prelude.{All}
use Rattle.std.proofs.lemmas.List.Elements.{All-cons, All-nil}
use Rattle.lucid_base.specs.Bits.{bits_of}
use Rattle.lucid_base.specs.declared.array.ArrayName.TheVariants.{Global}
use Rattle.lucid_base.specs.declared.memory_alu.MemArg.TheVariants.{Stored}
use Rattle.lucid_base.specs.declared.ops.BinOp.TheVariants as bin
use Rattle.lucid_base.specs.declared.ops.CmpOp.TheVariants.{Gt}
use Rattle.lucid_core.specs.declared.body.Expr.{Expr}
use Rattle.lucid_core.specs.declared.body.Expr.TheOpen.{Expr-F, Stmt-F, Touch-F}
use Rattle.lucid_core.specs.declared.body.Expr.TheVariants as expr
use Rattle.lucid_core.specs.declared.body.Expr.TheViews.{roll-Expr, roll-Stmt}
use Rattle.lucid_core.specs.declared.body.Stmt.{Stmt}
use Rattle.lucid_core.specs.declared.body.Stmt.TheVariants as core
use Rattle.lucid_core.specs.declared.body.Touch.{Touch, roll-Touch}
use Rattle.lucid_core.specs.declared.ending.Ending.TheVariants.{Never}
use Rattle.lucid_core.specs.ExamplePrograms.{local, number, plus}
use Rattle.lucid_core.specs.Parts.{CoreParts}
use Rattle.lucid_core.proofs.Folds.{folds}
use Rattle.lucid_effects_spec.specs.Laws.{own_numbers}
use Rattle.lucid_effects_spec.specs.Order.{InOrder, IsAccepted}
use Rattle.lucid_effects_spec.specs.Order as arrays
use Rattle.lucid_memop.specs.Shape as shape
use Rattle.lucid_parse_tree.specs.declared.tree.A.TheOpen.{E-F}
use Rattle.lucid_parse_tree.specs.declared.tree.A.TheViews.{out-E, out-roll-E}
use Rattle.lucid_parse_tree.specs.declared.tree.E.{E}
use Rattle.lucid_parse_tree.specs.declared.tree.E.TheVariants as e
use Rattle.lucid_parse_tree.specs.declared.tree.Infix.{Infix}
use Rattle.lucid_parse_tree.specs.declared.tree.Infix.TheVariants.{Caret}
use Rattle.lucid_parse_tree.specs.declared.tree.No.TheOpen.{S-F}
use Rattle.lucid_parse_tree.specs.declared.tree.S.{S, fold-roll-S}
use Rattle.lucid_parse_tree.specs.declared.tree.S.TheVariants as s
use Rattle.lucid_types_spec.specs.declared.body.Body.{Body}
use Rattle.lucid_types_spec.specs.declared.body.Destination.TheVariants.{Here}
use Rattle.lucid_types_spec.specs.declared.scope.Entry.TheVariants as entry
use Rattle.lucid_types_spec.specs.declared.scope.ValueType.TheVariants.{Int}
use Rattle.lucid_types_spec.specs.Block.{Block, Numbered, Statement, before, one}
use Rattle.lucid_types_spec.specs.Block as block
use Rattle.lucid_types_spec.specs.Declaration as rule
use Rattle.lucid_types_spec.specs.Declaration.{Definitions, parts_of, start}
use Rattle.lucid_types_spec.specs.Leaves as leaves
use Rattle.lucid_types_spec.specs.Leaves.{OnlyNumbers}
use Rattle.lucid_types_spec.specs.Limits.{cases_are_few, cases_of_choice, cases_of_no, cases_of_statement}
use Rattle.lucid_types_spec.specs.Makes.{IsTyped, Makes}
use Rattle.lucid_types_spec.specs.Makes as made
use Rattle.lucid_types_spec.specs.Memop as memop
use Rattle.lucid_types_spec.specs.Names.{Names, called, seen}
use Rattle.lucid_types_spec.specs.Sends as sends
use Rattle.lucid_types_spec.specs.Typed.{Free, Typed, returning, touching, zero_of}
use Rattle.lucid_types_spec.specs.Typed as typed
use Rattle.lucid_types_spec.specs.Types.{IsWidth}
use Rattle.lucid_types_spec.specs.Types as types
use Rattle.lucid_types_spec.proofs.FewCases as few
use Rattle.lucid_types_spec.proofs.Leaves.{Inside, inside, no_name}
use Rattle.lucid_types_spec.proofs.Rolled as rolled
use Rattle.lucid_top_laws.proofs.HandlerExamples.{ends}
use Rattle.lucid_top_laws.proofs.RolledLemmas as rolls
use Rattle.lucid_top_laws.proofs.GeneratedTree.{body_0, body_1, body_2, body_3, body_4, body_5, body_6, body_7, decls, got, i_name, late, put, sent_across, sent_here, updated, v_name, values}

-- ---- statements of handlers

wide : IsWidth 32
wide = (omega arith, omega arith)

abbrev top : Names
top =
    called (codes "e7") (entry.Event 7 (32 ∷ 32 ∷ []))
    ∷ called (codes "e6") (entry.Event 6 (32 ∷ 32 ∷ []))
    ∷ called (codes "e5") (entry.Event 5 (32 ∷ 32 ∷ []))
    ∷ called (codes "e4") (entry.Event 4 (32 ∷ 32 ∷ []))
    ∷ called (codes "e3") (entry.Event 3 (32 ∷ 32 ∷ []))
    ∷ called (codes "e2") (entry.Event 2 (32 ∷ 32 ∷ []))
    ∷ called (codes "e1") (entry.Event 1 (32 ∷ 32 ∷ []))
    ∷ called (codes "e0") (entry.Event 0 (32 ∷ 32 ∷ []))
    ∷ called (codes "plus") (entry.Memop plus)
    ∷ called (codes "a7") (entry.Array (Global 7) 32)
    ∷ called (codes "a6") (entry.Array (Global 6) 32)
    ∷ called (codes "a5") (entry.Array (Global 5) 32)
    ∷ called (codes "a4") (entry.Array (Global 4) 32)
    ∷ called (codes "a3") (entry.Array (Global 3) 32)
    ∷ called (codes "a2") (entry.Array (Global 2) 32)
    ∷ called (codes "a1") (entry.Array (Global 1) 32)
    ∷ called (codes "a0") (entry.Array (Global 0) 32)
    ∷ []

abbrev names : Names
names = called (codes "v") (entry.Local 1 (Int 32)) ∷ called (codes "i") (entry.Local 0 (Int 32)) ∷ top

abbrev at : Numbered
at = record { locals = 32 ∷ 32 ∷ []; forms = [] }

local_i : Typed names (Int 32) i_name (expr.Local 0)
local_i = typed.local _ _ _ refl

local_v : Typed names (Int 32) v_name (expr.Local 1)
local_v = typed.local _ _ _ refl

free_i : Free names i_name 32 (expr.Local 0)
free_i = typed.free _ _ _ (leaves.of_leaves _ _ wide (λ all. no_name (codes "i") all.0)) local_i

-- Each statement's core, as the rules give it and in rolls, on which folds compute.
abbrev got_touch : ℕ → Touch-F Expr Stmt Touch
got_touch q = record { array = Global q; index = local 0; get = plus; get_arg = local 1; set = returning 32 Stored; set_arg = number 0; answers = true }

abbrev put_touch : ℕ → Touch-F Expr Stmt Touch
put_touch q = record { array = Global q; index = local 0; get = returning 32 Stored; get_arg = number 0; set = plus; set_arg = local 1; answers = false }

abbrev updated_touch : ℕ → Touch-F Expr Stmt Touch
updated_touch q = record { array = Global q; index = local 0; get = plus; get_arg = number 1; set = plus; set_arg = local 1; answers = true }

abbrev answered : Touch-F Expr Stmt Touch → Stmt
answered t = roll-Stmt (Stmt-F.Assign 1 (roll-Expr (Expr-F.Array (roll-Touch t))))

abbrev pub got_core : ℕ → Stmt
got_core q = answered (got_touch q)

abbrev pub put_core : ℕ → Stmt
put_core q = roll-Stmt (Stmt-F.Drop (roll-Expr (Expr-F.Array (roll-Touch (put_touch q)))))

abbrev pub updated_core : ℕ → ℕ → Stmt
updated_core q above = roll-Stmt (Stmt-F.If (roll-Expr (Expr-F.Cmp Gt (local 1) (number above))) (answered (updated_touch q) ∷ []) [])

abbrev next_index : Expr
next_index = roll-Expr (Expr-F.Bin bin.Add (local 0) (number 1))

abbrev other_switch : Expr
other_switch = roll-Expr (Expr-F.Bin bin.Xor (roll-Expr Expr-F.Me) (number 1))

abbrev pub here_core : ℕ → ℕ → Stmt
here_core j delay = roll-Stmt (Stmt-F.Gen j (next_index ∷ local 1 ∷ []) (Some (number delay)) None false)

abbrev pub across_core : ℕ → ℕ → Stmt
across_core j delay = roll-Stmt (Stmt-F.Gen j (next_index ∷ local 1 ∷ []) (Some (number delay)) (Some other_switch) true)

number_is : (n : ℕ) → expr.Fixed (bits_of 32 n) ≡ number n
number_is n = rolled.fixed (bits_of 32 n)

answered_is : (t : Touch-F Expr Stmt Touch) (x y z : Expr) → x ≡ t.index → y ≡ t.get_arg → z ≡ t.set_arg →
    core.Assign 1 (expr.Array (roll-Touch (record t { index = x; get_arg = y; set_arg = z }))) ≡ answered t
answered_is t x y z first second third = rolled.assign 1 (rolled.array (ap roll-Touch (rolled.touched t first second third)))

got_is : (q : ℕ) → core.Assign 1 (expr.Array (touching (Global q) (expr.Local 0) plus (expr.Local 1) (returning 32 Stored) (zero_of 32) true)) ≡ got_core q
got_is q = answered_is (got_touch q) _ _ _ (rolled.local 0) (rolled.local 1) (number_is 0)

put_is : (q : ℕ) → core.Drop (expr.Array (touching (Global q) (expr.Local 0) (returning 32 Stored) (zero_of 32) plus (expr.Local 1) false)) ≡ put_core q
put_is q = ap core.Drop (rolled.array (ap roll-Touch (rolled.touched (put_touch q) (rolled.local 0) (number_is 0) (rolled.local 1)))) ∙ sym (core.rolls-Drop _)

updated_is : (q above : ℕ) → core.If (expr.Cmp Gt (expr.Local 1) (expr.Fixed (bits_of 32 above)))
    (core.Assign 1 (expr.Array (touching (Global q) (expr.Local 0) plus (expr.Fixed (bits_of 32 1)) plus (expr.Local 1) true)) ∷ []) [] ≡ updated_core q above
updated_is q above =
    rolled.choose (rolled.cmp Gt (rolled.local 1) (number_is above))
    (rolled.parts (answered_is (updated_touch q) _ _ _ (rolled.local 0) (number_is 1) (rolled.local 1)) refl) refl

abbrev arguments : List Expr
arguments = expr.Bin bin.Add (expr.Local 0) (expr.Fixed (bits_of 32 1)) ∷ expr.Local 1 ∷ []

arguments_are : arguments ≡ next_index ∷ local 1 ∷ []
arguments_are = rolled.parts (rolls.computed bin.Add (rolled.local 0) (number_is 1)) (rolled.parts (rolled.local 1) refl)

late_is : (delay : ℕ) → Some (expr.Fixed (bits_of 32 delay)) ≡ Some (number delay)
late_is delay = ap (λ (c : Expr). Some c) (number_is delay)

here_is : (j delay : ℕ) → core.Gen j arguments (Some (expr.Fixed (bits_of 32 delay))) None false ≡ here_core j delay
here_is j delay = rolls.generated j false arguments_are (late_is delay) refl

across_is : (j delay : ℕ) → core.Gen j arguments (Some (expr.Fixed (bits_of 32 delay))) (Some (expr.Bin bin.Xor expr.Me (expr.Fixed (bits_of 32 1)))) true ≡ across_core j delay
across_is j delay =
    rolls.generated j true arguments_are (late_is delay) (ap (λ (c : Expr). Some c) (rolls.computed bin.Xor (sym expr.rolls-Me) (number_is 1)))

-- The statement has this core, which is the same in rolls.
abbrev IsStatement : S → Stmt → Type 0
IsStatement x c = Statement None names at x (one c Never) at

got_typed : (n : List ℕ) (q : ℕ) → seen n names ≡ Some (entry.Array (Global q) 32) → IsStatement (got n) (got_core q)
got_typed n q is = subst (IsStatement (got n)) (got_is q)
    (block.assign _ _ _ 1 (Int 32) _ _ refl (typed.array 32 _ _ (typed.getm _ _ _ _ 32 _ _ _ _ _ is free_i refl refl local_v)))

put_typed : (n : List ℕ) (q : ℕ) → seen n names ≡ Some (entry.Array (Global q) 32) → IsStatement (put n) (put_core q)
put_typed n q is = subst (IsStatement (put n)) (put_is q) (block.array _ _ _ _ _ (typed.setm _ _ _ _ 32 _ _ _ _ _ is free_i refl refl local_v))

updated_typed : (n : List ℕ) (q above : ℕ) → seen n names ≡ Some (entry.Array (Global q) 32) → above < 2 ^ 32 → IsStatement (updated n above) (updated_core q above)
updated_typed n q above is small = subst (IsStatement (updated n above)) (updated_is q above) (
    block.choose _ _ _ _ _ _ _ _ _
    (typed.compare 32 _ _ _ _ _ _ refl (leaves.of_leaves _ _ wide (λ all. no_name (codes "v") all.0)) local_v (typed.number _ _ small))
    (block.alone _ _ _ _ _
    (block.goes_on _ _ _ _ _ _ _ _
    (block.assign _ _ _ 1 (Int 32) _ _ refl (typed.array 32 _ _ (typed.update _ _ _ _ _ 32 _ _ _ _ _ _ _ _ is free_i refl refl (typed.number _ _ (omega arith)) refl refl local_v)))
    refl (block.end _ _))
    (λ is. cc)))

-- `SELF ^ 1` has a leaf that is no number.
no_sum : (sign : Infix) (x y : E) → OnlyNumbers (e.Infix sign x y) → OnlyNumbers x
no_sum sign x y of = (subst Inside (ap out-E (sym (e.rolls-Infix sign x y)) ∙ out-roll-E (E-F.Infix sign x y)) (inside of)).0

no_me : OnlyNumbers e.Me → ⊥
no_me of = subst Inside (ap out-E (sym e.rolls-Me) ∙ out-roll-E E-F.Me) (inside of)

late_typed : (n : List ℕ) (j delay : ℕ) → seen n names ≡ Some (entry.Event j (32 ∷ 32 ∷ [])) → delay < 2 ^ 32 →
    sends.Sends names (late n delay) (record { event = j; args = arguments; delay = Some (expr.Fixed (bits_of 32 delay)); to = Here; delay_first = false })
late_typed n j delay is small =
    sends.delay _ _ _ 32 _
    (sends.call _ j (32 ∷ 32 ∷ []) _ _ is
    (typed.value _ _ _ _ _ _ _ (typed.sum _ _ _ _ _ _ _ refl local_i (typed.number _ _ (omega arith))) (typed.value _ _ _ _ _ _ _ local_v typed.nothing)))
    refl (typed.free _ _ _ (leaves.of_numbers _ (leaves.number _, tt)) (typed.number _ _ small))

here_typed : (n : List ℕ) (j delay : ℕ) → seen n names ≡ Some (entry.Event j (32 ∷ 32 ∷ [])) → delay < 2 ^ 32 → IsStatement (sent_here n delay) (here_core j delay)
here_typed n j delay is small = subst (IsStatement (sent_here n delay)) (here_is j delay) (block.generate _ _ _ _ (late_typed n j delay is small))

across_typed : (n : List ℕ) (j delay : ℕ) → seen n names ≡ Some (entry.Event j (32 ∷ 32 ∷ [])) → delay < 2 ^ 32 → IsStatement (sent_across n delay) (across_core j delay)
across_typed n j delay is small = subst (IsStatement (sent_across n delay)) (across_is j delay) (
    block.generate _ _ _ _ (sends.locate _ _ _ 32 _ (late_typed n j delay is small) refl
    (typed.free _ _ _ (leaves.of_leaves _ _ wide (λ all. no_me (no_sum Caret e.Me (e.Number 1) all.0))) (typed.sum _ _ _ _ _ _ _ refl typed.me (typed.number _ _ (omega arith))))))

goes : (x : S) (d : Body) (xs : List S) (b : Body) → Statement None names at x d at → d.ending ≡ Never → Block None names at xs b at →
    Block None names at (x ∷ xs) (before d.steps b) at
goes x d xs b is never rest = block.goes_on _ _ _ _ _ _ _ _ is never rest

-- ---- handlers

abbrev pub steps_0 : List Stmt
steps_0 = updated_core 1 9 ∷ got_core 2 ∷ put_core 5 ∷ updated_core 6 59 ∷ across_core 0 17 ∷ []

typed_0 : Block None names at body_0 (record { steps = steps_0; ending = Never }) at
typed_0 =
    goes _ _ _ _ (updated_typed (codes "a1") 1 9 refl (omega arith)) refl
    (goes _ _ _ _ (got_typed (codes "a2") 2 refl) refl
    (goes _ _ _ _ (put_typed (codes "a5") 5 refl) refl
    (goes _ _ _ _ (updated_typed (codes "a6") 6 59 refl (omega arith)) refl
    (goes _ _ _ _ (across_typed (codes "e0") 0 17 refl (omega arith)) refl (block.end _ _)))))

abbrev pub steps_1 : List Stmt
steps_1 = put_core 1 ∷ got_core 4 ∷ across_core 4 37 ∷ []

typed_1 : Block None names at body_1 (record { steps = steps_1; ending = Never }) at
typed_1 =
    goes _ _ _ _ (put_typed (codes "a1") 1 refl) refl
    (goes _ _ _ _ (got_typed (codes "a4") 4 refl) refl
    (goes _ _ _ _ (across_typed (codes "e4") 4 37 refl (omega arith)) refl (block.end _ _)))

abbrev pub steps_2 : List Stmt
steps_2 = updated_core 6 915 ∷ updated_core 7 615 ∷ across_core 3 8 ∷ []

typed_2 : Block None names at body_2 (record { steps = steps_2; ending = Never }) at
typed_2 =
    goes _ _ _ _ (updated_typed (codes "a6") 6 915 refl (omega arith)) refl
    (goes _ _ _ _ (updated_typed (codes "a7") 7 615 refl (omega arith)) refl
    (goes _ _ _ _ (across_typed (codes "e3") 3 8 refl (omega arith)) refl (block.end _ _)))

abbrev pub steps_3 : List Stmt
steps_3 = updated_core 1 998 ∷ put_core 6 ∷ across_core 1 58 ∷ []

typed_3 : Block None names at body_3 (record { steps = steps_3; ending = Never }) at
typed_3 =
    goes _ _ _ _ (updated_typed (codes "a1") 1 998 refl (omega arith)) refl
    (goes _ _ _ _ (put_typed (codes "a6") 6 refl) refl
    (goes _ _ _ _ (across_typed (codes "e1") 1 58 refl (omega arith)) refl (block.end _ _)))

abbrev pub steps_4 : List Stmt
steps_4 = got_core 0 ∷ across_core 5 91 ∷ []

typed_4 : Block None names at body_4 (record { steps = steps_4; ending = Never }) at
typed_4 =
    goes _ _ _ _ (got_typed (codes "a0") 0 refl) refl
    (goes _ _ _ _ (across_typed (codes "e5") 5 91 refl (omega arith)) refl (block.end _ _))

abbrev pub steps_5 : List Stmt
steps_5 = got_core 0 ∷ updated_core 1 309 ∷ updated_core 3 652 ∷ updated_core 4 726 ∷ got_core 6 ∷ here_core 7 64 ∷ []

typed_5 : Block None names at body_5 (record { steps = steps_5; ending = Never }) at
typed_5 =
    goes _ _ _ _ (got_typed (codes "a0") 0 refl) refl
    (goes _ _ _ _ (updated_typed (codes "a1") 1 309 refl (omega arith)) refl
    (goes _ _ _ _ (updated_typed (codes "a3") 3 652 refl (omega arith)) refl
    (goes _ _ _ _ (updated_typed (codes "a4") 4 726 refl (omega arith)) refl
    (goes _ _ _ _ (got_typed (codes "a6") 6 refl) refl
    (goes _ _ _ _ (here_typed (codes "e7") 7 64 refl (omega arith)) refl (block.end _ _))))))

abbrev pub steps_6 : List Stmt
steps_6 = updated_core 0 812 ∷ put_core 3 ∷ got_core 5 ∷ got_core 6 ∷ across_core 4 49 ∷ []

typed_6 : Block None names at body_6 (record { steps = steps_6; ending = Never }) at
typed_6 =
    goes _ _ _ _ (updated_typed (codes "a0") 0 812 refl (omega arith)) refl
    (goes _ _ _ _ (put_typed (codes "a3") 3 refl) refl
    (goes _ _ _ _ (got_typed (codes "a5") 5 refl) refl
    (goes _ _ _ _ (got_typed (codes "a6") 6 refl) refl
    (goes _ _ _ _ (across_typed (codes "e4") 4 49 refl (omega arith)) refl (block.end _ _)))))

abbrev pub steps_7 : List Stmt
steps_7 = got_core 1 ∷ updated_core 2 519 ∷ updated_core 3 731 ∷ updated_core 4 318 ∷ got_core 5 ∷ put_core 6 ∷ across_core 6 96 ∷ []

typed_7 : Block None names at body_7 (record { steps = steps_7; ending = Never }) at
typed_7 =
    goes _ _ _ _ (got_typed (codes "a1") 1 refl) refl
    (goes _ _ _ _ (updated_typed (codes "a2") 2 519 refl (omega arith)) refl
    (goes _ _ _ _ (updated_typed (codes "a3") 3 731 refl (omega arith)) refl
    (goes _ _ _ _ (updated_typed (codes "a4") 4 318 refl (omega arith)) refl
    (goes _ _ _ _ (got_typed (codes "a5") 5 refl) refl
    (goes _ _ _ _ (put_typed (codes "a6") 6 refl) refl
    (goes _ _ _ _ (across_typed (codes "e6") 6 96 refl (omega arith)) refl (block.end _ _)))))))

two_ints : (s : Names) →
    types.Parameters 0 0 s values (types.ints (32 ∷ 32 ∷ [])) (called (codes "v") (entry.Local 1 (Int 32)) ∷ called (codes "i") (entry.Local 0 (Int 32)) ∷ s)
two_ints s = types.value _ _ _ _ _ _ _ _ _ (types.int _ wide) (types.value _ _ _ _ _ _ _ _ _ (types.int _ wide) (types.none _ _ _))

-- ---- limits

few_got : (n : List ℕ) → cases_are_few (got n) ≡ true
few_got n = few.assigned _ _

few_put : (n : List ℕ) → cases_are_few (put n) ≡ true
few_put n = ap cases_are_few (sym (s.rolls-Array _)) ∙ fold-roll-S _ _ _ cases_of_no cases_of_statement cases_of_choice (S-F.Array _)

few_updated : (n : List ℕ) (above : ℕ) → cases_are_few (updated n above) ≡ true
few_updated n above = few.alone _ _ (and_from _ _ (few.assigned _ _) refl)

few_here : (n : List ℕ) (delay : ℕ) → cases_are_few (sent_here n delay) ≡ true
few_here n delay = few.generated _

few_across : (n : List ℕ) (delay : ℕ) → cases_are_few (sent_across n delay) ≡ true
few_across n delay = few.generated _

few_0 : few.Few body_0
few_0 =
    and_from _ _ (few_updated _ _)
    (and_from _ _ (few_got _)
    (and_from _ _ (few_put _)
    (and_from _ _ (few_updated _ _)
    (and_from _ _ (few_across _ _) refl))))

few_1 : few.Few body_1
few_1 =
    and_from _ _ (few_put _)
    (and_from _ _ (few_got _)
    (and_from _ _ (few_across _ _) refl))

few_2 : few.Few body_2
few_2 =
    and_from _ _ (few_updated _ _)
    (and_from _ _ (few_updated _ _)
    (and_from _ _ (few_across _ _) refl))

few_3 : few.Few body_3
few_3 =
    and_from _ _ (few_updated _ _)
    (and_from _ _ (few_put _)
    (and_from _ _ (few_across _ _) refl))

few_4 : few.Few body_4
few_4 =
    and_from _ _ (few_got _)
    (and_from _ _ (few_across _ _) refl)

few_5 : few.Few body_5
few_5 =
    and_from _ _ (few_got _)
    (and_from _ _ (few_updated _ _)
    (and_from _ _ (few_updated _ _)
    (and_from _ _ (few_updated _ _)
    (and_from _ _ (few_got _)
    (and_from _ _ (few_here _ _) refl)))))

few_6 : few.Few body_6
few_6 =
    and_from _ _ (few_updated _ _)
    (and_from _ _ (few_put _)
    (and_from _ _ (few_got _)
    (and_from _ _ (few_got _)
    (and_from _ _ (few_across _ _) refl))))

few_7 : few.Few body_7
few_7 =
    and_from _ _ (few_got _)
    (and_from _ _ (few_updated _ _)
    (and_from _ _ (few_updated _ _)
    (and_from _ _ (few_updated _ _)
    (and_from _ _ (few_got _)
    (and_from _ _ (few_put _)
    (and_from _ _ (few_across _ _) refl))))))

-- ---- the program

abbrev definitions : Definitions
definitions = record {
  names = top;
  arrays =
      record { name = codes "a0"; width = 32; size = 22 }
      ∷ record { name = codes "a1"; width = 32; size = 24 }
      ∷ record { name = codes "a2"; width = 32; size = 31 }
      ∷ record { name = codes "a3"; width = 32; size = 28 }
      ∷ record { name = codes "a4"; width = 32; size = 52 }
      ∷ record { name = codes "a5"; width = 32; size = 62 }
      ∷ record { name = codes "a6"; width = 32; size = 51 }
      ∷ record { name = codes "a7"; width = 32; size = 63 }
      ∷ [];
  memops = record { name = codes "plus"; alu = plus } ∷ [];
  events =
      record { name = codes "e0"; params = 32 ∷ 32 ∷ []; handler = Some 0 }
      ∷ record { name = codes "e1"; params = 32 ∷ 32 ∷ []; handler = Some 1 }
      ∷ record { name = codes "e2"; params = 32 ∷ 32 ∷ []; handler = Some 2 }
      ∷ record { name = codes "e3"; params = 32 ∷ 32 ∷ []; handler = Some 3 }
      ∷ record { name = codes "e4"; params = 32 ∷ 32 ∷ []; handler = Some 4 }
      ∷ record { name = codes "e5"; params = 32 ∷ 32 ∷ []; handler = Some 5 }
      ∷ record { name = codes "e6"; params = 32 ∷ 32 ∷ []; handler = Some 6 }
      ∷ record { name = codes "e7"; params = 32 ∷ 32 ∷ []; handler = Some 7 }
      ∷ [];
  funs = [];
  handlers =
      record { event = 0; locals = 32 ∷ 32 ∷ []; body = steps_0; decl = 18; line = 18 }
      ∷ record { event = 1; locals = 32 ∷ 32 ∷ []; body = steps_1; decl = 19; line = 25 }
      ∷ record { event = 2; locals = 32 ∷ 32 ∷ []; body = steps_2; decl = 20; line = 30 }
      ∷ record { event = 3; locals = 32 ∷ 32 ∷ []; body = steps_3; decl = 21; line = 35 }
      ∷ record { event = 4; locals = 32 ∷ 32 ∷ []; body = steps_4; decl = 22; line = 40 }
      ∷ record { event = 5; locals = 32 ∷ 32 ∷ []; body = steps_5; decl = 23; line = 44 }
      ∷ record { event = 6; locals = 32 ∷ 32 ∷ []; body = steps_6; decl = 24; line = 52 }
      ∷ record { event = 7; locals = 32 ∷ 32 ∷ []; body = steps_7; decl = 25; line = 59 }
      ∷ [];
  forms = [];
}

abbrev pub core_parts : CoreParts
core_parts = parts_of definitions

pub is_typed : IsTyped (record { decls = decls }) core_parts
is_typed = (
  definitions,
  made.one_more _ _ _ _ _ _ (rule.global _ _ _ _ _ wide (rule.number _) (omega arith) (omega arith)) refl
      (made.one_more _ _ _ _ _ _ (rule.global _ _ _ _ _ wide (rule.number _) (omega arith) (omega arith)) refl
      (made.one_more _ _ _ _ _ _ (rule.global _ _ _ _ _ wide (rule.number _) (omega arith) (omega arith)) refl
      (made.one_more _ _ _ _ _ _ (rule.global _ _ _ _ _ wide (rule.number _) (omega arith) (omega arith)) refl
      (made.one_more _ _ _ _ _ _ (rule.global _ _ _ _ _ wide (rule.number _) (omega arith) (omega arith)) refl
      (made.one_more _ _ _ _ _ _ (rule.global _ _ _ _ _ wide (rule.number _) (omega arith) (omega arith)) refl
      (made.one_more _ _ _ _ _ _ (rule.global _ _ _ _ _ wide (rule.number _) (omega arith) (omega arith)) refl
      (made.one_more _ _ _ _ _ _ (rule.global _ _ _ _ _ wide (rule.number _) (omega arith) (omega arith)) refl
      (made.one_more _ _ _ _ _ _
      (rule.memop _ _ _ _ _ _ _ _ _ (types.int _ wide) (types.int _ wide)
      (memop.plain _ _ (memop.returned _ _ (typed.sum _ _ _ _ _ _ _ refl (typed.local _ _ _ refl) (typed.local _ _ _ refl))))
      (shape.plain _ _ _ (shape.two _ _ _ _ _ _ refl (shape.stored _) (shape.argument _) refl))) refl
      (made.one_more _ _ _ _ _ _ (rule.event _ _ (32 ∷ 32 ∷ []) _ (two_ints _)) refl
      (made.one_more _ _ _ _ _ _ (rule.event _ _ (32 ∷ 32 ∷ []) _ (two_ints _)) refl
      (made.one_more _ _ _ _ _ _ (rule.event _ _ (32 ∷ 32 ∷ []) _ (two_ints _)) refl
      (made.one_more _ _ _ _ _ _ (rule.event _ _ (32 ∷ 32 ∷ []) _ (two_ints _)) refl
      (made.one_more _ _ _ _ _ _ (rule.event _ _ (32 ∷ 32 ∷ []) _ (two_ints _)) refl
      (made.one_more _ _ _ _ _ _ (rule.event _ _ (32 ∷ 32 ∷ []) _ (two_ints _)) refl
      (made.one_more _ _ _ _ _ _ (rule.event _ _ (32 ∷ 32 ∷ []) _ (two_ints _)) refl
      (made.one_more _ _ _ _ _ _ (rule.event _ _ (32 ∷ 32 ∷ []) _ (two_ints _)) refl
      (made.one_more _ _ _ _ _ _ (rule.handle _ _ _ 0 (32 ∷ 32 ∷ []) _ _ _ _ refl refl refl (two_ints _) typed_0) (rw few_0 (simp folds refl))
      (made.one_more _ _ _ _ _ _ (rule.handle _ _ _ 1 (32 ∷ 32 ∷ []) _ _ _ _ refl refl refl (two_ints _) typed_1) (rw few_1 (simp folds refl))
      (made.one_more _ _ _ _ _ _ (rule.handle _ _ _ 2 (32 ∷ 32 ∷ []) _ _ _ _ refl refl refl (two_ints _) typed_2) (rw few_2 (simp folds refl))
      (made.one_more _ _ _ _ _ _ (rule.handle _ _ _ 3 (32 ∷ 32 ∷ []) _ _ _ _ refl refl refl (two_ints _) typed_3) (rw few_3 (simp folds refl))
      (made.one_more _ _ _ _ _ _ (rule.handle _ _ _ 4 (32 ∷ 32 ∷ []) _ _ _ _ refl refl refl (two_ints _) typed_4) (rw few_4 (simp folds refl))
      (made.one_more _ _ _ _ _ _ (rule.handle _ _ _ 5 (32 ∷ 32 ∷ []) _ _ _ _ refl refl refl (two_ints _) typed_5) (rw few_5 (simp folds refl))
      (made.one_more _ _ _ _ _ _ (rule.handle _ _ _ 6 (32 ∷ 32 ∷ []) _ _ _ _ refl refl refl (two_ints _) typed_6) (rw few_6 (simp folds refl))
      (made.one_more _ _ _ _ _ _ (rule.handle _ _ _ 7 (32 ∷ 32 ∷ []) _ _ _ _ refl refl refl (two_ints _) typed_7) (rw few_7 (simp folds refl))
      (made.done _ _))))))))))))))))))))))))),
  refl,
)

-- ---- the order of arrays

order_0 : InOrder 8 [] steps_0
order_0 = record { numbering = own_numbers; rises = λ a b less within. less; end = 7; derived = simp ends refl }

order_1 : InOrder 8 [] steps_1
order_1 = record { numbering = own_numbers; rises = λ a b less within. less; end = 5; derived = simp ends refl }

order_2 : InOrder 8 [] steps_2
order_2 = record { numbering = own_numbers; rises = λ a b less within. less; end = 8; derived = simp ends refl }

order_3 : InOrder 8 [] steps_3
order_3 = record { numbering = own_numbers; rises = λ a b less within. less; end = 7; derived = simp ends refl }

order_4 : InOrder 8 [] steps_4
order_4 = record { numbering = own_numbers; rises = λ a b less within. less; end = 1; derived = simp ends refl }

order_5 : InOrder 8 [] steps_5
order_5 = record { numbering = own_numbers; rises = λ a b less within. less; end = 7; derived = simp ends refl }

order_6 : InOrder 8 [] steps_6
order_6 = record { numbering = own_numbers; rises = λ a b less within. less; end = 7; derived = simp ends refl }

order_7 : InOrder 8 [] steps_7
order_7 = record { numbering = own_numbers; rises = λ a b less within. less; end = 7; derived = simp ends refl }

abbrev handled : ℕ → List Stmt → arrays.Body
handled n steps = record { decl = n; funs = []; body = steps }

abbrev in_order : arrays.Body → Type 0
in_order b = InOrder 8 b.funs b.body

abbrev bodies_7 : List arrays.Body
bodies_7 = handled 25 steps_7 ∷ []

all_7 : All in_order bodies_7
all_7 = All-cons in_order (handled 25 steps_7) [] order_7 (All-nil _)

abbrev bodies_6 : List arrays.Body
bodies_6 = handled 24 steps_6 ∷ bodies_7

all_6 : All in_order bodies_6
all_6 = All-cons in_order (handled 24 steps_6) bodies_7 order_6 all_7

abbrev bodies_5 : List arrays.Body
bodies_5 = handled 23 steps_5 ∷ bodies_6

all_5 : All in_order bodies_5
all_5 = All-cons in_order (handled 23 steps_5) bodies_6 order_5 all_6

abbrev bodies_4 : List arrays.Body
bodies_4 = handled 22 steps_4 ∷ bodies_5

all_4 : All in_order bodies_4
all_4 = All-cons in_order (handled 22 steps_4) bodies_5 order_4 all_5

abbrev bodies_3 : List arrays.Body
bodies_3 = handled 21 steps_3 ∷ bodies_4

all_3 : All in_order bodies_3
all_3 = All-cons in_order (handled 21 steps_3) bodies_4 order_3 all_4

abbrev bodies_2 : List arrays.Body
bodies_2 = handled 20 steps_2 ∷ bodies_3

all_2 : All in_order bodies_2
all_2 = All-cons in_order (handled 20 steps_2) bodies_3 order_2 all_3

abbrev bodies_1 : List arrays.Body
bodies_1 = handled 19 steps_1 ∷ bodies_2

all_1 : All in_order bodies_1
all_1 = All-cons in_order (handled 19 steps_1) bodies_2 order_1 all_2

abbrev bodies_0 : List arrays.Body
bodies_0 = handled 18 steps_0 ∷ bodies_1

all_0 : All in_order bodies_0
all_0 = All-cons in_order (handled 18 steps_0) bodies_1 order_0 all_1

pub is_accepted : IsAccepted core_parts
is_accepted = all_0
