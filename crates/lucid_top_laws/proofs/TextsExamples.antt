-- Texts that were worked by hand: the premises of the laws of texts hold for them.
use Rattle.std.proofs.Common.{◌≡◌, ◌≢◌, ◌∙◌, ◌<◌, ◌≤◌, ◌+◌, ◌∷◌, ◌++◌, suc, fold, ℕ, List, false, true, map, IsUtf8, None, Ok, Some, [], ap, arith, codes, if◌then◌else◌, length, refl, subst, sym, Bool}
use Rattle.std.specs.Char.{encode_utf8}
use Rattle.std.specs.Prelude.{⊤, All}
use Rattle.std.proofs.lemmas.List.Elements.{All-cons, All-nil}
use Rattle.serde_json.proofs.OnLiterals.{serde_json_on_literals}
use Rattle.serde_json.specs.Data.{Data, array, item, member, no_items, no_members, number, object, string, unsigned}
use Rattle.serde_json.specs.Read.{read}
use Rattle.lucid_audit.specs.Audit.{KeepsRules, calls_in, few_rows, pairs_of, stages}
use Rattle.lucid_audit.specs.declared.plan.Plan.{Plan}
use Rattle.lucid_base.specs.Bits.{bits_of}
use Rattle.lucid_base.specs.declared.array.ArrayName.TheVariants.{Global}
use Rattle.lucid_base.specs.declared.memory_alu.MemArg.TheVariants.{Stored}
use Rattle.lucid_base.specs.declared.ops.BinOp.TheVariants.{Add}
use Rattle.lucid_base.specs.declared.ops.CmpOp.TheVariants.{Eq}
use Rattle.lucid_code.specs.declared.op.Act.{Act}
use Rattle.lucid_code.specs.declared.op.Act.TheVariants as act
use Rattle.lucid_code.specs.declared.op.Literal.{Literal}
use Rattle.lucid_code.specs.declared.op.Op.{Op}
use Rattle.lucid_code.specs.declared.op.Operand.{Operand}
use Rattle.lucid_code.specs.declared.op.Operand.TheVariants.{Field, Fixed}
use Rattle.lucid_code.specs.Examples.{is, op}
use Rattle.lucid_code.specs.Nodes.{nodes}
use Rattle.lucid_code.specs.Parts.{CodeParts, made_of}
use Rattle.lucid_conf.specs.declared.limits.Limits.{Limits}
use Rattle.lucid_conf.specs.declared.scene.Scene.{Scene}
use Rattle.lucid_conf.specs.declared.scene.Step.TheVariants.{Enter, Go}
use Rattle.lucid_conf.specs.Tables.{limits_read, scene_read}
use Rattle.lucid_core.specs.declared.body.Expr.TheOpen.{Expr-F, Stmt-F}
use Rattle.lucid_core.specs.ExamplePrograms.{plus}
use Rattle.lucid_core.proofs.Folds.{folds}
use Rattle.lucid_core.specs.Step.{Entry}
use Rattle.lucid_effects_spec.specs.Size.{flat_size}
use Rattle.lucid_inline.specs.Refusals.{largest}
use Rattle.lucid_inline_spec.specs.Flat.{flat_of}
use Rattle.lucid_layout.specs.Fit.{IsFirstFit}
use Rattle.lucid_layout.specs.Layout.{stages_of}
use Rattle.lucid_merge.specs.Product.{product}
use Rattle.lucid_normal_spec.specs.Program.{input_widths, start, translate}
use Rattle.lucid_normal_spec.specs.Translate as t
use Rattle.lucid_normal_spec.specs.Translate.{Expressed, Translation, guarded, seq, stmt_code}
use Rattle.lucid_normal_spec.specs.Stands.{Happens}
use Rattle.lucid_parse_spec.specs.Law.{ReadAsSpelled}
use Rattle.lucid_pass_spec.proofs.DirectRuns.{direct_replaces}
use Rattle.lucid_pass_spec.proofs.Gone.{dead_replaces}
use Rattle.lucid_pass_spec.proofs.Looking.{copies_replaces, fold_replaces}
use Rattle.lucid_pass_spec.specs.Dead.{alive, is_read}
use Rattle.lucid_pass_spec.specs.Direct.{direct}
use Rattle.lucid_pass_spec.specs.Looks.{copies, folded}
use Rattle.lucid_pass_spec.specs.Replace.{Rewrite}
use Rattle.lucid_stages.specs.declared.stage.Pair.{Pair}
use Rattle.lucid_stages.specs.Counts.{CountsFit, count_of, most_ops}
use Rattle.lucid_stages.specs.NodeWorks.{work_at, works}
use Rattle.lucid_stages.specs.Placing.{stage_code}
use Rattle.lucid_stages.specs.declared.node.Work.{Work}
use Rattle.lucid_stages.specs.declared.stage.Seat.{Seat}
use Rattle.lucid_stages.specs.Stage.{is_at, seats}
use Rattle.lucid_tables.specs.Placed.{PlacedParts, placed_of}
use Rattle.lucid_top.specs.Headline.{Accepted, AuditAccepts, FirstFitPlaces, code_by}
use Rattle.lucid_top.specs.Premises.{HasValue}
use Rattle.lucid_top_fit.specs.Fit.{HasNormal, normal_of}
use Rattle.lucid_top_fit.specs.Passes.{PassView, our_makes}
use Rattle.lucid_top_fit.specs.Placing.{IsAudited, IsPlan}
use Rattle.lucid_types_spec.specs.Typed.{returning}
use Rattle.lucid_top_laws.proofs.FlightExamples.{becomes, event_told, first as at_first, first_of}
use Rattle.lucid_top_laws.proofs.TextsProgram.{core, has_core, steps}
use Rattle.lucid_top_laws.specs.TextsWorked.{AllChange, AreTaken, IsInFlight, event, placement, texts}

-- ---- the limits and the scenario

abbrev pub limits : Limits
limits = record { stages = 2; tables = 16; rows = 64; arrays = 4; arms = 8; bits = 16384; recirc = 0 }

abbrev limits_told : Data
limits_told = object (member (codes "stages") (number (unsigned 2)) no_members)

limits_data : read texts.limits ≡ Some limits_told
unfolding serde_json_on_literals
limits_data = refl

limits_utf8 : IsUtf8 texts.limits
unfolding encode_utf8
limits_utf8 = (texts.limits, (refl, refl))

pub limits_are : HasValue limits_read texts.limits limits
limits_are = (limits_told, (limits_utf8, limits_data), refl)

abbrev enter_told : Data
enter_told = array (item (string (codes "enter")) no_items)

abbrev go_told : ℕ → Data
go_told k = array (item (string (codes "go")) (item (number (unsigned k)) no_items))

abbrev link_told : Data
link_told = array (item (number (unsigned 0)) (item (number (unsigned 1)) (item (number (unsigned 1)) no_items)))

abbrev window_told : Data
window_told = array (item (number (unsigned 0)) (item (number (unsigned 1)) (item (number (unsigned 2)) (item (number (unsigned 3)) no_items))))

-- The keys of an object are in their order.
abbrev scenario_told : Data
scenario_told = object
    (member (codes "down") (array (item window_told no_items))
    (member (codes "events") (array (item (event_told 0 5) (item (event_told 1 5) (item (event_told 2 7) no_items))))
    (member (codes "links") (array (item link_told no_items))
    (member (codes "steps") (array (item enter_told (item (go_told 0) (item enter_told (item (go_told 1) (item (go_told 0) no_items))))))
    (member (codes "stop") (number (unsigned 5))
    (member (codes "switches") (number (unsigned 2))
    (member (codes "version") (number (unsigned 2)) no_members)))))))

scenario_data : read texts.scenario ≡ Some scenario_told
unfolding serde_json_on_literals
scenario_data = refl

scenario_utf8 : IsUtf8 texts.scenario
unfolding encode_utf8
scenario_utf8 = (texts.scenario, (refl, refl))

abbrev pub scene : Scene
scene = record {
  switches = 2;
  stop = 5;
  links = record { a = 0; b = 1; latency = 1 } ∷ [];
  down = record { a = 0; b = 1; from = 2; until = 3 } ∷ [];
  events = record { at = 0; switch = 0; event = event 5 } ∷ record { at = 1; switch = 0; event = event 5 } ∷ record { at = 2; switch = 0; event = event 7 } ∷ [];
  steps = Enter ∷ Go 0 ∷ Enter ∷ Go 1 ∷ Go 0 ∷ [];
}

pub scenario_is : HasValue (scene_read core) texts.scenario scene
scenario_is = (scenario_told, (scenario_utf8, scenario_data), refl)

-- ---- the three texts

abbrev pub accepted : ReadAsSpelled → Accepted texts
accepted law = record { core = core; program_is = has_core law; limits = limits; limits_are = limits_are; scene = scene; scenario_is = scenario_is }

-- ---- the normal form

-- The program calls no function, so it is its own flat form.
flat_is : flat_of core ≡ core
flat_is = simp becomes refl

-- The operations that stay, by the operand that is added, the literals that guard the send, and its destination.
abbrev add : Operand → Op
add value = op (is 0 0 ∷ []) 0 (act.Touch 0 (Fixed 0) (returning 32 Stored) (Fixed 0) plus value None)

abbrev send : Literal → Operand → Op
send test to = op (is 0 0 ∷ test ∷ []) 1 (act.Gen 0 1 [] (Fixed 0) (Some to))

abbrev pub with_ops : List Op → CodeParts
with_ops ops = made_of (32 ∷ 32 ∷ 32 ∷ 32 ∷ 32 ∷ 1 ∷ 32 ∷ []) (record { event = 0; now = 1; me = 2; args = 1 }) core.arrays ops

-- A copy of the argument, a comparison, and a sum of numbers are read by these operations.
abbrev copy : Op
copy = op (is 0 0 ∷ []) 0 (act.Move (Field 3) 4)

abbrev compare : Op
compare = op (is 0 0 ∷ []) 1 (act.Cmp Eq 32 (Field 3) (Fixed 5) 5)

abbrev switch_by : Act → Op
switch_by a = op (is 0 0 ∷ is 5 1 ∷ []) 1 a

abbrev pub normal : CodeParts
normal = with_ops (copy ∷ add (Field 4) ∷ compare ∷ switch_by (act.Bin Add 32 (Fixed 0) (Fixed 1) 6) ∷ send (is 5 1) (Field 6) ∷ [])

abbrev number_code : ℕ → Expressed
number_code n = t.expr_step (Expr-F.Fixed (bits_of 32 n))

abbrev local_code : ℕ → Expressed
local_code i = t.expr_step (Expr-F.Local i)

abbrev call_code : Expressed
call_code = t.touch_step (record { array = Global 0; index = number_code 0; get = returning 32 Stored; get_arg = number_code 0; set = plus; set_arg = local_code 1; answers = false })

abbrev send_code : Translation ⊤
send_code = t.stmt_step (Stmt-F.Gen 1 [] None (Some (t.expr_step (Expr-F.Bin Add (number_code 0) (number_code 1)))) false)

abbrev step_codes : List (Translation ⊤)
step_codes =
    t.stmt_step (Stmt-F.Assign 1 (local_code 0))
    ∷ t.stmt_step (Stmt-F.Drop (t.expr_step (Expr-F.Array call_code)))
    ∷ t.stmt_step (Stmt-F.If (t.expr_step (Expr-F.Cmp Eq (local_code 0) (number_code 5))) (send_code ∷ []) [])
    ∷ []

steps_are : map stmt_code steps ≡ step_codes
steps_are = simp folds refl

-- The code of the program, if its handler is translated so.
abbrev code_with : List (Translation ⊤) → CodeParts
code_with ts = let a = seq ts (start core (input_widths core) (record { event = 0; locals = 32 ∷ 32 ∷ []; body = steps; decl = 5; line = 1 })) in
    made_of a.env.widths (record { event = 0; now = 1; me = 2; args = 1 }) core.arrays (map (guarded (is 0 0)) a.ops ++ [])

pub normal_is : normal_of core ≡ normal
normal_is = ap translate flat_is ∙ ap code_with steps_are

size_is : flat_size (flat_of core) ≡ 4
size_is = ap flat_size flat_is ∙ simp folds refl

pub has_normal : HasNormal core
has_normal = record {
  ops = subst (λ (c : CodeParts). length c.ops ≤ most_ops) (sym normal_is) (omega arith);
  size = subst (λ (n : ℕ). n ≤ largest) (sym size_is) (omega arith);
}

-- ---- the code that the passes make of it

abbrev pub code : CodeParts
code = with_ops (add (Field 3) ∷ send (is 3 5) (Fixed 1) ∷ [])

-- `fold` computes the sum, `copies` reads the argument, `dead` removes the sum and the copy, and `direct` the comparison.
abbrev after_fold : CodeParts
after_fold = with_ops (copy ∷ add (Field 4) ∷ compare ∷ switch_by (act.Move (Fixed 1) 6) ∷ send (is 5 1) (Fixed 1) ∷ [])

abbrev after_copies : CodeParts
after_copies = with_ops (copy ∷ add (Field 3) ∷ compare ∷ switch_by (act.Move (Fixed 1) 6) ∷ send (is 5 1) (Fixed 1) ∷ [])

abbrev after_dead : CodeParts
after_dead = with_ops (add (Field 3) ∷ compare ∷ send (is 5 1) (Fixed 1) ∷ [])

pub code_is : code_by our_makes core ≡ code
code_is = ap (λ (c : CodeParts). fold (λ now (make : CodeParts → CodeParts). make now) c our_makes) normal_is

count_apart : (a b : CodeParts) (n : ℕ) → length a.ops + suc n ≡ length b.ops → a ≢ b
count_apart a b n more same = omega (arith, more, ap (λ (c : CodeParts). length c.ops) same)

false_true : {A : Type 0} → false ≡ true → A
false_true e = absurd (cc)

-- An operation of the one code reads the field, and none of the other.
read_apart : (k : ℕ) (a b : CodeParts) → is_read a.ops k ≡ false → is_read b.ops k ≡ true → a ≢ b
read_apart k a b none some same = false_true (sym none ∙ ap (λ (c : CodeParts). is_read c.ops k) same ∙ some)

all_change : AllChange our_makes normal
all_change = (
  read_apart 6 after_fold normal refl refl,
  (read_apart 4 after_copies after_fold refl refl, (count_apart after_dead after_copies 1 refl, (count_apart code after_dead 0 refl, tt))),
)

changes : AllChange our_makes (normal_of core)
changes = subst (AllChange our_makes) (sym normal_is) all_change

pub few_calls : (g : ℕ) → g < 1 → count_of code g ≤ 8
few_calls g less = let is_first : 0 ≡ g = omega (arith, less) in subst (λ (n : ℕ). count_of code n ≤ 8) is_first (omega arith)

pub counts : CountsFit code limits
counts = record { ops = omega arith; bits = omega arith; arms = few_calls }

-- ---- first fit

-- Both nodes are in the first table of the first stage, which has a row for each value of the test.
abbrev pub firsts : List Pair
firsts = at_first ∷ at_first ∷ []

pub is_first : IsFirstFit code.ops limits [] (works code.ops) firsts
unfolding product
is_first = (
  record {
    holds = record {
      written = refl;
      room = record { below = omega arith; behind = tt; fits = record { table = record { next = omega arith; below = omega arith; rows = omega arith }; arrays = λ is. omega arith } };
    };
    least = λ q a. first_of q;
  },
  (
    record {
      holds = record {
        written = refl;
        room = record { below = omega arith; behind = (λ feeds. false_true feeds, tt); fits = record { table = record { next = omega arith; below = omega arith; rows = omega arith }; arrays = λ is. omega arith } };
      };
      least = λ q a. first_of q;
    },
    tt,
  ),
)

abbrev pub fits : (law : ReadAsSpelled) → FirstFitPlaces our_makes (accepted law)
fits law = record {
  normal = has_normal;
  counts = subst (λ (c : CodeParts). CountsFit c limits) (sym code_is) counts;
  places = firsts;
  least = subst (λ (c : CodeParts). IsFirstFit c.ops limits [] (works c.ops) firsts) (sym code_is) is_first;
}

-- ---- the places of the file

abbrev pub plan : Plan
plan = record { pairs = (1, 0) ∷ (0, 0) ∷ [] }

abbrev pair_told : ℕ → ℕ → Data
pair_told k j = array (item (number (unsigned k)) (item (number (unsigned j)) no_items))

abbrev placement_told : Data
placement_told = object (member (codes "nodes") (array (item (pair_told 1 0) (item (pair_told 0 0) no_items))) no_members)

placement_data : read placement ≡ Some placement_told
unfolding serde_json_on_literals
placement_data = refl

placement_utf8 : IsUtf8 placement
unfolding encode_utf8
placement_utf8 = (placement, (refl, refl))

pub is_plan : IsPlan placement (length (nodes code.ops)) (Ok plan)
is_plan = (placement_told, (placement_utf8, placement_data), refl)

-- The placed code of these places.
abbrev pub placed_there : CodeParts → PlacedParts
placed_there c = record { code = c; stages = map (stage_code c.ops) (stages c.ops limits (seats (works c.ops) (pairs_of plan.pairs))) }

abbrev seat_of : ℕ → Work → Seat
seat_of stage work = record { node = work; at = record { stage = stage; table = 0 } }

abbrev add_seat : Seat
add_seat = seat_of 1 (work_at code.ops (0 ∷ []) true)

abbrev send_seat : Seat
send_seat = seat_of 0 (work_at code.ops (1 ∷ []) false)

-- A table has each node, or not.
abbrev chosen : Bool → Seat → List Seat → List Seat
chosen b seat seats = if b then seat ∷ seats else seats

rows_by : (b d : Bool) → few_rows code.ops limits.rows [] (map (λ (s : Seat). s.node) (chosen b add_seat (chosen d send_seat []))) ≡ true
unfolding product
rows_by true true = refl
rows_by true false = refl
rows_by false true = refl
rows_by false false = refl

arrays_by : (b d : Bool) → length (chosen b add_seat (chosen d send_seat [])) ≤ 4
arrays_by true true = omega arith
arrays_by true false = omega arith
arrays_by false true = omega arith
arrays_by false false = omega arith

pub rules : KeepsRules code.ops limits (seats (works code.ops) (pairs_of plan.pairs))
rules = record {
  there = (record { stage = omega arith; table = omega arith }, (record { stage = omega arith; table = omega arith }, tt));
  order = ((λ feeds. false_true feeds, (λ feeds. false_true feeds, tt)), ((λ feeds. false_true feeds, (λ feeds. false_true feeds, tt)), tt));
  rows = λ k t. rows_by (is_at k t add_seat) (is_at k t send_seat);
  arrays = λ k. arrays_by (calls_in k add_seat) (calls_in k send_seat);
}

pub audited : IsAudited limits code plan (Ok (placed_there code))
audited = record { counts = counts; rules = rules; code_is = refl; stages_are = refl }

abbrev pub audits : (law : ReadAsSpelled) → AuditAccepts our_makes (accepted law) placement
audits law = record {
  normal = has_normal;
  counts = subst (λ (c : CodeParts). CountsFit c limits) (sym code_is) counts;
  plan = plan;
  plan_is = subst (λ (c : CodeParts). IsPlan placement (length (nodes c.ops)) (Ok plan)) (sym code_is) is_plan;
  placed = placed_there (code_by our_makes core);
  accepts = subst (λ (c : CodeParts). IsAudited limits c plan (Ok (placed_there c))) (sym code_is) audited;
}

-- ---- the moves

five : Happens core 0 (event 5)
five = record { switch = omega arith; id = omega arith; event_fits = refl }

seven : Happens core 0 (event 7)
seven = record { switch = omega arith; id = omega arith; event_fits = refl }

abbrev Fine : Entry → Type 0
Fine e = Happens core e.me e.event

abbrev entry : ℕ → ℕ → Entry
entry now value = record { now = now; me = 0; event = event value }

both_happen : All Fine (entry 0 5 ∷ entry 1 7 ∷ [])
both_happen = All-cons Fine (entry 0 5) (entry 1 7 ∷ []) five (All-cons Fine (entry 1 7) [] seven (All-nil Fine))

abbrev pub is_placed : CodeParts → PlacedParts
is_placed c = placed_of c (stages_of c limits firsts)

flies : IsInFlight (is_placed code) core
unfolding product
flies = record { happen = both_happen; two = refl; one = refl; waits = refl; ends = refl; copy = refl; both = refl; sent = refl }

flies_there : IsInFlight (placed_there code) core
unfolding product
flies_there = record { happen = both_happen; two = refl; one = refl; waits = refl; ends = refl; copy = refl; both = refl; sent = refl }

abbrev stage_first : List Pair → ℕ
stage_first [] = 0
stage_first (p ∷ ps) = p.stage

apart : pairs_of plan.pairs ≢ firsts
apart same = omega (arith, ap stage_first same)

-- ---- the four passes

abbrev view : List ℕ → Rewrite → PassView
view name gives = record { name = name; gives = gives; removed = 0 }

abbrev views : List PassView
views =
    view (codes "fold") (record { makes = folded; keeps = fold_replaces })
    ∷ view (codes "copies") (record { makes = copies; keeps = copies_replaces })
    ∷ view (codes "dead") (record { makes = alive; keeps = dead_replaces })
    ∷ view (codes "direct") (record { makes = direct; keeps = direct_replaces })
    ∷ []

pub are_taken : ReadAsSpelled → AreTaken
are_taken law = record {
  passes = views;
  four = record { names = refl; makes = refl };
  accepted = accepted law;
  fits = fits law;
  audits = audits law;
  nodes = ap (λ (c : CodeParts). length (nodes c.ops)) code_is;
  changes = changes;
  others = apart;
  flies = subst (λ (c : CodeParts). IsInFlight (is_placed c) core) (sym code_is) flies;
  flies_there = subst (λ (c : CodeParts). IsInFlight (placed_there c) core) (sym code_is) flies_there;
}
