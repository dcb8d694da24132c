-- A scenario in which an event comes at ticks 0 and 1, so that two packets are in flight when it stops; the pipelines of a program
-- whose handler calls an array; and the log of the network.
use Rattle.std.proofs.Common.{◌≡◌, ◌+◌, ◌<◌, ◌≤◌, ◌∷◌, ◌++◌, inl, inr, ℕ, List, false, map, IsUtf8, None, Ok, Some, [], ⊎_elim, ap, arith, codes, length, refl, subst, sym, ◌∙◌}
use Rattle.std.proofs.lemmas.Bool.{cases_lt}
use Rattle.std.specs.Char.{encode_utf8}
use Rattle.std.specs.Prelude.{⊤}
use Rattle.std.specs.Fmt.{digits}
use Rattle.serde_json.proofs.OnLiterals.{serde_json_on_literals}
use Rattle.serde_json.specs.Data.{Data, array, item, member, no_items, no_members, number, object, string, unsigned}
use Rattle.serde_json.specs.Read.{read}
use Rattle.lucid_base.specs.Bits.{bits_of}
use Rattle.lucid_base.specs.declared.array.ArrayName.TheVariants.{Global}
use Rattle.lucid_base.specs.declared.bits.Bits.{Bits}
use Rattle.lucid_base.specs.declared.event.Event.{Event}
use Rattle.lucid_base.specs.declared.memory_alu.MemArg.TheVariants.{Stored}
use Rattle.lucid_code.specs.declared.op.Act.TheVariants as act
use Rattle.lucid_code.specs.declared.op.Operand.TheVariants.{Field, Fixed}
use Rattle.lucid_code.specs.Examples.{is, op}
use Rattle.lucid_code.specs.Parts.{CodeParts, made_of}
use Rattle.lucid_conf.specs.declared.scene.FileEvent.{FileEvent}
use Rattle.lucid_conf.specs.declared.scene.Scene.{Scene}
use Rattle.lucid_core.specs.declared.body.Expr.{Expr}
use Rattle.lucid_core.specs.declared.body.Stmt.{Stmt}
use Rattle.lucid_core.specs.declared.body.Touch.{Touch}
use Rattle.lucid_core.specs.declared.body.Expr.TheOpen.{Expr-F, Stmt-F, Touch-F}
use Rattle.lucid_core.specs.declared.body.Expr.TheViews.{roll-Expr, roll-Stmt, roll-Touch}
use Rattle.lucid_core.specs.declared.body.Expr.TheFolds.{fold-roll-Expr, fold-roll-Stmt, fold-roll-Touch, map-Expr, map-Stmt, map-Touch}
use Rattle.lucid_core.specs.Computations.{Computation, Effect, Frame, State}
use Rattle.lucid_core.specs.ExamplePrograms.{plus}
use Rattle.lucid_core.specs.Meaning.{effect_of, expr_step, stmt_step, touch_of, touch_step, value_of}
use Rattle.lucid_core.specs.Step.{Stepped, step}
use Rattle.lucid_core.proofs.Folds.{folds}
use Rattle.lucid_effects_spec.specs.Size.{flat_size}
use Rattle.lucid_inline.specs.Refusals.{largest}
use Rattle.lucid_inline_spec.specs.Flat as f
use Rattle.lucid_inline_spec.specs.Flat.{Flatten, Site, flat_expr, flat_of, flat_stmt, flat_touch}
use Rattle.lucid_layout.specs.Fit.{IsFirstFit, NotBefore}
use Rattle.lucid_layout.specs.Layout.{IsLayout, stages_of}
use Rattle.lucid_log.specs.Cells.{lines_from}
use Rattle.lucid_merge.specs.Product.{product}
use Rattle.lucid_net_spec.specs.Log as net
use Rattle.lucid_net_spec.specs.Log.{log}
use Rattle.lucid_net_spec.specs.Ways.{Run}
use Rattle.lucid_normal_spec.specs.Program.{input_widths, start, translate}
use Rattle.lucid_normal_spec.specs.Translate as t
use Rattle.lucid_normal_spec.specs.Translate.{Expressed, Translation, guarded, seq, stmt_code}
use Rattle.lucid_size.proofs.Plain.{plain_expands}
use Rattle.lucid_size.specs.Expansion.{ExpandsTo}
use Rattle.lucid_stages.specs.declared.stage.Pair.{Pair}
use Rattle.lucid_stages.specs.Counts.{count_of, most_ops}
use Rattle.lucid_stages.specs.NodeWorks.{works}
use Rattle.lucid_tables.specs.Placed.{PlacedParts}
use Rattle.lucid_top.specs.Pipes.{IsPiped, IsReady, Piped, Ready, network_of, piped, ready, target}
use Rattle.lucid_top_fit.specs.Fit.{Fit, HasNormal, IsFitted, composed, fit_of, normal_of}
use Rattle.lucid_top_program.specs.Settings.{IsScenario}
use Rattle.lucid_top_words.specs.Words.{Bytes}
use Rattle.lucid_types_spec.specs.Typed.{returning}
use Rattle.lucid_top_laws.proofs.HandlerExamples as handler
use Rattle.lucid_top_laws.proofs.HandlerExamples.{core, steps, tokens, tree, worked}
use Rattle.lucid_top_laws.proofs.Programs.{is_program}
use Rattle.lucid_top_laws.proofs.Settings.{are_limits, limits}

-- ---- the scenario

abbrev pub text : Bytes
text = codes "{\"stop\":2,\"events\":[{\"at\":0,\"switch\":0,\"name\":\"e\",\"args\":[5]},{\"at\":1,\"switch\":0,\"name\":\"e\",\"args\":[7]}]}"

-- the keys of an object stand in their order
abbrev pub event_told : ℕ → ℕ → Data
event_told at value = object
    (member (codes "args") (array (item (number (unsigned value)) no_items))
    (member (codes "at") (number (unsigned at))
    (member (codes "name") (string (codes "e"))
    (member (codes "switch") (number (unsigned 0)) no_members))))

abbrev told : Data
told = object
    (member (codes "events") (array (item (event_told 0 5) (item (event_told 1 7) no_items)))
    (member (codes "stop") (number (unsigned 2)) no_members))

told_is : read text ≡ Some told
unfolding serde_json_on_literals
told_is = refl

text_utf8 : IsUtf8 text
unfolding encode_utf8
text_utf8 = (text, (refl, refl))

abbrev event : ℕ → Event
event value = record { id = 0; args = value ∷ [] }

abbrev pub scene : Scene
scene = record {
  switches = 1;
  stop = 2;
  links = [];
  down = [];
  events = record { at = 0; switch = 0; event = event 5 } ∷ record { at = 1; switch = 0; event = event 7 } ∷ [];
  steps = [];
}

is_scenario : IsScenario core text (Ok scene)
is_scenario = (told, (text_utf8, told_is), refl)

-- ---- the normal form

pub expr_becomes : (y : Expr-F Expr Stmt Touch) (p : Site) (ws : List ℕ) → flat_expr (roll-Expr y) p ws ≡ f.expr_step (map-Expr Expr Stmt Touch (Flatten Expr) (Flatten (List Stmt)) (Flatten Touch) flat_expr flat_stmt flat_touch y) p ws
expr_becomes y p ws = ap (λ (t : Flatten Expr). t p ws) (fold-roll-Expr (Flatten Expr) (Flatten (List Stmt)) (Flatten Touch) f.expr_step f.stmt_step f.touch_step y)

pub stmt_becomes : (y : Stmt-F Expr Stmt Touch) (p : Site) (ws : List ℕ) → flat_stmt (roll-Stmt y) p ws ≡ f.stmt_step (map-Stmt Expr Stmt Touch (Flatten Expr) (Flatten (List Stmt)) (Flatten Touch) flat_expr flat_stmt flat_touch y) p ws
stmt_becomes y p ws = ap (λ (t : Flatten (List Stmt)). t p ws) (fold-roll-Stmt (Flatten Expr) (Flatten (List Stmt)) (Flatten Touch) f.expr_step f.stmt_step f.touch_step y)

pub touch_becomes : (y : Touch-F Expr Stmt Touch) (p : Site) (ws : List ℕ) → flat_touch (roll-Touch y) p ws ≡ f.touch_step (map-Touch Expr Stmt Touch (Flatten Expr) (Flatten (List Stmt)) (Flatten Touch) flat_expr flat_stmt flat_touch y) p ws
touch_becomes y p ws = ap (λ (t : Flatten Touch). t p ws) (fold-roll-Touch (Flatten Expr) (Flatten (List Stmt)) (Flatten Touch) f.expr_step f.stmt_step f.touch_step y)

pub ruleset becomes = (expr_becomes, stmt_becomes, touch_becomes)

-- The program calls no function, so it is its own flat form.
flat_is : flat_of core ≡ core
flat_is = simp becomes refl

-- One operation, which adds the argument, field 3, to cell 0.
abbrev code : CodeParts
code = made_of (32 ∷ 32 ∷ 32 ∷ 32 ∷ []) (record { event = 0; now = 1; me = 2; args = 1 }) core.arrays
    (op (is 0 0 ∷ []) 0 (act.Touch 0 (Fixed 0) (returning 32 Stored) (Fixed 0) plus (Field 3) None) ∷ [])

abbrev number_code : Expressed
number_code = t.expr_step (Expr-F.Fixed (bits_of 32 0))

-- The translation of the call, and of its statement, by those of their parts.
abbrev call_code : Expressed
call_code = t.touch_step (record { array = Global 0; index = number_code; get = returning 32 Stored; get_arg = number_code; set = plus; set_arg = t.expr_step (Expr-F.Local 0); answers = false })

abbrev step_code : Translation ⊤
step_code = t.stmt_step (Stmt-F.Drop (t.expr_step (Expr-F.Array call_code)))

step_is : map stmt_code steps ≡ step_code ∷ []
step_is = simp folds refl

-- The code of the program, if its handler is translated so.
abbrev code_by : List (Translation ⊤) → CodeParts
code_by ts = let a = seq ts (start core (input_widths core) (record { event = 0; locals = 32 ∷ []; body = steps; decl = 4; line = 1 })) in
    made_of a.env.widths (record { event = 0; now = 1; me = 2; args = 1 }) core.arrays (map (guarded (is 0 0)) a.ops ++ [])

coded : translate core ≡ code
coded = ap code_by step_is

normal_is : normal_of core ≡ code
normal_is = ap translate flat_is ∙ coded

size_is : flat_size (flat_of core) ≡ 1
size_is = ap flat_size flat_is ∙ simp folds refl

has_normal : HasNormal core
has_normal = record {
  ops = subst (λ (c : CodeParts). length c.ops ≤ most_ops) (sym normal_is) (omega arith);
  size = subst (λ (n : ℕ). n ≤ largest) (sym size_is) (omega arith);
}

-- ---- the pipelines

abbrev pub first : Pair
first = record { stage = 0; table = 0 }

pub first_of : (q : Pair) → NotBefore q first
first_of q = ⊎_elim (λ (b : 0 < q.stage). inl b) (λ (b : q.stage ≤ 0). inr (omega (arith, b), omega arith)) (cases_lt 0 q.stage)

fits : IsFirstFit code.ops limits [] (works code.ops) (first ∷ [])
unfolding product
fits = (
  record {
    holds = record {
      written = refl;
      room = record { below = omega arith; behind = tt; fits = record { table = record { next = omega arith; below = omega arith; rows = omega arith }; arrays = λ is. omega arith } };
    };
    least = λ q a. first_of q;
  },
  tt,
)

few_calls : (g : ℕ) → g < 1 → count_of code g ≤ limits.arms
few_calls g less = let is_first : 0 ≡ g = omega (arith, less) in subst (λ (n : ℕ). count_of code n ≤ limits.arms) is_first (omega arith)

abbrev placed : PlacedParts
placed = record { code = normal_of core; stages = stages_of (normal_of core) limits (first ∷ []) }

is_layout : IsLayout (normal_of core) limits placed
is_layout = subst (λ (c : CodeParts). IsLayout c limits (record { code = c; stages = stages_of c limits (first ∷ []) })) (sym normal_is)
    (record { counts = record { ops = omega arith; bits = omega arith; arms = few_calls }; code_is = refl; fit = (first ∷ [], fits, refl) })

abbrev fitted : Fit
fitted = fit_of [] placed

is_fitted : IsFitted core limits [] (Ok fitted)
is_fitted = (Ok (composed core []), (has_normal, refl), (Ok placed, is_layout, refl))

abbrev pipes : Piped
pipes = piped (target core limits) fitted

abbrev pub network : Ready
network = ready pipes scene

-- No template begins in the program, so it is its own expansion.
expands : ExpandsTo handler.text tokens handler.text
expands = plain_expands handler.text tokens worked.reads refl

is_piped : IsPiped handler.text (codes "{}") [] (Ok pipes)
is_piped = (Ok (target core limits), (Ok core, is_program handler.text tokens tree core worked expands, (Ok limits, are_limits, refl)), (Ok fitted, is_fitted, refl))

pub is_ready : IsReady handler.text (codes "{}") text [] (Ok network)
is_ready = (Ok pipes, is_piped, (Ok scene, is_scenario, refl))

-- ---- the log

pub value_run : (y : Expr-F Expr Stmt Touch) (p : Frame) (s : State) → value_of (roll-Expr y) p s ≡ expr_step (map-Expr Expr Stmt Touch (Computation Bits) Effect (Computation Bits) value_of effect_of touch_of y) p s
value_run y p s = ap (λ (g : Computation Bits). g p s) (fold-roll-Expr (Computation Bits) Effect (Computation Bits) expr_step stmt_step touch_step y)

pub effect_run : (y : Stmt-F Expr Stmt Touch) (p : Frame) (s : State) → effect_of (roll-Stmt y) p s ≡ stmt_step (map-Stmt Expr Stmt Touch (Computation Bits) Effect (Computation Bits) value_of effect_of touch_of y) p s
effect_run y p s = ap (λ (g : Effect). g p s) (fold-roll-Stmt (Computation Bits) Effect (Computation Bits) expr_step stmt_step touch_step y)

pub touch_run : (y : Touch-F Expr Stmt Touch) (p : Frame) (s : State) → touch_of (roll-Touch y) p s ≡ touch_step (map-Touch Expr Stmt Touch (Computation Bits) Effect (Computation Bits) value_of effect_of touch_of y) p s
touch_run y p s = ap (λ (g : Computation Bits). g p s) (fold-roll-Touch (Computation Bits) Effect (Computation Bits) expr_step stmt_step touch_step y)

pub ruleset runs = (value_run, effect_run, touch_run)

-- The first event finds 0 in the cell, and the second finds what the first has left.
first_step : step core ((0 ∷ []) ∷ []) 0 0 (event 5) ≡ record { cells = (5 ∷ []) ∷ []; outs = [] }
first_step = simp runs refl

second_step : step core ((5 ∷ []) ∷ []) 1 0 (event 7) ≡ record { cells = (12 ∷ []) ∷ []; outs = [] }
second_step = simp runs refl

-- The network when an event enters at this tick, if its handler does this and these events still wait.
abbrev entered : ℕ → net.State → Event → List FileEvent → Stepped → net.State
entered tick now e others done = let run : Run = record { tick = tick; switch = 0; event = e; outs = done.outs } in record {
  cells = done.cells ∷ [];
  pending = net.put_all (net.made (network_of network) run) (net.file_events (tick + 1) others);
  text = now.text ++ net.block (network_of network) run;
  entered = now.entered + 1;
  lost = now.lost + net.losses (network_of network) run;
}

abbrev first_enters : Stepped → net.State
first_enters = entered 0 (net.start (network_of network)) (event 5) (record { at = 1; switch = 0; event = event 7 } ∷ [])

abbrev after_first : net.State
after_first = first_enters (record { cells = (5 ∷ []) ∷ []; outs = [] })

abbrev second_enters : Stepped → net.State
second_enters = entered 1 after_first (event 7) []

abbrev after_second : net.State
after_second = second_enters (record { cells = (12 ∷ []) ∷ []; outs = [] })

one_tick : net.ticks (network_of network) 1 ≡ after_first
one_tick = ap first_enters first_step

two_ticks : net.ticks (network_of network) 2 ≡ after_second
two_ticks = ap (net.turns (network_of network) 1 1) one_tick ∙ ap second_enters second_step

pub log_is : log (network_of network) ≡ codes "[0] s0 e(5)\n[1] s0 e(7)\ns0 x[0] = 12\nentered 2 lost 0 pending 0\n"
unfolding digits lines_from
log_is = ap (λ (last : net.State). last.text ++ net.end_text (network_of network) last) two_ticks ∙ refl
