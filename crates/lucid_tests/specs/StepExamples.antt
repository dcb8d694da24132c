-- The step on one program, worked by hand from the language.
use Rattle.std.specs.Prelude.{◌≡◌, ℕ, ◌+◌, List, [], ◌∷◌, Option, None, Some, Bool, true, false}
use Rattle.lucid_base.specs.declared.array.ArrayName.TheVariants.{Global}
use Rattle.lucid_base.specs.declared.event.Event.{Event}
use Rattle.lucid_base.specs.declared.event.Out.{Out}
use Rattle.lucid_base.specs.declared.event.Out.TheVariants.{Gen, Say}
use Rattle.lucid_base.specs.declared.event.Target.TheVariants.{At}
use Rattle.lucid_core.specs.declared.body.Expr.{Expr}
use Rattle.lucid_core.specs.declared.body.Stmt.{Stmt}
use Rattle.lucid_core.specs.declared.defs.HandlerDef.{HandlerDef}
use Rattle.lucid_core.specs.declared.defs.EventDef.{EventDef}
use Rattle.lucid_core.specs.ExamplePrograms.{number, local, one, array, less, hash, call, choose, generate_with, to_each_after, say, return, plus}
use Rattle.lucid_core.specs.ExamplePrograms.{update, update_with, bump, bumps, bump_put_in, flat}
use Rattle.lucid_core.specs.Parts.{CoreParts, made_of}
use Rattle.lucid_core.specs.Step.{Entry, Stepped, step, touches, steps, after, outs}

-- An event of one parameter i, and a handler of it, the fifth declaration or later.
abbrev pub declared : Option ℕ → EventDef
declared handler = record { name = []; params = 32 ∷ []; handler = handler }

abbrev pub handling : ℕ → List Stmt → HandlerDef
handling event body = record { event = event; locals = 32 ∷ []; body = body; decl = event + 5; line = event + 5 }

-- printf("n %d", Array.update(first, i, plus, 100, plus, 1));
unfoldable pub look : Stmt
look = say 0 (update_with (Global 0) (local 0) plus (number 100) one ∷ [])

-- printf("n %d", bump(a, i));
unfoldable pub say_bump : ℕ → Stmt
say_bump a = say 0 (call 0 (Global a ∷ []) (local 0 ∷ []) ∷ [])

-- if (i < 1) { return; } else { printf("n %d", i); }
unfoldable pub say_unless_small : Stmt
say_unless_small = choose (less (local 0) one) (return None ∷ []) (say 0 (local 0 ∷ []) ∷ [])

-- Array.update(first, i, plus, 1, plus, 1)
abbrev pub count : Expr
count = update (Global 0) (local 0) plus

-- An event whose delay and target each count.
unfoldable pub counting : Bool → Stmt
counting delay_first = generate_with 6 (local 0 ∷ []) (Some count) (Some count) delay_first

-- An event to switches 4 and 2 whose delay counts.
unfoldable pub group : Stmt
group = to_each_after 6 (local 0 ∷ []) (Some count) (4 ∷ 2 ∷ [])

-- printf("n %d", hash<<32>>(7, i));
unfoldable pub say_hash : Stmt
say_hash = say 0 (hash 7 (local 0) ∷ [])

-- An event for each example. The last but one has no handler.
abbrev pub events : List EventDef
events = declared (Some 0) ∷ declared (Some 1) ∷ declared (Some 2) ∷ declared (Some 3) ∷ declared (Some 4) ∷ declared (Some 5) ∷ declared None ∷ declared (Some 6) ∷ []

abbrev pub handlers : List HandlerDef
handlers =
    handling 0 (look ∷ look ∷ [])
    ∷ handling 1 (say_bump 0 ∷ say_bump 1 ∷ [])
    ∷ handling 2 (say_unless_small ∷ [])
    ∷ handling 3 (counting true ∷ [])
    ∷ handling 4 (counting false ∷ [])
    ∷ handling 5 (group ∷ [])
    ∷ handling 7 (say_hash ∷ [])
    ∷ []

-- Arrays `first` of 4 cells and `second` of 8, a memop, a function with an array parameter, and the text "n %d".
abbrev pub worked : CoreParts
worked = made_of (array 4 ∷ array 8 ∷ []) (record { name = []; alu = plus } ∷ []) events (bump bumps ∷ []) handlers ((110 ∷ 32 ∷ 37 ∷ 100 ∷ []) ∷ [])

-- { printf("n %d", bump(first, i)); printf("n %d", bump(first, i)); } with the bodies inlined.
abbrev pub twice_put_in : List Stmt
twice_put_in = say 0 (bump_put_in ∷ []) ∷ say 0 (bump_put_in ∷ []) ∷ []

-- printf("n %d", Array.update(first, Array.update(second, i, plus, 1, plus, 1), plus, 1, plus, 1));
abbrev pub say_indexed : Stmt
say_indexed = say 0 (update (Global 0) (update (Global 1) (local 0) plus) plus ∷ [])

-- The cells of `first`, and cell 1 of `second`, whose other cells are 0.
abbrev pub cells_of : List ℕ → ℕ → List (List ℕ)
cells_of first n = first ∷ (0 ∷ n ∷ 0 ∷ 0 ∷ 0 ∷ 0 ∷ 0 ∷ 0 ∷ []) ∷ []

abbrev pub start : List (List ℕ)
start = cells_of (10 ∷ 20 ∷ 30 ∷ 40 ∷ []) 60

-- The effect of an event at tick 7 on switch 3, and the arrays that it calls.
abbrev pub does : CoreParts → Event → Stepped × List ℕ
does parts event = (step parts start 7 3 event, touches parts start 7 3 event)

-- Event `id` of this argument leaves these cells, sends these outs and calls these arrays.
abbrev pub Gives : ℕ → ℕ → List ℕ → ℕ → List Out → List ℕ → Type 0
Gives id i first n outs called = does worked (record { id = id; args = i ∷ [] }) ≡ (record { cells = cells_of first n; outs = outs }, called)

-- The event that has no handler, after a delay and to a switch.
abbrev pub sent : ℕ → ℕ → ℕ → Out
sent i delay to = Gen (record { id = 6; args = i ∷ [] }) delay (At to)

-- Two events of argument 1 that call `bump`.
abbrev pub two_events : List Entry
two_events = record { now = 7; me = 3; event = record { id = 1; args = 1 ∷ [] } } ∷ record { now = 8; me = 2; event = record { id = 1; args = 1 ∷ [] } } ∷ []

-- The effect of each event, and of two, one after the other.
pub record StepExamples : Type 0 where
  pub index_comes_round : Gives 0 5 (10 ∷ 22 ∷ 30 ∷ 40 ∷ []) 60 (Say 0 (120 ∷ []) ∷ Say 0 (121 ∷ []) ∷ []) (0 ∷ 0 ∷ [])
  pub both_memops_see_the_old_value : Gives 0 2 (10 ∷ 20 ∷ 32 ∷ 40 ∷ []) 60 (Say 0 (130 ∷ []) ∷ Say 0 (131 ∷ []) ∷ []) (0 ∷ 0 ∷ [])
  pub function_is_given_two_arrays : Gives 1 1 (10 ∷ 21 ∷ 30 ∷ 40 ∷ []) 61 (Say 0 (21 ∷ []) ∷ Say 0 (61 ∷ []) ∷ []) (0 ∷ 1 ∷ [])
  pub returns : Gives 2 0 (10 ∷ 20 ∷ 30 ∷ 40 ∷ []) 60 [] []
  pub goes_on : Gives 2 9 (10 ∷ 20 ∷ 30 ∷ 40 ∷ []) 60 (Say 0 (9 ∷ []) ∷ []) []
  pub delay_before_target : Gives 3 0 (12 ∷ 20 ∷ 30 ∷ 40 ∷ []) 60 (sent 0 11 12 ∷ []) (0 ∷ 0 ∷ [])
  pub target_before_delay : Gives 4 0 (12 ∷ 20 ∷ 30 ∷ 40 ∷ []) 60 (sent 0 12 11 ∷ []) (0 ∷ 0 ∷ [])
  pub one_delay_for_a_group : Gives 5 3 (10 ∷ 20 ∷ 30 ∷ 41 ∷ []) 60 (sent 3 41 4 ∷ sent 3 41 2 ∷ []) (0 ∷ [])
  pub no_handler : Gives 6 1 (10 ∷ 20 ∷ 30 ∷ 40 ∷ []) 60 [] []
  pub hashes : Gives 7 5 (10 ∷ 20 ∷ 30 ∷ 40 ∷ []) 60 (Say 0 (1584172615 ∷ []) ∷ []) []
  pub body_put_in : does (flat twice_put_in) (record { id = 0; args = 1 ∷ 9 ∷ [] }) ≡ (record { cells = cells_of (10 ∷ 22 ∷ 30 ∷ 40 ∷ []) 60; outs = Say 0 (21 ∷ []) ∷ Say 0 (22 ∷ []) ∷ [] }, 0 ∷ 0 ∷ [])
  pub index_is_called_first : does (flat (say_indexed ∷ [])) (record { id = 0; args = 1 ∷ 9 ∷ [] }) ≡ (record { cells = cells_of (10 ∷ 21 ∷ 30 ∷ 40 ∷ []) 61; outs = Say 0 (21 ∷ []) ∷ [] }, 1 ∷ 0 ∷ [])
  pub one_after_another : steps worked two_events ≡ record { cells = cells_of (0 ∷ 2 ∷ 0 ∷ 0 ∷ []) 2; outs = (Say 0 (1 ∷ []) ∷ Say 0 (1 ∷ []) ∷ []) ∷ (Say 0 (2 ∷ []) ∷ Say 0 (2 ∷ []) ∷ []) ∷ [] }
  pub cells_after_the_first : after worked two_events 1 ≡ cells_of (0 ∷ 1 ∷ 0 ∷ 0 ∷ []) 1
  pub outs_of_the_second : outs worked two_events 1 ≡ Say 0 (2 ∷ []) ∷ Say 0 (2 ∷ []) ∷ []
