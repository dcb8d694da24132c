-- Programs whose flat form, length and size were worked by hand, over two arrays and the function `bump` of lucid_core's examples.
-- In a length a call of an array, an operation, an assignment, an event and a print are one each, a condition that is fixed, a local or a
-- call is one more, and each local that is joined is two.
use Rattle.std.specs.Prelude.{◌≡◌, ℕ, ◌+◌, List, [], ◌∷◌, Some, None, false}
use Rattle.lucid_base.specs.declared.array.ArrayName.TheVariants.{Global, Param}
use Rattle.lucid_core.specs.declared.body.Expr.{Expr}
use Rattle.lucid_core.specs.declared.body.Stmt.{Stmt}
use Rattle.lucid_core.specs.declared.defs.FunDef.{FunDef}
use Rattle.lucid_core.specs.ExamplePrograms.{assign, bump, bumps, call, choose, drop_value, generate, handler, inlined, less, local, number, one}
use Rattle.lucid_core.specs.ExamplePrograms.{plus, program, return, small, to_each_after, update, yes, generate_with}
use Rattle.lucid_core.specs.Parts.{CoreParts}
use Rattle.lucid_inline_spec.specs.Counts.{handler_lengths, handler_sizes}
use Rattle.lucid_inline_spec.specs.Flat.{flat_of}

-- bump(first, x)
abbrev pub bump_at : Expr → Expr
bump_at x = call 0 (Global 0 ∷ []) (x ∷ [])

-- The handler with this body.
abbrev pub doing : List Stmt → CoreParts
doing ss = program bumps ss

-- `bump` with this body, called once and twice.
abbrev pub called_once : List Stmt → CoreParts
called_once body = program body (drop_value (bump_at (local 0)) ∷ [])

abbrev pub called_twice : List Stmt → CoreParts
called_twice body = program body (drop_value (bump_at (local 0)) ∷ drop_value (bump_at (local 0)) ∷ [])

-- A parameter and a local of its own, each assigned in a branch.
abbrev pub in_branch : ℕ → Stmt
in_branch i = choose yes (assign i one ∷ []) []

-- fun int t1(Array<<32>> a, int x) { return hash(x); } and fun int tk(..) { return tj(x) compared with tj(x); } for j = k - 1
abbrev pub bottom : FunDef
bottom = bump (return (Some (less (local 0) one)) ∷ [])

abbrev pub above : ℕ → FunDef
above k = bump (return (Some (less (call k (Param 0 ∷ []) (local 0 ∷ [])) (call k (Param 0 ∷ []) (local 0 ∷ [])))) ∷ [])

-- Three of them, one above the other; the handler sends the result of the last.
abbrev pub tower : CoreParts
tower = record small {
  funs = bottom ∷ above 0 ∷ above 1 ∷ [];
  handlers = handler (generate 0 (local 0 ∷ call 2 (Global 0 ∷ []) (local 0 ∷ []) ∷ []) ∷ []) ∷ [];
}

-- note(i, bump(first, i)) to the switches 4 and 2, after a delay
abbrev pub group : Stmt
group = to_each_after 0 (local 0 ∷ bump_at (local 0) ∷ []) (Some one) (4 ∷ 2 ∷ [])

-- The body of `bump`, inlined at these two locals.
abbrev pub bump_in : ℕ → Expr → Expr
bump_in b x = inlined ((b, x) ∷ []) (assign (b + 1) (update (Global 0) (local b) plus) ∷ return (Some (local (b + 1))) ∷ [])

-- The flat handler with this body, and additional locals of 32 bits.
abbrev pub flat_with : List ℕ → List Stmt → CoreParts
flat_with more ss = record small { funs = []; handlers = record (handler ss) { locals = 32 ∷ 32 ∷ 32 ∷ more } ∷ [] }

abbrev pub four_more : List ℕ
four_more = 32 ∷ 32 ∷ 32 ∷ 32 ∷ []

-- note(i, most), with a delay and a target that are evaluated in this order.
abbrev pub sent : Expr → Expr → Stmt
sent delay to = generate_with 0 (local 0 ∷ local 1 ∷ []) (Some delay) (Some to) false

-- The group's statement for one member.
abbrev pub to_one : ℕ → Stmt
to_one member = generate_with 0 (local 5 ∷ local 6 ∷ []) (Some (local 7)) (Some (number member)) false

pub record FlatExamples : Type 0 where
  -- a call in a call's argument comes first
  pub argument_first : flat_of (doing (drop_value (bump_at (bump_at (local 0))) ∷ []))
      ≡ flat_with four_more (drop_value (bump_in 5 (bump_in 3 (local 0))) ∷ [])
  -- a target before a delay, where it is evaluated first
  pub target_first : flat_of (doing (sent (bump_at (local 0)) (bump_at (local 1)) ∷ []))
      ≡ flat_with four_more (sent (bump_in 5 (local 0)) (bump_in 3 (local 1)) ∷ [])
  -- a group numbers the locals of its values after those of its calls
  pub of_a_group : flat_of (doing (group ∷ []))
      ≡ flat_with (32 ∷ four_more) (assign 5 (local 0) ∷ assign 6 (bump_in 3 (local 0)) ∷ assign 7 one ∷ to_one 4 ∷ to_one 2 ∷ [])

-- Of a program with one handler: the length of the normal form, and the size of the flat form.
abbrev pub Counted : CoreParts → ℕ → ℕ → Type 0
Counted core length size = (handler_lengths core ≡ length ∷ []) × (handler_sizes core ≡ size ∷ [])

-- if (i < 1) { return 1; } else { return 2; }
abbrev pub answers_either : List Stmt
answers_either = choose (less (local 0) one) (return (Some one) ∷ []) (return (Some (number 2)) ∷ []) ∷ []

-- int n = 1; if (i < 1) { n = Array.update(..); } else { n = Array.update(..); } generate note(i, n);
abbrev pub updates : List Stmt
updates = assign 2 (update (Global 0) one plus) ∷ []

abbrev pub updates_either : List Stmt
updates_either = assign 2 one ∷ choose (less (local 0) one) updates updates ∷ generate 0 (local 0 ∷ local 2 ∷ []) ∷ []

pub record CountExamples : Type 0 where
  pub of_small : Counted small 6 7
  -- a parameter is joined, a local that nothing holds before isn't, and one that both branches assign is joined once
  pub joined : Counted (doing (in_branch 0 ∷ [])) 4 2
  pub not_held : Counted (doing (in_branch 2 ∷ [])) 2 2
  pub held_before : Counted (doing (assign 2 one ∷ in_branch 2 ∷ [])) 5 3
  pub joined_once : Counted (doing (choose yes (assign 0 one ∷ []) (assign 0 one ∷ []) ∷ [])) 5 3
  pub nested : Counted (doing (choose yes (in_branch 0 ∷ []) [] ∷ [])) 7 3
  -- a comparison needs no move
  pub both_branches : Counted (doing updates_either) 9 5
  -- an answer is joined where both branches return; an if that returns otherwise has no joins
  pub answers : Counted (called_once answers_either) 3 5
  pub returns_early : Counted (doing (choose yes (assign 0 one ∷ return None ∷ []) [] ∷ [])) 2 3
  -- joins within a call, in each call
  pub in_calls : Counted (called_twice (in_branch 0 ∷ return (Some (local 0)) ∷ [])) 8 10
  pub of_a_tower : Counted tower 8 15
  pub of_a_group : Counted (doing (group ∷ [])) 7 8
