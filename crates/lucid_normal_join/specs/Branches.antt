-- The end of an if, where its branches are joined.
use Rattle.std.specs.Prelude.{ℕ, max, List, Option, None, ◌++◌, slice_index_or}
use Rattle.lucid_code.specs.declared.op.Op.{Op}
use Rattle.lucid_normal_steps.specs.Notes.{end_of}
use Rattle.lucid_normal_join.specs.declared.branches.Ended.{Ended}
use Rattle.lucid_normal_spec.specs.declared.env.Env.{Env}
use Rattle.lucid_normal_spec.specs.declared.env.Typed.{Typed}
use Rattle.lucid_normal_spec.specs.Translate.{Joined, join_answer, join_at, joins, nothing_joined}

-- One local alone.
abbrev pub met : ℕ → ℕ → List ℕ → Option Typed → Option Typed → Option Typed → Joined
met level c widths o x y = join_at level c widths o x y nothing_joined

-- Where a branch ends.
pub record Ends : Type 0 where
  pub held : List (Option Typed)
  pub answer : Option Typed
  pub slot : ℕ
  pub place : ℕ

abbrev pub ends_of : Env → Ends
ends_of env = record { held = env.held; answer = env.answer; slot = env.slot; place = env.place }

-- From the operands of the locals at its start.
abbrev pub ends_at : List (Option Typed) → Ended → Ends
ends_at held e = record { held = end_of e.notes held; answer = e.answer; slot = e.slot; place = e.place }

-- The level of the moves, from the ends of the first branch and where the second ends.
abbrev pub level_of : Ends → Env → ℕ
level_of first env = max first.place env.place

-- The locals, from their operands before the if.
abbrev pub locals_joined : ℕ → List (Option Typed) → Ends → Env → Joined
locals_joined c held first env = joins (level_of first env) c held first.held env.held env.widths

-- The answer, behind the locals.
abbrev pub answer_joined : ℕ → List (Option Typed) → Ends → Env → Joined
answer_joined c held first env = join_answer (level_of first env) c first.answer env.answer (locals_joined c held first env).widths

abbrev pub ops_of : ℕ → List (Option Typed) → Ends → Env → List Op
ops_of c held first env = (locals_joined c held first env).ops ++ (answer_joined c held first env).ops

abbrev pub env_of : ℕ → List (Option Typed) → Ends → Env → Env
env_of c held first env = record {
  widths = (answer_joined c held first env).widths;
  held = (locals_joined c held first env).held;
  answer = slice_index_or (answer_joined c held first env).held 0 None;
  slot = max first.slot env.slot;
  place = level_of first env;
}
