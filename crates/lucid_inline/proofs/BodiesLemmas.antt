-- What leads to a machine.
use Rattle.std.proofs.Common.{◌≡◌, List, ◌∷◌, Ok, Err, Result, ap, ◌∙◌}
use Rattle.std.specs.Prelude.{OnOk}
use Rattle.lucid_base.specs.declared.memory.Memory.{Memory}
use Rattle.lucid_inline.specs.Bodies.{Leads, after_all, after_task}
use Rattle.lucid_inline.specs.declared.machine.Machine.{Machine}
use Rattle.lucid_inline.specs.declared.task.Task.{Task}

-- A call that changes the machine if it succeeds.
pub leads : (to m : Machine) (tasks : List Task) (r : Result (Unit {0}) Memory) (P : Type 0) → OnOk r P → (P → after_all tasks m ≡ to) → Leads to tasks m r
leads to m tasks (Ok x) P h f = f h
leads to m tasks (Err err) P h f = tt

-- What leads to a machine leads to an equal one.
pub leads_to : (a b m : Machine) (tasks : List Task) (r : Result (Unit {0}) Memory) → a ≡ b → Leads a tasks m r → Leads b tasks m r
leads_to a b m tasks (Ok x) is h = h ∙ is
leads_to a b m tasks (Err err) is h = tt

-- The first task of a list.
pub after_push : (tasks more : List Task) (t : Task) (m : Machine) → more ≡ t ∷ tasks → after_all more m ≡ after_all tasks (after_task t m)
after_push tasks more t m is = ap (λ (ts : List Task). after_all ts m) is
