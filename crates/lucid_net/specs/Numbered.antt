-- The pipes of switches by number.
use Rattle.std.specs.Prelude.{◌≡◌, ℕ, ◌<◌, ◌≤◌, get_or, length}
use Rattle.lucid_pipe.specs.Pipe.{PipeParts, in_flight}
use Rattle.lucid_net.specs.declared.machines.Machines.TheVariants as machines
use Rattle.lucid_net.specs.declared.machines.Machines.{Machines}

-- There is such a switch; and this is its pipe.
abbrev pub WithinPipes : Machines → ℕ → Type 0
WithinPipes (machines.Whole switches) switch = Unit {0}
WithinPipes (machines.Piped pipes) switch = switch < length pipes.pipes.items

abbrev pub PipeIs : Machines → ℕ → PipeParts → Type 0
PipeIs (machines.Whole switches) switch p = ⊥
PipeIs (machines.Piped pipes) switch p = p ≡ get_or pipes.pipes.items switch p

abbrev pub FewPipes : Machines → Type 0
FewPipes (machines.Whole switches) = Unit {0}
FewPipes (machines.Piped pipes) = length pipes.pipes.items ≤ 64

abbrev pub Packets : Machines → ℕ → ℕ → Type 0
Packets (machines.Whole switches) switch n = n ≡ 0
Packets (machines.Piped pipes) switch n = (d : PipeParts) → n ≡ in_flight (get_or pipes.pipes.items switch d)
