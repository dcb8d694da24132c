use Rattle.std.proofs.Common.{◌≡◌, ℕ, take}
use Rattle.std.specs.List.{list_any}
use Rattle.lucid_net_spec.specs.Ways.{is_open}
use Rattle.lucid_net.specs.Windows.{holds}
use Rattle.lucid_net.proofs.windows.found.Given as goal

-- of those so far
abbrev pub invariant-loop-window : goal.invariant-loop-window
invariant-loop-window l = (tick : ℕ) → list_any (holds tick) l.spans.items ≡ list_any (is_open l.a l.b tick) (take l.window-index l.down)
