-- A network none of whose links is ever down: every event sent over a link arrives.
use Rattle.std.specs.Prelude.{◌≡◌, ℕ, [], Option, None, Some, if◌then◌else◌, nat_eq}
use Rattle.std.specs.List.{find}
use Rattle.lucid_base.specs.Saturating.{saturating_sum}
use Rattle.lucid_base.specs.declared.event.Target.{Target}
use Rattle.lucid_base.specs.declared.event.Target.TheVariants.{Here, At}
use Rattle.lucid_conf.specs.Items.{joins}
use Rattle.lucid_conf.specs.declared.scene.Link.{Link}
use Rattle.lucid_conf.specs.declared.scene.Scene.{Scene}
use Rattle.lucid_net_spec.specs.Ways.{Arrival, arrival}

-- Over this link, whenever it departs.
abbrev pub always_over : ℕ → ℕ → Option Link → Option Arrival
always_over to departs None = None
always_over to departs (Some l) = Some (record { switch = to; ready = saturating_sum departs l.latency })

-- Where and when an event arrives that departs from switch `me`, where no window is asked; None where no link leads there.
abbrev pub plain_arrival : Scene → ℕ → ℕ → Target → Option Arrival
plain_arrival scene me departs Here = Some (record { switch = me; ready = departs })
plain_arrival scene me departs (At to) = if nat_eq to me then Some (record { switch = me; ready = departs }) else always_over to departs (find (joins me to) scene.links)

-- Where a scenario has no windows, each event arrives so.
abbrev pub NoWindows : Type 0
NoWindows = (scene : Scene) (me departs : ℕ) (to : Target) → scene.down ≡ [] → arrival scene me departs to ≡ plain_arrival scene me departs to
