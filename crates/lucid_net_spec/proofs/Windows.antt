-- Where there are no windows, none is open.
use Rattle.std.proofs.Common.{◌≡◌, ℕ, List, [], Option, None, Some, if◌then◌else◌, nat_eq, refl, ap}
use Rattle.std.specs.List.{find, list_any}
use Rattle.lucid_base.specs.Saturating.{saturating_sum}
use Rattle.lucid_base.specs.declared.event.Target.TheVariants.{Here, At}
use Rattle.lucid_conf.specs.Items.{joins}
use Rattle.lucid_conf.specs.declared.scene.Down.{Down}
use Rattle.lucid_conf.specs.declared.scene.Link.{Link}
use Rattle.lucid_net_spec.specs.Ways.{Arrival, is_open, over_link}
use Rattle.lucid_net_spec.specs.Windows.{NoWindows, always_over}

always_up : (down : List Down) (me to departs : ℕ) (link : Option Link) → down ≡ [] → over_link down me to departs link ≡ always_over to departs link
always_up down me to departs None none = refl
always_up down me to departs (Some l) none =
    ap (λ (d : List Down). if list_any (is_open me to departs) d then None else Some (record { switch = to; ready = saturating_sum departs l.latency })) none

pub no_windows : NoWindows
no_windows scene me departs Here none = refl
no_windows scene me departs (At to) none =
    ap (λ (a : Option Arrival). if nat_eq to me then Some (record { switch = me; ready = departs }) else a) (always_up scene.down me to departs (find (joins me to) scene.links) none)
