use Rattle.std.proofs.Common.{◌≡◌, ◌<◌, sym, ◌∙◌, ap, subst}
use Rattle.lucid_net_laws.specs.Runs.{entering}
use Rattle.lucid_net.specs.Seen.{Seen, lag, network, seen}
use Rattle.lucid_net.specs.Sights.{in_last}
use Rattle.lucid_net.proofs.Showing.{are_within, packets_are}
use Rattle.lucid_net.proofs.net.Net.packets.Goals as goal

pub returns-clause-count : goal.returns-clause-count
returns-clause-count c = λ sound.
    let net = seen c.self.inside.world c.self.inside.machines c.self.inside.at c.self.inside.failed in
    let is : net ≡ c.args.self.now = c.self.view_is in
    let at = c.self.invariant.is (ap (λ (s : Seen). s.failed) is ∙ sound) in
    let there : c.args.switch < net.scene.switches = subst (λ (s : Seen). c.args.switch < s.scene.switches) (sym is) c.requires in
    subst (λ (s : Seen). c.packets.result ≡ in_last (entering (network s) c.args.switch) s.at (lag s)) is
    (packets_are c.self.inside.world c.self.inside.machines c.self.inside.at c.args.switch c.packets.result at there
    (c.packets.ensures.is (are_within c.self.inside.world c.self.inside.machines c.self.inside.at c.args.switch at there)))
