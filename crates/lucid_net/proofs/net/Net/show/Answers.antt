use Rattle.std.proofs.Common.{◌≡◌, ◌∙◌, ap, subst, arith}
use Rattle.std.proofs.lemmas.Grind.{elements}
use Rattle.lucid_net.specs.Seen.{Seen, network, seen}
use Rattle.lucid_net.specs.Sights.{sights}
use Rattle.lucid_pipe.specs.Sights.{ShowsAll}
use Rattle.lucid_net.proofs.Showing.{shown_is}
use Rattle.lucid_net.proofs.net.Net.show.Goals as goal

pub returns-clause-shows : goal.returns-clause-shows
returns-clause-shows g c =
    let net = seen c.self.inside.world c.self.inside.machines c.self.inside.at c.self.inside.failed in
    let is : net ≡ c.args.self.now = c.self.view_is in
    subst (λ (s : Seen). ShowsAll (g.V.Watch.seen c.args.watch.now) (g.V.Watch.seen c.show.new.watch) (sights (network s) s.placed s.at)) is
    (subst (ShowsAll (g.V.Watch.seen c.args.watch.now) (g.V.Watch.seen c.show.new.watch))
    (shown_is c.self.inside.world c.self.inside.machines c.self.inside.at c.self.invariant.within (c.self.invariant.is (ap (λ (s : Seen). s.failed) is ∙ c.requires))) c.show.ensures.shows)

pub returns-clause-still : goal.returns-clause-still
returns-clause-still g c none = c.show.ensures.still (ap (λ (s : Seen). s.placed) c.self.view_is ∙ none)

pub show-requires : goal.show-requires
show-requires g c = grind (arith, elements)
