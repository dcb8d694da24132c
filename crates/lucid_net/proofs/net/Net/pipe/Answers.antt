use Rattle.std.proofs.Common.{◌≡◌, ◌<◌, IfSome, is_some, sym, ◌∙◌, ap, subst}
use Rattle.lucid_pipe.specs.Sights.{sight_of}
use Rattle.lucid_net.specs.Holds.{Holds}
use Rattle.lucid_net.specs.Rows.{PipeStands}
use Rattle.lucid_net.specs.Seen.{Seen, network, seen}
use Rattle.lucid_net.specs.Sights.{sight_at}
use Rattle.lucid_net.proofs.Showing.{are_within}
use Rattle.lucid_net.proofs.Shown.{pipe_holds, pipe_seen, pipe_stands}
use Rattle.lucid_net.proofs.net.Net.pipe.Goals as goal

pub returns-clause-mode : goal.returns-clause-mode
returns-clause-mode c = λ sound.
    let net = seen c.self.inside.world c.self.inside.machines c.self.inside.at c.self.inside.failed in
    let is : net ≡ c.args.self.now = c.self.view_is in
    subst (λ (s : Seen). is_some c.pipe_of.result ≡ is_some s.placed) is
    (c.pipe_of.ensures.mode (are_within c.self.inside.world c.self.inside.machines c.self.inside.at c.args.switch
    (c.self.invariant.is (ap (λ (s : Seen). s.failed) is ∙ sound)) (subst (λ (s : Seen). c.args.switch < s.scene.switches) (sym is) c.requires)))

pub returns-clause-stands : goal.returns-clause-stands
returns-clause-stands c = λ sound.
    let net = seen c.self.inside.world c.self.inside.machines c.self.inside.at c.self.inside.failed in
    let is : net ≡ c.args.self.now = c.self.view_is in
    subst (λ (s : Seen). IfSome c.pipe_of.result (λ p. IfSome s.placed (λ placed. PipeStands (network s) placed c.args.switch s.at p.now))) is
    (pipe_stands c.self.inside.world c.self.inside.machines c.self.inside.at c.args.switch (λ p. p.now) c.pipe_of.result
    (subst (λ (s : Seen). c.args.switch < s.scene.switches) (sym is) c.requires)
    (c.self.invariant.is (ap (λ (s : Seen). s.failed) is ∙ sound)) c.pipe_of.ensures.pipe)

pub returns-clause-holds : goal.returns-clause-holds
returns-clause-holds c = λ sound.
    let net = seen c.self.inside.world c.self.inside.machines c.self.inside.at c.self.inside.failed in
    let is : net ≡ c.args.self.now = c.self.view_is in
    subst (λ (s : Seen). IfSome c.pipe_of.result (λ p. IfSome s.placed (λ placed. Holds (network s) placed s.at c.args.switch p.now))) is
    (pipe_holds c.self.inside.world c.self.inside.machines c.self.inside.at c.args.switch (λ p. p.now) c.pipe_of.result
    (subst (λ (s : Seen). c.args.switch < s.scene.switches) (sym is) c.requires) c.self.invariant.within
    (c.self.invariant.is (ap (λ (s : Seen). s.failed) is ∙ sound)) c.pipe_of.ensures.pipe)

pub returns-clause-sight : goal.returns-clause-sight
returns-clause-sight c = λ sound.
    let net = seen c.self.inside.world c.self.inside.machines c.self.inside.at c.self.inside.failed in
    let is : net ≡ c.args.self.now = c.self.view_is in
    subst (λ (s : Seen). IfSome c.pipe_of.result (λ p. IfSome s.placed (λ placed. sight_of c.args.switch p.now ≡ sight_at (network s) placed s.at c.args.switch))) is
    (pipe_seen c.self.inside.world c.self.inside.machines c.self.inside.at c.args.switch (λ p. p.now) c.pipe_of.result
    (subst (λ (s : Seen). c.args.switch < s.scene.switches) (sym is) c.requires) c.self.invariant.within
    (c.self.invariant.is (ap (λ (s : Seen). s.failed) is ∙ sound)) c.pipe_of.ensures.pipe)
