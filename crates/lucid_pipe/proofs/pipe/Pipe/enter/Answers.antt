use Rattle.std.proofs.Common.{◌≡◌, ◌∙◌, true, false, is_some, length, refl, sym, subst}
use Rattle.std.proofs.lemmas.Bool.{true≢false}
use Rattle.lucid_pipe.specs.Pipe.{PipeParts, packet_at}
use Rattle.lucid_pipe.proofs.Handing.{found_there}
use Rattle.lucid_pipe.proofs.Moves.{pipe_long}
use Rattle.lucid_pipe.proofs.pipe.Pipe.enter.Goals as goal

pub returns-then-is_some-clause-busy : goal.returns-then-is_some-clause-busy
returns-then-is_some-clause-busy c =
    let inside = c.self.inside in
    let here = found_there inside.placed.now.code inside.blocks inside.slots.items _ 0 _ c.self.invariant.there c.as_slice.ensures.value c.block_at.ensures ∙ sym c.is_some.ensures ∙ c.if-is_some.true in
    (λ _. subst (λ (p : PipeParts). is_some (packet_at p 0) ≡ true) c.self.view_is here, λ _. refl)

pub returns-then-is_some-clause-long : goal.returns-then-is_some-clause-long
returns-then-is_some-clause-long c = subst (λ (p : PipeParts). length p.slots ≡ length p.placed.stages) c.self.view_is (pipe_long _ _ _ _ c.self.invariant)

pub returns-clause-busy : goal.returns-clause-busy
returns-clause-busy c =
    let inside = c.self.inside in
    let none = found_there inside.placed.now.code inside.blocks inside.slots.items _ 0 _ c.self.invariant.there c.as_slice.ensures.value c.block_at.ensures ∙ sym c.is_some.ensures ∙ c.if-is_some.false in
    (λ e. cc, λ some. absurd (true≢false (sym some ∙ subst (λ (p : PipeParts). is_some (packet_at p 0) ≡ false) c.self.view_is none)))

pub returns-clause-long : goal.returns-clause-long
returns-clause-long c = pipe_long _ _ _ _ c.enter.ensures.pipe
