-- A packet is in a slot if the code found its block.
use Rattle.std.proofs.Common.{◌≡◌, ◌∙◌, ℕ, Option, None, Some, Ok, Err, is_some, false, sym, ap, refl}
use Rattle.std.proofs.lemmas.Bool.{true≢false}
use Rattle.std.specs.Prelude.{Result}
use Rattle.lucid_pipe.specs.declared.passed.Stuck.{Stuck}
use Rattle.lucid_pipe.specs.declared.passed.Stuck.TheVariants as stuck
use Rattle.lucid_pipe.specs.Packets.{Packet}
use Rattle.lucid_pipe.proofs.Handing.{found_there}
use Rattle.lucid_pipe.proofs.moving.go_on.Goals as goal

none_there : (p : Option Packet) → is_some p ≡ false → p ≡ None
none_there None is = refl
none_there (Some p) is = absurd (cc)

empty_ahead : (r : Result (Option ℕ) Stuck) → r ≡ Err stuck.Empty → r ≡ Err stuck.Ahead → ⊥
empty_ahead r e a = cc

went : (out : Option ℕ) (s : Stuck) → Ok out ≡ Err s → ⊥
went out s e = cc

pub returns-in_default-clause-empty : goal.returns-in_default-clause-empty
returns-in_default-clause-empty c =
    let here = found_there c.args.placed.now.code c.args.blocks.now c.args.slots.now.items c.as_slice.result.now c.args.k c.block_at.result c.requires.there c.as_slice.ensures.value c.block_at.ensures in
    (λ _. none_there _ (here ∙ ap is_some c.in_default.is), λ _. refl)

pub returns-in_default-clause-ahead : goal.returns-in_default-clause-ahead
returns-in_default-clause-ahead c =
    let here = found_there c.args.placed.now.code c.args.blocks.now c.args.slots.now.items c.as_slice.result.now c.args.k c.block_at.result c.requires.there c.as_slice.ensures.value c.block_at.ensures in
    (λ e. absurd (empty_ahead _ refl e), λ both. absurd (true≢false (sym both.0 ∙ here ∙ ap is_some c.in_default.is)))

pub returns-clause-empty : goal.returns-clause-empty
returns-clause-empty c =
    let here = found_there c.args.placed.now.code c.args.blocks.now c.args.slots.now.items c.as_slice.result.now c.args.k c.block_at.result c.requires.there c.as_slice.ensures.value c.block_at.ensures in
    (λ e. absurd (went _ _ e), λ none. absurd (true≢false (sym (ap is_some c.in-Some.is) ∙ sym here ∙ ap is_some none)))

pub returns-clause-goes : goal.returns-clause-goes
returns-clause-goes c = c.pass_on.ensures.goes

pub returns-clause-out : goal.returns-clause-out
returns-clause-out c = c.pass_on.ensures.out

pub returns-clause-settles : goal.returns-clause-settles
returns-clause-settles c = c.pass_on.ensures.settles
