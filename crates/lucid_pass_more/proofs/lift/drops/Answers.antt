use Rattle.std.proofs.Common.{rules, ◌≡◌, ◌∙◌, ◌&&◌, sym, ap, true, not, nat_eq}
use Rattle.std.proofs.lemmas.List.{get_or_default}
use Rattle.lucid_pass_more.proofs.LiftLemmas.{drops_by}
use Rattle.lucid_pass_more.proofs.lift.drops.Goals as goal

pub returns-then-literal-ne0 : goal.returns-then-literal-ne0
returns-then-literal-ne0 c =
    let other : not (nat_eq c.args.literal.field 0) ≡ true = search rules in
    ap (λ b. b && c.all_require.result) (sym other)
    ∙ drops_by c.args.known.ops.now c.args.known.users.now c.args.k c.args.literal c.as_slice.result.now c.all_require.result c.requires.names c.requires.below
    (c.as_slice.ensures ∙ get_or_default _ _ _ _ c.requires.below) c.all_require.ensures
