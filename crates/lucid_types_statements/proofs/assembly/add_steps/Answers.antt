-- The last part goes on, so its steps and those of the body are one part.
use Rattle.std.proofs.Common.{◌≡◌, List, [], ◌∷◌, ◌++◌, sym, ap, ◌∙◌}
use Rattle.std.proofs.lemmas.Result.{on_ok_weaker}
use Rattle.lucid_types_laws.specs.declared.part.Part.{Part}
use Rattle.lucid_types_laws.specs.declared.part.Part.TheVariants.{Does}
use Rattle.lucid_types_spec.specs.Block.{before}
use Rattle.lucid_types_statements.specs.Assembly.{HaveTheEffect}
use Rattle.lucid_types_statements.proofs.Onto.{joined_effect, same_effect}
use Rattle.lucid_types_statements.proofs.assembly.add_steps.Goals as goal

pub returns-in-Never : goal.returns-in-Never
returns-in-Never c =
    let first = c.pop.new.self in
    let last = c.in-Some-Does.last in
    let old : c.args.parts.now ≡ first ++ Does last ∷ [] = c.in-Some-Does.ensures ∙ ap (λ (p : Part). first ++ p ∷ []) c.in-Some-Does.field-0-is in
    let joined : c.add_joined.new.parts ≡ first ++ Does (before last.steps c.args.body) ∷ [] →
    HaveTheEffect c.add_joined.new.parts (c.args.parts.now ++ Does c.args.body ∷ []) =
    λ new more rest. same_effect _ _ new more rest ∙ joined_effect first last c.args.body c.in-Never.is more rest
    ∙ same_effect _ _ (ap (λ (ps : List Part). ps ++ Does c.args.body ∷ []) (sym old)) more rest in
    on_ok_weaker _ joined c.add_joined.ensures
