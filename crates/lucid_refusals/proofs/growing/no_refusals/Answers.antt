use Rattle.std.proofs.Common.{◌∙◌, sym, ap, subst}
use Rattle.std.specs.List.{All}
use Rattle.std.proofs.lemmas.List.Elements.{All-nil}
use Rattle.lucid_refusals.specs.Refusal.{Refuses, fields_of, literals_of}
use Rattle.lucid_refusals.proofs.growing.no_refusals.Goals as goal

pub invariant_of-result : goal.invariant_of-result
invariant_of-result c =
    let P = Refuses c.args.rows c.in_ok-patterns.patterns in
    record {
      named = c.from_vec-fields.ensures ∙ c.in_ok-fields_of.ensures ∙ ap fields_of (sym c.in_ok-patterns.ensures);
      listed = c.in_ok-literals.ensures ∙ ap literals_of (sym c.in_ok-patterns.ensures);
      refuses = subst (All P) (sym c.new.ensures) (All-nil P);
    }
