use Rattle.std.proofs.Common.{◌≡◌, ◌<◌, ◌∙◌, Err, List, ap, length, map, rules, subst, sym, ℕ}
use Rattle.std.specs.Prelude.{All, IfErr}
use Rattle.std.proofs.lemmas.Result.{IfErr-weaker, IfOk-weaker}
use Rattle.lucid_lex.specs.declared.token.Token.{Token}
use Rattle.lucid_size.specs.declared.step.Step.{Step}
use Rattle.lucid_size.specs.declared.template.Template.{Template}
use Rattle.lucid_size.specs.Error.{Refuses}
use Rattle.lucid_size.specs.Expansion.{ExpandsTo}
use Rattle.lucid_size.specs.Names.{AreNames}
use Rattle.lucid_size.specs.Parts.{body_steps, outside_from}
use Rattle.lucid_size.specs.Search.{AreUsed}
use Rattle.lucid_size.specs.Suffix.{underscores}
use Rattle.lucid_size.proofs.Least.{AreParts, expands, length_refuses, room_refuses}
use Rattle.lucid_size.proofs.expansion.write_parted.Goals as goal

pub templates_stand-requires : goal.templates_stand-requires
templates_stand-requires c = record { reads = c.requires.reads; whole = c.requires.names.whole }

pub parts_stand-requires : goal.parts_stand-requires
parts_stand-requires c =
    let text = c.args.text.now in
    let ts = c.args.tokens.now in
    let xs = c.args.templates.now in
    record {
      reads = c.requires.reads;
      whole = c.requires.names.whole;
      outside = c.requires.outside ∙ ap (λ l. outside_from text l ts 0 xs) c.requires.names.are;
      bodies = c.requires.bodies ∙ ap (λ l. map (body_steps text l ts) xs) c.requires.names.are;
    }

pub underscores_in-underscores-requires : goal.underscores_in-underscores-requires
underscores_in-underscores-requires c = c.templates_stand.ensures.stand

pub found_in-requires : goal.found_in-requires
found_in-requires c = record {
  outside = c.parts_stand.ensures.outside;
  bodies = c.parts_stand.ensures.bodies;
  steps = c.parts_stand.ensures.inner;
  outer = c.parts_stand.ensures.outer;
}

pub write_whole-written-requires : goal.write_whole-written-requires
write_whole-written-requires c = record {
  reads = c.requires.reads;
  order = c.templates_stand.ensures.order;
  bodies = c.requires.bodies;
  same = c.parts_stand.ensures.same;
  in_text = c.parts_stand.ensures.in_text;
  within = subst (All (λ i. i.template < length c.args.bodies.now)) (sym c.as_slice.ensures.value) c.in_ok-found.ensures.within;
}

parts_are : (text : List ℕ) (ts : List Token) (xs : List Template) (names : List (List ℕ)) (outside : List Step) (bodies : List (List Step)) (m : ℕ) →
    AreNames text ts xs names → outside ≡ outside_from text names ts 0 xs → bodies ≡ map (body_steps text names ts) xs → m ≡ underscores text ts →
    AreParts text ts xs names outside bodies m
parts_are text ts xs names outside bodies m are outside_are bodies_are scores_are = record {
  whole = are.whole;
  distinct = are.distinct;
  names_are = are.are;
  outside_are = outside_are;
  bodies_are = bodies_are;
  scores_are = scores_are;
}

pub returns-in_err-found-clause-err : goal.returns-in_err-found-clause-err
returns-in_err-found-clause-err c =
    let text = c.args.text.now in
    let ts = c.args.tokens.now in
    let outside = c.args.outside.now in
    let bodies = c.args.bodies.now in
    let m = c.underscores_in-underscores.result in
    let e = c.in_err-found.field-0.0 in
    let parts = parts_are text ts c.args.templates.now c.args.names.now outside bodies m c.requires.names c.requires.outside c.requires.bodies c.underscores_in-underscores.ensures in
    let passed : c.from_residual.result ≡ Err e = search rules in
    subst (λ r. IfErr r (Refuses text ts)) (sym passed)
    (room_refuses text ts c.args.templates.now c.args.names.now outside bodies m c.requires.reads parts c.parts_stand.ensures.outside c.parts_stand.ensures.bodies c.parts_stand.ensures.same e c.in_err-found.ensures.err)

pub returns : goal.returns
returns c =
    let text = c.args.text.now in
    let ts = c.args.tokens.now in
    let outside = c.args.outside.now in
    let bodies = c.args.bodies.now in
    let m = c.underscores_in-underscores.result in
    let parts = parts_are text ts c.args.templates.now c.args.names.now outside bodies m c.requires.names c.requires.outside c.requires.bodies c.underscores_in-underscores.ensures in
    let used = subst (AreUsed outside bodies) (sym c.as_slice.ensures.value) c.in_ok-found.ensures.found in
    let out = c.in_ok-written.field-0.items in
    let are : ExpandsTo text ts out = expands text ts c.args.templates.now c.args.names.now outside bodies m c.as_slice.result.now out parts used c.in_ok-written.ensures in
    record {
      ok = IfOk-weaker c.within_most.result _ _ (λ _ h. (subst (ExpandsTo text ts) (sym h.0) are, h.1)) c.within_most.ensures.fits;
      err = IfErr-weaker c.within_most.result _ _ (λ e h. length_refuses text ts out e h.0 are h.1) c.within_most.ensures.err;
    }
