use Rattle.std.proofs.Common.{◌∙◌, ◌++◌, ap, arith, refl, subst, sym}
use Rattle.std.proofs.lemmas.List.{append-nil}
use Rattle.std.proofs.lemmas.List.Elements.{All-get_or}
use Rattle.std.specs.Option.{is_some}
use Rattle.lucid_lex.specs.Reading.{IsTokenOf}
use Rattle.lucid_size.specs.declared.template.Template.{Template}
use Rattle.lucid_size.specs.Expansion.{first_repeat}
use Rattle.lucid_size.specs.Names.{Repeats}
use Rattle.lucid_size.specs.Parts.{names_of}
use Rattle.lucid_size.specs.Places.{IsWhole}
use Rattle.lucid_size.proofs.InText.{past}
use Rattle.lucid_size.proofs.Repeats.{told, turn}
use Rattle.lucid_size.proofs.names.names_of.Goals as goal

pub text_of-requires : goal.text_of-requires
text_of-requires c =
    let xs = c.args.templates.now in
    let ts = c.args.tokens.now in
    let d : Template = record { first = 0; name = 0; end = 0 } in
    let whole = All-get_or (IsWhole ts) xs c.loop-template.template-index d c.loop-template-test.true c.requires.whole in
    let end = whole.end in
    let last = whole.within in
    All-get_or (IsTokenOf c.args.text.now) ts _ _ (omega arith) c.requires.stand

pub returns-in-Err-clause-err : goal.returns-in-Err-clause-err
returns-in-Err-clause-err c =
    subst (λ o. Repeats o c.in-Err.error) c.loop-template.invariant.left
    (told c.args.text.now c.args.tokens.now c.args.templates.now c.loop-template.template-index _ _ c.loop-template.names
    c.text_of.result.now
    c.loop-template-test.true c.requires.whole c.text_of.ensures.bytes c.in-Err.error _ refl c.in-Err.ensures.err)

pub loop-template-preserved : goal.loop-template-preserved
loop-template-preserved c =
    let next = turn c.args.text.now c.args.tokens.now c.args.templates.now c.loop-template.template-index _ _ c.loop-template.names
    c.text_of.result.now
    c.loop-template-test.true c.requires.whole c.text_of.ensures.bytes c.add_new.new.self c.in-Ok.ensures.added
    (ap is_some c.in-Ok.ensures.new) in
    record { all = next.0 ∙ c.loop-template.invariant.all; left = next.1 ∙ c.loop-template.invariant.left }

pub returns : goal.returns
returns c =
    let names = c.loop-template.names in
    let none = past c.args.templates.now c.loop-template.template-index c.loop-template-test.false in
    record {
      names = sym (append-nil names) ∙ ap (λ l. names ++ names_of c.args.text.now c.args.tokens.now l) (sym none)
          ∙ c.loop-template.invariant.all;
      distinct = sym c.loop-template.invariant.left ∙ ap (λ l. first_repeat names (names_of c.args.text.now c.args.tokens.now l)) none;
      err = tt;
    }
