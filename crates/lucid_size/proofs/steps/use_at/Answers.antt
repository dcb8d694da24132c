use Rattle.std.proofs.Common.{◌≡◌, ◌≤◌, ◌∙◌, arith, length, sym}
use Rattle.std.specs.Prelude.{option_map}
use Rattle.std.proofs.lemmas.List.Elements.{All-get_or}
use Rattle.std.proofs.lemmas.Result.{IfOk-weaker}
use Rattle.lucid_lex.specs.Reading.{IsTokenOf}
use Rattle.lucid_size.specs.Steps.{template_of, use_at, use_by}
use Rattle.lucid_size.proofs.Turns.{few_tokens, no_use, uses_here}
use Rattle.lucid_size.proofs.steps.use_at.Goals as goal

pub text_of-requires : goal.text_of-requires
text_of-requires c = All-get_or (IsTokenOf c.args.text.now) c.args.tokens.now 0 _ (let n = c.in-len5-up.len_at_least in
    omega arith) c.requires

pub size_of-requires : goal.size_of-requires
size_of-requires c = All-get_or (IsTokenOf c.args.text.now) c.args.tokens.now 2 _ (let n = c.in-len5-up.len_at_least in
    omega arith) c.requires

pub use_of-requires : goal.use_of-requires
use_of-requires c = c.text_of.ensures.ascii

pub returns-in_default : goal.returns-in_default
returns-in_default c =
    sym (few_tokens c.args.text.now c.args.names.now (option_map (λ w. w.now) c.args.width) c.args.tokens.now (let n =
    c.in_default.len_below in omega arith))

pub returns-then-is_use : goal.returns-then-is_use
returns-then-is_use c =
    let text = c.args.text.now in
    let ts = c.args.tokens.now in
    let names = c.args.names.now in
    let width = option_map (λ w. w.now) c.args.width in
    let name = c.text_of.result.now in
    let size = c.size_of.result in
    let long : 5 ≤ length ts = let n = c.in-len5-up.len_at_least in omega arith in
    let is = uses_here text names width ts _ name size long (sym c.is_use.ensures
    ∙ c.if-is_use.true) c.text_of.ensures.bytes c.size_of.ensures in
    IfOk-weaker c.use_of.result (λ form. form ≡ use_by (template_of names name) size) (λ form. form ≡ use_at text names width ts)
    (λ _ h. h ∙ is) c.use_of.ensures

pub returns-else-is_use : goal.returns-else-is_use
returns-else-is_use c =
    let long : 5 ≤ length c.args.tokens.now = let n = c.in-len5-up.len_at_least in omega arith in
    sym (no_use c.args.text.now c.args.names.now (option_map (λ w. w.now) c.args.width) c.args.tokens.now _ long (sym c.is_use.ensures
    ∙ c.if-is_use.false))
