use Rattle.std.proofs.Common.{◌∙◌, ◌++◌, ap, append_assoc}
use Rattle.std.specs.Prelude.{slice_range}
use Rattle.std.proofs.lemmas.Result.{on_ok_weaker}
use Rattle.lucid_size.specs.Bytes.{form_bytes}
use Rattle.lucid_size.proofs.Bytes.{step_bytes}
use Rattle.lucid_size.proofs.writing.write_step.Goals as goal

pub returns : goal.returns
returns c =
    let s = c.args.step in
    on_ok_weaker c.write_form.result (λ h.
    h ∙ ap (λ l. l ++ form_bytes c.args.underscores c.args.width s.form) c.in_ok-put.ensures
    ∙ append_assoc c.args.out.now.items (slice_range c.args.text.now s.from s.token.span.end) (form_bytes c.args.underscores c.args.width s.form)
    ∙ ap (λ l. c.args.out.now.items ++ l) (step_bytes c.args.text.now c.args.underscores c.args.width s c.requires))
    c.write_form.ensures
