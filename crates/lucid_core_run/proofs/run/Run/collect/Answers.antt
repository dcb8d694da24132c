use Rattle.std.proofs.Common.{◌≡◌, ◌≤◌, ◌<◌, All, length, map, sym, ap, subst, ◌∙◌, get_or, rules}
use Rattle.std.proofs.lemmas.List.{get_or-map, length-map}
use Rattle.std.proofs.lemmas.List.Elements.{All-get_or}
use Rattle.lucid_base.specs.declared.event.Out.{Out}
use Rattle.lucid_core.specs.Fits.{carried}
use Rattle.lucid_core_run.specs.Running.{out_of}
use Rattle.lucid_core_run.proofs.run.Run.collect.Goals as goal

pub out-requires : goal.out-requires
out-requires c =
    let drafts = c.as_slice-draft-items.result.now in
    let draft = c.draft-item.result in
    let i = c.loop-draft.draft-index in
    let within : i < length drafts = search rules in
    let small : All (λ (out : Out). length (carried out) ≤ 8) (map out_of drafts) = search rules in
    let same : get_or (map out_of drafts) i (out_of draft) ≡ out_of draft = get_or-map out_of drafts i draft (out_of draft) within ∙ ap out_of (sym c.draft-item.is) in
    let also : i < length (map out_of drafts) = rw (length-map drafts out_of) within in
    subst (λ (out : Out). length (carried out) ≤ 8) same (All-get_or (λ (out : Out). length (carried out) ≤ 8) (map out_of drafts) i (out_of draft) also small)
