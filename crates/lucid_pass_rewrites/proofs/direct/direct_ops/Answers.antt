use Rattle.std.proofs.Common.{◌≡◌, ◌∙◌, ap, ap₂, subst, length, map, List, Bool, Option}
use Rattle.std.specs.List.{filter}
use Rattle.lucid_code.specs.declared.op.Op.{Op}
use Rattle.lucid_pass_spec.specs.declared.direct.Test.{Test}
use Rattle.lucid_pass_spec.specs.Direct.{direct_op}
use Rattle.lucid_pass_rewrites.specs.Comparisons.{direct_by, ReadMarks, is_still_needed}
use Rattle.lucid_pass_rewrites.proofs.ComparisonsLemmas.{direct_is}
use Rattle.lucid_pass_rewrites.proofs.direct.direct_ops.Goals as goal

pub returns : goal.returns
returns c =
    let now : c.in_ok-now.now.items ≡ map (direct_op (direct_by c.in_ok-table.table.items)) c.args.ops.now
    = c.in_ok-now.ensures ∙ ap (λ (t : List (Option Test)). map (direct_op (direct_by t)) c.args.ops.now) c.as_slice-2.ensures.value in
    let read : ReadMarks (length c.args.widths.now) c.in_ok-read.read.items c.in_ok-now.now.items
    = subst (λ (l : List Op). ReadMarks (length c.args.widths.now) c.in_ok-read.read.items l) c.as_slice-3.ensures.value c.in_ok-read.ensures in
    let kept : c.needed-kept.result.items ≡ filter (is_still_needed c.in_ok-table.table.items c.in_ok-read.read.items) c.in_ok-now.now.items
    = c.needed-kept.ensures ∙ ap₂ (λ (t : List (Option Test)) (r : List Bool). filter (is_still_needed t r) c.in_ok-now.now.items) c.as_slice-4.ensures.value c.as_slice-5.ensures.value in
    direct_is c.args.widths.now c.args.ops.now c.in_ok-table.table.items c.in_ok-table.ensures c.in_ok-now.now.items c.in_ok-read.read.items c.needed-kept.result.items c.requires now read kept
