-- Each form of declaration, by what the rules make of it.
use Rattle.std.proofs.Common.{◌≡◌, ◌∙◌, IfOk, List, None, Some, ap, length, refl, subst, sym}
use Rattle.std.specs.Option.{option_copied}
use Rattle.lucid_base.specs.declared.array.ArrayDef.{ArrayDef}
use Rattle.lucid_parse_tree.specs.declared.tree.S.{S}
use Rattle.lucid_types_declarations.specs.Known.{made_of}
use Rattle.lucid_types_limits.specs.NewPart.{array_passes, fun_passes, handler_passes}
use Rattle.lucid_types.proofs.limit.passed.Goals as goal
use Rattle.lucid_types.proofs.NewPart.{array_judged, constant_judged, event_judged, fun_judged, group_judged, handler_judged, memop_judged, no_fun_judged}

pub returns-in-Const : goal.returns-in-Const
returns-in-Const c =
    constant_judged c.only_the_new_counts.ensures c.declarations_are_computed.ensures c.args.x.now (made_of c.args.known.now) c.args.limits.now
    c.in-Const.field-0 c.in-Const.field-1 c.in-Const.field-2 c.in-Const.is

pub returns-in-Global : goal.returns-in-Global
returns-in-Global c =
    array_judged c.only_the_new_counts.ensures c.declarations_are_computed.ensures c.args.x.now (made_of c.args.known.now) c.args.limits.now
    c.in-Global.short c.in-Global.width c.in-Global.name c.in-Global.size c.array.result c.in-Global.is
    (c.array.ensures ∙ ap array_passes (ap (λ (s : List ArrayDef). length s) c.as_slice.ensures.value))

pub returns-in-Memop : goal.returns-in-Memop
returns-in-Memop c =
    memop_judged c.only_the_new_counts.ensures c.declarations_are_computed.ensures c.args.x.now (made_of c.args.known.now) c.args.limits.now
    c.in-Memop.name c.in-Memop.first c.in-Memop.second c.in-Memop.body c.in-Memop.is

pub returns-in-Some : goal.returns-in-Some
returns-in-Some c =
    event_judged c.only_the_new_counts.ensures c.declarations_are_computed.ensures c.args.x.now (made_of c.args.known.now) c.args.limits.now
    c.in-Event.name c.in-Event.params (Some c.in-Some.event.now) c.event.result c.in-Event.is
    (sym c.newest.ensures ∙ ap option_copied c.in-Some.is) c.event.ensures

pub returns-in-None : goal.returns-in-None
returns-in-None c =
    event_judged c.only_the_new_counts.ensures c.declarations_are_computed.ensures c.args.x.now (made_of c.args.known.now) c.args.limits.now
    c.in-Event.name c.in-Event.params None None c.in-Event.is (sym c.newest.ensures ∙ ap option_copied c.in-None.is) refl

pub returns-in-Some-newest : goal.returns-in-Some-newest
returns-in-Some-newest c =
    handler_judged c.only_the_new_counts.ensures c.declarations_are_computed.ensures c.args.x.now (made_of c.args.known.now) c.args.limits.now
    c.in-Handle.name c.in-Handle.params c.in-Handle.body (Some c.in-Some-newest.handler.now) c.handler.result c.in-Handle.is
    (sym c.newest-in-Handle.ensures ∙ ap option_copied c.in-Some-newest.is)
    (c.handler.ensures ∙ ap (handler_passes c.args.limits.now.outs.items c.in-Some-newest.handler.now) c.as_slice-in-Some-newest.ensures)

pub returns-in-None-newest : goal.returns-in-None-newest
returns-in-None-newest c =
    handler_judged c.only_the_new_counts.ensures c.declarations_are_computed.ensures c.args.x.now (made_of c.args.known.now) c.args.limits.now
    c.in-Handle.name c.in-Handle.params c.in-Handle.body None None c.in-Handle.is
    (sym c.newest-in-Handle.ensures ∙ ap option_copied c.in-None-newest.is) refl

pub returns-in-Some-newest-2 : goal.returns-in-Some-newest-2
returns-in-Some-newest-2 c =
    fun_judged c.only_the_new_counts.ensures c.declarations_are_computed.ensures c.args.x.now (made_of c.args.known.now) c.args.limits.now
    c.in-Fun.answer c.in-Fun.name c.in-Fun.params c.in-Fun.body c.in-Some-newest-2.fun.now c.fun.result c.fun.new.self c.in-Fun.is
    (sym c.newest-in-Fun.ensures ∙ ap option_copied c.in-Some-newest-2.is)
    (subst (λ (body : List S). IfOk c.fun.result (λ w. w ≡ fun_passes c.args.limits.now.outs.items c.in-Some-newest-2.fun.now body))
    c.as_slice-in-Some-newest-2.ensures c.fun.ensures.passed)
    c.fun.ensures.known

pub returns-in-None-newest-2 : goal.returns-in-None-newest-2
returns-in-None-newest-2 c =
    no_fun_judged c.only_the_new_counts.ensures c.declarations_are_computed.ensures c.args.x.now (made_of c.args.known.now) c.args.limits.now
    c.in-Fun.answer c.in-Fun.name c.in-Fun.params c.in-Fun.body c.in-Fun.is
    (sym c.newest-in-Fun.ensures ∙ ap option_copied c.in-None-newest-2.is)

pub returns-in-Group : goal.returns-in-Group
returns-in-Group c =
    group_judged c.only_the_new_counts.ensures c.declarations_are_computed.ensures c.args.x.now (made_of c.args.known.now) c.args.limits.now
    c.in-Group.field-0 c.in-Group.field-1 c.in-Group.is
