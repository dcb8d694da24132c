use Rattle.std.proofs.Common.{◌∙◌, List, ap, ap₂}
use Rattle.std.proofs.lemmas.Result.{on_ok_weaker}
use Rattle.lucid_code.specs.declared.op.Literal.{Literal}
use Rattle.lucid_normal_spec.specs.declared.env.Env.{Env}
use Rattle.lucid_normal_spec.specs.Translate.{body_code}
use Rattle.lucid_normal_steps.specs.declared.work.Work.{Work}
use Rattle.lucid_normal_steps.specs.Added.{added}
use Rattle.lucid_normal_steps.specs.Notes.{before}
use Rattle.lucid_normal.specs.Bodies.{walk}
use Rattle.lucid_normal.proofs.BodiesLemmas.{env_after, ops_after, was_after}
use Rattle.lucid_normal.proofs.bodies.block.Goals as goal

pub returns-clause-env : goal.returns-clause-env
returns-clause-env c =
    let ss = c.args.stmts.now in
    let m = c.in_ok-machine.machine in
    on_ok_weaker c.run-walked.result
    (λ h. c.end_walk.ensures.env ∙ env_after (walk m) (walk c.run-walked.new.machine) ss h
    ∙ ap (λ (e : Env). (body_code ss e).env) c.in_ok-machine.ensures.env)
    c.run-walked.ensures

pub returns-clause-ops : goal.returns-clause-ops
returns-clause-ops c =
    let ss = c.args.stmts.now in
    let m = c.in_ok-machine.machine in
    let b = c.in_ok-machine.ensures in
    on_ok_weaker c.run-walked.result
    (λ h. ap (λ (w : Work). w.ops.items) c.end_walk.ensures.work ∙ ops_after (walk m) (walk c.run-walked.new.machine) ss h
    ∙ ap₂ (λ (g : List Literal) (e : Env). added g m.work.ops.items (body_code ss e).ops) b.guard b.env
    ∙ ap (λ (w : Work). added c.args.context.guard.now w.ops.items (body_code ss c.args.env.now).ops) b.work)
    c.run-walked.ensures

pub returns-clause-back : goal.returns-clause-back
returns-clause-back c =
    let m = c.in_ok-machine.machine in
    let b = c.in_ok-machine.ensures in
    on_ok_weaker c.run-walked.result
    (λ h. ap₂ (λ (w : Work) (e : Env). before w.notes.items e.held) c.end_walk.ensures.work c.end_walk.ensures.env
    ∙ was_after (walk m) (walk c.run-walked.new.machine) c.args.stmts.now h
    ∙ ap₂ (λ (w : Work) (e : Env). before w.notes.items e.held) b.work b.env)
    c.run-walked.ensures
