use Rattle.std.proofs.Common.{rules, ◌≡◌, [], ◌∷◌, ◌++◌, ◌+◌, ◌∙◌, drop, sym, ap, arith, refl}
use Rattle.std.proofs.lemmas.List.{append-nil, append_assoc, drop_all}
use Rattle.lucid_normal_spec.specs.Program.{held_from}
use Rattle.lucid_normal.proofs.Fields.{held_next, held_end}
use Rattle.lucid_normal.proofs.handlers.parameters.Goals as goal

pub loop-i-preserved : goal.loop-i-preserved
loop-i-preserved c =
    let l = c.loop-i in
    let params = c.args.params.now in
    let locals = c.args.locals.now in
    let rest = held_from c.in_ok-k.k (drop (l.i + 1) params) (drop (l.i + 1) locals) in
    let next = held_next l.k c.in_ok-k.k l.i params locals c.index-locals-i.result _ c.holder.result c.in_ok-k.ensures c.holder.ensures refl (omega arith) c.index-locals-i.is in
    let pushed : c.push.new.self ≡ l.held ++ c.holder.result ∷ [] = search rules in
    ap (λ xs. xs ++ rest) pushed ∙ append_assoc l.held _ rest ∙ ap (λ xs. l.held ++ xs) (sym next) ∙ l.invariant

pub returns : goal.returns
returns c =
    let l = c.loop-i in
    let none : drop l.i c.args.locals.now ≡ [] = drop_all l.i c.args.locals.now (omega arith) in
    sym (append-nil l.held) ∙ ap (λ xs. l.held ++ xs) (sym (held_end l.k (drop l.i c.args.params.now)) ∙ ap (held_from l.k (drop l.i c.args.params.now)) (sym none)) ∙ l.invariant
