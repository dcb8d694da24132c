use Rattle.std.proofs.Common.{◌≡◌, [], sym, refl, subst, append-nil, rules, arith}
use Rattle.std.proofs.lemmas.Result.{on_ok_weaker, on_err_weaker}
use Rattle.std.proofs.lemmas.Grind.{common_steps}
use Rattle.lucid_io.specs.Puts.{Leaves}
use Rattle.lucid_io.proofs.Leaves.{Leaves-whole, Leaves-after, PutsPart-last}
use Rattle.lucid_io.proofs.room.hold_behind.Goals as goal

pub returns-clause-all : goal.returns-clause-all
returns-clause-all g c =
    let empty : c.admit.new.self ≡ [] = search rules in
    on_ok_weaker c.put_all.result
    (λ puts. subst (Leaves g.S.Sink.written g.S.Sink.faults c.args.sink.now c.put_all.new.sink _) (sym empty)
    (Leaves-after (Leaves-after Leaves-whole c.in_ok-release.ensures.all refl) puts (sym (append-nil c.args.piece.now))))
    c.put_all.ensures.all

pub returns-clause-part : goal.returns-clause-part
returns-clause-part g c =
    on_err_weaker c.put_all.result
    (λ cut. PutsPart-last (Leaves-after Leaves-whole c.in_ok-release.ensures.all refl) cut refl)
    c.put_all.ensures.part

pub returns-in_err-release-clause-part : goal.returns-in_err-release-clause-part
returns-in_err-release-clause-part g c = grind (arith, common_steps)
