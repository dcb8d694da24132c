use Rattle.std.proofs.Common.{◌≡◌, Result, Err, sym, subst, rules}
use Rattle.lucid_io.proofs.Leaves.{Leaves-whole}
use Rattle.lucid_net.specs.Writes.{Writes}
use Rattle.lucid_net.specs.declared.error.NetError.{NetError}
use Rattle.lucid_net.specs.declared.error.NetError.TheVariants as net
use Rattle.lucid_net_spec.specs.Log.{log, whole}
use Rattle.lucid_top.proofs.commands.run_whole.put.Goals as goal

pub returns-in_err-net : goal.returns-in_err-net
returns-in_err-net g c =
    let text = log (whole c.args.network.now.target.core c.args.network.now.scene c.args.network.now.target.limits) in
    let is : c.from_residual.result ≡ Err net.Memory = search rules in
    subst (λ (r : Result (Unit {0}) NetError). Writes g.W.Sink.written g.W.Sink.faults c.args.out.now c.args.out.now text r) (sym is) (text, Leaves-whole)
