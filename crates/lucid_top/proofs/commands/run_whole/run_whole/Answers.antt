use Rattle.std.proofs.Common.{Ok, Err, rules}
use Rattle.lucid_net_spec.specs.Log.{log, whole}
use Rattle.lucid_top_words.specs.Files.{texts_in}
use Rattle.lucid_top_words.specs.Outcome.{IsTheAnswer}
use Rattle.lucid_top_words.specs.Words.{word_at}
use Rattle.lucid_top.specs.RunWhole.{RunWholeAnswers}
use Rattle.lucid_top_pipes.proofs.CausesLemmas.{stopped-anywhere}
use Rattle.lucid_top.proofs.commands.run_whole.run_whole.Goals as goal

pub returns-in-Err : goal.returns-in-Err
returns-in-Err g c =
    let text = word_at (texts_in c.args.texts.now) in
    let network = c.in_ok-network.network in
    let answer : IsTheAnswer (RunWholeAnswers (text 0) (text 1) (text 2)) (Ok (log (whole network.target.core network.scene network.target.limits))) = search rules in
    stopped-anywhere (RunWholeAnswers (text 0) (text 1) (text 2)) g.W.Sink.written g.W.Sink.faults c.args.out.now c.put-ended.new.out (log (whole network.target.core network.scene network.target.limits))
    c.in-Err.error (Err c.of_net.result) answer c.in-Err.ensures (search rules)
