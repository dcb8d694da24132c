use Rattle.std.proofs.lemmas.Result.{IfErr-at_err, IfOk-weaker}
use Rattle.lucid_size.specs.Error.{Refuses}
use Rattle.lucid_size.proofs.Converse.{Sound, if_big, if_broken, if_text, if_twice, ok_reads}
use Rattle.lucid_size.proofs.expansion.expand.Goals as goal

pub returns : goal.returns
returns c =
    let text = c.args.text.now in
    let ts = c.args.tokens.now in
    let r = c.written_out.result in
    let s : Sound text ts (λ o. o.items) r = record { ok = c.written_out.ensures.ok; err = c.written_out.ensures.err } in
    record {
      ok = IfOk-weaker r _ _ (λ _ h. h.0) s.ok;
      small = IfOk-weaker r _ _ (λ _ h. h.1) s.ok;
      broken = λ _ is. IfErr-at_err (Refuses text ts) is s.err;
      twice = λ _ is. IfErr-at_err (Refuses text ts) is s.err;
      too_big = λ is. IfErr-at_err (Refuses text ts) is s.err;
      if_text = if_text text ts (λ o. o.items) r s;
      if_broken = if_broken text ts (λ o. o.items) r s;
      if_twice = if_twice text ts (λ o. o.items) r s;
      if_big = if_big text ts (λ o. o.items) r s;
      read = ok_reads text ts (λ o. o.items) r c.requires s;
    }
