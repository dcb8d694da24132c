use Rattle.std.proofs.Common.{inl, inr, Ok, Err, refl}
use Rattle.lucid_top_words.proofs.Seen.{nothing-kept}
use Rattle.lucid_top.proofs.top.call.Goals as goal

pub returns-in-Ok-clause-ended : goal.returns-in-Ok-clause-ended
returns-in-Ok-clause-ended g c = record { end = Ok tt; status = refl; done = c.in-Ok.ensures.done; said = nothing-kept }

pub returns-in-Ok-clause-unread : goal.returns-in-Ok-clause-unread
returns-in-Ok-clause-unread g c = c.work.ensures.unread

pub returns-in-Ok-clause-tries : goal.returns-in-Ok-clause-tries
returns-in-Ok-clause-tries g c = c.work.ensures.tries

pub returns-in-Err-clause-ended : goal.returns-in-Err-clause-ended
returns-in-Err-clause-ended g c = record {
  end = Err c.in-Err.refusal;
  status = c.refuse.ensures.status;
  done = c.in-Err.ensures.done;
  said = elim c.refuse.ensures.said [ inl p ↦ inl (record { bytes = p.bytes; quiet = p.quiet }) | inr p ↦ inr (record { bytes = p.bytes; cause = p.cause; later = p.later }) ];
}

pub returns-in-Err-clause-unread : goal.returns-in-Err-clause-unread
returns-in-Err-clause-unread g c = c.work.ensures.unread

pub returns-in-Err-clause-tries : goal.returns-in-Err-clause-tries
returns-in-Err-clause-tries g c = c.work.ensures.tries

pub returns-in-Ok-clause-others : goal.returns-in-Ok-clause-others
returns-in-Ok-clause-others g c = c.work.ensures.others

pub returns-in-Err-clause-others : goal.returns-in-Err-clause-others
returns-in-Err-clause-others g c = c.work.ensures.others

pub returns-in-Ok-clause-reads : goal.returns-in-Ok-clause-reads
returns-in-Ok-clause-reads g c = c.work.ensures.reads

pub returns-in-Err-clause-reads : goal.returns-in-Err-clause-reads
returns-in-Err-clause-reads g c = c.work.ensures.reads
