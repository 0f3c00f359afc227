use Rattle.session.proofs.ReplyLemmas.{goes_more}
use Rattle.session.proofs.replies.Reply.end.Goals as goal

pub returns-clause-goes : goal.returns-clause-goes
returns-clause-goes g c = goes_more c.write.ensures c.flush.ensures.goes
