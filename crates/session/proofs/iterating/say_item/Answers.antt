use Rattle.session.proofs.ReplyLemmas.{goes_more, said_of}
use Rattle.session.proofs.iterating.say_item.Goals as goal

pub returns : goal.returns
returns g c = said_of (goes_more (rw c.begin.ensures at c.write_item.ensures) c.end.ensures.goes) c.end.ensures.flushed c.end.ensures.result
