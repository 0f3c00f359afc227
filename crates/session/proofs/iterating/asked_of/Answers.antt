use Rattle.session.proofs.OneWord.{one_part}
use Rattle.session.proofs.TurnLemmas.{no_word}
use Rattle.session.proofs.iterating.asked_of.Goals as goal

pub returns-else-part-eq0 : goal.returns-else-part-eq0
returns-else-part-eq0 c line = no_word line c.args.parts.now c.part-item.result (one_part line c.args.parts.now c.part-item.result c.in-len1.len_at_least c.in-len1.len_below c.part-item.is) c.if-part-eq0.false
