use Rattle.base_rows.proofs.KeyLemmas.{follows_one, follows_none, follows_no_more}
use Rattle.base_rows.proofs.base_rows.reading.keys.only_row.Goals as goal

pub returns-in-Some-find-clause-next : goal.returns-in-Some-find-clause-next
returns-in-Some-find-clause-next g c = λ back.
    follows_one (g.K.FoundRows.rows c.args.rows.now) c.args.k.now back c.args.from c.find.result c.in-Some-find.v c.count-count.ensures.distinct c.in-None.is c.find.ensures.value c.in-Some-find.is

pub returns-in-None-find-clause-next : goal.returns-in-None-find-clause-next
returns-in-None-find-clause-next g c = λ back.
    follows_none (g.K.FoundRows.rows c.args.rows.now) c.args.k.now back c.args.from c.find.result c.count-count.ensures.distinct c.in-None.is c.find.ensures.value c.in-None-find.is

pub returns-in-Some-clause-next : goal.returns-in-Some-clause-next
returns-in-Some-clause-next g c = λ back. follows_no_more (g.K.FoundRows.rows c.args.rows.now) c.args.k.now back c.args.from c.in-Some.field-0 c.count-count.ensures.distinct c.in-Some.is
