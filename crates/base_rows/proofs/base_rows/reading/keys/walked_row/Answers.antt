use Rattle.base_rows.specs.KeyLines.{key_in}
use Rattle.base_rows.proofs.KeyLemmas.{key_present, follows_end, follows_next}
use Rattle.base_rows.proofs.base_rows.reading.keys.walked_row.Goals as goal

pub next_row-requires : goal.next_row-requires
next_row-requires g c = key_present (g.K.FoundRows.rows c.args.rows.now) c.args.back c.args.from c.in-Some.k c.requires c.in-Some.is

pub returns-in-None-clause-next : goal.returns-in-None-clause-next
returns-in-None-clause-next g c = follows_end (g.K.FoundRows.rows c.args.rows.now) c.args.back c.args.from (key_in c.end_row.result) c.in-None.is c.end_row.ensures.key

pub returns-in-Some-clause-next : goal.returns-in-Some-clause-next
returns-in-Some-clause-next g c = follows_next (g.K.FoundRows.rows c.args.rows.now) c.args.back c.args.from (key_in c.next_row.result) c.in-Some.k c.count-count.ensures.distinct c.in-Some.is c.next_row.ensures.key
