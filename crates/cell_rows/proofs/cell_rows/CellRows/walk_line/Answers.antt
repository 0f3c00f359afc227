use Rattle.cell_rows.specs.CellRows.{cells_of}
use Rattle.cell_rows.specs.Threads.{along, key_in}
use Rattle.cell_rows.proofs.Apart.{line_distinct}
use Rattle.cell_rows.proofs.KeyLemmas.{key_present, follows_end, follows_next}
use Rattle.cell_rows.proofs.cell_rows.CellRows.walk_line.Goals as goal

pub next_of_line-requires : goal.next_of_line-requires
next_of_line-requires g c = key_present (along c.args.side c.args.k.now (cells_of c.args.self.now)) c.args.back c.args.from c.in-Some.x c.requires c.in-Some.is

pub returns-in-None-clause-next : goal.returns-in-None-clause-next
returns-in-None-clause-next g c = follows_end (along c.args.side c.args.k.now (cells_of c.args.self.now)) c.args.back c.args.from (key_in c.end_of_line.result) c.in-None.is c.end_of_line.ensures.key

pub returns-in-Some-clause-next : goal.returns-in-Some-clause-next
returns-in-Some-clause-next g c =
    follows_next (along c.args.side c.args.k.now (cells_of c.args.self.now)) c.args.back c.args.from (key_in c.next_of_line.result) c.in-Some.x
    (line_distinct c.args.side c.args.k.now (cells_of c.args.self.now) c.len-len.ensures.spots) c.in-Some.is c.next_of_line.ensures.key
