use Rattle.base_rows.specs.KeyLines.{key_in}
use Rattle.base_rows.proofs.WindowLines.{rest_is_window, window_first, window_last}
use Rattle.base_rows.proofs.base_rows.reading.keys.next_in_window.Goals as goal

pub last_row_in-requires : goal.last_row_in-requires
last_row_in-requires g c = rw (c.rest_of-rest.ensures) (rest_is_window g.met.C.Compare.strict c.args.window.now c.args.back c.args.rows.now c.args.from c.requires.window c.requires.from)

pub first_row_in-requires : goal.first_row_in-requires
first_row_in-requires g c = rw (c.rest_of-rest.ensures) (rest_is_window g.met.C.Compare.strict c.args.window.now c.args.back c.args.rows.now c.args.from c.requires.window c.requires.from)

pub returns-then-back-clause-next : goal.returns-then-back-clause-next
returns-then-back-clause-next g c =
    let rows = c.args.rows.now in
    let w = c.args.window.now in
    rw (c.if-back.true) (window_last g.met.C.Compare.strict w rows c.args.from (key_in c.last_row_in.result) c.len-len.ensures.order c.len-len.ensures.distinct (rw (c.if-back.true) at c.requires.from) (rw (c.rest_of-rest.ensures, c.if-back.true) at c.last_row_in.ensures.key))

pub returns-else-back-clause-next : goal.returns-else-back-clause-next
returns-else-back-clause-next g c =
    let rows = c.args.rows.now in
    let w = c.args.window.now in
    rw (c.if-back.false) (window_first g.met.C.Compare.strict w rows c.args.from (key_in c.first_row_in.result) c.len-len.ensures.order c.len-len.ensures.distinct (rw (c.if-back.false) at c.requires.from) (rw (c.rest_of-rest.ensures, c.if-back.false) at c.first_row_in.ensures.key))
