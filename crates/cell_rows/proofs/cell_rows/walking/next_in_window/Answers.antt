use Rattle.elem.specs.OrderLaws.{natural_before_strict}
use Rattle.vocabulary.specs.declared.items.Side.TheVariants.{First}
use Rattle.cell_rows.specs.Threads.{along, key_in}
use Rattle.cell_rows.proofs.Apart.{apart_sorted, line_distinct}
use Rattle.cell_rows.proofs.Walks.{row_in_order}
use Rattle.cell_rows.proofs.WindowLines.{rest_is_window, window_first, window_last}
use Rattle.cell_rows.proofs.cell_rows.walking.next_in_window.Goals as goal

pub last_entry_in_row_in-requires : goal.last_entry_in_row_in-requires
last_entry_in_row_in-requires g c = rw (c.rest_of-rest.ensures) (rest_is_window natural_before_strict c.args.window.now c.args.back (along First c.args.r.now c.args.table.now) c.args.from c.requires.window c.requires.from)

pub first_entry_in_row_in-requires : goal.first_entry_in_row_in-requires
first_entry_in_row_in-requires g c = rw (c.rest_of-rest.ensures) (rest_is_window natural_before_strict c.args.window.now c.args.back (along First c.args.r.now c.args.table.now) c.args.from c.requires.window c.requires.from)

pub returns-then-back-clause-next : goal.returns-then-back-clause-next
returns-then-back-clause-next g c =
    let cells = c.args.table.now in
    let rows = along First c.args.r.now cells in
    rw (c.if-back.true) (window_last natural_before_strict c.args.window.now rows c.args.from (key_in c.last_entry_in_row_in.result) (row_in_order c.args.r.now cells c.len-len.ensures.order) (line_distinct First c.args.r.now cells (apart_sorted cells c.len-len.ensures.order))
    (rw (c.if-back.true) at c.requires.from) (rw (c.rest_of-rest.ensures, c.if-back.true) at c.last_entry_in_row_in.ensures.column))

pub returns-else-back-clause-next : goal.returns-else-back-clause-next
returns-else-back-clause-next g c =
    let cells = c.args.table.now in
    let rows = along First c.args.r.now cells in
    rw (c.if-back.false) (window_first natural_before_strict c.args.window.now rows c.args.from (key_in c.first_entry_in_row_in.result) (row_in_order c.args.r.now cells c.len-len.ensures.order) (line_distinct First c.args.r.now cells (apart_sorted cells c.len-len.ensures.order))
    (rw (c.if-back.false) at c.requires.from) (rw (c.rest_of-rest.ensures, c.if-back.false) at c.first_entry_in_row_in.ensures.column))
