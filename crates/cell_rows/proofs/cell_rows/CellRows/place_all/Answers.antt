use Rattle.std.proofs.Common.{◌+◌, ◌<◌, inl, length, refl, ap, ◌∙◌, arith}
use Rattle.vocabulary.specs.declared.edits.Spot.TheVariants.{Own}
use Rattle.vocabulary.specs.Items.{key_of, second_of, value_of}
use Rattle.machine.specs.Edits.{coming, placed_all}
use Rattle.cell_rows.specs.declared.journal.Before.{Before}
use Rattle.cell_rows.specs.CellRows.{cells_of, items, kind_of, rows_of}
use Rattle.cell_rows.proofs.PutLemmas.{grows, journal_back, longer_so_far, so_far}
use Rattle.cell_rows.proofs.cell_rows.CellRows.place_all.Goals as goal

pub overflow_sub-len : goal.overflow_sub-len
overflow_sub-len g c =
    let start = c.args.self.now in
    let now = c.loop-row.self in
    let new = c.put_row.new.self in
    let x = c.row-item.result in
    let far = so_far (kind_of start) (kind_of now) (rows_of start) (cells_of now) (cells_of new) c.args.rows.now c.loop-row.row-index x c.in-Ok-put_row.value c.requires.fits c.loop-row.invariant.kind c.loop-row.invariant.put c.loop-row-test.true c.row-item.is c.in-Ok-put_row.ensures.ok in
    omega (arith, c.len-size.ensures.len, c.len.ensures.len, longer_so_far (kind_of start) (rows_of start) (rows_of new) c.args.rows.now (c.loop-row.row-index + 1) far)

pub returns-then-len-size-clause-err : goal.returns-then-len-size-clause-err
returns-then-len-size-clause-err g c =
    let start = c.args.self.now in
    let now = c.loop-row.self in
    let x = c.row-item.result in
    let entry : Before = record { row = c.key_of.result; column = c.second_of.result; value = c.in-Ok-put_row.value } in
    ap items
    (c.undo_all-then-len-size.ensures.cells
    ∙ journal_back (kind_of now) (cells_of start) (cells_of now) (cells_of c.put_row.new.self) (key_of x) (second_of x) (value_of x) entry c.loop-row.journal.items c.push_reserved.new.self.items c.in-Ok-put_row.ensures.ok c.key_of.ensures c.second_of.ensures c.loop-row.invariant.back c.push_reserved.ensures.items)

pub returns-then-len-size-clause-cause : goal.returns-then-len-size-clause-cause
returns-then-len-size-clause-cause g c =
    let start = c.args.self.now in
    let now = c.loop-row.self in
    let new = c.put_row.new.self in
    let x = c.row-item.result in
    let i = c.loop-row.row-index in
    let far = so_far (kind_of start) (kind_of now) (rows_of start) (cells_of now) (cells_of new) c.args.rows.now i x c.in-Ok-put_row.value c.requires.fits c.loop-row.invariant.kind c.loop-row.invariant.put c.loop-row-test.true c.row-item.is c.in-Ok-put_row.ensures.ok in
    let more = grows (kind_of start) (rows_of start) (rows_of new) c.args.rows.now (i + 1) far in
    inl (refl, (let n : length (rows_of start) + c.args.room < length (placed_all (kind_of start) (rows_of start) (coming Own c.args.rows.now)) = omega (arith, c.len-size.ensures.len, c.len.ensures.len, more, c.if-len-size.true) in n))

pub loop-row-preserved : goal.loop-row-preserved
loop-row-preserved g c =
    let start = c.args.self.now in
    let now = c.loop-row.self in
    let new = c.put_row.new.self in
    let x = c.row-item.result in
    let entry : Before = record { row = c.key_of.result; column = c.second_of.result; value = c.in-Ok-put_row.value } in
    record {
      kind = c.put_row.ensures.kind ∙ c.loop-row.invariant.kind;
      put = so_far (kind_of start) (kind_of now) (rows_of start) (cells_of now) (cells_of new) c.args.rows.now c.loop-row.row-index x c.in-Ok-put_row.value c.requires.fits c.loop-row.invariant.kind c.loop-row.invariant.put c.loop-row-test.true c.row-item.is c.in-Ok-put_row.ensures.ok;
      counted = omega (arith, c.push_reserved.ensures.len);
      reserved = omega (arith, c.push_reserved.ensures.capacity);
      back = journal_back (kind_of now) (cells_of start) (cells_of now) (cells_of new) (key_of x) (second_of x) (value_of x) entry c.loop-row.journal.items c.push_reserved.new.self.items c.in-Ok-put_row.ensures.ok c.key_of.ensures c.second_of.ensures c.loop-row.invariant.back c.push_reserved.ensures.items;
      few = omega (arith, c.len-size.ensures.len, c.len.ensures.len, c.if-len-size.false);
    }
