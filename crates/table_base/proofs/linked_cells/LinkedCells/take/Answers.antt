use Rattle.std.proofs.Common.{not, ◌∙◌, sym, ap, refl, arith}
use Rattle.std.specs.HashMap as hash
use Rattle.std.proofs.lemmas.Map.{none_passes_from_lookup}
use Rattle.elem.specs.Elements.{same}
use Rattle.linked_base.specs.declared.group.Group.{Group}
use Rattle.table_base.specs.declared.sides.Side.TheVariants.{Row}
use Rattle.table_base.specs.Spots.{same_spot}
use Rattle.table_base.specs.Cells.{Cell, Table, row, spot_of, is_spot}
use Rattle.table_base.proofs.CellLists.{kept_without}
use Rattle.table_base.proofs.HeldCells.{held, is_table, was_grouped, shows, refound, absent_held, node_held, value_held}
use Rattle.table_base.proofs.GroupedCells.{grouped_filter}
use Rattle.table_base.proofs.HeldSteps.{row_group, column_group, unlinked_held}
use Rattle.table_base.proofs.linked_cells.LinkedCells.take.Goals as goal

pub returns-in_err-place-clause-value : goal.returns-in_err-place-clause-value
returns-in_err-place-clause-value c = c.from_residual.ensures ∙ sym (absent_held (held c.self.invariant.indexed (ap (λ (t : Table). t.cells) c.self.view_is)) Row c.args.r.now c.args.c.now (sym c.in_err-place.ensures))

pub returns-in_err-place-clause-cells : goal.returns-in_err-place-clause-cells
returns-in_err-place-clause-cells c =
    let cells = c.args.self.now.cells in
    let absent = absent_held (held c.self.invariant.indexed (ap (λ (t : Table). t.cells) c.self.view_is)) Row c.args.r.now c.args.c.now (sym c.in_err-place.ensures) in
    sym (kept_without c.args.r.now c.args.c.now cells (none_passes_from_lookup (same c.args.c.now) (row c.args.r.now cells) absent))

pub index-requires : goal.index-requires
index-requires c = node_held (held c.self.invariant.indexed (ap (λ (t : Table). t.cells) c.self.view_is)) Row c.args.r.now c.args.c.now c.in_ok-place.place (sym c.in_ok-place.ensures)

pub unlink_cell-requires-clause-row_counted : goal.unlink_cell-requires-clause-row_counted
unlink_cell-requires-clause-row_counted c =
    let h = held c.self.invariant.indexed (ap (λ (t : Table). t.cells) c.self.view_is) in
    let count = ap (λ (g : Group). g.count) c.group_of-in_row.ensures in
    let some = (row_group h c.args.r.now c.args.c.now c.in_ok-place.place (sym c.in_ok-place.ensures) c.index.result.now c.index.ensures).1 in
    omega arith

pub unlink_cell-requires-clause-column_counted : goal.unlink_cell-requires-clause-column_counted
unlink_cell-requires-clause-column_counted c =
    let h = held c.self.invariant.indexed (ap (λ (t : Table). t.cells) c.self.view_is) in
    let count = ap (λ (g : Group). g.count) c.group_of-in_column.ensures in
    let some = (column_group h c.args.r.now c.args.c.now c.in_ok-place.place (sym c.in_ok-place.ensures) c.index.result.now c.index.ensures).1 in
    omega arith

pub keep_group-requires : goal.keep_group-requires
keep_group-requires c = (row_group (held c.self.invariant.indexed (ap (λ (t : Table). t.cells) c.self.view_is)) c.args.r.now c.args.c.now c.in_ok-place.place (sym c.in_ok-place.ensures) c.index.result.now c.index.ensures).0

pub keep_group-requires-2 : goal.keep_group-requires-2
keep_group-requires-2 c = (column_group (held c.self.invariant.indexed (ap (λ (t : Table). t.cells) c.self.view_is)) c.args.r.now c.args.c.now c.in_ok-place.place (sym c.in_ok-place.ensures) c.index.result.now c.index.ensures).0

pub invariant_of-self : goal.invariant_of-self
invariant_of-self c =
    let h = held c.self.invariant.indexed (ap (λ (t : Table). t.cells) c.self.view_is) in
    let after = unlinked_held h c.args.r.now c.args.c.now c.in_ok-place.place (sym c.in_ok-place.ensures) c.index.result.now c.index.ensures c.unlink_cell.new.nodes (hash.get same_spot c.take_place.new.index) c.unlink_cell.ensures.others c.take_place.ensures c.unlink_cell.new.all c.group_of-in_row.result c.unlink_cell.new.in_row c.group_of-in_column.result c.unlink_cell.new.in_column c.group_of-in_row.ensures c.group_of-in_column.ensures c.unlink_cell.ensures.cells in
    is_table c.self.inside.loose (refound c.keep_group.ensures c.keep_group-2.ensures (λ x. refl) after)
    (λ e. grouped_filter (λ (x : Cell). not (is_spot c.args.r.now c.args.c.now (spot_of x))) c.args.self.now.cells (was_grouped c.self.inside.loose (ap (λ (t : Table). t.cells) c.self.view_is) c.self.invariant.grouped e))

pub returns-clause-value : goal.returns-clause-value
returns-clause-value c = sym (value_held (held c.self.invariant.indexed (ap (λ (t : Table). t.cells) c.self.view_is)) Row c.args.r.now c.args.c.now c.in_ok-place.place (sym c.in_ok-place.ensures) c.index.result.now c.index.ensures)

pub returns-clause-cells : goal.returns-clause-cells
returns-clause-cells c =
    let h = held c.self.invariant.indexed (ap (λ (t : Table). t.cells) c.self.view_is) in
    shows (unlinked_held h c.args.r.now c.args.c.now c.in_ok-place.place (sym c.in_ok-place.ensures) c.index.result.now c.index.ensures c.unlink_cell.new.nodes (hash.get same_spot c.take_place.new.index) c.unlink_cell.ensures.others c.take_place.ensures c.unlink_cell.new.all c.group_of-in_row.result c.unlink_cell.new.in_row c.group_of-in_column.result c.unlink_cell.new.in_column c.group_of-in_row.ensures c.group_of-in_column.ensures c.unlink_cell.ensures.cells)
