use Rattle.std.proofs.Common.{◌∙◌, ap, refl, arith}
use Rattle.std.specs.HashMap as hash
use Rattle.linked_base.specs.declared.group.Group.{Group}
use Rattle.table_base.specs.declared.sides.Side.TheVariants.{Row, Column}
use Rattle.table_base.specs.Spots.{same_spot}
use Rattle.table_base.specs.Cells.{Table, with_new}
use Rattle.table_base.proofs.HeldCells.{held, is_table, was_grouped, shows, shown, refound, roomier_held, count_fits}
use Rattle.table_base.proofs.GroupedCells.{grouped_new}
use Rattle.table_base.proofs.HeldSteps.{spot_held, next_held, column_spot, in_column_held, linked_held}
use Rattle.table_base.proofs.linked_cells.LinkedCells.add.Goals as goal

pub invariant_of-self : goal.invariant_of-self
invariant_of-self c =
    let room = c.make_room-room.ensures in
    is_table c.self.inside.loose (refound room.rows room.columns room.index (roomier_held c.self.inside.nodes c.make_room-room.new.nodes room.nodes (held c.self.invariant.indexed (ap (λ (t : Table). t.cells) c.self.view_is)))) (was_grouped c.self.inside.loose (ap (λ (t : Table). t.cells) c.self.view_is) c.self.invariant.grouped)

pub returns-then-is_err-clause-err : goal.returns-then-is_err-clause-err
returns-then-is_err-clause-err c =
    let room = c.make_room-room.ensures in
    shown c.args.self.now c.self.inside.loose (refound room.rows room.columns room.index (roomier_held c.self.inside.nodes c.make_room-room.new.nodes room.nodes (held c.self.invariant.indexed (ap (λ (t : Table). t.cells) c.self.view_is)))) (ap (λ (t : Table). t.loose) c.self.view_is)

pub link_cell-place-requires-clause-next : goal.link_cell-place-requires-clause-next
link_cell-place-requires-clause-next c =
    let room = c.make_room-room.ensures in
    let h = refound room.rows room.columns room.index (roomier_held c.self.inside.nodes c.make_room-room.new.nodes room.nodes (held c.self.invariant.indexed (ap (λ (t : Table). t.cells) c.self.view_is))) in
    let d = spot_held h c.self.inside.loose c.args.r.now c.group_of-in_row.result c.place_behind-next.result c.place_behind-next.ensures c.group_of-in_row.ensures in
    next_held h c.self.inside.loose c.args.r.now c.place_behind-next.result d

pub link_cell-place-requires-clause-next_in_column : goal.link_cell-place-requires-clause-next_in_column
link_cell-place-requires-clause-next_in_column c =
    let room = c.make_room-room.ensures in
    let h = refound room.rows room.columns room.index (roomier_held c.self.inside.nodes c.make_room-room.new.nodes room.nodes (held c.self.invariant.indexed (ap (λ (t : Table). t.cells) c.self.view_is))) in
    let d = spot_held h c.self.inside.loose c.args.r.now c.group_of-in_row.result c.place_behind-next.result c.place_behind-next.ensures c.group_of-in_row.ensures in
    let i = column_spot h c.self.inside.loose c.args.r.now c.place_behind-next.result d c.args.c.now c.group_of-in_column.result c.place_in_column-next_in_column.result c.group_of-in_column.ensures c.place_in_column-next_in_column.ensures in
    in_column_held h c.self.inside.loose c.args.r.now c.place_behind-next.result d c.args.c.now c.place_in_column-next_in_column.result i

pub link_cell-place-requires-clause-row_counted : goal.link_cell-place-requires-clause-row_counted
link_cell-place-requires-clause-row_counted c =
    let room = c.make_room-room.ensures in
    let h = refound room.rows room.columns room.index (roomier_held c.self.inside.nodes c.make_room-room.new.nodes room.nodes (held c.self.invariant.indexed (ap (λ (t : Table). t.cells) c.self.view_is))) in
    let count = ap (λ (g : Group). g.count) c.group_of-in_row.ensures in
    let fits = count_fits h Row c.args.r.now in
    omega arith

pub link_cell-place-requires-clause-column_counted : goal.link_cell-place-requires-clause-column_counted
link_cell-place-requires-clause-column_counted c =
    let room = c.make_room-room.ensures in
    let h = refound room.rows room.columns room.index (roomier_held c.self.inside.nodes c.make_room-room.new.nodes room.nodes (held c.self.invariant.indexed (ap (λ (t : Table). t.cells) c.self.view_is))) in
    let count = ap (λ (g : Group). g.count) c.group_of-in_column.ensures in
    let fits = count_fits h Column c.args.c.now in
    omega arith

pub invariant_of-self-2 : goal.invariant_of-self-2
invariant_of-self-2 c =
    let room = c.make_room-room.ensures in
    let h = refound room.rows room.columns room.index (roomier_held c.self.inside.nodes c.make_room-room.new.nodes room.nodes (held c.self.invariant.indexed (ap (λ (t : Table). t.cells) c.self.view_is))) in
    let d = spot_held h c.self.inside.loose c.args.r.now c.group_of-in_row.result c.place_behind-next.result c.place_behind-next.ensures c.group_of-in_row.ensures in
    let i = column_spot h c.self.inside.loose c.args.r.now c.place_behind-next.result d c.args.c.now c.group_of-in_column.result c.place_in_column-next_in_column.result c.group_of-in_column.ensures c.place_in_column-next_in_column.ensures in
    let step = c.link_cell-place.ensures in
    let after = linked_held h c.link_cell-place.new.nodes c.link_cell-place.new.all c.group_of-in_row.result c.link_cell-place.new.in_row c.group_of-in_column.result c.link_cell-place.new.in_column c.args.r.now c.args.c.now c.args.v.now c.self.inside.loose c.place_behind-next.result c.place_in_column-next_in_column.result
    c.link_cell-place.result (hash.get same_spot c.write_place.new.index) d step.fresh step.here step.others c.write_place.ensures c.requires i c.group_of-in_row.ensures c.group_of-in_column.ensures step.cells in
    is_table c.self.inside.loose (refound c.write_group.ensures c.write_group-2.ensures (λ x. refl) after)
    (grouped_new (record { cells = c.args.self.now.cells; loose = c.self.inside.loose }) (c.args.r.now, (c.args.c.now, c.args.v.now)) (was_grouped c.self.inside.loose (ap (λ (t : Table). t.cells) c.self.view_is) c.self.invariant.grouped))

pub returns-clause-ok : goal.returns-clause-ok
returns-clause-ok c =
    let room = c.make_room-room.ensures in
    let h = refound room.rows room.columns room.index (roomier_held c.self.inside.nodes c.make_room-room.new.nodes room.nodes (held c.self.invariant.indexed (ap (λ (t : Table). t.cells) c.self.view_is))) in
    let d = spot_held h c.self.inside.loose c.args.r.now c.group_of-in_row.result c.place_behind-next.result c.place_behind-next.ensures c.group_of-in_row.ensures in
    let i = column_spot h c.self.inside.loose c.args.r.now c.place_behind-next.result d c.args.c.now c.group_of-in_column.result c.place_in_column-next_in_column.result c.group_of-in_column.ensures c.place_in_column-next_in_column.ensures in
    let step = c.link_cell-place.ensures in
    let after = linked_held h c.link_cell-place.new.nodes c.link_cell-place.new.all c.group_of-in_row.result c.link_cell-place.new.in_row c.group_of-in_column.result c.link_cell-place.new.in_column c.args.r.now c.args.c.now c.args.v.now c.self.inside.loose c.place_behind-next.result c.place_in_column-next_in_column.result
    c.link_cell-place.result (hash.get same_spot c.write_place.new.index) d step.fresh step.here step.others c.write_place.ensures c.requires i c.group_of-in_row.ensures c.group_of-in_column.ensures step.cells in
    shows after ∙ ap (λ b. with_new (record { cells = c.args.self.now.cells; loose = b }) (c.args.r.now, (c.args.c.now, c.args.v.now))) (ap (λ (t : Table). t.loose) c.self.view_is)
