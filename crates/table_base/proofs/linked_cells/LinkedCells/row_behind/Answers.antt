use Rattle.std.proofs.Common.{◌∙◌, ap}
use Rattle.table_base.specs.Cells.{Table}
use Rattle.table_base.proofs.HeldCells.{held, was_grouped}
use Rattle.table_base.proofs.HeldOrder.{last_there, last_node, row_behind_held}
use Rattle.table_base.proofs.linked_cells.LinkedCells.row_behind.Goals as goal

pub unwrap-place-requires : goal.unwrap-place-requires
unwrap-place-requires c = last_there (held c.self.invariant.indexed (ap (λ (t : Table). t.cells) c.self.view_is)) (was_grouped c.self.inside.loose (ap (λ (t : Table). t.cells) c.self.view_is) c.self.invariant.grouped (ap (λ (t : Table). t.loose) c.self.view_is ∙ c.requires.kind)) c.args.k.now c.requires.row c.group_of-group.result c.group_of-group.ensures

pub index-requires : goal.index-requires
index-requires c = last_node (held c.self.invariant.indexed (ap (λ (t : Table). t.cells) c.self.view_is)) (was_grouped c.self.inside.loose (ap (λ (t : Table). t.cells) c.self.view_is) c.self.invariant.grouped (ap (λ (t : Table). t.loose) c.self.view_is ∙ c.requires.kind)) c.args.k.now c.requires.row c.group_of-group.result c.group_of-group.ensures c.unwrap-place.result c.unwrap-place.ensures

pub returns : goal.returns
returns c = c.key_of.ensures ∙ row_behind_held (held c.self.invariant.indexed (ap (λ (t : Table). t.cells) c.self.view_is)) (was_grouped c.self.inside.loose (ap (λ (t : Table). t.cells) c.self.view_is) c.self.invariant.grouped (ap (λ (t : Table). t.loose) c.self.view_is ∙ c.requires.kind)) c.args.k.now c.requires.row c.group_of-group.result c.group_of-group.ensures c.unwrap-place.result c.unwrap-place.ensures c.index.result.now c.index.ensures
