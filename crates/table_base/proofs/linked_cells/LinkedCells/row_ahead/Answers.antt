use Rattle.std.proofs.Common.{◌∙◌, ap}
use Rattle.table_base.specs.declared.sides.Side.TheVariants.{Row}
use Rattle.table_base.specs.Cells.{Table}
use Rattle.table_base.proofs.HeldCells.{held, was_grouped}
use Rattle.table_base.proofs.HeldOrder.{first_there, first_node, row_ahead_held}
use Rattle.table_base.proofs.linked_cells.LinkedCells.row_ahead.Goals as goal

pub unwrap-place-requires : goal.unwrap-place-requires
unwrap-place-requires c = first_there (held c.self.invariant.indexed (ap (λ (t : Table). t.cells) c.self.view_is)) Row c.args.k.now c.requires.row c.group_of-group.result c.group_of-group.ensures

pub index-requires : goal.index-requires
index-requires c = first_node (held c.self.invariant.indexed (ap (λ (t : Table). t.cells) c.self.view_is)) Row c.args.k.now c.requires.row c.group_of-group.result c.group_of-group.ensures c.unwrap-place.result c.unwrap-place.ensures

pub returns : goal.returns
returns c = c.key_of.ensures ∙ row_ahead_held (held c.self.invariant.indexed (ap (λ (t : Table). t.cells) c.self.view_is)) (was_grouped c.self.inside.loose (ap (λ (t : Table). t.cells) c.self.view_is) c.self.invariant.grouped (ap (λ (t : Table). t.loose) c.self.view_is ∙ c.requires.kind)) c.args.k.now c.requires.row c.group_of-group.result c.group_of-group.ensures c.unwrap-place.result c.unwrap-place.ensures c.index.result.now c.index.ensures
