use Rattle.std.proofs.Common.{◌∙◌, ap}
use Rattle.table_base.specs.Cells.{Table}
use Rattle.table_base.proofs.HeldCells.{held}
use Rattle.table_base.proofs.HeldOrder.{first_there, first_node, after_key_held}
use Rattle.table_base.proofs.linked_cells.LinkedCells.after_key.Goals as goal

pub unwrap-place-requires : goal.unwrap-place-requires
unwrap-place-requires c = first_there (held c.self.invariant.indexed (ap (λ (t : Table). t.cells) c.self.view_is)) c.args.side c.args.k.now c.requires c.group_at-group.result c.group_at-group.ensures

pub index-requires : goal.index-requires
index-requires c = first_node (held c.self.invariant.indexed (ap (λ (t : Table). t.cells) c.self.view_is)) c.args.side c.args.k.now c.requires c.group_at-group.result c.group_at-group.ensures c.unwrap-place.result c.unwrap-place.ensures

pub returns : goal.returns
returns c =
    c.key_of.ensures
    ∙ after_key_held (held c.self.invariant.indexed (ap (λ (t : Table). t.cells) c.self.view_is)) c.args.side c.args.k.now c.requires c.group_at-group.result c.group_at-group.ensures c.unwrap-place.result c.unwrap-place.ensures c.index.result.now c.index.ensures
    c.next_sought-next.result c.next_sought-next.ensures.found
