use Rattle.std.proofs.Common.{◌∙◌, ap}
use Rattle.linked_base.specs.declared.group.Group.{Group}
use Rattle.table_base.specs.Cells.{Table}
use Rattle.table_base.proofs.HeldCells.{held, count_held}
use Rattle.table_base.proofs.linked_cells.LinkedCells.count_in.Goals as goal

pub returns : goal.returns
returns c = ap (λ (g : Group). g.count) c.group_at.ensures ∙ count_held (held c.self.invariant.indexed (ap (λ (t : Table). t.cells) c.self.view_is)) c.args.side c.args.k.now
