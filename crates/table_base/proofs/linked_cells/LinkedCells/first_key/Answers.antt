use Rattle.std.proofs.Common.{◌∙◌, ap}
use Rattle.table_base.specs.Cells.{Table}
use Rattle.table_base.proofs.HeldCells.{held}
use Rattle.table_base.proofs.HeldOrder.{first_key_held}
use Rattle.table_base.proofs.linked_cells.LinkedCells.first_key.Goals as goal

pub returns : goal.returns
returns c = c.key_of.ensures ∙ first_key_held (held c.self.invariant.indexed (ap (λ (t : Table). t.cells) c.self.view_is)) c.args.side
