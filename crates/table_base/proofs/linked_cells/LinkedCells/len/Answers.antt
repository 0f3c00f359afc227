use Rattle.std.proofs.Common.{◌∙◌, ap}
use Rattle.table_base.specs.declared.sides.Side.TheVariants.{Row}
use Rattle.table_base.specs.Cells.{Table}
use Rattle.table_base.proofs.HeldCells.{held, was_grouped, len_held, distinct_held}
use Rattle.table_base.proofs.linked_cells.LinkedCells.len.Goals as goal

pub returns-clause-len : goal.returns-clause-len
returns-clause-len c = c.len.ensures ∙ len_held (held c.self.invariant.indexed (ap (λ (t : Table). t.cells) c.self.view_is))

pub returns-clause-distinct : goal.returns-clause-distinct
returns-clause-distinct c r = distinct_held (held c.self.invariant.indexed (ap (λ (t : Table). t.cells) c.self.view_is)) Row r

pub returns-clause-grouped : goal.returns-clause-grouped
returns-clause-grouped c e = was_grouped c.self.inside.loose (ap (λ (t : Table). t.cells) c.self.view_is) c.self.invariant.grouped (ap (λ (t : Table). t.loose) c.self.view_is ∙ e)
