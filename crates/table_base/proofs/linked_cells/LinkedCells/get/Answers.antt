use Rattle.std.proofs.Common.{◌∙◌, sym, ap}
use Rattle.table_base.specs.declared.sides.Side.TheVariants.{Row}
use Rattle.table_base.specs.Cells.{Table}
use Rattle.table_base.proofs.HeldCells.{held, absent_held, node_held, value_held}
use Rattle.table_base.proofs.linked_cells.LinkedCells.get.Goals as goal

pub returns-in_err-place-clause-value : goal.returns-in_err-place-clause-value
returns-in_err-place-clause-value g c = c.from_residual.ensures ∙ sym (absent_held (held c.self.invariant.indexed (ap (λ (t : Table). t.cells) c.self.view_is)) Row c.args.r c.args.c (sym c.in_err-place.ensures))

pub index-requires : goal.index-requires
index-requires g c = node_held (held c.self.invariant.indexed (ap (λ (t : Table). t.cells) c.self.view_is)) Row c.args.r c.args.c c.in_ok-place.place (sym c.in_ok-place.ensures)

pub returns-clause-value : goal.returns-clause-value
returns-clause-value g c = sym (value_held (held c.self.invariant.indexed (ap (λ (t : Table). t.cells) c.self.view_is)) Row c.args.r c.args.c c.in_ok-place.place (sym c.in_ok-place.ensures) c.index.result.now c.index.ensures)
