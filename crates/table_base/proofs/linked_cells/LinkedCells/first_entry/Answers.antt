use Rattle.std.proofs.Common.{◌∙◌, ap}
use Rattle.std.specs.Option.{option_map}
use Rattle.table_base.specs.Cells.{Table}
use Rattle.table_base.proofs.HeldCells.{held, first_in_held}
use Rattle.table_base.proofs.WholeCells.{other_of_entry, value_of_entry, first_in_row}
use Rattle.table_base.proofs.linked_cells.LinkedCells.first_entry.Goals as goal

pub returns-clause-column : goal.returns-clause-column
returns-clause-column c =
    let g = c.group_at-group.result in
    ap (option_map (λ x. x.0)) c.entry_at.ensures ∙ other_of_entry c.self.inside.nodes c.args.side g.ends.first ∙ first_in_held (held c.self.invariant.indexed (ap (λ (t : Table). t.cells) c.self.view_is)) c.args.side c.args.k.now g c.group_at-group.ensures

pub returns-clause-value : goal.returns-clause-value
returns-clause-value c =
    let h = held c.self.invariant.indexed (ap (λ (t : Table). t.cells) c.self.view_is) in
    let g = c.group_at-group.result in
    value_of_entry h c.args.side c.args.k.now g.ends.first c.entry_at.result c.entry_at.ensures (first_in_row h c.args.side c.args.k.now g c.group_at-group.ensures)
