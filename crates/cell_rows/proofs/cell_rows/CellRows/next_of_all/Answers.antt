use Rattle.std.proofs.Common.{refl, sym, subst}
use Rattle.std.specs.Map.{keys_of}
use Rattle.elem.specs.declared.elements.Elem.{Elem}
use Rattle.table_base.specs.Cells.{by_spot}
use Rattle.view_laws.specs.declared.places.RowSpot.TheVariants as spot
use Rattle.view_laws.specs.Following.{Follows}
use Rattle.view_laws.specs.Lanes.{turned_if}
use Rattle.cell_rows.specs.CellRows.{cells_of, rows_of}
use Rattle.cell_rows.specs.CellSpots.{cell_line}
use Rattle.cell_rows.specs.Threads.{parts_at, spot_in}
use Rattle.cell_rows.proofs.CellLines.{whole_line}
use Rattle.cell_rows.proofs.Embedding.{follows_in, from_in}
use Rattle.cell_rows.proofs.cell_rows.CellRows.next_of_all.Goals as goal

pub walk_cells-cell-requires : goal.walk_cells-cell-requires
walk_cells-cell-requires g c =
    let cells = cells_of c.args.self.now in
    rw (c.parts_at-from_cell.ensures) (from_in (λ (s : Elem × Elem). spot.Cell s.0 s.1) parts_at (λ s. refl) (cell_line (rows_of c.args.self.now) c.args.lane.now c.args.back) (turned_if c.args.back (keys_of (by_spot cells)))
    (whole_line cells c.args.lane.now c.args.back c.requires.rows c.requires.columns) c.args.from.now c.requires.from)

pub returns-clause-next : goal.returns-clause-next
returns-clause-next g c =
    let cells = cells_of c.args.self.now in
    let line = cell_line (rows_of c.args.self.now) c.args.lane.now c.args.back in
    record {
      next = subst (Follows line c.args.from.now) (sym c.spotted.ensures.spot)
          (follows_in (λ (s : Elem × Elem). spot.Cell s.0 s.1) parts_at (λ s. refl) line (turned_if c.args.back (keys_of (by_spot cells))) (whole_line cells c.args.lane.now c.args.back c.requires.rows c.requires.columns) c.args.from.now c.requires.from (spot_in c.walk_cells-cell.result)
          (rw (c.parts_at-from_cell.ensures) at c.walk_cells-cell.ensures.next));
      row = c.spotted.ensures.row cells c.walk_cells-cell.ensures.cell;
    }
