use Rattle.std.proofs.Common.{refl, sym, ◌∙◌, subst}
use Rattle.std.specs.Map.{keys_of}
use Rattle.vocabulary.specs.declared.items.Side.TheVariants.{Second}
use Rattle.view_laws.specs.declared.lanes.PartAsk.TheVariants.{Any}
use Rattle.view_laws.specs.Following.{Follows}
use Rattle.cell_rows.specs.CellRows.{cells_of, rows_of}
use Rattle.cell_rows.specs.CellSpots.{cell_line}
use Rattle.cell_rows.specs.Threads.{along, key_at, key_in, key_line, spot_along}
use Rattle.cell_rows.proofs.CellLines.{column_line}
use Rattle.cell_rows.proofs.Embedding.{follows_in, from_in}
use Rattle.cell_rows.proofs.cell_rows.CellRows.next_in_column.Goals as goal

pub walk_line-entry-requires : goal.walk_line-entry-requires
walk_line-entry-requires g c =
    let cells = cells_of c.args.self.now in
    let k = c.args.c.now in
    rw (c.key_at-from_row.ensures) (from_in (spot_along Second k) (key_at Second) (λ r. refl) (cell_line (rows_of c.args.self.now) c.args.lane.now c.args.back) (key_line Any c.args.back (keys_of (along Second k cells)))
    (column_line cells c.args.lane.now c.args.back k c.requires.rows c.requires.column) c.args.from.now c.requires.from)

pub returns-clause-next : goal.returns-clause-next
returns-clause-next g c =
    let cells = cells_of c.args.self.now in
    let k = c.args.c.now in
    let line = cell_line (rows_of c.args.self.now) c.args.lane.now c.args.back in
    record {
      next = subst (Follows line c.args.from.now) (sym (c.spotted.ensures.spot ∙ c.whole.ensures.spot))
          (follows_in (spot_along Second k) (key_at Second) (λ r. refl) line (key_line Any c.args.back (keys_of (along Second k cells))) (column_line cells c.args.lane.now c.args.back k c.requires.rows c.requires.column) c.args.from.now c.requires.from (key_in c.walk_line-entry.result)
          (rw (c.key_at-from_row.ensures) at c.walk_line-entry.ensures.next));
      row = c.spotted.ensures.row cells (c.whole.ensures.cell cells c.walk_line-entry.ensures.cell);
    }
