use Rattle.std.proofs.Common.{refl, sym, ◌∙◌, subst}
use Rattle.std.specs.Map.{keys_of}
use Rattle.vocabulary.specs.declared.items.Side.TheVariants.{First}
use Rattle.view_laws.specs.declared.lanes.PartAsk.{PartAsk}
use Rattle.view_laws.specs.Following.{Follows}
use Rattle.cell_rows.specs.CellRows.{cells_of, kind_of, rows_of}
use Rattle.cell_rows.specs.CellSpots.{cell_line}
use Rattle.cell_rows.specs.Serving.{ServesColumns}
use Rattle.cell_rows.specs.Threads.{along, key_at, key_in, key_line, spot_along}
use Rattle.cell_rows.proofs.CellLines.{row_line}
use Rattle.cell_rows.proofs.Embedding.{follows_in, from_in}
use Rattle.cell_rows.proofs.cell_rows.CellRows.next_in_row.Goals as goal

pub walk_row-entry-requires : goal.walk_row-entry-requires
walk_row-entry-requires g c =
    let cells = cells_of c.args.self.now in
    let lane = c.args.lane.now in
    let r = c.args.r.now in
    record {
      serves = subst (λ (ask : PartAsk). ServesColumns (kind_of c.args.self.now) ask lane.second) c.requires.row c.requires.serves.columns;
      from = rw (c.key_at-from_column.ensures) (from_in (spot_along First r) (key_at First) (λ k. refl) (cell_line (rows_of c.args.self.now) lane c.args.back) (key_line lane.second c.args.back (keys_of (along First r cells))) (row_line cells lane c.args.back r c.requires.row) c.args.from.now c.requires.from);
    }

pub returns-clause-next : goal.returns-clause-next
returns-clause-next g c =
    let cells = cells_of c.args.self.now in
    let lane = c.args.lane.now in
    let r = c.args.r.now in
    let line = cell_line (rows_of c.args.self.now) lane c.args.back in
    record {
      next = subst (Follows line c.args.from.now) (sym (c.spotted.ensures.spot ∙ c.whole.ensures.spot))
          (follows_in (spot_along First r) (key_at First) (λ k. refl) line (key_line lane.second c.args.back (keys_of (along First r cells))) (row_line cells lane c.args.back r c.requires.row) c.args.from.now c.requires.from (key_in c.walk_row-entry.result)
          (rw (c.key_at-from_column.ensures) at c.walk_row-entry.ensures.next));
      row = c.spotted.ensures.row cells (c.whole.ensures.cell cells c.walk_row-entry.ensures.cell);
    }
