use Rattle.std.specs.Option.{option_map}
use Rattle.elem.specs.Rows.{last_key}
use Rattle.plain_base.proofs.WholeRows.{whole_some}
use Rattle.plain_base.proofs.free_tree_map_rows.FreeTreeMapRows.last_row.Goals as goal

pub returns-clause-key : goal.returns-clause-key
returns-clause-key g c = whole_some g.C.Compare.before last_key (option_map (λ row. row.0) c.last_row_between.result) c.self.inside.rows.entries c.args.self.now c.last_row_between.ensures.key c.self.view_is
