use Rattle.std.specs.Option.{option_map}
use Rattle.elem.specs.Rows.{first_key}
use Rattle.plain_base.proofs.SortedLemmas.{after_is}
use Rattle.plain_base.proofs.WindowLemmas.{above_some}
use Rattle.plain_base.proofs.free_tree_map_rows.FreeTreeMapRows.row_after.Goals as goal

pub returns-clause-key : goal.returns-clause-key
returns-clause-key g c =
    let key = option_map (λ row. row.0) c.first_row_between.result in
    after_is g.met.C.Compare.strict c.args.k key c.self.inside.rows.entries c.args.self.now
    (above_some g.met.C.Compare.strict first_key c.args.k c.new.result key c.self.inside.rows.entries c.args.self.now c.first_row_between.ensures.key c.new.ensures c.self.view_is)
    c.self.view_is c.first_row_between.ensures.order c.requires
