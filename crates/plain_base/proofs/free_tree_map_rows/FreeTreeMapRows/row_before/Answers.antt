use Rattle.std.specs.Option.{option_map}
use Rattle.elem.specs.Rows.{last_key}
use Rattle.plain_base.proofs.SortedLemmas.{before_is}
use Rattle.plain_base.proofs.WindowLemmas.{below_some}
use Rattle.plain_base.proofs.free_tree_map_rows.FreeTreeMapRows.row_before.Goals as goal

pub returns-clause-key : goal.returns-clause-key
returns-clause-key g c =
    let key = option_map (λ row. row.0) c.last_row_between.result in
    before_is g.met.C.Compare.strict c.args.k key c.self.inside.rows.entries c.args.self.now
    (below_some g.met.C.Compare.strict last_key c.args.k c.new.result key c.self.inside.rows.entries c.args.self.now c.last_row_between.ensures.key c.new.ensures c.self.view_is)
    c.self.view_is c.last_row_between.ensures.order c.requires
