use Rattle.elem.specs.Rows.{first_key}
use Rattle.plain_base.proofs.SortedLemmas.{after_is}
use Rattle.plain_base.proofs.WindowLemmas.{above_some}
use Rattle.plain_base.proofs.free_tree_map_rows.FreeTreeMapRows.after.Goals as goal

pub returns : goal.returns
returns g c = after_is g.met.C.Compare.strict c.args.k c.first_between.result c.self.inside.rows.entries c.args.self.now
    (above_some g.met.C.Compare.strict first_key c.args.k c.new.result c.first_between.result c.self.inside.rows.entries c.args.self.now c.first_between.ensures.key c.new.ensures c.self.view_is)
    c.self.view_is c.first_between.ensures.order c.requires
