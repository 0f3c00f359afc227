use Rattle.elem.specs.Rows.{last_key}
use Rattle.plain_base.proofs.SortedLemmas.{before_is}
use Rattle.plain_base.proofs.WindowLemmas.{below_some}
use Rattle.plain_base.proofs.free_tree_map_rows.FreeTreeMapRows.before.Goals as goal

pub returns : goal.returns
returns g c = before_is g.met.C.Compare.strict c.args.k c.last_between.result c.self.inside.rows.entries c.args.self.now
    (below_some g.met.C.Compare.strict last_key c.args.k c.new.result c.last_between.result c.self.inside.rows.entries c.args.self.now c.last_between.ensures.key c.new.ensures c.self.view_is)
    c.self.view_is c.last_between.ensures.order c.requires
