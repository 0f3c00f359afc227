use Rattle.elem.specs.Rows.{last_key}
use Rattle.plain_base.proofs.WindowLemmas.{below_some}
use Rattle.plain_base.proofs.free_tree_map_rows.FreeTreeMapRows.next_below.Goals as goal

pub returns : goal.returns
returns g c = below_some g.met.C.Compare.strict last_key c.args.k c.new.result c.last_between.result c.self.inside.rows.entries c.args.self.now c.last_between.ensures.key c.new.ensures c.self.view_is
