use Rattle.plain_base.proofs.SortedLemmas.{inserted_is}
use Rattle.plain_base.proofs.free_tree_map_rows.FreeTreeMapRows.insert.Goals as goal

pub returns-in-Ok-clause-ok : goal.returns-in-Ok-clause-ok
returns-in-Ok-clause-ok g c = inserted_is g.C.Compare.before c.args.k c.new.result c.args.v c.self.inside.rows.entries c.args.self.now _ c.in-Ok.ensures.entries c.new.ensures c.self.view_is c.requires
