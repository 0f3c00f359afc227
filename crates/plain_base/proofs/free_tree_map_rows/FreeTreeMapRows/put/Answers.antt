use Rattle.plain_base.proofs.SortedLemmas.{in_order}
use Rattle.plain_base.proofs.PutRows.{put_is, told_at}
use Rattle.plain_base.proofs.free_tree_map_rows.FreeTreeMapRows.put.Goals as goal

pub returns-in-Ok-clause-before : goal.returns-in-Ok-clause-before
returns-in-Ok-clause-before g c = told_at g.C.Compare.before c.args.k c.new.result c.self.inside.rows.entries c.args.self.now c.in-Ok.before c.in-Ok.ensures.old c.new.ensures c.self.view_is

pub returns-in-Ok-clause-rows : goal.returns-in-Ok-clause-rows
returns-in-Ok-clause-rows g c =
    put_is g.met.C.Compare.strict c.args.k c.new.result c.args.v c.self.inside.rows.entries c.args.self.now _ c.in-Ok.ensures.entries c.new.ensures c.self.view_is (in_order g.C.Compare.before c.self.inside.rows.entries c.insert.ensures.was_ordered)
