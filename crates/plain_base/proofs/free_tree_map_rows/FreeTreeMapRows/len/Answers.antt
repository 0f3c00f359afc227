use Rattle.plain_base.proofs.SortedLemmas.{distinct_keys, in_order}
use Rattle.plain_base.proofs.free_tree_map_rows.FreeTreeMapRows.len.Goals as goal

pub returns-clause-distinct : goal.returns-clause-distinct
returns-clause-distinct g c = rw (← c.self.view_is) (distinct_keys g.C.Compare.before c.self.inside.rows.entries c.len.ensures.ordered)

pub returns-clause-order : goal.returns-clause-order
returns-clause-order g c = rw (← c.self.view_is) (in_order g.C.Compare.before c.self.inside.rows.entries c.len.ensures.ordered)
