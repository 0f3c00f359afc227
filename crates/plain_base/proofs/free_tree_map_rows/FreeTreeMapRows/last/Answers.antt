use Rattle.plain_base.proofs.SortedLemmas.{last_found}
use Rattle.plain_base.proofs.free_tree_map_rows.FreeTreeMapRows.last.Goals as goal

pub returns-in-Some : goal.returns-in-Some
returns-in-Some g c = rw (← c.self.view_is) (last_found _ _ _ _ _ c.iter.ensures.rest c.in-Some.ensures.steps c.elem.ensures)
