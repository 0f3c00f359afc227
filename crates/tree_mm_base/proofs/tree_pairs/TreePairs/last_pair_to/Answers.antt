use Rattle.elem.specs.Orders.{natural_before}
use Rattle.tree_mm_base.proofs.ValuesLemmas.{from_start}
use Rattle.tree_mm_base.proofs.tree_pairs.TreePairs.last_pair_to.Goals as goal

pub last_of_in-requires : goal.last_of_in-requires
last_of_in-requires g c = from_start natural_before c.args.c.now
