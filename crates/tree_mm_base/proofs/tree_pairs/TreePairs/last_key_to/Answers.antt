use Rattle.elem.specs.Orders.{natural_before}
use Rattle.tree_mm_base.proofs.ValuesLemmas.{from_start}
use Rattle.tree_mm_base.proofs.tree_pairs.TreePairs.last_key_to.Goals as goal

pub last_in-requires : goal.last_in-requires
last_in-requires g c = from_start natural_before c.args.c.now
