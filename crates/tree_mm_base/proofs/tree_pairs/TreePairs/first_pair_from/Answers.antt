use Rattle.elem.specs.Orders.{natural_before}
use Rattle.tree_mm_base.proofs.ValuesLemmas.{upto_end}
use Rattle.tree_mm_base.proofs.tree_pairs.TreePairs.first_pair_from.Goals as goal

pub first_of_in-requires : goal.first_of_in-requires
first_of_in-requires g c = upto_end natural_before c.args.c.now
