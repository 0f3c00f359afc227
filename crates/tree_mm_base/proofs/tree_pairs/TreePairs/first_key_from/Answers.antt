use Rattle.elem.specs.Orders.{natural_before}
use Rattle.tree_mm_base.proofs.ValuesLemmas.{upto_end}
use Rattle.tree_mm_base.proofs.tree_pairs.TreePairs.first_key_from.Goals as goal

pub first_in-requires : goal.first_in-requires
first_in-requires g c = upto_end natural_before c.args.c.now
