use Rattle.std.proofs.Common.{sym, ◌∙◌}
use Rattle.mm_base.proofs.PairRowsLemmas.{pair_is_live}
use Rattle.mm_base.proofs.free_flat_pairs.FreeFlatPairs.remove_pair.Goals as goal

pub remove_at-requires : goal.remove_at-requires
remove_at-requires c = pair_is_live c.args.k c.args.v c.args.self.now c.in-Some.place (sym c.find.ensures ∙ c.in-Some.is)
