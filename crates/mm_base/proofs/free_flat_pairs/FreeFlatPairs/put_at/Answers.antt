use Rattle.std.proofs.Common.{sym, ◌∙◌}
use Rattle.mm_base.proofs.PairRowsLemmas.{nth_is_live, nth_spot}
use Rattle.mm_base.proofs.free_flat_pairs.FreeFlatPairs.put_at.Goals as goal

pub link-requires-clause-next : goal.link-requires-clause-next
link-requires-clause-next c q e = nth_is_live c.args.k c.args.self.now c.args.i q (sym c.place_at-next.ensures.place ∙ e)

pub link-requires-clause-in_key : goal.link-requires-clause-in_key
link-requires-clause-in_key c = nth_spot c.args.k c.args.self.now c.args.i c.place_at-next.result (sym c.place_at-next.ensures.place) c.place_at-next.ensures.distinct
