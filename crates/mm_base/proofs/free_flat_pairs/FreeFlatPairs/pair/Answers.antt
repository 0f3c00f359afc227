use Rattle.std.proofs.Common.{sym, ap, ◌∙◌, subst}
use Rattle.mm_base.specs.PairRows.{IsLive, pair_of}
use Rattle.mm_base.proofs.free_flat_pairs.FreeFlatPairs.pair.Goals as goal

pub pair_at-requires : goal.pair_at-requires
pair_at-requires c = subst (IsLive c.args.self.now) (sym c.place_of.ensures) c.requires

pub returns : goal.returns
returns c = ap (pair_of c.args.self.now) (sym c.place_of.ensures) ∙ c.pair_at.ensures.pair
