use Rattle.std.proofs.Common.{ap, sym, ◌∙◌}
use Rattle.bimap_base.specs.Pairs.{turned}
use Rattle.bimap_base.proofs.Holders.{differs, other, stays_forced, there, turned_round}
use Rattle.bimap_base.proofs.pair_rows.PairRows.flip_force_put.Goals as goal

pub returns-then-eq-clause-answer : goal.returns-then-eq-clause-answer
returns-then-eq-clause-answer g c = there c.self.invariant.distinct (turned_round c.self.inside.rows c.len-len.ensures.distinct) (ap turned c.self.view_is) c.args.v c.args.k c.probe.result c.probe.ensures (sym c.eq.ensures ∙ c.if-eq.true)

pub returns-then-eq-clause-rows : goal.returns-then-eq-clause-rows
returns-then-eq-clause-rows g c = stays_forced c.self.invariant.distinct (turned_round c.self.inside.rows c.len-len.ensures.distinct) (ap turned c.self.view_is) c.args.v c.args.k c.probe.result c.probe.ensures (sym c.eq.ensures ∙ c.if-eq.true)

pub flip_put_pair-requires-clause-new : goal.flip_put_pair-requires-clause-new
flip_put_pair-requires-clause-new g c e = differs c.probe.result c.args.v (sym c.eq.ensures ∙ c.if-eq.false) (c.probe.ensures ∙ e)

pub returns-clause-same : goal.returns-clause-same
returns-clause-same g c e = absurd (other c.self.invariant.distinct (turned_round c.self.inside.rows c.len-len.ensures.distinct) (ap turned c.self.view_is) c.args.v c.args.k c.probe.result c.probe.ensures (sym c.eq.ensures ∙ c.if-eq.false) e)
