use Rattle.std.proofs.Common.{sym, ◌∙◌}
use Rattle.bimap_base.proofs.Holders.{not_own, other, stays_forced, there}
use Rattle.bimap_base.proofs.pair_rows.PairRows.force_put.Goals as goal

pub returns-then-eq-clause-answer : goal.returns-then-eq-clause-answer
returns-then-eq-clause-answer g c = there c.len-len.ensures.distinct c.self.invariant c.self.view_is c.args.k c.args.v c.key_of.result c.key_of.ensures (sym c.eq.ensures ∙ c.if-eq.true)

pub returns-then-eq-clause-rows : goal.returns-then-eq-clause-rows
returns-then-eq-clause-rows g c = stays_forced c.len-len.ensures.distinct c.self.invariant c.self.view_is c.args.k c.args.v c.key_of.result c.key_of.ensures (sym c.eq.ensures ∙ c.if-eq.true)

pub put_pair-requires-clause-new : goal.put_pair-requires-clause-new
put_pair-requires-clause-new g c = not_own c.len-len.ensures.distinct c.self.invariant c.self.view_is c.args.k c.args.v c.key_of.result c.key_of.ensures (sym c.eq.ensures ∙ c.if-eq.false)

pub returns-clause-same : goal.returns-clause-same
returns-clause-same g c e = absurd (other c.len-len.ensures.distinct c.self.invariant c.self.view_is c.args.k c.args.v c.key_of.result c.key_of.ensures (sym c.eq.ensures ∙ c.if-eq.false) e)
