use Rattle.std.proofs.Common.{ap, refl, sym, ◌∙◌}
use Rattle.bimap_base.specs.Pairs.{turned, with_pair}
use Rattle.bimap_base.proofs.Holders.{all_free, bound, differs, not_bound, other, stays_with, there, turned_round, unbound}
use Rattle.bimap_base.proofs.pair_rows.PairRows.flip_put.Goals as goal

pub returns-then-eq-clause-answer : goal.returns-then-eq-clause-answer
returns-then-eq-clause-answer g c = there c.self.invariant.distinct (turned_round c.self.inside.rows c.len-len.ensures.distinct) (ap turned c.self.view_is) c.args.v c.args.k c.probe-holder.result c.probe-holder.ensures (sym c.eq.ensures ∙ c.if-eq.true)

pub returns-then-eq-clause-rows : goal.returns-then-eq-clause-rows
returns-then-eq-clause-rows g c = stays_with c.self.invariant.distinct (turned_round c.self.inside.rows c.len-len.ensures.distinct) (ap turned c.self.view_is) c.args.v c.args.k c.probe-holder.result c.probe-holder.ensures (sym c.eq.ensures ∙ c.if-eq.true)

pub returns-then-eq-clause-bound : goal.returns-then-eq-clause-bound
returns-then-eq-clause-bound g c = (λ f. cc, λ b. absurd (not_bound c.self.invariant.distinct (turned_round c.self.inside.rows c.len-len.ensures.distinct) (ap turned c.self.view_is) c.args.v c.args.k c.probe-holder.result c.probe-holder.ensures (sym c.eq.ensures ∙ c.if-eq.true) b))

pub returns-then-is_some-clause-same : goal.returns-then-is_some-clause-same
returns-then-is_some-clause-same g c e = absurd (other c.self.invariant.distinct (turned_round c.self.inside.rows c.len-len.ensures.distinct) (ap turned c.self.view_is) c.args.v c.args.k c.probe-holder.result c.probe-holder.ensures (sym c.eq.ensures ∙ c.if-eq.false) e)

pub returns-then-is_some-clause-bound : goal.returns-then-is_some-clause-bound
returns-then-is_some-clause-bound g c = (λ f. bound c.self.invariant.distinct (turned_round c.self.inside.rows c.len-len.ensures.distinct) (ap turned c.self.view_is) c.args.v c.args.k c.probe-holder.result c.probe-holder.ensures (sym c.eq.ensures ∙ c.if-eq.false) (sym c.is_some.ensures ∙ c.if-is_some.true), λ b. refl)

pub flip_put_pair-requires-clause-new : goal.flip_put_pair-requires-clause-new
flip_put_pair-requires-clause-new g c e = differs c.probe-holder.result c.args.v (sym c.eq.ensures ∙ c.if-eq.false) (c.probe-holder.ensures ∙ e)

pub returns-in_default-clause-same : goal.returns-in_default-clause-same
returns-in_default-clause-same g c e = absurd (other c.self.invariant.distinct (turned_round c.self.inside.rows c.len-len.ensures.distinct) (ap turned c.self.view_is) c.args.v c.args.k c.probe-holder.result c.probe-holder.ensures (sym c.eq.ensures ∙ c.if-eq.false) e)

pub returns-clause-rows : goal.returns-clause-rows
returns-clause-rows g c = c.in-Ok.ensures.rows ∙ ap (λ rs. with_pair rs c.args.v c.args.k) (all_free c.self.invariant.distinct (turned_round c.self.inside.rows c.len-len.ensures.distinct) (ap turned c.self.view_is) c.args.v c.args.k c.probe-holder.result c.probe-holder.ensures (sym c.is_some.ensures ∙ c.if-is_some.false) ∙ (ap turned c.self.view_is))

pub returns-clause-same : goal.returns-clause-same
returns-clause-same g c e = absurd (other c.self.invariant.distinct (turned_round c.self.inside.rows c.len-len.ensures.distinct) (ap turned c.self.view_is) c.args.v c.args.k c.probe-holder.result c.probe-holder.ensures (sym c.eq.ensures ∙ c.if-eq.false) e)

pub returns-in_default-clause-bound : goal.returns-in_default-clause-bound
returns-in_default-clause-bound g c = (λ f. cc, λ b. absurd (unbound c.self.invariant.distinct (turned_round c.self.inside.rows c.len-len.ensures.distinct) (ap turned c.self.view_is) c.args.v c.args.k c.probe-holder.result c.probe-holder.ensures (sym c.is_some.ensures ∙ c.if-is_some.false) b))

pub returns-clause-bound : goal.returns-clause-bound
returns-clause-bound g c = (λ f. cc, λ b. absurd (unbound c.self.invariant.distinct (turned_round c.self.inside.rows c.len-len.ensures.distinct) (ap turned c.self.view_is) c.args.v c.args.k c.probe-holder.result c.probe-holder.ensures (sym c.is_some.ensures ∙ c.if-is_some.false) b))
