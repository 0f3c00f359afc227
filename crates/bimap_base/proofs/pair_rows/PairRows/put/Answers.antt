use Rattle.std.proofs.Common.{ap, refl, sym, ◌∙◌}
use Rattle.bimap_base.specs.Pairs.{with_pair}
use Rattle.bimap_base.proofs.Holders.{all_free, bound, not_bound, not_own, other, stays_with, there, unbound}
use Rattle.bimap_base.proofs.pair_rows.PairRows.put.Goals as goal

pub returns-then-eq-clause-answer : goal.returns-then-eq-clause-answer
returns-then-eq-clause-answer g c = there c.len-len.ensures.distinct c.self.invariant c.self.view_is c.args.k c.args.v c.key_of-holder.result c.key_of-holder.ensures (sym c.eq.ensures ∙ c.if-eq.true)

pub returns-then-eq-clause-rows : goal.returns-then-eq-clause-rows
returns-then-eq-clause-rows g c = stays_with c.len-len.ensures.distinct c.self.invariant c.self.view_is c.args.k c.args.v c.key_of-holder.result c.key_of-holder.ensures (sym c.eq.ensures ∙ c.if-eq.true)

pub returns-then-eq-clause-bound : goal.returns-then-eq-clause-bound
returns-then-eq-clause-bound g c = (λ f. cc, λ b. absurd (not_bound c.len-len.ensures.distinct c.self.invariant c.self.view_is c.args.k c.args.v c.key_of-holder.result c.key_of-holder.ensures (sym c.eq.ensures ∙ c.if-eq.true) b))

pub returns-then-is_some-clause-same : goal.returns-then-is_some-clause-same
returns-then-is_some-clause-same g c e = absurd (other c.len-len.ensures.distinct c.self.invariant c.self.view_is c.args.k c.args.v c.key_of-holder.result c.key_of-holder.ensures (sym c.eq.ensures ∙ c.if-eq.false) e)

pub returns-then-is_some-clause-bound : goal.returns-then-is_some-clause-bound
returns-then-is_some-clause-bound g c = (λ f. bound c.len-len.ensures.distinct c.self.invariant c.self.view_is c.args.k c.args.v c.key_of-holder.result c.key_of-holder.ensures (sym c.eq.ensures ∙ c.if-eq.false) (sym c.is_some.ensures ∙ c.if-is_some.true), λ b. refl)

pub put_pair-requires-clause-new : goal.put_pair-requires-clause-new
put_pair-requires-clause-new g c = not_own c.len-len.ensures.distinct c.self.invariant c.self.view_is c.args.k c.args.v c.key_of-holder.result c.key_of-holder.ensures (sym c.eq.ensures ∙ c.if-eq.false)

pub returns-in_default-clause-same : goal.returns-in_default-clause-same
returns-in_default-clause-same g c e = absurd (other c.len-len.ensures.distinct c.self.invariant c.self.view_is c.args.k c.args.v c.key_of-holder.result c.key_of-holder.ensures (sym c.eq.ensures ∙ c.if-eq.false) e)

pub returns-clause-rows : goal.returns-clause-rows
returns-clause-rows g c = c.in-Ok.ensures.rows ∙ ap (λ rs. with_pair rs c.args.k c.args.v) (all_free c.len-len.ensures.distinct c.self.invariant c.self.view_is c.args.k c.args.v c.key_of-holder.result c.key_of-holder.ensures (sym c.is_some.ensures ∙ c.if-is_some.false) ∙ c.self.view_is)

pub returns-clause-same : goal.returns-clause-same
returns-clause-same g c e = absurd (other c.len-len.ensures.distinct c.self.invariant c.self.view_is c.args.k c.args.v c.key_of-holder.result c.key_of-holder.ensures (sym c.eq.ensures ∙ c.if-eq.false) e)

pub returns-in_default-clause-bound : goal.returns-in_default-clause-bound
returns-in_default-clause-bound g c = (λ f. cc, λ b. absurd (unbound c.len-len.ensures.distinct c.self.invariant c.self.view_is c.args.k c.args.v c.key_of-holder.result c.key_of-holder.ensures (sym c.is_some.ensures ∙ c.if-is_some.false) b))

pub returns-clause-bound : goal.returns-clause-bound
returns-clause-bound g c = (λ f. cc, λ b. absurd (unbound c.len-len.ensures.distinct c.self.invariant c.self.view_is c.args.k c.args.v c.key_of-holder.result c.key_of-holder.ensures (sym c.is_some.ensures ∙ c.if-is_some.false) b))
