use Rattle.std.proofs.Common.{◌<◌, sym, subst}
use Rattle.mm_base.specs.PairRows.{count_of}
use Rattle.mm_base.proofs.GroupedSteps.{set_grouped}
use Rattle.mm_base.proofs.grouped_lists.GroupedLists.set_at.Goals as goal

pub invariant_of-self : goal.invariant_of-self
invariant_of-self g c =
    let k = c.args.k in
    let i = c.args.i in
    set_grouped k c.args.v c.self.inside.pairs c.set_at.new.self i c.self.invariant c.len-len.ensures.distinct (subst (λ rs. i < count_of k rs) (sym c.self.view_is) c.requires) c.set_at.ensures.rows
