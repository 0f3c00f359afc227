use Rattle.std.proofs.Common.{sym, subst}
use Rattle.mm_base.specs.GroupedRows.{IsGrouped}
use Rattle.mm_base.proofs.GroupedLemmas.{grouped_last}
use Rattle.mm_base.proofs.grouped_lists.GroupedLists.key_to_end.Goals as goal

pub invariant_of-self : goal.invariant_of-self
invariant_of-self g c = subst IsGrouped (sym c.key_to_end.ensures) (grouped_last c.args.k c.self.inside.pairs c.self.invariant)
