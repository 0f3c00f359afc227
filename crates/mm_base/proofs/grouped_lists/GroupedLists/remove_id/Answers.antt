use Rattle.std.proofs.Common.{Some, sym, subst}
use Rattle.mm_base.specs.PairRows.{without_id}
use Rattle.mm_base.specs.GroupedRows.{IsGrouped}
use Rattle.mm_base.proofs.GroupedLemmas.{grouped_part, part_remove}
use Rattle.mm_base.proofs.grouped_lists.GroupedLists.remove_id.Goals as goal

pub invariant_of-self : goal.invariant_of-self
invariant_of-self g c =
    let m = c.self.inside.pairs in
    subst IsGrouped (sym c.remove_id.ensures) (grouped_part m (without_id (Some c.args.p) m) c.self.invariant (part_remove c.args.p m))
