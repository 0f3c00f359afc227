use Rattle.std.proofs.Common.{sym, subst}
use Rattle.elem.specs.Rows.{first_key}
use Rattle.mm_base.specs.PairRows.{rows_of_pair, without_pair}
use Rattle.mm_base.specs.GroupedRows.{IsGrouped}
use Rattle.mm_base.proofs.GroupedLemmas.{grouped_part, part_without}
use Rattle.mm_base.proofs.grouped_lists.GroupedLists.remove_pair.Goals as goal

pub invariant_of-self : goal.invariant_of-self
invariant_of-self g c =
    let m = c.self.inside.pairs in
    let k = c.args.k in
    let v = c.args.v in
    subst IsGrouped (sym c.remove_pair.ensures.rows) (grouped_part m (without_pair k v m) c.self.invariant (part_without (first_key (rows_of_pair k v m)) m))
