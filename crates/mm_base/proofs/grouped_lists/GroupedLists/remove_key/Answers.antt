use Rattle.std.proofs.Common.{not, sym, subst}
use Rattle.elem.specs.Elements.{same}
use Rattle.mm_base.specs.PairRows.{Row, without_key}
use Rattle.mm_base.specs.GroupedRows.{IsGrouped}
use Rattle.mm_base.proofs.GroupedLemmas.{grouped_part, part_filter}
use Rattle.mm_base.proofs.grouped_lists.GroupedLists.remove_key.Goals as goal

pub invariant_of-self : goal.invariant_of-self
invariant_of-self g c =
    let m = c.self.inside.pairs in
    let k = c.args.k in
    subst IsGrouped (sym c.remove_key.ensures.rows) (grouped_part m (without_key k m) c.self.invariant (part_filter (λ (r : Row). not (same k r.1.0)) m))
