use Rattle.std.proofs.Common.{◌++◌, sym, subst}
use Rattle.mm_base.specs.GroupedRows.{IsGrouped, IsReplacedInGroup}
use Rattle.mm_base.proofs.ExchangingLemmas.{edge_key, placed_whole}
use Rattle.mm_base.proofs.GroupedSteps.{its_edge, replaced_in_group, replaced_grouped}
use Rattle.mm_base.proofs.grouped_lists.GroupedLists.replace_values.Goals as goal

pub place_all-requires : goal.place_all-requires
place_all-requires g c = its_edge c.args.k c.self.inside.pairs c.self.invariant c.place_at-first.result c.place_at-first.ensures.place

pub remove_from-requires : goal.remove_from-requires
remove_from-requires g c =
    let k = c.args.k in
    let m = c.self.inside.pairs in
    let next = c.place_at-first.result in
    let h = c.in_ok-place_all.ensures.ok in
    (h.front ++ h.added, h.back, (placed_whole k next c.args.vs.now m c.place_all.new.self h, edge_key k next m h.front h.back h.edge))

pub invariant_of-self : goal.invariant_of-self
invariant_of-self g c = subst IsGrouped (sym c.in_err-place_all.ensures.err) c.self.invariant

pub invariant_of-self-2 : goal.invariant_of-self-2
invariant_of-self-2 g c =
    let k = c.args.k in
    let m = c.self.inside.pairs in
    let vs = c.args.vs.now in
    let next = c.place_at-first.result in
    let mid = c.place_all.new.self in
    let new = c.remove_from.new.self in
    let h = c.in_ok-place_all.ensures.ok in
    let e = c.remove_from.ensures (h.front ++ h.added) h.back (placed_whole k next vs m mid h, edge_key k next m h.front h.back h.edge) in
    replaced_grouped k vs m new c.self.invariant (replaced_in_group k vs next m mid new h e)

pub returns-clause-ok : goal.returns-clause-ok
returns-clause-ok g c =
    let k = c.args.k in
    let m = c.self.inside.pairs in
    let vs = c.args.vs.now in
    let next = c.place_at-first.result in
    let mid = c.place_all.new.self in
    let new = c.remove_from.new.self in
    let h = c.in_ok-place_all.ensures.ok in
    let e = c.remove_from.ensures (h.front ++ h.added) h.back (placed_whole k next vs m mid h, edge_key k next m h.front h.back h.edge) in
    subst (λ rs. IsReplacedInGroup k vs rs new) c.self.view_is (replaced_in_group k vs next m mid new h e)
