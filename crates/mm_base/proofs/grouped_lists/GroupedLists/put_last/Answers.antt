use Rattle.mm_base.proofs.Results.{on_ok_map, either_way}
use Rattle.std.proofs.Common.{◌≤◌, arith, sym, subst}
use Rattle.mm_base.specs.PairRows.{HasDistinctIds, count_of}
use Rattle.mm_base.specs.GroupedRows.{IsGrouped, IsPutInGroup, IsSplit}
use Rattle.mm_base.proofs.GroupedSteps.{next_live, next_in_key, put_after, put_grouped}
use Rattle.mm_base.proofs.grouped_lists.GroupedLists.put_last.Goals as goal

pub link-requires-clause-next : goal.link-requires-clause-next
link-requires-clause-next c = next_live c.args.k.now c.self.inside.pairs c.self.invariant (subst HasDistinctIds (sym c.self.view_is) c.after_group-next.ensures.distinct) c.after_group-next.result (λ us vs s. c.after_group-next.ensures.next us vs (subst (λ rs. IsSplit c.args.k.now rs us vs) c.self.view_is s))

pub link-requires-clause-in_key : goal.link-requires-clause-in_key
link-requires-clause-in_key c = next_in_key c.args.k.now c.self.inside.pairs c.self.invariant (subst HasDistinctIds (sym c.self.view_is) c.after_group-next.ensures.distinct) c.after_group-next.result (λ us vs s. c.after_group-next.ensures.next us vs (subst (λ rs. IsSplit c.args.k.now rs us vs) c.self.view_is s))

pub invariant_of-self : goal.invariant_of-self
invariant_of-self c =
    let m = c.self.inside.pairs in
    let k = c.args.k.now in
    let v = c.args.v.now in
    let new = c.link.new.self in
    let all : count_of k m ≤ count_of k m = omega arith in
    either_way c.link.result c.link.ensures.ok c.link.ensures.err
    (λ p. put_grouped k m c.self.invariant (count_of k m) all v new (put_after k m c.self.invariant (subst HasDistinctIds (sym c.self.view_is) c.after_group-next.ensures.distinct) c.after_group-next.result (λ us vs s. c.after_group-next.ensures.next us vs (subst (λ rs. IsSplit c.args.k.now rs us vs) c.self.view_is s)) v new p))
    (λ e. subst IsGrouped (sym e) c.self.invariant)

pub returns-clause-ok : goal.returns-clause-ok
returns-clause-ok c =
    let m = c.self.inside.pairs in
    let k = c.args.k.now in
    let v = c.args.v.now in
    let new = c.link.new.self in
    on_ok_map c.link.result (λ p. subst (λ rs. IsPutInGroup (count_of k rs) k v rs new) c.self.view_is (put_after k m c.self.invariant (subst HasDistinctIds (sym c.self.view_is) c.after_group-next.ensures.distinct) c.after_group-next.result (λ us vs s. c.after_group-next.ensures.next us vs (subst (λ rs. IsSplit c.args.k.now rs us vs) c.self.view_is s)) v new p)) c.link.ensures.ok
