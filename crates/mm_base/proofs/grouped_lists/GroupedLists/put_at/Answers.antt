use Rattle.std.proofs.Common.{◌≤◌, Some, sym, ap, ◌∙◌, subst}
use Rattle.mm_base.specs.PairRows.{id_of, count_of}
use Rattle.mm_base.specs.GroupedRows.{IsGrouped, IsPutInGroup}
use Rattle.mm_base.proofs.PairRowsLemmas.{nth_is_live, nth_spot}
use Rattle.mm_base.proofs.Results.{on_ok_map, either_way}
use Rattle.mm_base.proofs.GroupedSteps.{put_before_nth, put_grouped, all_passed}
use Rattle.mm_base.proofs.grouped_lists.GroupedLists.put_at.Goals as goal

pub link-requires-clause-next : goal.link-requires-clause-next
link-requires-clause-next g c q e = nth_is_live c.args.k c.self.inside.pairs c.args.i q (sym c.place_at.ensures.place ∙ c.in-Some.is ∙ e)

pub link-requires-clause-in_key : goal.link-requires-clause-in_key
link-requires-clause-in_key g c = nth_spot c.args.k c.self.inside.pairs c.args.i (Some c.in-Some.next) (sym c.place_at.ensures.place ∙ c.in-Some.is) c.place_at.ensures.distinct

pub invariant_of-self : goal.invariant_of-self
invariant_of-self g c =
    let k = c.args.k in
    let i = c.args.i in
    let v = c.args.v in
    let m = c.self.inside.pairs in
    let new = c.link.new.self in
    let bound = subst (λ rs. i ≤ count_of k rs) (sym c.self.view_is) c.requires in
    let e = sym c.place_at.ensures.place ∙ c.in-Some.is in
    either_way c.link.result c.link.ensures.ok c.link.ensures.err (λ p. put_grouped k m c.self.invariant i bound v new (put_before_nth k m c.self.invariant c.place_at.ensures.distinct i c.in-Some.next e v new p)) (λ f. subst IsGrouped (sym f) c.self.invariant)

pub returns-in-None-clause-ok : goal.returns-in-None-clause-ok
returns-in-None-clause-ok g c =
    let k = c.args.k in
    let i = c.args.i in
    let now = c.args.self.now in
    let none = ap (id_of k i) (sym c.self.view_is) ∙ sym c.place_at.ensures.place ∙ c.in-None.is in
    on_ok_map c.put_last.result (λ p. subst (λ n. IsPutInGroup n k c.args.v now c.put_last.new.self) (all_passed k now i none c.requires) p) c.put_last.ensures.ok

pub returns-in-Some-clause-ok : goal.returns-in-Some-clause-ok
returns-in-Some-clause-ok g c =
    let k = c.args.k in
    let i = c.args.i in
    let v = c.args.v in
    let m = c.self.inside.pairs in
    let new = c.link.new.self in
    let e = sym c.place_at.ensures.place ∙ c.in-Some.is in
    on_ok_map c.link.result (λ p. subst (λ rs. IsPutInGroup i k v rs new) c.self.view_is (put_before_nth k m c.self.invariant c.place_at.ensures.distinct i c.in-Some.next e v new p)) c.link.ensures.ok
