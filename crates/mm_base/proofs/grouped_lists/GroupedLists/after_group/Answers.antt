use Rattle.std.proofs.Common.{sym, ap, ◌∙◌, subst}
use Rattle.elem.specs.Rows.{first_key}
use Rattle.mm_base.specs.GroupedRows.{IsSplit}
use Rattle.mm_base.specs.PairRows.{pairs_of_key}
use Rattle.mm_base.proofs.GroupedKeys.{after_last, no_last_row}
use Rattle.mm_base.proofs.GroupedSteps.{last_live}
use Rattle.mm_base.proofs.grouped_lists.GroupedLists.after_group.Goals as goal

pub next_place-requires : goal.next_place-requires
next_place-requires c = last_live c.args.k.now c.self.inside.pairs c.in-Some.last (sym c.last_in_key.ensures.place ∙ c.in-Some.is)

pub returns-in-None-clause-next : goal.returns-in-None-clause-next
returns-in-None-clause-next c us vs s =
    let k = c.args.k.now in
    let m = c.self.inside.pairs in
    let t = subst (λ rs. IsSplit k rs us vs) (sym c.self.view_is) s in
    sym (ap first_key (t.absent (no_last_row (pairs_of_key k m) (sym c.last_in_key.ensures.place ∙ c.in-None.is))))

pub returns-in-Some-clause-next : goal.returns-in-Some-clause-next
returns-in-Some-clause-next c us vs s =
    let k = c.args.k.now in
    let m = c.self.inside.pairs in
    let t = subst (λ rs. IsSplit k rs us vs) (sym c.self.view_is) s in
    c.next_place.ensures ∙ after_last k m us vs t c.self.invariant c.last_in_key.ensures.distinct c.in-Some.last (sym c.last_in_key.ensures.place ∙ c.in-Some.is)
