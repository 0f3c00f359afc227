use Rattle.std.proofs.Common.{◌<◌, sym, ap, ◌∙◌, subst}
use Rattle.elem.specs.Elements.{same}
use Rattle.elem.specs.Rows.{key_after}
use Rattle.mm_base.specs.PairRows.{HasDistinctIds, first_pairs, count_of}
use Rattle.mm_base.specs.GroupedRows.{IsSplit}
use Rattle.mm_base.proofs.GroupedLemmas.{split}
use Rattle.mm_base.proofs.GroupedKeys.{after_by_id}
use Rattle.mm_base.proofs.GroupedSteps.{next_live}
use Rattle.mm_base.proofs.grouped_lists.GroupedLists.after_key.Goals as goal

pub key_of-requires : goal.key_of-requires
key_of-requires g c = next_live c.args.k c.self.inside.pairs c.self.invariant (subst HasDistinctIds (sym c.self.view_is) c.after_group-place.ensures.distinct) c.after_group-place.result (λ us vs s. c.after_group-place.ensures.next us vs (subst (λ rs. IsSplit c.args.k rs us vs) c.self.view_is s))

pub returns-clause-key : goal.returns-clause-key
returns-clause-key g c =
    let k = c.args.k in
    let m = c.self.inside.pairs in
    let s = split k m c.self.invariant in
    let some = subst (λ rs. 0 < count_of k rs) (sym c.self.view_is) c.requires in
    c.key_of.ensures ∙ after_by_id k m s.0 s.1 s.2 c.self.invariant (subst HasDistinctIds (sym c.self.view_is) c.after_group-place.ensures.distinct) some c.after_group-place.result (c.after_group-place.ensures.next s.0 s.1 (subst (λ rs. IsSplit k rs s.0 s.1) c.self.view_is s.2))
    ∙ ap (λ rs. key_after (same k) (first_pairs rs)) c.self.view_is
