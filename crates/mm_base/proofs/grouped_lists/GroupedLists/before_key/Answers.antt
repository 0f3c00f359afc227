use Rattle.std.proofs.Common.{◌<◌, sym, ap, ◌∙◌, subst}
use Rattle.std.specs.Prelude.{IsSome}
use Rattle.elem.specs.Elements.{same}
use Rattle.elem.specs.Rows.{key_before}
use Rattle.mm_base.specs.PairRows.{first_pairs, count_of}
use Rattle.mm_base.proofs.PairRowsLemmas.{id_some, nth_is_live, first_id_of}
use Rattle.mm_base.proofs.GroupedLemmas.{split}
use Rattle.mm_base.proofs.GroupedKeys.{before_first, before_by_id}
use Rattle.mm_base.proofs.GroupedSteps.{front_live}
use Rattle.mm_base.proofs.grouped_lists.GroupedLists.before_key.Goals as goal

pub unwrap-first-requires : goal.unwrap-first-requires
unwrap-first-requires g c =
    let k = c.args.k in
    subst IsSome (sym c.place_at.ensures.place) (id_some k c.self.inside.pairs 0 (subst (λ rs. 0 < count_of k rs) (sym c.self.view_is) c.requires))

pub previous_place-place-requires : goal.previous_place-place-requires
previous_place-place-requires g c = nth_is_live c.args.k c.self.inside.pairs 0 c.unwrap-first.result (sym c.place_at.ensures.place ∙ c.unwrap-first.ensures)

pub key_of-requires : goal.key_of-requires
key_of-requires g c p e =
    let k = c.args.k in
    let m = c.self.inside.pairs in
    let s = split k m c.self.invariant in
    let some = subst (λ rs. 0 < count_of k rs) (sym c.self.view_is) c.requires in
    let first = sym (first_id_of k m) ∙ sym c.place_at.ensures.place ∙ c.unwrap-first.ensures in
    let before = c.previous_place-place.ensures ∙ before_first k m s.0 s.1 s.2 c.self.invariant c.place_at.ensures.distinct some c.unwrap-first.result first in
    front_live k m s.0 s.1 s.2 p (sym before ∙ e)

pub returns-clause-key : goal.returns-clause-key
returns-clause-key g c =
    let k = c.args.k in
    let m = c.self.inside.pairs in
    let s = split k m c.self.invariant in
    let some = subst (λ rs. 0 < count_of k rs) (sym c.self.view_is) c.requires in
    let first = sym (first_id_of k m) ∙ sym c.place_at.ensures.place ∙ c.unwrap-first.ensures in
    let before = c.previous_place-place.ensures ∙ before_first k m s.0 s.1 s.2 c.self.invariant c.place_at.ensures.distinct some c.unwrap-first.result first in
    c.key_of.ensures ∙ before_by_id k m s.0 s.1 s.2 c.self.invariant c.place_at.ensures.distinct some c.previous_place-place.result before
    ∙ ap (λ rs. key_before (same k) (first_pairs rs)) c.self.view_is
