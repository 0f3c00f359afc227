use Rattle.std.proofs.Common.{None, sym, ap, ◌∙◌}
use Rattle.elem.specs.Rows.{last_key}
use Rattle.mm_base.specs.PairRows.{first_pairs}
use Rattle.mm_base.proofs.ReplacingLemmas.{last_is_live}
use Rattle.mm_base.proofs.GroupedKeys.{key_at_id, last_key_by_id}
use Rattle.mm_base.proofs.grouped_lists.GroupedLists.last_key.Goals as goal

pub key_of-requires : goal.key_of-requires
key_of-requires g c p e = last_is_live None c.self.inside.pairs p (λ f. cc) (sym c.last_place-place.ensures.place ∙ e)

pub returns-clause-key : goal.returns-clause-key
returns-clause-key g c =
    let m = c.self.inside.pairs in
    c.key_of.ensures ∙ ap (λ o. key_at_id o m) c.last_place-place.ensures.place ∙ last_key_by_id m c.self.invariant c.last_place-place.ensures.distinct ∙ ap (λ rs. last_key (first_pairs rs)) c.self.view_is
