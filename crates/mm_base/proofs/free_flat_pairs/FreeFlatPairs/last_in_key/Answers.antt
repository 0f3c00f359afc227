use Rattle.std.proofs.Common.{ap, ◌∙◌}
use Rattle.std.specs.HashMap as hash
use Rattle.elem.specs.Elements.{same}
use Rattle.linked_base.specs.declared.group.Group.{Group}
use Rattle.mm_base.proofs.HeldPairs.{held, distinct_held}
use Rattle.mm_base.proofs.HeldEnds.{last_of_key}
use Rattle.mm_base.proofs.free_flat_pairs.FreeFlatPairs.last_in_key.Goals as goal

pub returns-clause-place : goal.returns-clause-place
returns-clause-place c =
    let find = hash.get same c.self.inside.groups in
    ap (λ (g : Group). g.ends.last) c.group_of.ensures ∙ last_of_key find (held find c.self.invariant c.self.view_is) c.args.k.now

pub returns-clause-distinct : goal.returns-clause-distinct
returns-clause-distinct c = let find = hash.get same c.self.inside.groups in distinct_held find (held find c.self.invariant c.self.view_is)
