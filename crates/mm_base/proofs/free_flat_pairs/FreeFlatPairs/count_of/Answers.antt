use Rattle.std.proofs.Common.{ap, ◌∙◌}
use Rattle.std.specs.HashMap as hash
use Rattle.elem.specs.Elements.{same}
use Rattle.linked_base.specs.declared.group.Group.{Group}
use Rattle.mm_base.proofs.HeldPairs.{held, count_held}
use Rattle.mm_base.proofs.free_flat_pairs.FreeFlatPairs.count_of.Goals as goal

pub returns : goal.returns
returns c = let find = hash.get same c.self.inside.groups in ap (λ (g : Group). g.count) c.group_of.ensures ∙ count_held find (held find c.self.invariant c.self.view_is) c.args.k
