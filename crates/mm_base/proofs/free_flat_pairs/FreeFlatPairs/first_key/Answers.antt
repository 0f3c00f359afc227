use Rattle.std.proofs.Common.{[], ap, ◌∙◌}
use Rattle.std.specs.HashMap as hash
use Rattle.elem.specs.Elements.{same}
use Rattle.mm_base.specs.PairNodes.{key_of}
use Rattle.mm_base.proofs.HeldPairs.{held}
use Rattle.mm_base.proofs.HeldKeys.{first_key_held}
use Rattle.mm_base.proofs.free_flat_pairs.FreeFlatPairs.first_key.Goals as goal

pub returns : goal.returns
returns c =
    let m = c.self.inside in
    let find = hash.get same m.groups in
    let h = held find c.self.invariant c.self.view_is in
    c.key_at.ensures ∙ ap (key_of m.nodes) (c.next_head.ensures.head [] h.at_places m.all find h.are_pairs h.are_pairs.thread.first) ∙ first_key_held find h
