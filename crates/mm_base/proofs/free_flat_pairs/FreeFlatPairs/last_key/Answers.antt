use Rattle.std.proofs.Common.{[], sym, ap, ◌∙◌, subst, append-nil}
use Rattle.std.specs.HashMap as hash
use Rattle.elem.specs.Elements.{same}
use Rattle.mm_base.specs.PairNodes.{key_of, ArePairs}
use Rattle.mm_base.proofs.HeldPairs.{held}
use Rattle.mm_base.proofs.HeldKeys.{last_key_held}
use Rattle.mm_base.proofs.free_flat_pairs.FreeFlatPairs.last_key.Goals as goal

pub returns : goal.returns
returns c =
    let m = c.self.inside in
    let find = hash.get same m.groups in
    let h = held find c.self.invariant c.self.view_is in
    let whole = subst (ArePairs m.nodes m.all find) (sym (append-nil h.at_places)) h.are_pairs in
    c.key_at.ensures ∙ ap (key_of m.nodes) (c.previous_head.ensures.head h.at_places [] m.all find whole h.are_pairs.thread.last) ∙ last_key_held find h
