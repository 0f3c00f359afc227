use Rattle.std.proofs.Common.{◌∷◌, sym, ap, ◌∙◌, subst}
use Rattle.std.specs.Prelude.{IsSome}
use Rattle.std.specs.HashMap as hash
use Rattle.elem.specs.Elements.{same}
use Rattle.linked_base.specs.declared.links.Links.{Links}
use Rattle.mm_base.specs.PairNodes.{key_of}
use Rattle.mm_base.proofs.PairRowsLemmas.{id_some, nth_is_live}
use Rattle.mm_base.proofs.HeldPairs.{held, node_held}
use Rattle.mm_base.proofs.HeldKeys.{first_place, links_cut}
use Rattle.mm_base.proofs.free_flat_pairs.FreeFlatPairs.before_key.Goals as goal

pub unwrap-place-requires : goal.unwrap-place-requires
unwrap-place-requires c = subst IsSome (sym c.place_at.ensures.place) (id_some c.args.k c.args.self.now 0 c.requires)

pub index-requires : goal.index-requires
index-requires c =
    let find = hash.get same c.self.inside.groups in
    let e = sym c.place_at.ensures.place ∙ c.unwrap-place.ensures in
    node_held find (held find c.self.invariant c.self.view_is) c.unwrap-place.result (nth_is_live c.args.k c.args.self.now 0 c.unwrap-place.result e)

pub returns : goal.returns
returns c =
    let m = c.self.inside in
    let find = hash.get same m.groups in
    let h = held find c.self.invariant c.self.view_is in
    let q = c.unwrap-place.result in
    let d = first_place find h c.args.k q (sym c.place_at.ensures.place ∙ c.unwrap-place.ensures) in
    let us = d.0 in
    let vs = d.1 in
    let links = links_cut m.nodes m.all find us q vs d.2.pairs c.index.result.now c.index.ensures in
    c.key_at.ensures ∙ ap (key_of m.nodes) (c.previous_head.ensures.head us (q ∷ vs) m.all find d.2.pairs (ap (λ (l : Links). l.previous) links)) ∙ d.2.before
