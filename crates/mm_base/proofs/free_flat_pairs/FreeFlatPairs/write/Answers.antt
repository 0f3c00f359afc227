use Rattle.std.proofs.Common.{refl, sym, ap, ◌∙◌}
use Rattle.std.specs.Prelude.{nat_eq}
use Rattle.std.specs.Map.{set_value}
use Rattle.std.specs.HashMap as hash
use Rattle.elem.specs.Elements.{same}
use Rattle.mm_base.proofs.PairsReads.{key_same, value_same}
use Rattle.mm_base.proofs.HeldPairs.{held, still_holds, shows, node_held, value_held, written_held}
use Rattle.mm_base.proofs.free_flat_pairs.FreeFlatPairs.write.Goals as goal

pub index-requires : goal.index-requires
index-requires c =
    let find = hash.get same c.self.inside.groups in
    node_held find (held find c.self.invariant c.self.view_is) c.args.place c.requires

pub invariant_of-self : goal.invariant_of-self
invariant_of-self c =
    let find = hash.get same c.self.inside.groups in
    let h = held find c.self.invariant c.self.view_is in
    still_holds find (written_held find h c.args.place c.requires c.index.result.now c.index.ensures c.write_value.new.nodes c.args.v.now c.write_value.ensures.nodes c.write_value.ensures.len) find (λ k. refl)

pub returns-clause-value : goal.returns-clause-value
returns-clause-value c k w e =
    let find = hash.get same c.self.inside.groups in
    let n = c.index.result.now in
    value_same n.key n.value k w (sym (value_held find (held find c.self.invariant c.self.view_is) c.args.place c.requires n c.index.ensures) ∙ e)

pub returns-clause-rows : goal.returns-clause-rows
returns-clause-rows c k w e =
    let find = hash.get same c.self.inside.groups in
    let h = held find c.self.invariant c.self.view_is in
    let n = c.index.result.now in
    let own = key_same n.key n.value k w (sym (value_held find h c.args.place c.requires n c.index.ensures) ∙ e) in
    shows find (written_held find h c.args.place c.requires n c.index.ensures c.write_value.new.nodes c.args.v.now c.write_value.ensures.nodes c.write_value.ensures.len) ∙ ap (λ x. set_value (nat_eq c.args.place) c.args.self.now (x, c.args.v.now)) own
