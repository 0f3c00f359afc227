use Rattle.std.proofs.Common.{sym, ap, ◌∙◌, subst}
use Rattle.std.specs.Prelude.{IsSome, nat_eq}
use Rattle.std.specs.Map.{lookup}
use Rattle.std.specs.HashMap as hash
use Rattle.elem.specs.Elements.{same}
use Rattle.elem.specs.Rows.{key_after}
use Rattle.mm_base.proofs.HeldPairs.{held, node_held, after_held}
use Rattle.mm_base.proofs.free_flat_pairs.FreeFlatPairs.after_pair.Goals as goal

pub index-requires : goal.index-requires
index-requires c =
    let find = hash.get same c.self.inside.groups in
    let h = held find c.self.invariant c.self.view_is in
    let q = c.place_of.result in
    let s = subst (λ x. IsSome (lookup (nat_eq x) c.args.self.now)) (sym c.place_of.ensures) c.requires in
    node_held find h q s

pub returns : goal.returns
returns c =
    let find = hash.get same c.self.inside.groups in
    let h = held find c.self.invariant c.self.view_is in
    let q = c.place_of.result in
    let s = subst (λ x. IsSome (lookup (nat_eq x) c.args.self.now)) (sym c.place_of.ensures) c.requires in
    c.some_id.ensures ∙ after_held find h q s c.index.result.now c.index.ensures ∙ ap (λ x. key_after (nat_eq x) c.args.self.now) c.place_of.ensures
