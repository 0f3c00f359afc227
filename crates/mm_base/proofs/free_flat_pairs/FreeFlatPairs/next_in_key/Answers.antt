use Rattle.std.proofs.Common.{sym, ap, ◌∙◌}
use Rattle.std.specs.Prelude.{nat_eq}
use Rattle.std.specs.HashMap as hash
use Rattle.elem.specs.Elements.{same}
use Rattle.elem.specs.Rows.{key_after}
use Rattle.mm_base.specs.PairRows.{rows_beside}
use Rattle.mm_base.proofs.HeldPairs.{held, distinct_held, node_held, value_held, after_in_key_held}
use Rattle.mm_base.proofs.free_flat_pairs.FreeFlatPairs.next_in_key.Goals as goal

pub index-requires : goal.index-requires
index-requires c =
    let find = hash.get same c.self.inside.groups in
    node_held find (held find c.self.invariant c.self.view_is) c.args.place c.requires

pub returns-clause-place : goal.returns-clause-place
returns-clause-place c =
    let find = hash.get same c.self.inside.groups in
    let h = held find c.self.invariant c.self.view_is in
    let n = c.index.result.now in
    let pair = value_held find h c.args.place c.requires n c.index.ensures in
    after_in_key_held find h c.args.place c.requires n c.index.ensures n.key n.value pair ∙ ap (λ o. key_after (nat_eq c.args.place) (rows_beside o c.args.self.now)) (sym pair)

pub returns-clause-distinct : goal.returns-clause-distinct
returns-clause-distinct c = let find = hash.get same c.self.inside.groups in distinct_held find (held find c.self.invariant c.self.view_is)
