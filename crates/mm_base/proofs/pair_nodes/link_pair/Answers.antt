use Rattle.std.proofs.Common.{◌≡◌, ◌+◌, Some, ◌∙◌, subst}
use Rattle.slab.specs.Slab.{Updates, slab_len}
use Rattle.linked_base.specs.Group.{of_key}
use Rattle.linked_base.proofs.GroupLemmas.{key_beside}
use Rattle.mm_base.specs.PairNodes.{key_at}
use Rattle.mm_base.proofs.PairsSteps.{put_beside, thread₁, group₂, put_pairs, put_rows}
use Rattle.mm_base.proofs.pair_nodes.link_pair.Goals as goal

pub returns-clause-pairs : goal.returns-clause-pairs
returns-clause-pairs c us vs find i j e h =
    let n₀ = c.args.nodes.now in
    let n₁ = c.insert_reserved-place.new.self in
    let n₂ = c.link_before.new.nodes in
    let n₃ = c.join.new.nodes in
    let q = c.insert_reserved-place.result in
    let k = c.args.k.now in
    let v = c.args.v.now in
    let e₀ = c.args.all.now in
    let e₂ = c.link_before.new.ends in
    let g₀ = c.args.group.now in
    let g₃ = c.join.new.group in
    let vacant = c.insert_reserved-place.ensures.was_vacant in
    let updates = subst (λ x. Updates n₀ n₁ q (Some x)) c.new_node-node.ensures c.insert_reserved-place.ensures.updates in
    let a = put_beside n₀ n₁ n₂ n₃ e₀ e₂ g₀ g₃ find us q vs k v h vacant updates in
    let t = c.link_before.ensures.thread us vs i a (thread₁ n₀ n₁ n₂ n₃ e₀ e₂ g₀ g₃ find us q vs k v h vacant updates) in
    let own = group₂ n₀ n₁ n₂ n₃ e₀ e₂ g₀ g₃ find us q vs k v h vacant updates c.link_before.ensures.rest e in
    let fs = of_key (key_at n₀) k us in
    let bs = of_key (key_at n₀) k vs in
    let b = key_beside (key_at n₀) us q vs k a in
    let len : slab_len n₃ ≡ slab_len n₀ + 1 = c.join.ensures.len ∙ c.link_before.ensures.len ∙ c.insert_reserved-place.ensures.len in
    put_pairs n₀ n₁ n₂ n₃ e₀ e₂ g₀ g₃ find us q vs k v h vacant updates c.link_before.ensures.rest c.join.ensures.rest e t (λ p x. c.join.ensures.others fs bs p j own x) (c.join.ensures.group fs bs j b own) len

pub returns-clause-rows : goal.returns-clause-rows
returns-clause-rows c us vs find h =
    let n₀ = c.args.nodes.now in
    let n₁ = c.insert_reserved-place.new.self in
    let q = c.insert_reserved-place.result in
    let updates = subst (λ x. Updates n₀ n₁ q (Some x)) c.new_node-node.ensures c.insert_reserved-place.ensures.updates in
    put_rows n₀ n₁ c.link_before.new.nodes c.join.new.nodes c.args.all.now c.link_before.new.ends c.args.group.now c.join.new.group find us q vs c.args.k.now c.args.v.now h c.insert_reserved-place.ensures.was_vacant updates c.link_before.ensures.rest c.join.ensures.rest
