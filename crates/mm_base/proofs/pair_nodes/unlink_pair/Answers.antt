use Rattle.std.proofs.Common.{◌≡◌, ◌+◌, ◌∙◌}
use Rattle.slab.specs.Slab.{slab_len}
use Rattle.linked_base.specs.Group.{of_key}
use Rattle.mm_base.specs.PairNodes.{key_at}
use Rattle.mm_base.proofs.PairsSteps.{group₁, take_pairs, take_rows}
use Rattle.mm_base.proofs.pair_nodes.unlink_pair.Goals as goal

pub returns-clause-pairs : goal.returns-clause-pairs
returns-clause-pairs c us vs find k here e h =
    let n₀ = c.args.nodes.now in
    let n₁ = c.unlink.new.nodes in
    let n₂ = c.leave.new.nodes in
    let n₃ = c.remove.new.self in
    let q = c.args.place in
    let e₀ = c.args.all.now in
    let e₁ = c.unlink.new.ends in
    let g₀ = c.args.group.now in
    let g₂ = c.leave.new.group in
    let fs = of_key (key_at n₀) k us in
    let bs = of_key (key_at n₀) k vs in
    let own = group₁ n₀ n₁ n₂ n₃ e₀ e₁ g₀ g₂ find us q vs h c.unlink.ensures.rest k here e in
    let len : slab_len n₃ + 1 ≡ slab_len n₀ = c.remove.ensures.len ∙ c.leave.ensures.len ∙ c.unlink.ensures.len in
    take_pairs n₀ n₁ n₂ n₃ e₀ e₁ g₀ g₂ find us q vs h c.unlink.ensures.rest c.leave.ensures.rest c.remove.ensures.updates k here e (c.unlink.ensures.thread us vs h.thread) (λ p x. c.leave.ensures.others fs bs p own x) (c.leave.ensures.group fs bs own) len

pub returns-clause-rows : goal.returns-clause-rows
returns-clause-rows c us vs find h =
    take_rows c.args.nodes.now c.unlink.new.nodes c.leave.new.nodes c.remove.new.self c.args.all.now c.unlink.new.ends c.args.group.now c.leave.new.group find us c.args.place vs h c.unlink.ensures.rest c.leave.ensures.rest c.remove.ensures.updates
