use Rattle.std.proofs.Common.{◌≡◌, [], ◌++◌, refl, ◌∙◌}
use Rattle.slab.specs.Slab.{slab_len}
use Rattle.linked_base.specs.Group.{of_key}
use Rattle.linked_base.proofs.GroupLemmas.{key_beside}
use Rattle.mm_base.specs.PairNodes.{key_at}
use Rattle.mm_base.proofs.MovedPairs.{same_ids, leaving, thread₂, away, joining, moved_pairs}
use Rattle.mm_base.proofs.pair_nodes.move_last.Goals as goal

pub returns-clause-pairs : goal.returns-clause-pairs
returns-clause-pairs c us vs find k here e h =
    let n₀ = c.args.nodes.now in
    let n₁ = c.unlink.new.nodes in
    let n₂ = c.leave.new.nodes in
    let n₃ = c.link_before.new.nodes in
    let n₄ = c.join.new.nodes in
    let q = c.args.place in
    let e₀ = c.args.all.now in
    let e₁ = c.unlink.new.ends in
    let e₃ = c.link_before.new.ends in
    let g₀ = c.args.group.now in
    let g₂ = c.leave.new.group in
    let g₄ = c.join.new.group in
    let r₁ = c.unlink.ensures.rest in
    let r₂ = c.leave.ensures.rest in
    let r₃ = c.link_before.ensures.rest in
    let r₄ = c.join.ensures.rest in
    let fs = of_key (key_at n₀) k us in
    let bs = of_key (key_at n₀) k vs in
    let both = of_key (key_at n₀) k (us ++ vs) in
    let own = leaving n₀ n₁ n₂ n₃ n₄ r₁ r₂ r₃ r₄ e₀ e₁ e₃ g₀ g₂ g₄ find us q vs k h here e in
    let out = thread₂ n₀ n₁ n₂ n₃ n₄ r₁ r₂ r₃ r₄ e₀ e₁ e₃ g₀ g₂ g₄ find us q vs k h here e (c.unlink.ensures.thread us vs h.thread) in
    let apart = away n₀ n₁ n₂ n₃ n₄ r₁ r₂ r₃ r₄ e₀ e₁ e₃ g₀ g₂ g₄ find us q vs k h here e in
    let shrunk = c.leave.ensures.group fs bs own in
    let group = joining n₀ n₁ n₂ n₃ n₄ r₁ r₂ r₃ r₄ e₀ e₁ e₃ g₀ g₂ g₄ find us q vs k h here e (λ p x. c.leave.ensures.others fs bs p own x) shrunk in
    let beside = key_beside (key_at n₀) (us ++ vs) q [] k apart in
    let len : slab_len n₄ ≡ slab_len n₀ = c.join.ensures.len ∙ c.link_before.ensures.len ∙ c.leave.ensures.len ∙ c.unlink.ensures.len in
    moved_pairs n₀ n₁ n₂ n₃ n₄ r₁ r₂ r₃ r₄ e₀ e₁ e₃ g₀ g₂ g₄ find us q vs k h here e (λ p x. c.leave.ensures.others fs bs p own x) shrunk (λ p x. c.join.ensures.others both [] p refl group x) (c.join.ensures.group both [] refl beside group) (c.link_before.ensures.thread (us ++ vs) [] refl apart out) len

pub returns-clause-rows : goal.returns-clause-rows
returns-clause-rows c ps =
    same_ids c.args.nodes.now c.unlink.new.nodes c.leave.new.nodes c.link_before.new.nodes c.join.new.nodes c.unlink.ensures.rest c.leave.ensures.rest c.link_before.ensures.rest c.join.ensures.rest ps
