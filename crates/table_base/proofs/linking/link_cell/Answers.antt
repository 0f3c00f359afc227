use Rattle.std.proofs.Common.{◌≡◌, ◌+◌, Some, None, sym, ap, ◌∙◌, subst}
use Rattle.std.specs.Option.{option_map}
use Rattle.linked_base.specs.Thread.{head_or}
use Rattle.slab.specs.Slab.{Updates, slab_len}
use Rattle.linked_base.specs.Group.{of_key}
use Rattle.linked_base.proofs.GroupLemmas.{key_beside}
use Rattle.table_base.specs.CellNodes.{key_at, cell}
use Rattle.table_base.specs.declared.sides.Side.TheVariants.{Row, Column}
use Rattle.table_base.proofs.CellSteps.{put_beside, thread₁, row_group₂, column_group₃, put_cells, cell_kept}
use Rattle.table_base.proofs.linking.link_cell.Goals as goal

pub returns-clause-cells : goal.returns-clause-cells
returns-clause-cells c us vs rows columns i last ic er ec h =
    let n₀ = c.args.nodes.now in
    let n₁ = c.insert_reserved-place.new.self in
    let n₂ = c.link_before.new.nodes in
    let n₃ = c.join.new.nodes in
    let n₄ = c.join-2.new.nodes in
    let q = c.insert_reserved-place.result in
    let rk = c.args.r.now in
    let ck = c.args.c.now in
    let v = c.args.v.now in
    let e₀ = c.args.all.now in
    let e₂ = c.link_before.new.ends in
    let r₀ = c.args.in_row.now in
    let r₃ = c.join.new.group in
    let c₀ = c.args.in_column.now in
    let c₄ = c.join-2.new.group in
    let vacant = c.insert_reserved-place.ensures.was_vacant in
    let updates = subst (λ x. Updates n₀ n₁ q (Some x)) c.new_node-node.ensures c.insert_reserved-place.ensures.updates in
    let l₂ = c.link_before.ensures.rest in
    let l₃ = c.join.ensures.rest in
    let l₄ = c.join-2.ensures.rest in
    let a = put_beside n₀ n₁ n₂ n₃ n₄ e₀ e₂ r₀ r₃ c₀ c₄ rows columns us q vs rk ck v h vacant updates l₂ l₃ l₄ in
    let t = c.link_before.ensures.thread us vs i a (thread₁ n₀ n₁ n₂ n₃ n₄ e₀ e₂ r₀ r₃ c₀ c₄ rows columns us q vs rk ck v h vacant updates l₂ l₃ l₄) in
    let own_row = row_group₂ n₀ n₁ n₂ n₃ n₄ e₀ e₂ r₀ r₃ c₀ c₄ rows columns us q vs rk ck v h vacant updates l₂ l₃ l₄ er in
    let own_column = column_group₃ n₀ n₁ n₂ n₃ n₄ e₀ e₂ r₀ r₃ c₀ c₄ rows columns us q vs rk ck v h vacant updates l₂ l₃ l₄ ec in
    let ru = of_key (key_at Row n₀) rk us in
    let rv = of_key (key_at Row n₀) rk vs in
    let cu = of_key (key_at Column n₀) ck us in
    let cv = of_key (key_at Column n₀) ck vs in
    let ir = sym (ap (head_or None) last) in
    let len : slab_len n₄ ≡ slab_len n₀ + 1 = c.join-2.ensures.len ∙ c.join.ensures.len ∙ c.link_before.ensures.len ∙ c.insert_reserved-place.ensures.len in
    put_cells n₀ n₁ n₂ n₃ n₄ e₀ e₂ r₀ r₃ c₀ c₄ rows columns us q vs rk ck v h vacant updates l₂ l₃ l₄ er ec t
    (λ p x. c.join.ensures.others ru rv p ir own_row x) (c.join.ensures.group ru rv ir (key_beside (key_at Row n₀) us q vs rk a) own_row)
    (λ p x. c.join-2.ensures.others cu cv p ic own_column x) (c.join-2.ensures.group cu cv ic (key_beside (key_at Column n₀) us q vs ck a) own_column) len

pub returns-clause-here : goal.returns-clause-here
returns-clause-here c s =
    let n₁ = c.insert_reserved-place.new.self in
    let q = c.insert_reserved-place.result in
    let updates = subst (λ x. Updates c.args.nodes.now n₁ q (Some x)) c.new_node-node.ensures c.insert_reserved-place.ensures.updates in
    cell_kept n₁ c.link_before.new.nodes c.join.new.nodes c.join-2.new.nodes c.link_before.ensures.rest c.join.ensures.rest c.join-2.ensures.rest s q ∙ ap (option_map (cell s)) updates.changed

pub returns-clause-others : goal.returns-clause-others
returns-clause-others c s p d =
    let n₁ = c.insert_reserved-place.new.self in
    cell_kept n₁ c.link_before.new.nodes c.join.new.nodes c.join-2.new.nodes c.link_before.ensures.rest c.join.ensures.rest c.join-2.ensures.rest s p ∙ ap (option_map (cell s)) (c.insert_reserved-place.ensures.updates.others p d)
