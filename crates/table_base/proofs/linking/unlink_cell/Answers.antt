use Rattle.std.proofs.Common.{◌≡◌, ◌+◌, ap, ◌∙◌}
use Rattle.std.specs.Option.{option_map}
use Rattle.slab.specs.Slab.{slab_len}
use Rattle.linked_base.specs.Group.{of_key}
use Rattle.table_base.specs.CellNodes.{key_at, cell}
use Rattle.table_base.specs.declared.sides.Side.TheVariants.{Row, Column}
use Rattle.table_base.proofs.CellSteps.{row_group₁, column_group₂, take_cells, cell_kept}
use Rattle.table_base.proofs.linking.unlink_cell.Goals as goal

pub returns-clause-cells : goal.returns-clause-cells
returns-clause-cells c us vs rows columns r k here_r here_c er ec h =
    let n₀ = c.args.nodes.now in
    let n₁ = c.unlink.new.nodes in
    let n₂ = c.leave.new.nodes in
    let n₃ = c.leave-2.new.nodes in
    let n₄ = c.remove.new.self in
    let q = c.args.place in
    let e₀ = c.args.all.now in
    let e₁ = c.unlink.new.ends in
    let r₀ = c.args.in_row.now in
    let r₂ = c.leave.new.group in
    let c₀ = c.args.in_column.now in
    let c₃ = c.leave-2.new.group in
    let l₁ = c.unlink.ensures.rest in
    let l₂ = c.leave.ensures.rest in
    let l₃ = c.leave-2.ensures.rest in
    let own_row = row_group₁ n₀ n₁ n₂ n₃ n₄ e₀ e₁ r₀ r₂ c₀ c₃ rows columns us q vs h l₁ l₂ l₃ r here_r er in
    let own_column = column_group₂ n₀ n₁ n₂ n₃ n₄ e₀ e₁ r₀ r₂ c₀ c₃ rows columns us q vs h l₁ l₂ l₃ k here_c ec in
    let ru = of_key (key_at Row n₀) r us in
    let rv = of_key (key_at Row n₀) r vs in
    let cu = of_key (key_at Column n₀) k us in
    let cv = of_key (key_at Column n₀) k vs in
    let len : slab_len n₄ + 1 ≡ slab_len n₀ = c.remove.ensures.len ∙ c.leave-2.ensures.len ∙ c.leave.ensures.len ∙ c.unlink.ensures.len in
    take_cells n₀ n₁ n₂ n₃ n₄ e₀ e₁ r₀ r₂ c₀ c₃ rows columns us q vs h l₁ l₂ l₃ c.remove.ensures.updates r k here_r here_c er ec (c.unlink.ensures.thread us vs h.thread)
    (λ p x. c.leave.ensures.others ru rv p own_row x) (c.leave.ensures.group ru rv own_row) (λ p x. c.leave-2.ensures.others cu cv p own_column x) (c.leave-2.ensures.group cu cv own_column) len

pub returns-clause-others : goal.returns-clause-others
returns-clause-others c s p d =
    ap (option_map (cell s)) (c.remove.ensures.updates.others p d) ∙ cell_kept c.args.nodes.now c.unlink.new.nodes c.leave.new.nodes c.leave-2.new.nodes c.unlink.ensures.rest c.leave.ensures.rest c.leave-2.ensures.rest s p
