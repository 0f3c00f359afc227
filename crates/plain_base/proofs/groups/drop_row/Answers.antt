use Rattle.std.proofs.Common.{◌≤◌, sym, ap, ◌∙◌, length, arith}
use Rattle.elem.specs.Keyed.{value_at, without}
use Rattle.elem.specs.OrderLaws.{natural_before_strict}
use Rattle.plain_base.specs.Groups.{rows_in, with_own}
use Rattle.plain_base.proofs.SortedCuts.{remove_cut, set_present}
use Rattle.plain_base.proofs.Settling.{has_group, has_rows, last_gone, more_left}
use Rattle.plain_base.proofs.groups.drop_row.Goals as goal

pub returns-then-count_in-eq1 : goal.returns-then-count_in-eq1
returns-then-count_in-eq1 g c =
    let gs = c.args.groups.now in
    let k = c.args.k.now in
    c.remove.ensures.rows ∙ remove_cut natural_before_strict k gs c.len-len.ensures.order
    ∙ ap (λ o. with_own k o gs) (last_gone (rows_in (value_at gs k)) c.args.x.now c.requires (sym c.count_in.ensures ∙ c.if-count_in-eq1.true))

pub returns-else-count_in-eq1 : goal.returns-else-count_in-eq1
returns-else-count_in-eq1 g c =
    let gs = c.args.groups.now in
    let k = c.args.k.now in
    let x = c.args.x.now in
    let xs = rows_in (value_at gs k) in
    let some : 1 ≤ length xs = has_rows xs x c.requires in
    let counted = c.count_in.ensures in
    let more : 2 ≤ length xs = omega arith in
    c.remove_in.ensures.rows ∙ set_present natural_before_strict k gs (without xs x) c.len-len.ensures.order (has_group gs k x c.requires)
    ∙ ap (λ o. with_own k o gs) (more_left xs x c.requires more)
