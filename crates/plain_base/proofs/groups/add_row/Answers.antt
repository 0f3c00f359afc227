use Rattle.std.proofs.Common.{sym, ap, ◌∙◌, Some}
use Rattle.elem.specs.Keyed.{value_at}
use Rattle.elem.specs.Orders.{natural_before}
use Rattle.elem.specs.OrderLaws.{natural_before_strict}
use Rattle.plain_base.specs.Sorted.{placed}
use Rattle.plain_base.specs.Groups.{rows_in, with_own}
use Rattle.plain_base.proofs.Results.{on_ok}
use Rattle.plain_base.proofs.SortedCuts.{none_of, placed_cut, set_present}
use Rattle.plain_base.proofs.Settling.{some_placed}
use Rattle.plain_base.proofs.groups.add_row.Goals as goal

pub returns-then-contains-clause-ok : goal.returns-then-contains-clause-ok
returns-then-contains-clause-ok g c =
    let gs = c.args.groups.now in
    let k = c.args.k.now in
    let xs = rows_in (value_at gs k) in
    on_ok c.insert_in.result c.insert_in.ensures.ok (λ e. e
    ∙ set_present natural_before_strict k gs (placed natural_before xs c.args.x.now c.args.v) c.len-len.ensures.order (sym c.contains.ensures ∙ c.if-contains.true)
    ∙ ap (λ o. with_own k o gs) (some_placed xs c.args.x.now c.args.v))

pub returns-clause-ok : goal.returns-clause-ok
returns-clause-ok g c =
    let gs = c.args.groups.now in
    let k = c.args.k.now in
    let absent = none_of (value_at gs k) (sym c.contains.ensures ∙ c.if-contains.false) in
    let empty = c.new-group.ensures ∙ sym (ap rows_in absent) in
    let group = c.in_ok-insert.ensures.ok ∙ ap (λ xs. placed natural_before xs c.args.x.now c.args.v) empty in
    on_ok c.insert-2.result c.insert-2.ensures.ok (λ e. e
    ∙ placed_cut natural_before_strict k gs c.insert.new.self c.len-len.ensures.order absent
    ∙ ap (λ w. with_own k (Some w) gs) group
    ∙ ap (λ o. with_own k o gs) (some_placed (rows_in (value_at gs k)) c.args.x.now c.args.v))
