use Rattle.std.proofs.Common.{◌≤◌, sym, ap, ◌∙◌, length, arith}
use Rattle.elem.specs.Keyed.{value_at}
use Rattle.elem.specs.OrderLaws.{natural_before_strict}
use Rattle.plain_base.specs.Groups.{with_own}
use Rattle.plain_base.proofs.Results.{on_ok}
use Rattle.plain_base.proofs.SortedCuts.{none_of, remove_cut, placed_cut, set_present}
use Rattle.plain_base.proofs.Settling.{none_there, some_there}
use Rattle.plain_base.proofs.groups.put_rows.Goals as goal

pub returns-then-len-eq0-clause-ok : goal.returns-then-len-eq0-clause-ok
returns-then-len-eq0-clause-ok g c =
    let gs = c.args.groups.now in
    let k = c.args.k.now in
    c.remove.ensures.rows ∙ remove_cut natural_before_strict k gs c.len-len.ensures.order
    ∙ ap (λ o. with_own k o gs) (none_there c.args.rows (sym c.len.ensures.len ∙ c.if-len-eq0.true))

pub returns-then-contains-clause-ok : goal.returns-then-contains-clause-ok
returns-then-contains-clause-ok g c =
    let gs = c.args.groups.now in
    let k = c.args.k.now in
    let counted = c.len.ensures.len in
    let some : 1 ≤ length c.args.rows = omega arith in
    c.replace.ensures.rows ∙ set_present natural_before_strict k gs c.args.rows c.len-len.ensures.order (sym c.contains.ensures ∙ c.if-contains.true)
    ∙ ap (λ o. with_own k o gs) (some_there c.args.rows some)

pub returns-clause-ok : goal.returns-clause-ok
returns-clause-ok g c =
    let gs = c.args.groups.now in
    let k = c.args.k.now in
    let absent = none_of (value_at gs k) (sym c.contains.ensures ∙ c.if-contains.false) in
    let counted = c.len.ensures.len in
    let some : 1 ≤ length c.args.rows = omega arith in
    on_ok c.insert.result c.insert.ensures.ok (λ e. e ∙ placed_cut natural_before_strict k gs c.args.rows c.len-len.ensures.order absent ∙ ap (λ o. with_own k o gs) (some_there c.args.rows some))
