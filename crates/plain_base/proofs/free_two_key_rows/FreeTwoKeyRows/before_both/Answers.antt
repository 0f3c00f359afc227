use Rattle.std.proofs.Common.{sym, ap, ◌∙◌}
use Rattle.std.specs.Option.{option_map, option_or}
use Rattle.elem.specs.declared.elements.Elem.{Elem}
use Rattle.elem.specs.Orders.{natural_before}
use Rattle.elem.specs.Rows.{last_key}
use Rattle.plain_base.specs.Sorted.{rows_below}
use Rattle.plain_base.specs.Groups.{last_pair_of}
use Rattle.plain_base.proofs.GroupsLemmas.{whole_rows}
use Rattle.plain_base.proofs.BothBack.{before_both}
use Rattle.plain_base.proofs.free_two_key_rows.FreeTwoKeyRows.before_both.Goals as goal

pub returns-in-Some : goal.returns-in-Some
returns-in-Some g c =
    let rows = c.args.self.now in
    let k = c.args.k.now in
    let x = c.args.x.now in
    let whole = whole_rows k c.self.inside.groups rows c.self.invariant.order c.self.view_is in
    sym (before_both k x rows whole c.requires ∙ ap (λ o. option_or (option_map (λ (y : Elem). (k, y)) o) (last_pair_of (last_key (rows_below natural_before k rows)) rows)) (sym c.before_in.ensures ∙ c.in-Some.is))

pub returns-in-None : goal.returns-in-None
returns-in-None g c =
    let rows = c.args.self.now in
    let k = c.args.k.now in
    let x = c.args.x.now in
    let whole = whole_rows k c.self.inside.groups rows c.self.invariant.order c.self.view_is in
    c.last_pair_of.ensures ∙ ap (λ o. last_pair_of o rows) c.next_below.ensures
    ∙ sym (before_both k x rows whole c.requires ∙ ap (λ o. option_or (option_map (λ (y : Elem). (k, y)) o) (last_pair_of (last_key (rows_below natural_before k rows)) rows)) (sym c.before_in.ensures ∙ c.in-None.is))
