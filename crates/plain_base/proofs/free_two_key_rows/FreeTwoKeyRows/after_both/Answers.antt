use Rattle.std.proofs.Common.{sym, ap, ◌∙◌}
use Rattle.std.specs.Option.{option_map, option_or}
use Rattle.elem.specs.declared.elements.Elem.{Elem}
use Rattle.elem.specs.Orders.{natural_before}
use Rattle.elem.specs.Rows.{first_key}
use Rattle.plain_base.specs.Sorted.{rows_above}
use Rattle.plain_base.specs.Groups.{first_pair_of}
use Rattle.plain_base.proofs.GroupsLemmas.{whole_rows}
use Rattle.plain_base.proofs.BothOrder.{after_both}
use Rattle.plain_base.proofs.free_two_key_rows.FreeTwoKeyRows.after_both.Goals as goal

pub returns-in-Some : goal.returns-in-Some
returns-in-Some g c =
    let rows = c.args.self.now in
    let k = c.args.k.now in
    let x = c.args.x.now in
    let whole = whole_rows k c.self.inside.groups rows c.self.invariant.order c.self.view_is in
    sym (after_both k x rows whole c.requires ∙ ap (λ o. option_or (option_map (λ (y : Elem). (k, y)) o) (first_pair_of (first_key (rows_above natural_before k rows)) rows)) (sym c.after_in.ensures ∙ c.in-Some.is))

pub returns-in-None : goal.returns-in-None
returns-in-None g c =
    let rows = c.args.self.now in
    let k = c.args.k.now in
    let x = c.args.x.now in
    let whole = whole_rows k c.self.inside.groups rows c.self.invariant.order c.self.view_is in
    c.first_pair_of.ensures ∙ ap (λ o. first_pair_of o rows) c.next_above.ensures
    ∙ sym (after_both k x rows whole c.requires ∙ ap (λ o. option_or (option_map (λ (y : Elem). (k, y)) o) (first_pair_of (first_key (rows_above natural_before k rows)) rows)) (sym c.after_in.ensures ∙ c.in-None.is))
