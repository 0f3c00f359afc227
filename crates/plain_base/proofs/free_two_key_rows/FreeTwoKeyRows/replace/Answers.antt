use Rattle.std.proofs.Common.{sym, ap, ◌∙◌, subst}
use Rattle.elem.specs.Keyed.{value_at, IsPresent}
use Rattle.plain_base.proofs.Settling.{own_rows, has_own, set_groups, set_settled, set_rows}
use Rattle.plain_base.proofs.free_two_key_rows.FreeTwoKeyRows.replace.Goals as goal

pub replace_in-before-requires-clause-present : goal.replace_in-before-requires-clause-present
replace_in-before-requires-clause-present g c = has_own c.self.inside.groups c.self.inside.total c.args.self.now c.self.invariant c.self.view_is c.args.k.now c.args.x.now c.requires

pub replace_in-before-requires-clause-there : goal.replace_in-before-requires-clause-there
replace_in-before-requires-clause-there g c = subst (λ xs. IsPresent xs c.args.x.now) (sym (own_rows c.self.inside.groups c.self.inside.total c.args.self.now c.self.invariant c.self.view_is c.args.k.now)) c.requires

pub invariant_of-self : goal.invariant_of-self
invariant_of-self g c =
    let e = set_groups c.self.inside.groups c.self.inside.total c.args.self.now c.self.invariant c.self.view_is c.args.k.now c.replace_in-before.new.self c.args.x.now c.args.v c.replace_in-before.ensures.rows c.requires in
    set_settled c.self.inside.groups c.self.inside.total c.args.self.now c.self.invariant c.self.view_is c.args.k.now c.replace_in-before.new.self c.args.x.now c.args.v e c.len-len.ensures.order

pub returns-clause-value : goal.returns-clause-value
returns-clause-value g c = ap (λ xs. value_at xs c.args.x.now) (sym (own_rows c.self.inside.groups c.self.inside.total c.args.self.now c.self.invariant c.self.view_is c.args.k.now)) ∙ c.replace_in-before.ensures.value

pub returns-clause-rows : goal.returns-clause-rows
returns-clause-rows g c =
    let e = set_groups c.self.inside.groups c.self.inside.total c.args.self.now c.self.invariant c.self.view_is c.args.k.now c.replace_in-before.new.self c.args.x.now c.args.v c.replace_in-before.ensures.rows c.requires in
    set_rows c.self.inside.groups c.self.inside.total c.args.self.now c.self.invariant c.self.view_is c.args.k.now c.replace_in-before.new.self c.args.x.now c.args.v e
