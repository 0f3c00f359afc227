use Rattle.std.proofs.Common.{◌≤◌, sym, ap, ◌∙◌, subst, arith}
use Rattle.std.specs.Prelude.{is_some}
use Rattle.elem.specs.Keyed.{IsPresent}
use Rattle.plain_base.proofs.SortedCuts.{none_of}
use Rattle.plain_base.proofs.Settling.{own_rows, fewer_groups, fewer_rows, none_fewer, some_row}
use Rattle.plain_base.proofs.free_two_key_rows.FreeTwoKeyRows.remove.Goals as goal

pub drop_row-requires : goal.drop_row-requires
drop_row-requires g c =
    let there = ap is_some (sym c.get-value.ensures) ∙ sym c.is_some.ensures ∙ c.if-is_some.true in
    subst (λ xs. IsPresent xs c.args.x.now) (sym (own_rows c.self.inside.groups c.self.inside.total c.args.self.now c.self.invariant c.self.view_is c.args.k.now)) there

pub overflow_sub-self : goal.overflow_sub-self
overflow_sub-self g c =
    let there = ap is_some (sym c.get-value.ensures) ∙ sym c.is_some.ensures ∙ c.if-is_some.true in
    some_row c.self.inside.groups c.self.inside.total c.args.self.now c.self.invariant c.self.view_is c.args.k.now c.args.x.now there

pub invariant_of-self : goal.invariant_of-self
invariant_of-self g c =
    let there = ap is_some (sym c.get-value.ensures) ∙ sym c.is_some.ensures ∙ c.if-is_some.true in
    let some : 1 ≤ c.self.inside.total = some_row c.self.inside.groups c.self.inside.total c.args.self.now c.self.invariant c.self.view_is c.args.k.now c.args.x.now there in
    fewer_groups c.self.inside.groups c.self.inside.total c.args.self.now c.self.invariant c.self.view_is c.args.k.now c.drop_row.new.groups c.args.x.now _ c.drop_row.ensures c.len-len.ensures.order there (omega arith)

pub returns-then-is_some-clause-rows : goal.returns-then-is_some-clause-rows
returns-then-is_some-clause-rows g c = fewer_rows c.self.inside.groups c.self.inside.total c.args.self.now c.self.invariant c.self.view_is c.args.k.now c.drop_row.new.groups c.args.x.now c.drop_row.ensures

pub returns-else-is_some-clause-rows : goal.returns-else-is_some-clause-rows
returns-else-is_some-clause-rows g c = none_fewer c.self.inside.groups c.self.inside.total c.args.self.now c.self.invariant c.self.view_is c.args.k.now c.args.x.now (sym c.get-value.ensures ∙ none_of c.get-value.result (sym c.is_some.ensures ∙ c.if-is_some.false))
