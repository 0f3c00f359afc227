use Rattle.std.proofs.Common.{[], arith}
use Rattle.plain_base.proofs.Settling.{settled, gone, gone_rows, some_rows_of_key}
use Rattle.plain_base.proofs.free_two_key_rows.FreeTwoKeyRows.remove_group.Goals as goal

pub overflow_sub-self : goal.overflow_sub-self
overflow_sub-self g c = let within = some_rows_of_key c.self.inside.groups c.self.inside.total c.args.self.now c.self.invariant c.self.view_is c.args.k.now in let counted = c.count_of-count.ensures in omega arith

pub invariant_of-self : goal.invariant_of-self
invariant_of-self g c =
    let within = some_rows_of_key c.self.inside.groups c.self.inside.total c.args.self.now c.self.invariant c.self.view_is c.args.k.now in
    let counted = c.count_of-count.ensures in
    settled c.self.inside.groups c.self.inside.total c.args.self.now c.self.invariant c.self.view_is c.args.k.now c.remove.new.self [] _ (gone c.self.inside.groups c.self.inside.total c.args.self.now c.self.invariant c.self.view_is c.args.k.now c.remove.new.self c.remove.ensures.rows) c.len-len.ensures.order tt (omega arith)

pub returns-clause-rows : goal.returns-clause-rows
returns-clause-rows g c = gone_rows c.self.inside.groups c.self.inside.total c.args.self.now c.self.invariant c.self.view_is c.args.k.now c.remove.new.self (gone c.self.inside.groups c.self.inside.total c.args.self.now c.self.invariant c.self.view_is c.args.k.now c.remove.new.self c.remove.ensures.rows)
