use Rattle.std.proofs.Common.{arith}
use Rattle.plain_base.proofs.Settling.{settled, others_stay, new_group, some_rows_of_key}
use Rattle.plain_base.proofs.free_two_key_rows.FreeTwoKeyRows.put_group.Goals as goal

pub overflow_sub-others : goal.overflow_sub-others
overflow_sub-others g c = let within = some_rows_of_key c.self.inside.groups c.self.inside.total c.args.self.now c.self.invariant c.self.view_is c.args.k.now in let counted = c.count_of.ensures in omega arith

pub invariant_of-self-2 : goal.invariant_of-self-2
invariant_of-self-2 g c =
    let within = some_rows_of_key c.self.inside.groups c.self.inside.total c.args.self.now c.self.invariant c.self.view_is c.args.k.now in
    let counted = c.count_of.ensures in
    let added = c.len-added.ensures.len in
    settled c.self.inside.groups c.self.inside.total c.args.self.now c.self.invariant c.self.view_is c.args.k.now c.put_rows.new.groups c.args.rows _ c.in_ok-put_rows.ensures.ok c.len-len.ensures.order c.len-added.ensures.order (omega arith)

pub returns-clause-group : goal.returns-clause-group
returns-clause-group g c = new_group c.self.inside.groups c.self.inside.total c.args.self.now c.self.invariant c.self.view_is c.args.k.now c.put_rows.new.groups c.args.rows c.in_ok-put_rows.ensures.ok

pub returns-clause-others : goal.returns-clause-others
returns-clause-others g c = others_stay c.self.inside.groups c.self.inside.total c.args.self.now c.self.invariant c.self.view_is c.args.k.now c.put_rows.new.groups c.args.rows c.in_ok-put_rows.ensures.ok
