use Rattle.std.proofs.Common.{ap, ◌∙◌}
use Rattle.elem.specs.Keyed.{value_at}
use Rattle.plain_base.proofs.Settling.{own_rows, put_groups, put_adds}
use Rattle.plain_base.proofs.free_two_key_rows.FreeTwoKeyRows.insert.Goals as goal

pub add_row-requires : goal.add_row-requires
add_row-requires g c = ap (λ xs. value_at xs c.args.x.now) (own_rows c.self.inside.groups c.self.inside.total c.args.self.now c.self.invariant c.self.view_is c.args.k.now) ∙ c.requires

pub invariant_of-self-2 : goal.invariant_of-self-2
invariant_of-self-2 g c = put_groups c.self.inside.groups c.self.inside.total c.args.self.now c.self.invariant c.self.view_is c.args.k.now c.add_row.new.groups c.args.x.now c.args.v c.in_ok-add_row.ensures.ok c.len-len.ensures.order c.requires

pub returns-clause-ok : goal.returns-clause-ok
returns-clause-ok g c = put_adds c.self.inside.groups c.self.inside.total c.args.self.now c.self.invariant c.self.view_is c.args.k.now c.add_row.new.groups c.args.x.now c.args.v c.in_ok-add_row.ensures.ok
