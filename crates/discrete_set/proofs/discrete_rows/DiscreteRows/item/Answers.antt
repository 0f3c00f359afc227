use Rattle.std.proofs.Common.{rules}
use Rattle.discrete_set.proofs.SetLaws.{item_member, item_missing}
use Rattle.discrete_set.proofs.discrete_rows.DiscreteRows.item.Goals as goal

pub returns-clause-member : goal.returns-clause-member
returns-clause-member g c = item_member c.args.self.now c.self.inside.runs.items c.self.view_is c.self.invariant c.args.i c.numbered.result (search rules)

pub returns-clause-none : goal.returns-clause-none
returns-clause-none g c = item_missing c.args.self.now c.self.inside.runs.items c.self.view_is c.self.invariant c.args.i c.numbered.result (search rules)
