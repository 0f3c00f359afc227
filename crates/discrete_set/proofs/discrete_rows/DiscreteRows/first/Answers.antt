use Rattle.std.proofs.Common.{rules}
use Rattle.discrete_set.proofs.SetLaws.{item_member, first_missing}
use Rattle.discrete_set.proofs.discrete_rows.DiscreteRows.first.Goals as goal

pub returns-clause-least : goal.returns-clause-least
returns-clause-least g c = item_member c.args.self.now c.self.inside.runs.items c.self.view_is c.self.invariant 0 c.numbered.result (search rules)

pub returns-clause-none : goal.returns-clause-none
returns-clause-none g c = first_missing c.args.self.now c.self.inside.runs.items c.self.view_is c.self.invariant c.numbered.result (search rules)
