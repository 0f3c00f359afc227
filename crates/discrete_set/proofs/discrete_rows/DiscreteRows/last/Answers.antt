use Rattle.std.proofs.Common.{rules, ◌-◌, ◌^◌}
use Rattle.discrete_set.specs.Runs.{count_below}
use Rattle.discrete_set.proofs.SetLaws.{item_member, last_missing}
use Rattle.discrete_set.proofs.discrete_rows.DiscreteRows.last.Goals as goal

pub returns-clause-greatest : goal.returns-clause-greatest
returns-clause-greatest g c = item_member c.args.self.now c.self.inside.runs.items c.self.view_is c.self.invariant (count_below c.args.self.now (2 ^ 64) - 1) c.numbered.result (search rules)

pub returns-clause-none : goal.returns-clause-none
returns-clause-none g c = last_missing c.args.self.now c.self.inside.runs.items c.self.view_is c.self.invariant c.numbered.result (search rules)
