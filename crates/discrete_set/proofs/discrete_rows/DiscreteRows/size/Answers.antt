use Rattle.std.proofs.Common.{rules, arith}
use Rattle.std.proofs.lemmas.Int.{ints}
use Rattle.discrete_set.proofs.SetLaws.{size_is}
use Rattle.discrete_set.proofs.discrete_rows.DiscreteRows.size.Goals as goal

pub returns-clause-value : goal.returns-clause-value
returns-clause-value g c =
    let count = size_is c.args.self.now c.self.inside.runs.items c.members_of.result c.self.view_is c.self.invariant (search rules) in
    omega (arith, ints, count)
