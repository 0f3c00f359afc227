use Rattle.network_base.proofs.Merging.{told_first, told_second}
use Rattle.network_base.proofs.beside.earlier.Goals as goal

pub returns-then-branch : goal.returns-then-branch
returns-then-branch c = told_first c.args.edges.now c.args.first.now c.args.second.now c.in-Some.e c.in-Some-second.f c.in-Some.is c.in-Some-second.is c.in_ok-comes_before.field-0 c.if-branch.true c.in_ok-comes_before.ensures

pub returns : goal.returns
returns c = told_second c.args.edges.now c.args.first.now c.args.second.now c.in-Some.e c.in-Some-second.f c.in-Some.is c.in-Some-second.is c.in_ok-comes_before.field-0 c.if-branch.false c.in_ok-comes_before.ensures
