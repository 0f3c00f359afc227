use Rattle.std.proofs.Common.{ap, arith}
use Rattle.discrete_set.specs.Counted.{total}
use Rattle.discrete_set.proofs.KeptLaws.{total_bound}
use Rattle.discrete_set.proofs.run.push_run.Goals as goal

pub overflow_cast-before : goal.overflow_cast-before
overflow_cast-before c =
    let bound = total_bound 0 0 c.args.runs.now.items c.requires.counted (omega arith) in
    let same = ap (total 0) c.deref.ensures.value in
    omega (arith, bound, same)
