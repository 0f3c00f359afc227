use Rattle.std.proofs.Common.{sym, arith}
use Rattle.std.proofs.lemmas.Bool.Decides.{nat_tests}
use Rattle.discrete_set.proofs.KeptLaws.{last_is, last_bound, next_start-last}
use Rattle.discrete_set.proofs.run.follows.Goals as goal

pub overflow_add-result : goal.overflow_add-result
overflow_add-result c =
    let bound = last_bound c.args.runs.now c.in-Some.run'.now (last_is c.args.runs.now c.in-Some.run'.now c.requires (sym c.in-Some.ensures.value)) in
    omega (arith, bound.2)

pub returns-in-Some : goal.returns-in-Some
returns-in-Some c =
    let start = next_start-last c.args.runs.now c.in-Some.run'.now (last_is c.args.runs.now c.in-Some.run'.now c.requires (sym c.in-Some.ensures.value)) in
    grind (arith, nat_tests, start)
