use Rattle.std.proofs.Common.{sym, arith}
use Rattle.discrete_set.proofs.KeptLaws.{last_is, last_bound, total-last}
use Rattle.discrete_set.proofs.run.members_of.Goals as goal

pub overflow_sub-run : goal.overflow_sub-run
overflow_sub-run c = (last_is c.args.runs.now c.in-Some.run'.now c.requires (sym c.in-Some.ensures.value)).parts.in_order

pub overflow_add-result : goal.overflow_add-result
overflow_add-result c =
    let bound = last_bound c.args.runs.now c.in-Some.run'.now (last_is c.args.runs.now c.in-Some.run'.now c.requires (sym c.in-Some.ensures.value)) in
    omega (arith, bound.0, bound.1, bound.2)

pub overflow_add-result-in-Some : goal.overflow_add-result-in-Some
overflow_add-result-in-Some c =
    let bound = last_bound c.args.runs.now c.in-Some.run'.now (last_is c.args.runs.now c.in-Some.run'.now c.requires (sym c.in-Some.ensures.value)) in
    omega (arith, bound.0, bound.1, bound.2)

pub returns-in-Some : goal.returns-in-Some
returns-in-Some c =
    let last = last_is c.args.runs.now c.in-Some.run'.now c.requires (sym c.in-Some.ensures.value) in
    let sum = total-last c.args.runs.now c.in-Some.run'.now last in
    omega (arith, sum, last.parts.in_order)
