use Rattle.std.proofs.Common.{rules, ◌-◌, arith}
use Rattle.std.proofs.lemmas.Result.{on_ok_weaker}
use Rattle.discrete_set.proofs.KeptLaws.{counted-pushed, start-pushed, units-pushed}
use Rattle.discrete_set.proofs.run.add_run.Goals as goal

pub returns-clause-counted : goal.returns-clause-counted
returns-clause-counted c = on_ok_weaker c.push_run.result (λ e. counted-pushed c.args.runs.now.items c.push_run.new.runs.items c.args.first (c.args.end - 1) c.requires.counted (search rules) (omega arith) (omega arith) e) c.push_run.ensures

pub returns-clause-after : goal.returns-clause-after
returns-clause-after c = on_ok_weaker c.push_run.result (λ e. (let start = start-pushed c.args.runs.now.items c.push_run.new.runs.items c.args.first (c.args.end - 1) e in omega (arith, start))) c.push_run.ensures

pub returns-clause-units : goal.returns-clause-units
returns-clause-units c = on_ok_weaker c.push_run.result (λ e. units-pushed c.args.runs.now.items c.push_run.new.runs.items c.args.first (c.args.end - 1) c.args.end c.if-first-end.false (omega arith) e) c.push_run.ensures
