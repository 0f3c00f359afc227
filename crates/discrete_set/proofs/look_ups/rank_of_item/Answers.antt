use Rattle.std.proofs.Common.{rules, ◌-◌, sym, arith}
use Rattle.std.specs.Prelude.{nat_le}
use Rattle.std.proofs.lemmas.Bool.Decides.{nat_tests}
use Rattle.std.proofs.lemmas.List.Sorted.{IsPartitionedBy-leb, IsPartitionPoint-from_clause}
use Rattle.discrete_set.specs.declared.run.Run.{Run}
use Rattle.discrete_set.proofs.SearchLaws.{befores_rise, item_at, item_past, before_at, run_at}
use Rattle.discrete_set.proofs.look_ups.rank_of_item.Goals as goal

pub returns-then-after-eq0 : goal.returns-then-after-eq0
returns-then-after-eq0 c =
    let point = IsPartitionPoint-from_clause (λ (r : Run). nat_le r.before c.args.i) c.args.runs.now c.partition_point-after.result c.partition_point-after.ensures.partitioned (IsPartitionedBy-leb (λ (r : Run). r.before) c.args.runs.now c.args.i (befores_rise 0 0 c.args.runs.now c.requires)) (λ a r f k. search rules) in
    sym (item_past c.args.i c.partition_point-after.result c.args.runs.now c.requires point (search rules) record { first = 0; last = 0; before = 0 })

pub overflow_sub-skipped : goal.overflow_sub-skipped
overflow_sub-skipped c =
    let point = IsPartitionPoint-from_clause (λ (r : Run). nat_le r.before c.args.i) c.args.runs.now c.partition_point-after.result c.partition_point-after.ensures.partitioned (IsPartitionedBy-leb (λ (r : Run). r.before) c.args.runs.now c.args.i (befores_rise 0 0 c.args.runs.now c.requires)) (λ a r f k. search rules) in
    before_at c.args.i c.partition_point-after.result c.args.runs.now point (search rules) record { first = 0; last = 0; before = 0 }

pub overflow_sub-run-2 : goal.overflow_sub-run-2
overflow_sub-run-2 c = (run_at 0 0 c.args.runs.now c.requires (c.partition_point-after.result - 1) record { first = 0; last = 0; before = 0 } (search rules)).in_order

pub returns-then-skipped-run : goal.returns-then-skipped-run
returns-then-skipped-run c =
    let point = IsPartitionPoint-from_clause (λ (r : Run). nat_le r.before c.args.i) c.args.runs.now c.partition_point-after.result c.partition_point-after.ensures.partitioned (IsPartitionedBy-leb (λ (r : Run). r.before) c.args.runs.now c.args.i (befores_rise 0 0 c.args.runs.now c.requires)) (λ a r f k. search rules) in
    let is = item_at c.args.i c.partition_point-after.result c.args.runs.now c.requires c.partition_point-after.ensures.bound point (search rules) record { first = 0; last = 0; before = 0 } in
    grind (arith, nat_tests, is)

pub returns-else-skipped-run : goal.returns-else-skipped-run
returns-else-skipped-run c =
    let point = IsPartitionPoint-from_clause (λ (r : Run). nat_le r.before c.args.i) c.args.runs.now c.partition_point-after.result c.partition_point-after.ensures.partitioned (IsPartitionedBy-leb (λ (r : Run). r.before) c.args.runs.now c.args.i (befores_rise 0 0 c.args.runs.now c.requires)) (λ a r f k. search rules) in
    let is = item_at c.args.i c.partition_point-after.result c.args.runs.now c.requires c.partition_point-after.ensures.bound point (search rules) record { first = 0; last = 0; before = 0 } in
    grind (arith, nat_tests, is)
