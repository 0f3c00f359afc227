use Rattle.std.proofs.Common.{rules, arith}
use Rattle.std.specs.Prelude.{nat_le}
use Rattle.std.proofs.lemmas.Bool.Decides.{nat_tests}
use Rattle.std.proofs.lemmas.List.Sorted.{IsPartitionedBy-leb, IsPartitionPoint-from_clause}
use Rattle.discrete_set.specs.declared.run.Run.{Run}
use Rattle.discrete_set.proofs.SearchLaws.{firsts_rise, at_rank}
use Rattle.discrete_set.proofs.look_ups.holds.Goals as goal

pub returns-then-after-gt0 : goal.returns-then-after-gt0
returns-then-after-gt0 c =
    let point = IsPartitionPoint-from_clause (λ (r : Run). nat_le r.first c.args.rank) c.args.runs.now c.partition_point-after.result c.partition_point-after.ensures.partitioned (IsPartitionedBy-leb (λ (r : Run). r.first) c.args.runs.now c.args.rank (firsts_rise 0 0 c.args.runs.now c.requires)) (λ a r f k. search rules) in
    let is = at_rank c.args.rank c.partition_point-after.result c.args.runs.now c.requires c.partition_point-after.ensures.bound point record { first = 0; last = 0; before = 0 } in
    grind (arith, nat_tests, is)

pub returns-else-after-gt0 : goal.returns-else-after-gt0
returns-else-after-gt0 c =
    let point = IsPartitionPoint-from_clause (λ (r : Run). nat_le r.first c.args.rank) c.args.runs.now c.partition_point-after.result c.partition_point-after.ensures.partitioned (IsPartitionedBy-leb (λ (r : Run). r.first) c.args.runs.now c.args.rank (firsts_rise 0 0 c.args.runs.now c.requires)) (λ a r f k. search rules) in
    let is = at_rank c.args.rank c.partition_point-after.result c.args.runs.now c.requires c.partition_point-after.ensures.bound point record { first = 0; last = 0; before = 0 } in
    grind (arith, nat_tests, is)
