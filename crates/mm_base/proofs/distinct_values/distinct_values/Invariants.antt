use Rattle.std.proofs.Common.{◌≡◌, take}
use Rattle.std.specs.Map.{keys_of}
use Rattle.mm_base.specs.Exchanging.{each_once}
use Rattle.mm_base.proofs.distinct_values.distinct_values.Given as goal

abbrev pub invariant-loop-n : goal.invariant-loop-n
invariant-loop-n l = record {
  seen_are : keys_of l.seen ≡ each_once (take l._n l.vs);
  values_are : l.values.items ≡ each_once (take l._n l.vs);
}
