use Rattle.std.proofs.Common.{◌≡◌, map, take}
use Rattle.std.specs.Map.{count_at}
use Rattle.std.specs.HashMap as hash
use Rattle.elem.specs.Elements.{same}
use Rattle.build_base.specs.declared.row.Row.{Row}
use Rattle.build_base.specs.declared.row.Row.TheVariants.{Counted}
use Rattle.build_base.specs.Rows.{first_of}
use Rattle.build_base.proofs.counted.counted.Given as goal

abbrev pub invariant-loop-head : goal.invariant-loop-head
invariant-loop-head l = l.rows.items ≡ map (λ (head : Row). Counted (first_of head) (count_at (hash.get same l.counts) (first_of head))) (take l.head-index l.heads)
