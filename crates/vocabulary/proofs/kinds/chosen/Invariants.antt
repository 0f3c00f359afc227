use Rattle.std.proofs.Common.{◌≡◌, length, map}
use Rattle.vocabulary.specs.Kinds.{chosen}
use Rattle.vocabulary.proofs.kinds.chosen.Given as goal

abbrev pub invariant-loop-rows : goal.invariant-loop-rows
invariant-loop-rows l = chosen l.word (map (λ row. (row.0.now, row.1)) l.rows) ≡ chosen l.word (map (λ row. (row.0.now, row.1)) l.initial.rows)

abbrev pub decreases-loop-rows : goal.decreases-loop-rows
decreases-loop-rows l = length l.rows
