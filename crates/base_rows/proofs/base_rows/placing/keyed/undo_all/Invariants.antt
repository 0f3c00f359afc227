use Rattle.std.proofs.Common.{◌≡◌, length}
use Rattle.base_rows.specs.Journals.{all_undone}
use Rattle.base_rows.proofs.base_rows.placing.keyed.undo_all.Given as goal

abbrev pub invariant-loop-k : goal.invariant-loop-k
invariant-loop-k g l = all_undone (g.K.Keyed.rows l.rows) l.journal.items ≡ all_undone (g.K.Keyed.rows l.fn.rows) l.fn.journal.items

abbrev pub decreases-loop-k : goal.decreases-loop-k
decreases-loop-k g l = length l.journal.items
