use Rattle.std.proofs.Common.{◌≡◌, take}
use Rattle.base_rows.specs.BaseRows.{items}
use Rattle.vocabulary.specs.declared.kinds.Kind.TheVariants.{ArrayList}
use Rattle.machine.specs.Edits.{coming, placed_all}
use Rattle.base_rows.proofs.base_rows.placing.listed.place_items.Given as goal

abbrev pub invariant-loop-row : goal.invariant-loop-row
invariant-loop-row g l = items l.rows ≡ placed_all ArrayList (items l.fn.rows) (coming l.spot (take l.row-index l.added))
