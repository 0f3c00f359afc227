use Rattle.std.proofs.Common.{◌≡◌, slice_get}
use Rattle.std.specs.Map.{keys_of}
use Rattle.plain_base.proofs.free_tree_map_rows.FreeTreeMapRows.at.Given as goal

abbrev pub invariant-loop-step : goal.invariant-loop-step
invariant-loop-step g l = l.place ≡ slice_get (keys_of l.self) l._step
