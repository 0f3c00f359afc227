use Rattle.std.proofs.Common.{◌≡◌, take}
use Rattle.build_base.specs.Ranges.{range_map_of}
use Rattle.build_base.specs.Units.{AreCovered}
use Rattle.build_base.proofs.ranges.all_entries.Given as goal

abbrev pub invariant-loop-item : goal.invariant-loop-item
invariant-loop-item l = (l.placed ≡ range_map_of (take l.item-index l.items)) × AreCovered (take l.item-index l.items) l.placed
