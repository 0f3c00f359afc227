use Rattle.std.proofs.Common.{◌≡◌, take}
use Rattle.build_base.specs.Ranges.{range_set_of}
use Rattle.build_base.specs.Units.{AreCovered}
use Rattle.build_base.proofs.ranges.all_ranges.Given as goal

abbrev pub invariant-loop-item : goal.invariant-loop-item
invariant-loop-item l = (l.joined ≡ range_set_of (take l.item-index l.items)) × AreCovered (take l.item-index l.items) l.joined
