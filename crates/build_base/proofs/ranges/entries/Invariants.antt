use Rattle.std.proofs.Common.{◌≡◌, map, take, Some}
use Rattle.std.specs.Prelude.{IfSome}
use Rattle.std.specs.List.{All, slice_get}
use Rattle.std.specs.Option.{option_map}
use Rattle.elem.specs.Spans.{IsWhole}
use Rattle.range_base.specs.Spans.{row_of_entry}
use Rattle.build_base.specs.Ranges.{entry_of, IsWholeRow}
use Rattle.build_base.proofs.ranges.entries.Given as goal

abbrev pub invariant-loop : goal.invariant-loop
invariant-loop l =
    (map entry_of l.rows.items ≡ map Some (take l.counter l.ranges)) × (option_map row_of_entry l.next ≡ slice_get l.ranges l.counter) × IfSome l.next (λ t. IsWhole t.0) × All IsWholeRow l.rows.items
