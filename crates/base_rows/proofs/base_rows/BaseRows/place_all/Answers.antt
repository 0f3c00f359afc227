use Rattle.std.proofs.Common.{refl, ap}
use Rattle.elem.specs.OrderLaws.{natural_before_strict, reverse_before_strict, length_before_strict}
use Rattle.base_rows.specs.BaseRows.{kind_of, rows_of}
use Rattle.base_rows.proofs.PutLemmas.{on_ok, list_cause, same_cause, linked_all, sorted_all, linked_set, tree_set, tree_set_reverse, tree_set_length, linked_map, tree_map, tree_map_reverse, tree_map_length}
use Rattle.base_rows.proofs.base_rows.BaseRows.place_all.Goals as goal

pub returns-in-ArrayList-clause-cause : goal.returns-in-ArrayList-clause-cause
returns-in-ArrayList-clause-cause g c = list_cause c.args.self.now c.in-ArrayList.list (ap kind_of c.in-ArrayList.is) (ap rows_of c.in-ArrayList.is) c.args.spot c.args.rows.now c.args.room c.place_items.result c.place_items.ensures.cause

pub returns-in-LinkedHashSet-clause-ok : goal.returns-in-LinkedHashSet-clause-ok
returns-in-LinkedHashSet-clause-ok g c = on_ok c.put_all.result (linked_all (record { kind_is = ap kind_of c.in-LinkedHashSet.is; rows_are = ap rows_of c.in-LinkedHashSet.is; by_key = refl; no_bimap = refl }) linked_set c.args.spot c.args.rows.now c.put_all.new.rows c.requires.fits c.requires.spot) c.put_all.ensures.ok

pub returns-in-LinkedHashSet-clause-cause : goal.returns-in-LinkedHashSet-clause-cause
returns-in-LinkedHashSet-clause-cause g c = same_cause (record { kind_is = ap kind_of c.in-LinkedHashSet.is; rows_are = ap rows_of c.in-LinkedHashSet.is; by_key = refl; no_bimap = refl }) c.args.spot c.args.rows.now _ c.args.room c.put_all.result (linked_all (record { kind_is = ap kind_of c.in-LinkedHashSet.is; rows_are = ap rows_of c.in-LinkedHashSet.is; by_key = refl; no_bimap = refl }) linked_set c.args.spot c.args.rows.now _ c.requires.fits c.requires.spot refl) c.put_all.ensures.cause

pub returns-in-TreeSet-clause-ok : goal.returns-in-TreeSet-clause-ok
returns-in-TreeSet-clause-ok g c = on_ok c.put_all_sorted.result (sorted_all (record { kind_is = ap kind_of c.in-TreeSet.is; rows_are = ap rows_of c.in-TreeSet.is; by_key = refl; no_bimap = refl }) natural_before_strict tree_set c.put_all_sorted.ensures.order c.args.spot c.args.rows.now c.put_all_sorted.new.rows c.requires.fits c.requires.spot) c.put_all_sorted.ensures.ok

pub returns-in-TreeSet-clause-cause : goal.returns-in-TreeSet-clause-cause
returns-in-TreeSet-clause-cause g c = same_cause (record { kind_is = ap kind_of c.in-TreeSet.is; rows_are = ap rows_of c.in-TreeSet.is; by_key = refl; no_bimap = refl }) c.args.spot c.args.rows.now _ c.args.room c.put_all_sorted.result (sorted_all (record { kind_is = ap kind_of c.in-TreeSet.is; rows_are = ap rows_of c.in-TreeSet.is; by_key = refl; no_bimap = refl }) natural_before_strict tree_set c.put_all_sorted.ensures.order c.args.spot c.args.rows.now _ c.requires.fits c.requires.spot refl) c.put_all_sorted.ensures.cause

pub returns-in-TreeSetReverse-clause-ok : goal.returns-in-TreeSetReverse-clause-ok
returns-in-TreeSetReverse-clause-ok g c = on_ok c.put_all_sorted-in-TreeSetReverse.result (sorted_all (record { kind_is = ap kind_of c.in-TreeSetReverse.is; rows_are = ap rows_of c.in-TreeSetReverse.is; by_key = refl; no_bimap = refl }) reverse_before_strict tree_set_reverse c.put_all_sorted-in-TreeSetReverse.ensures.order c.args.spot c.args.rows.now c.put_all_sorted-in-TreeSetReverse.new.rows c.requires.fits c.requires.spot) c.put_all_sorted-in-TreeSetReverse.ensures.ok

pub returns-in-TreeSetReverse-clause-cause : goal.returns-in-TreeSetReverse-clause-cause
returns-in-TreeSetReverse-clause-cause g c = same_cause (record { kind_is = ap kind_of c.in-TreeSetReverse.is; rows_are = ap rows_of c.in-TreeSetReverse.is; by_key = refl; no_bimap = refl }) c.args.spot c.args.rows.now _ c.args.room c.put_all_sorted-in-TreeSetReverse.result (sorted_all (record { kind_is = ap kind_of c.in-TreeSetReverse.is; rows_are = ap rows_of c.in-TreeSetReverse.is; by_key = refl; no_bimap = refl }) reverse_before_strict tree_set_reverse c.put_all_sorted-in-TreeSetReverse.ensures.order c.args.spot c.args.rows.now _ c.requires.fits c.requires.spot refl) c.put_all_sorted-in-TreeSetReverse.ensures.cause

pub returns-in-TreeSetLength-clause-ok : goal.returns-in-TreeSetLength-clause-ok
returns-in-TreeSetLength-clause-ok g c = on_ok c.put_all_sorted-in-TreeSetLength.result (sorted_all (record { kind_is = ap kind_of c.in-TreeSetLength.is; rows_are = ap rows_of c.in-TreeSetLength.is; by_key = refl; no_bimap = refl }) length_before_strict tree_set_length c.put_all_sorted-in-TreeSetLength.ensures.order c.args.spot c.args.rows.now c.put_all_sorted-in-TreeSetLength.new.rows c.requires.fits c.requires.spot) c.put_all_sorted-in-TreeSetLength.ensures.ok

pub returns-in-TreeSetLength-clause-cause : goal.returns-in-TreeSetLength-clause-cause
returns-in-TreeSetLength-clause-cause g c = same_cause (record { kind_is = ap kind_of c.in-TreeSetLength.is; rows_are = ap rows_of c.in-TreeSetLength.is; by_key = refl; no_bimap = refl }) c.args.spot c.args.rows.now _ c.args.room c.put_all_sorted-in-TreeSetLength.result (sorted_all (record { kind_is = ap kind_of c.in-TreeSetLength.is; rows_are = ap rows_of c.in-TreeSetLength.is; by_key = refl; no_bimap = refl }) length_before_strict tree_set_length c.put_all_sorted-in-TreeSetLength.ensures.order c.args.spot c.args.rows.now _ c.requires.fits c.requires.spot refl) c.put_all_sorted-in-TreeSetLength.ensures.cause

pub returns-in-LinkedHashMap-clause-ok : goal.returns-in-LinkedHashMap-clause-ok
returns-in-LinkedHashMap-clause-ok g c = on_ok c.put_all-in-LinkedHashMap.result (linked_all (record { kind_is = ap kind_of c.in-LinkedHashMap.is; rows_are = ap rows_of c.in-LinkedHashMap.is; by_key = refl; no_bimap = refl }) linked_map c.args.spot c.args.rows.now c.put_all-in-LinkedHashMap.new.rows c.requires.fits c.requires.spot) c.put_all-in-LinkedHashMap.ensures.ok

pub returns-in-LinkedHashMap-clause-cause : goal.returns-in-LinkedHashMap-clause-cause
returns-in-LinkedHashMap-clause-cause g c = same_cause (record { kind_is = ap kind_of c.in-LinkedHashMap.is; rows_are = ap rows_of c.in-LinkedHashMap.is; by_key = refl; no_bimap = refl }) c.args.spot c.args.rows.now _ c.args.room c.put_all-in-LinkedHashMap.result (linked_all (record { kind_is = ap kind_of c.in-LinkedHashMap.is; rows_are = ap rows_of c.in-LinkedHashMap.is; by_key = refl; no_bimap = refl }) linked_map c.args.spot c.args.rows.now _ c.requires.fits c.requires.spot refl) c.put_all-in-LinkedHashMap.ensures.cause

pub returns-in-TreeMap-clause-ok : goal.returns-in-TreeMap-clause-ok
returns-in-TreeMap-clause-ok g c = on_ok c.put_all_sorted-in-TreeMap.result (sorted_all (record { kind_is = ap kind_of c.in-TreeMap.is; rows_are = ap rows_of c.in-TreeMap.is; by_key = refl; no_bimap = refl }) natural_before_strict tree_map c.put_all_sorted-in-TreeMap.ensures.order c.args.spot c.args.rows.now c.put_all_sorted-in-TreeMap.new.rows c.requires.fits c.requires.spot) c.put_all_sorted-in-TreeMap.ensures.ok

pub returns-in-TreeMap-clause-cause : goal.returns-in-TreeMap-clause-cause
returns-in-TreeMap-clause-cause g c = same_cause (record { kind_is = ap kind_of c.in-TreeMap.is; rows_are = ap rows_of c.in-TreeMap.is; by_key = refl; no_bimap = refl }) c.args.spot c.args.rows.now _ c.args.room c.put_all_sorted-in-TreeMap.result (sorted_all (record { kind_is = ap kind_of c.in-TreeMap.is; rows_are = ap rows_of c.in-TreeMap.is; by_key = refl; no_bimap = refl }) natural_before_strict tree_map c.put_all_sorted-in-TreeMap.ensures.order c.args.spot c.args.rows.now _ c.requires.fits c.requires.spot refl) c.put_all_sorted-in-TreeMap.ensures.cause

pub returns-in-TreeMapReverse-clause-ok : goal.returns-in-TreeMapReverse-clause-ok
returns-in-TreeMapReverse-clause-ok g c = on_ok c.put_all_sorted-in-TreeMapReverse.result (sorted_all (record { kind_is = ap kind_of c.in-TreeMapReverse.is; rows_are = ap rows_of c.in-TreeMapReverse.is; by_key = refl; no_bimap = refl }) reverse_before_strict tree_map_reverse c.put_all_sorted-in-TreeMapReverse.ensures.order c.args.spot c.args.rows.now c.put_all_sorted-in-TreeMapReverse.new.rows c.requires.fits c.requires.spot) c.put_all_sorted-in-TreeMapReverse.ensures.ok

pub returns-in-TreeMapReverse-clause-cause : goal.returns-in-TreeMapReverse-clause-cause
returns-in-TreeMapReverse-clause-cause g c = same_cause (record { kind_is = ap kind_of c.in-TreeMapReverse.is; rows_are = ap rows_of c.in-TreeMapReverse.is; by_key = refl; no_bimap = refl }) c.args.spot c.args.rows.now _ c.args.room c.put_all_sorted-in-TreeMapReverse.result (sorted_all (record { kind_is = ap kind_of c.in-TreeMapReverse.is; rows_are = ap rows_of c.in-TreeMapReverse.is; by_key = refl; no_bimap = refl }) reverse_before_strict tree_map_reverse c.put_all_sorted-in-TreeMapReverse.ensures.order c.args.spot c.args.rows.now _ c.requires.fits c.requires.spot refl) c.put_all_sorted-in-TreeMapReverse.ensures.cause

pub returns-in-TreeMapLength-clause-ok : goal.returns-in-TreeMapLength-clause-ok
returns-in-TreeMapLength-clause-ok g c = on_ok c.put_all_sorted-in-TreeMapLength.result (sorted_all (record { kind_is = ap kind_of c.in-TreeMapLength.is; rows_are = ap rows_of c.in-TreeMapLength.is; by_key = refl; no_bimap = refl }) length_before_strict tree_map_length c.put_all_sorted-in-TreeMapLength.ensures.order c.args.spot c.args.rows.now c.put_all_sorted-in-TreeMapLength.new.rows c.requires.fits c.requires.spot) c.put_all_sorted-in-TreeMapLength.ensures.ok

pub returns-in-TreeMapLength-clause-cause : goal.returns-in-TreeMapLength-clause-cause
returns-in-TreeMapLength-clause-cause g c = same_cause (record { kind_is = ap kind_of c.in-TreeMapLength.is; rows_are = ap rows_of c.in-TreeMapLength.is; by_key = refl; no_bimap = refl }) c.args.spot c.args.rows.now _ c.args.room c.put_all_sorted-in-TreeMapLength.result (sorted_all (record { kind_is = ap kind_of c.in-TreeMapLength.is; rows_are = ap rows_of c.in-TreeMapLength.is; by_key = refl; no_bimap = refl }) length_before_strict tree_map_length c.put_all_sorted-in-TreeMapLength.ensures.order c.args.spot c.args.rows.now _ c.requires.fits c.requires.spot refl) c.put_all_sorted-in-TreeMapLength.ensures.cause
