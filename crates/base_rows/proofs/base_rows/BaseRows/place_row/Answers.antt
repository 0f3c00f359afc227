use Rattle.std.proofs.Common.{refl, ap}
use Rattle.elem.specs.OrderLaws.{natural_before_strict, reverse_before_strict, length_before_strict}
use Rattle.base_rows.specs.BaseRows.{kind_of, rows_of}
use Rattle.vocabulary.specs.Kinds.{shape_of_kind}
use Rattle.vocabulary.specs.Shapes.{is_keyed}
use Rattle.base_rows.proofs.KeyedRows.{set_wants, map_wants}
use Rattle.base_rows.proofs.PutLemmas.{on_ok, linked_one, sorted_one, linked_set, tree_set, tree_set_reverse, tree_set_length, linked_map, tree_map, tree_map_reverse, tree_map_length}
use Rattle.base_rows.proofs.base_rows.BaseRows.place_row.Goals as goal

pub returns-in-LinkedHashSet-clause-ok : goal.returns-in-LinkedHashSet-clause-ok
returns-in-LinkedHashSet-clause-ok g c = on_ok c.put_row.result (linked_one (record { kind_is = ap kind_of c.in-LinkedHashSet.is; rows_are = ap rows_of c.in-LinkedHashSet.is; by_key = refl; no_bimap = refl }) linked_set c.args.spot c.args.row.now c.put_row.new.rows c.requires.fits c.requires.spot) c.put_row.ensures.ok

pub returns-in-TreeSet-clause-ok : goal.returns-in-TreeSet-clause-ok
returns-in-TreeSet-clause-ok g c = on_ok c.put_sorted.result (sorted_one (record { kind_is = ap kind_of c.in-TreeSet.is; rows_are = ap rows_of c.in-TreeSet.is; by_key = refl; no_bimap = refl }) natural_before_strict tree_set c.put_sorted.ensures.order c.args.spot c.args.row.now c.put_sorted.new.rows c.requires.fits c.requires.spot) c.put_sorted.ensures.ok

pub returns-in-TreeSetReverse-clause-ok : goal.returns-in-TreeSetReverse-clause-ok
returns-in-TreeSetReverse-clause-ok g c = on_ok c.put_sorted-in-TreeSetReverse.result (sorted_one (record { kind_is = ap kind_of c.in-TreeSetReverse.is; rows_are = ap rows_of c.in-TreeSetReverse.is; by_key = refl; no_bimap = refl }) reverse_before_strict tree_set_reverse c.put_sorted-in-TreeSetReverse.ensures.order c.args.spot c.args.row.now c.put_sorted-in-TreeSetReverse.new.rows c.requires.fits c.requires.spot) c.put_sorted-in-TreeSetReverse.ensures.ok

pub returns-in-TreeSetLength-clause-ok : goal.returns-in-TreeSetLength-clause-ok
returns-in-TreeSetLength-clause-ok g c = on_ok c.put_sorted-in-TreeSetLength.result (sorted_one (record { kind_is = ap kind_of c.in-TreeSetLength.is; rows_are = ap rows_of c.in-TreeSetLength.is; by_key = refl; no_bimap = refl }) length_before_strict tree_set_length c.put_sorted-in-TreeSetLength.ensures.order c.args.spot c.args.row.now c.put_sorted-in-TreeSetLength.new.rows c.requires.fits c.requires.spot) c.put_sorted-in-TreeSetLength.ensures.ok

pub returns-in-LinkedHashMap-clause-ok : goal.returns-in-LinkedHashMap-clause-ok
returns-in-LinkedHashMap-clause-ok g c = on_ok c.put_row-in-LinkedHashMap.result (linked_one (record { kind_is = ap kind_of c.in-LinkedHashMap.is; rows_are = ap rows_of c.in-LinkedHashMap.is; by_key = refl; no_bimap = refl }) linked_map c.args.spot c.args.row.now c.put_row-in-LinkedHashMap.new.rows c.requires.fits c.requires.spot) c.put_row-in-LinkedHashMap.ensures.ok

pub returns-in-TreeMap-clause-ok : goal.returns-in-TreeMap-clause-ok
returns-in-TreeMap-clause-ok g c = on_ok c.put_sorted-in-TreeMap.result (sorted_one (record { kind_is = ap kind_of c.in-TreeMap.is; rows_are = ap rows_of c.in-TreeMap.is; by_key = refl; no_bimap = refl }) natural_before_strict tree_map c.put_sorted-in-TreeMap.ensures.order c.args.spot c.args.row.now c.put_sorted-in-TreeMap.new.rows c.requires.fits c.requires.spot) c.put_sorted-in-TreeMap.ensures.ok

pub returns-in-TreeMapReverse-clause-ok : goal.returns-in-TreeMapReverse-clause-ok
returns-in-TreeMapReverse-clause-ok g c = on_ok c.put_sorted-in-TreeMapReverse.result (sorted_one (record { kind_is = ap kind_of c.in-TreeMapReverse.is; rows_are = ap rows_of c.in-TreeMapReverse.is; by_key = refl; no_bimap = refl }) reverse_before_strict tree_map_reverse c.put_sorted-in-TreeMapReverse.ensures.order c.args.spot c.args.row.now c.put_sorted-in-TreeMapReverse.new.rows c.requires.fits c.requires.spot) c.put_sorted-in-TreeMapReverse.ensures.ok

pub returns-in-TreeMapLength-clause-ok : goal.returns-in-TreeMapLength-clause-ok
returns-in-TreeMapLength-clause-ok g c = on_ok c.put_sorted-in-TreeMapLength.result (sorted_one (record { kind_is = ap kind_of c.in-TreeMapLength.is; rows_are = ap rows_of c.in-TreeMapLength.is; by_key = refl; no_bimap = refl }) length_before_strict tree_map_length c.put_sorted-in-TreeMapLength.ensures.order c.args.spot c.args.row.now c.put_sorted-in-TreeMapLength.new.rows c.requires.fits c.requires.spot) c.put_sorted-in-TreeMapLength.ensures.ok

pub returns-in-LinkedHashSet-clause-memory : goal.returns-in-LinkedHashSet-clause-memory
returns-in-LinkedHashSet-clause-memory g c = set_wants _ c.args.self.now c.args.spot c.args.row.now c.put_row.result (ap rows_of c.in-LinkedHashSet.is) (ap (λ r. is_keyed (shape_of_kind (kind_of r))) c.in-LinkedHashSet.is) c.requires.other c.requires.spot c.put_row.ensures.memory

pub returns-in-TreeSet-clause-memory : goal.returns-in-TreeSet-clause-memory
returns-in-TreeSet-clause-memory g c = set_wants _ c.args.self.now c.args.spot c.args.row.now c.put_sorted.result (ap rows_of c.in-TreeSet.is) (ap (λ r. is_keyed (shape_of_kind (kind_of r))) c.in-TreeSet.is) c.requires.other c.requires.spot c.put_sorted.ensures.memory

pub returns-in-TreeSetReverse-clause-memory : goal.returns-in-TreeSetReverse-clause-memory
returns-in-TreeSetReverse-clause-memory g c = set_wants _ c.args.self.now c.args.spot c.args.row.now c.put_sorted-in-TreeSetReverse.result (ap rows_of c.in-TreeSetReverse.is) (ap (λ r. is_keyed (shape_of_kind (kind_of r))) c.in-TreeSetReverse.is) c.requires.other c.requires.spot c.put_sorted-in-TreeSetReverse.ensures.memory

pub returns-in-TreeSetLength-clause-memory : goal.returns-in-TreeSetLength-clause-memory
returns-in-TreeSetLength-clause-memory g c = set_wants _ c.args.self.now c.args.spot c.args.row.now c.put_sorted-in-TreeSetLength.result (ap rows_of c.in-TreeSetLength.is) (ap (λ r. is_keyed (shape_of_kind (kind_of r))) c.in-TreeSetLength.is) c.requires.other c.requires.spot c.put_sorted-in-TreeSetLength.ensures.memory

pub returns-in-LinkedHashMap-clause-memory : goal.returns-in-LinkedHashMap-clause-memory
returns-in-LinkedHashMap-clause-memory g c = map_wants _ c.args.self.now c.args.spot c.args.row.now c.put_row-in-LinkedHashMap.result (ap rows_of c.in-LinkedHashMap.is) (ap (λ r. is_keyed (shape_of_kind (kind_of r))) c.in-LinkedHashMap.is) c.requires.other c.requires.spot c.put_row-in-LinkedHashMap.ensures.memory

pub returns-in-TreeMap-clause-memory : goal.returns-in-TreeMap-clause-memory
returns-in-TreeMap-clause-memory g c = map_wants _ c.args.self.now c.args.spot c.args.row.now c.put_sorted-in-TreeMap.result (ap rows_of c.in-TreeMap.is) (ap (λ r. is_keyed (shape_of_kind (kind_of r))) c.in-TreeMap.is) c.requires.other c.requires.spot c.put_sorted-in-TreeMap.ensures.memory

pub returns-in-TreeMapReverse-clause-memory : goal.returns-in-TreeMapReverse-clause-memory
returns-in-TreeMapReverse-clause-memory g c = map_wants _ c.args.self.now c.args.spot c.args.row.now c.put_sorted-in-TreeMapReverse.result (ap rows_of c.in-TreeMapReverse.is) (ap (λ r. is_keyed (shape_of_kind (kind_of r))) c.in-TreeMapReverse.is) c.requires.other c.requires.spot c.put_sorted-in-TreeMapReverse.ensures.memory

pub returns-in-TreeMapLength-clause-memory : goal.returns-in-TreeMapLength-clause-memory
returns-in-TreeMapLength-clause-memory g c = map_wants _ c.args.self.now c.args.spot c.args.row.now c.put_sorted-in-TreeMapLength.result (ap rows_of c.in-TreeMapLength.is) (ap (λ r. is_keyed (shape_of_kind (kind_of r))) c.in-TreeMapLength.is) c.requires.other c.requires.spot c.put_sorted-in-TreeMapLength.ensures.memory
