use Rattle.std.proofs.Common.{refl}
use Rattle.base_rows.specs.declared.base_rows.BaseRows.TheVariants as types
use Rattle.vocabulary.specs.declared.items.Item.TheVariants.{One, Entry}
use Rattle.base_rows.proofs.ReachLemmas.{window_in, keys_along}
use Rattle.base_rows.proofs.base_rows.BaseRows.drop_along.Goals as goal

pub drop_sorted-requires : goal.drop_sorted-requires
drop_sorted-requires g c = record {
  ask = window_in c.args.self.now (types.TreeSet c.in-TreeSet.rows) c.args.lane.now.first c.in-TreeSet.is c.requires.serves.keys;
  reach = keys_along (λ k v. One k) (λ k v. refl) c.args.self.now (types.TreeSet c.in-TreeSet.rows) c.in-TreeSet.is (λ k v. refl) (g.T.RowTest.passes c.args.test.now) c.args.lane.now c.requires.reach;
}

pub drop_sorted-requires-in-TreeSetReverse : goal.drop_sorted-requires-in-TreeSetReverse
drop_sorted-requires-in-TreeSetReverse g c = record {
  ask = window_in c.args.self.now (types.TreeSetReverse c.in-TreeSetReverse.rows) c.args.lane.now.first c.in-TreeSetReverse.is c.requires.serves.keys;
  reach = keys_along (λ k v. One k) (λ k v. refl) c.args.self.now (types.TreeSetReverse c.in-TreeSetReverse.rows) c.in-TreeSetReverse.is (λ k v. refl) (g.T.RowTest.passes c.args.test.now) c.args.lane.now c.requires.reach;
}

pub drop_sorted-requires-in-TreeSetLength : goal.drop_sorted-requires-in-TreeSetLength
drop_sorted-requires-in-TreeSetLength g c = record {
  ask = window_in c.args.self.now (types.TreeSetLength c.in-TreeSetLength.rows) c.args.lane.now.first c.in-TreeSetLength.is c.requires.serves.keys;
  reach = keys_along (λ k v. One k) (λ k v. refl) c.args.self.now (types.TreeSetLength c.in-TreeSetLength.rows) c.in-TreeSetLength.is (λ k v. refl) (g.T.RowTest.passes c.args.test.now) c.args.lane.now c.requires.reach;
}

pub drop_sorted-requires-in-TreeMap : goal.drop_sorted-requires-in-TreeMap
drop_sorted-requires-in-TreeMap g c = record {
  ask = window_in c.args.self.now (types.TreeMap c.in-TreeMap.rows) c.args.lane.now.first c.in-TreeMap.is c.requires.serves.keys;
  reach = keys_along Entry (λ k v. refl) c.args.self.now (types.TreeMap c.in-TreeMap.rows) c.in-TreeMap.is (λ k v. refl) (g.T.RowTest.passes c.args.test.now) c.args.lane.now c.requires.reach;
}

pub drop_sorted-requires-in-TreeMapReverse : goal.drop_sorted-requires-in-TreeMapReverse
drop_sorted-requires-in-TreeMapReverse g c = record {
  ask = window_in c.args.self.now (types.TreeMapReverse c.in-TreeMapReverse.rows) c.args.lane.now.first c.in-TreeMapReverse.is c.requires.serves.keys;
  reach = keys_along Entry (λ k v. refl) c.args.self.now (types.TreeMapReverse c.in-TreeMapReverse.rows) c.in-TreeMapReverse.is (λ k v. refl) (g.T.RowTest.passes c.args.test.now) c.args.lane.now c.requires.reach;
}

pub drop_sorted-requires-in-TreeMapLength : goal.drop_sorted-requires-in-TreeMapLength
drop_sorted-requires-in-TreeMapLength g c = record {
  ask = window_in c.args.self.now (types.TreeMapLength c.in-TreeMapLength.rows) c.args.lane.now.first c.in-TreeMapLength.is c.requires.serves.keys;
  reach = keys_along Entry (λ k v. refl) c.args.self.now (types.TreeMapLength c.in-TreeMapLength.rows) c.in-TreeMapLength.is (λ k v. refl) (g.T.RowTest.passes c.args.test.now) c.args.lane.now c.requires.reach;
}
