use Rattle.std.proofs.Common.{refl}
use Rattle.std.specs.Prelude.{is_some}
use Rattle.elem.specs.Keyed.{value_at}
use Rattle.base_rows.specs.declared.base_rows.BaseRows.TheVariants as types
use Rattle.vocabulary.specs.declared.items.Item.TheVariants.{One, Entry}
use Rattle.base_rows.proofs.ReachLemmas.{keys_at}
use Rattle.base_rows.proofs.base_rows.BaseRows.drop_at.Goals as goal

pub drop_keys-requires : goal.drop_keys-requires
drop_keys-requires g c = keys_at (λ k v. One k) (λ k v. refl) c.args.self.now (types.LinkedHashSet c.in-LinkedHashSet.rows) c.in-LinkedHashSet.is (λ k v. refl) (g.T.RowTest.passes c.args.test.now) (λ k. is_some (value_at c.args.keys.now k)) c.requires

pub drop_keys-requires-in-TreeSet : goal.drop_keys-requires-in-TreeSet
drop_keys-requires-in-TreeSet g c = keys_at (λ k v. One k) (λ k v. refl) c.args.self.now (types.TreeSet c.in-TreeSet.rows) c.in-TreeSet.is (λ k v. refl) (g.T.RowTest.passes c.args.test.now) (λ k. is_some (value_at c.args.keys.now k)) c.requires

pub drop_keys-requires-in-TreeSetReverse : goal.drop_keys-requires-in-TreeSetReverse
drop_keys-requires-in-TreeSetReverse g c = keys_at (λ k v. One k) (λ k v. refl) c.args.self.now (types.TreeSetReverse c.in-TreeSetReverse.rows) c.in-TreeSetReverse.is (λ k v. refl) (g.T.RowTest.passes c.args.test.now) (λ k. is_some (value_at c.args.keys.now k)) c.requires

pub drop_keys-requires-in-TreeSetLength : goal.drop_keys-requires-in-TreeSetLength
drop_keys-requires-in-TreeSetLength g c = keys_at (λ k v. One k) (λ k v. refl) c.args.self.now (types.TreeSetLength c.in-TreeSetLength.rows) c.in-TreeSetLength.is (λ k v. refl) (g.T.RowTest.passes c.args.test.now) (λ k. is_some (value_at c.args.keys.now k)) c.requires

pub drop_keys-requires-in-LinkedHashMap : goal.drop_keys-requires-in-LinkedHashMap
drop_keys-requires-in-LinkedHashMap g c = keys_at Entry (λ k v. refl) c.args.self.now (types.LinkedHashMap c.in-LinkedHashMap.rows) c.in-LinkedHashMap.is (λ k v. refl) (g.T.RowTest.passes c.args.test.now) (λ k. is_some (value_at c.args.keys.now k)) c.requires

pub drop_keys-requires-in-TreeMap : goal.drop_keys-requires-in-TreeMap
drop_keys-requires-in-TreeMap g c = keys_at Entry (λ k v. refl) c.args.self.now (types.TreeMap c.in-TreeMap.rows) c.in-TreeMap.is (λ k v. refl) (g.T.RowTest.passes c.args.test.now) (λ k. is_some (value_at c.args.keys.now k)) c.requires

pub drop_keys-requires-in-TreeMapReverse : goal.drop_keys-requires-in-TreeMapReverse
drop_keys-requires-in-TreeMapReverse g c = keys_at Entry (λ k v. refl) c.args.self.now (types.TreeMapReverse c.in-TreeMapReverse.rows) c.in-TreeMapReverse.is (λ k v. refl) (g.T.RowTest.passes c.args.test.now) (λ k. is_some (value_at c.args.keys.now k)) c.requires

pub drop_keys-requires-in-TreeMapLength : goal.drop_keys-requires-in-TreeMapLength
drop_keys-requires-in-TreeMapLength g c = keys_at Entry (λ k v. refl) c.args.self.now (types.TreeMapLength c.in-TreeMapLength.rows) c.in-TreeMapLength.is (λ k v. refl) (g.T.RowTest.passes c.args.test.now) (λ k. is_some (value_at c.args.keys.now k)) c.requires
