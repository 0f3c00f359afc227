use Rattle.base_rows.specs.declared.base_rows.BaseRows.TheVariants as types
use Rattle.base_rows.proofs.ReachLemmas.{window_in}
use Rattle.base_rows.proofs.base_rows.BaseRows.next_keyed.Goals as goal

pub next_sorted-requires-clause-ask : goal.next_sorted-requires-clause-ask
next_sorted-requires-clause-ask g c = window_in c.args.self.now (types.TreeSet c.in-TreeSet.rows) c.args.ask.now c.in-TreeSet.is c.requires.serves

pub next_sorted-requires-in-TreeSetReverse-clause-ask : goal.next_sorted-requires-in-TreeSetReverse-clause-ask
next_sorted-requires-in-TreeSetReverse-clause-ask g c = window_in c.args.self.now (types.TreeSetReverse c.in-TreeSetReverse.rows) c.args.ask.now c.in-TreeSetReverse.is c.requires.serves

pub next_sorted-requires-in-TreeSetLength-clause-ask : goal.next_sorted-requires-in-TreeSetLength-clause-ask
next_sorted-requires-in-TreeSetLength-clause-ask g c = window_in c.args.self.now (types.TreeSetLength c.in-TreeSetLength.rows) c.args.ask.now c.in-TreeSetLength.is c.requires.serves

pub next_sorted-requires-in-TreeMap-clause-ask : goal.next_sorted-requires-in-TreeMap-clause-ask
next_sorted-requires-in-TreeMap-clause-ask g c = window_in c.args.self.now (types.TreeMap c.in-TreeMap.rows) c.args.ask.now c.in-TreeMap.is c.requires.serves

pub next_sorted-requires-in-TreeMapReverse-clause-ask : goal.next_sorted-requires-in-TreeMapReverse-clause-ask
next_sorted-requires-in-TreeMapReverse-clause-ask g c = window_in c.args.self.now (types.TreeMapReverse c.in-TreeMapReverse.rows) c.args.ask.now c.in-TreeMapReverse.is c.requires.serves

pub next_sorted-requires-in-TreeMapLength-clause-ask : goal.next_sorted-requires-in-TreeMapLength-clause-ask
next_sorted-requires-in-TreeMapLength-clause-ask g c = window_in c.args.self.now (types.TreeMapLength c.in-TreeMapLength.rows) c.args.ask.now c.in-TreeMapLength.is c.requires.serves
