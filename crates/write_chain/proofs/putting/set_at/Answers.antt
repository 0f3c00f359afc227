use Rattle.std.proofs.Common.{◌≡◌, true, false, sym, subst}
use Rattle.base_store.specs.Stored.{view_in}
use Rattle.machine.specs.Memory.{adds_rows}
use Rattle.write_chain.specs.Calls.{Came}
use Rattle.write_chain.proofs.AddLemmas.{more_wanted}
use Rattle.write_chain.proofs.IndexCalls.{set_at_given, set_at_within}
use Rattle.write_chain.proofs.KnownCalls.{stands}
use Rattle.write_chain.proofs.ShapeLemmas.{list_fits, list_no_bimap, list_under}
use Rattle.write_chain.proofs.putting.set_at.Goals as goal

pub item_index-requires-clause-index : goal.item_index-requires-clause-index
item_index-requires-clause-index g c =
    let s = c.args.store.now in
    let v = view_in s c.args.n in
    set_at_within s.world v c.base_of.result c.len-rows.result c.args.i c.in-Some.at c.in-Some-item_at.before (record { base = c.base_of.ensures.base; rows_are = c.len-rows.ensures.len; index = c.in-Some.is }) (stands s.world v c.base_of.result c.base_of.ensures.base c.base_of.ensures.known c.base_of.ensures.kind c.base_of.ensures.made) c.in-Some-item_at.ensures

pub add_one-requires-clause-fits : goal.add_one-requires-clause-fits
add_one-requires-clause-fits g c = list_fits c.args.store.now.world (view_in c.args.store.now c.args.n) c.args.x.now c.base_of.ensures.known c.requires.adds c.requires.list

pub add_one-requires-clause-spot : goal.add_one-requires-clause-spot
add_one-requires-clause-spot g c =
    let s = c.args.store.now in
    let v = view_in s c.args.n in
    (list_under s.world v c.base_of.ensures.known c.requires.adds c.requires.list, rw (← c.base_of.ensures.base, ← c.len-rows.ensures.len) c.item_index.ensures.within)

pub returns-clause-came : goal.returns-clause-came
returns-clause-came g c =
    let s = c.args.store.now in
    let v = view_in s c.args.n in
    subst (Came c.add_one.result s c.add_one.new.store)
    (sym (set_at_given s.world v c.base_of.result c.len-rows.result c.args.i c.in-Some.at c.item_index.result c.args.x.now c.in-Some-item_at.before c.key_of.result
    (record { base = c.base_of.ensures.base; rows_are = c.len-rows.ensures.len; index = c.in-Some.is }) (stands s.world v c.base_of.result c.base_of.ensures.base c.base_of.ensures.known c.base_of.ensures.kind c.base_of.ensures.made) c.requires.adds c.requires.list c.in-Some-item_at.ensures c.item_index.ensures.index c.key_of.ensures))
    c.add_one.ensures.came

pub returns-clause-memory : goal.returns-clause-memory
returns-clause-memory g c = λ e.
    let s = c.args.store.now in
    let v = view_in s c.args.n in
    more_wanted _ false (subst (λ outcome. adds_rows s.world outcome ≡ true)
    (sym (set_at_given s.world v c.base_of.result c.len-rows.result c.args.i c.in-Some.at c.item_index.result c.args.x.now c.in-Some-item_at.before c.key_of.result
    (record { base = c.base_of.ensures.base; rows_are = c.len-rows.ensures.len; index = c.in-Some.is }) (stands s.world v c.base_of.result c.base_of.ensures.base c.base_of.ensures.known c.base_of.ensures.kind c.base_of.ensures.made) c.requires.adds c.requires.list c.in-Some-item_at.ensures c.item_index.ensures.index c.key_of.ensures))
    (c.add_one.ensures.memory e (list_no_bimap s.world v c.base_of.ensures.known c.requires.adds c.requires.list)))
