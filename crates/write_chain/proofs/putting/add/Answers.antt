use Rattle.std.proofs.Common.{◌≡◌, true, false, sym, subst}
use Rattle.base_store.specs.Stored.{view_in}
use Rattle.machine.specs.Memory.{adds_rows}
use Rattle.write_chain.specs.Calls.{Came}
use Rattle.write_chain.proofs.AddLemmas.{more_wanted}
use Rattle.write_chain.proofs.KnownCalls.{add_given, stands}
use Rattle.write_chain.proofs.ShapeLemmas.{element_fits, elements_base}
use Rattle.write_chain.proofs.putting.add.Goals as goal

pub add_one-requires-clause-fits : goal.add_one-requires-clause-fits
add_one-requires-clause-fits g c = element_fits c.args.store.now.world (view_in c.args.store.now c.args.n) c.args.x.now c.base_of-base.ensures.known c.requires.adds c.requires.elements

pub returns-clause-came : goal.returns-clause-came
returns-clause-came g c =
    let s = c.args.store.now in
    let v = view_in s c.args.n in
    subst (Came c.add_one.result s c.add_one.new.store)
    (sym (add_given s.world v c.args.x.now c.end_spot-spot.result c.is_new-new.result (stands s.world v c.base_of-base.result c.base_of-base.ensures.base c.base_of-base.ensures.known c.base_of-base.ensures.kind c.base_of-base.ensures.made) c.requires.adds c.requires.elements c.end_spot-spot.ensures.spot c.is_new-new.ensures.new))
    c.add_one.ensures.came

pub returns-clause-memory : goal.returns-clause-memory
returns-clause-memory g c = λ e.
    let s = c.args.store.now in
    let v = view_in s c.args.n in
    more_wanted _ false (subst (λ outcome. adds_rows s.world outcome ≡ true)
    (sym (add_given s.world v c.args.x.now c.end_spot-spot.result c.is_new-new.result (stands s.world v c.base_of-base.result c.base_of-base.ensures.base c.base_of-base.ensures.known c.base_of-base.ensures.kind c.base_of-base.ensures.made) c.requires.adds c.requires.elements c.end_spot-spot.ensures.spot c.is_new-new.ensures.new))
    (c.add_one.ensures.memory e (elements_base s.world v c.base_of-base.ensures.known c.requires.adds c.requires.elements)))
