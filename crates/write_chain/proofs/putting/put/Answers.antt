use Rattle.std.proofs.Common.{◌≡◌, ◌∙◌, true, sym, subst}
use Rattle.base_store.specs.Stored.{view_in}
use Rattle.machine.specs.Memory.{adds_rows}
use Rattle.machine.specs.Views.{shape_at}
use Rattle.vocabulary.specs.Shapes.{is_bimap}
use Rattle.write_chain.specs.Calls.{Came, answered_known}
use Rattle.vocabulary.specs.declared.calls.Call.TheVariants.{Pair}
use Rattle.vocabulary.specs.declared.calls.OnPair.TheVariants.{Put}
use Rattle.write_chain.proofs.AddLemmas.{wanted_unless}
use Rattle.write_chain.proofs.KnownCalls.{Stands, put_given, stands}
use Rattle.write_chain.proofs.ShapeLemmas.{base_alike, entry_fits, own_within}
use Rattle.write_chain.proofs.putting.put.Goals as goal

pub add_one-requires-clause-fits : goal.add_one-requires-clause-fits
add_one-requires-clause-fits g c =
    let s = c.args.store.now in
    let v = view_in s c.args.n in
    let it : Stands s.world v = (stands s.world v c.base_of-base.result c.base_of-base.ensures.base c.base_of-base.ensures.known c.base_of-base.ensures.kind c.base_of-base.ensures.made) in
    entry_fits s.world v c.args.k.now c.args.w.now it.known it.kind c.requires.adds c.requires.map

pub add_one-requires-clause-spot : goal.add_one-requires-clause-spot
add_one-requires-clause-spot g c =
    let s = c.args.store.now in
    let v = view_in s c.args.n in
    let it : Stands s.world v = (stands s.world v c.base_of-base.result c.base_of-base.ensures.base c.base_of-base.ensures.known c.base_of-base.ensures.kind c.base_of-base.ensures.made) in
    own_within s.world v _ c.own_spot-spot.result it.known it.kind it.made c.own_spot-spot.ensures

pub returns-clause-came : goal.returns-clause-came
returns-clause-came g c =
    let s = c.args.store.now in
    let v = view_in s c.args.n in
    subst (Came c.add_one.result s c.add_one.new.store) (sym (put_given s.world v c.args.k.now c.args.w.now c.own_spot-spot.result c.map_get-before.result c.requires.adds c.own_spot-spot.ensures c.map_get-before.ensures.value)) c.add_one.ensures.came

pub returns-clause-memory : goal.returns-clause-memory
returns-clause-memory g c = λ e.
    let s = c.args.store.now in
    let v = view_in s c.args.n in
    let it : Stands s.world v = (stands s.world v c.base_of-base.result c.base_of-base.ensures.base c.base_of-base.ensures.known c.base_of-base.ensures.kind c.base_of-base.ensures.made) in
    wanted_unless (adds_rows s.world (answered_known s.world v (Pair Put c.args.k.now c.args.w.now))) (is_bimap (shape_at s.world v))
    (λ other. subst (λ outcome. adds_rows s.world outcome ≡ true) (sym (put_given s.world v c.args.k.now c.args.w.now c.own_spot-spot.result c.map_get-before.result c.requires.adds c.own_spot-spot.ensures c.map_get-before.ensures.value))
    (c.add_one.ensures.memory e (base_alike s.world v it.known c.requires.adds ∙ other)))
